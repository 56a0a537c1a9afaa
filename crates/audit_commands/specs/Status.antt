-- The statuses of a call, and the number of each.
use Rattle.std.specs.Prelude.{ℕ}
use Rattle.audit_commands.specs.declared.status.Status.{Status}
use Rattle.audit_commands.specs.declared.status.Status.TheVariants as status

-- the number of a status
abbrev pub number : Status → ℕ
number status.Done = 0
number status.NotShown = 1
number status.WordsRefused = 2
number status.HistoryRefused = 3
number status.CertRefused = 4
number status.Missing = 5
number status.ReadFailed = 6
number status.WriteFailed = 7
number status.TooLong = 8
number status.OutOfMemory = 10
number status.TraceRefused = 11
