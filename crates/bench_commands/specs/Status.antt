-- The statuses of a bench, and the number of each.
use Rattle.std.specs.Prelude.{ℕ}
use Rattle.bench_commands.specs.declared.status.BenchStatus.{BenchStatus}
use Rattle.bench_commands.specs.declared.status.BenchStatus.TheVariants as status

-- the number of a status
abbrev pub number : BenchStatus → ℕ
number status.Done = 0
number status.WriteFailed = 7
number status.NotStarted = 9
number status.OutOfMemory = 10
