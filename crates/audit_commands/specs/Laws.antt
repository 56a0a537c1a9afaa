-- What an audit writes passes a check: over a history and the certificate of its audit, a check asks for done.
use Rattle.std.specs.Prelude.{◌≡◌, ℕ, ◌≤◌, List, length, Some, Ok}
use Rattle.stale_model.specs.declared.History.{History}
use Rattle.stale_model.specs.declared.Verdict.{Verdict}
use Rattle.history_csv.specs.Reading as history
use Rattle.cert_text.specs.Certificates.{cert_text}
use Rattle.audit_ports.specs.Shelf.{Files, file_at}
use Rattle.audit_words.specs.declared.Task.{Task}
use Rattle.audit_words.specs.declared.Task.TheVariants.{Check}
use Rattle.audit_commands.specs.declared.status.Status.{Status}
use Rattle.audit_commands.specs.declared.status.Status.TheVariants as status
use Rattle.audit_commands.specs.Audit.{AreVerdicts, history_limit, cert_limit}
use Rattle.audit_commands.specs.Complete.{Asks}

-- over these files the task asks for this status, and for no other
pub record AsksOnlyFor (files : Files) (task : Task) (answer : Status) : Type 0 where
  pub asks : Asks files task answer
  pub no_other : (asked : Status) → Asks files task asked → asked ≡ answer

-- where a file is a history, and another the certificate of verdicts that an audit gives of it, and neither is longer than its limit, a check of
-- the two asks for done
abbrev pub WrittenCertificatesAreGood : Type 0
WrittenCertificatesAreGood =
    (files : Files) (file cert bytes : List ℕ) (h : History) (verdicts : List Verdict)
    → file_at files file ≡ Some bytes → length bytes ≤ history_limit → history.read_of bytes ≡ Ok h
    → AreVerdicts h verdicts
    → file_at files cert ≡ Some (cert_text verdicts) → length (cert_text verdicts) ≤ cert_limit
    → AsksOnlyFor files (Check file cert) status.Done
