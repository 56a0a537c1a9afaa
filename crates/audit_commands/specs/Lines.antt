-- The lines of a check and of a trace, and the line that is written to the error output after a refusal.
use Rattle.std.specs.Prelude.{ℕ, List, ◌++◌, Option, Some, None, codes}
use Rattle.std.specs.Fmt.{decimal}
use Rattle.history_csv.specs.declared.HistoryFault.{HistoryFault}
use Rattle.history_csv.specs.declared.HistoryFault.TheVariants as fault
use Rattle.history_csv.specs.Header.{column_name}
use Rattle.cert_text.specs.declared.CertFault.{CertFault}
use Rattle.cert_text.specs.declared.CertFault.TheVariants as cert_fault
use Rattle.cert_checker.specs.declared.Checked.{Checked}
use Rattle.cert_checker.specs.declared.Checked.TheVariants as checked
use Rattle.trace_check.specs.declared.judging.Part.{Part}
use Rattle.trace_check.specs.declared.judging.Part.TheVariants as part
use Rattle.trace_check.specs.declared.reading.TraceFault.{TraceFault}
use Rattle.trace_check.specs.declared.reading.TraceFault.TheVariants as trace_fault
use Rattle.staleness_report.specs.Escaped.{escaped}

-- the line of a check: `good`, or the first key that isn't, its first broken rule, and the record that is named
abbrev pub check_line : Checked → List ℕ
check_line checked.Good = codes "good\n"
check_line (checked.Bad key rule rec) =
    codes "bad key " ++ decimal key ++ codes " rule " ++ decimal rule ++ codes " record " ++ decimal rec ++ codes "\n"

-- the line of a trace: `good`, or the first part of a recorded run that fails
abbrev pub part_line : Part → List ℕ
part_line part.Good = codes "good\n"
part_line (part.Bad number) = codes "bad trace part " ++ decimal number ++ codes "\n"

-- the line on a record at fault
abbrev pub record_line : ℕ → List ℕ → List ℕ
record_line rec word = codes "history record " ++ decimal rec ++ codes ": " ++ word ++ codes "\n"

-- the line on a fault of a history; want of memory is none, and has no line
abbrev pub fault_line : HistoryFault → Option (List ℕ)
fault_line fault.NoHeader = Some (codes "history: no header\n")
fault_line (fault.Column name) = Some (codes "history: column " ++ column_name name ++ codes "\n")
fault_line (fault.Fields rec) = Some (record_line rec (codes "fields"))
fault_line (fault.Op rec) = Some (record_line rec (codes "op"))
fault_line (fault.Client rec) = Some (record_line rec (codes "client"))
fault_line (fault.Key rec) = Some (record_line rec (codes "key"))
fault_line (fault.Value rec) = Some (record_line rec (codes "value"))
fault_line (fault.Time rec) = Some (record_line rec (codes "time"))
fault_line (fault.Backwards rec) = Some (record_line rec (codes "backwards"))
fault_line (fault.Slack rec) = Some (record_line rec (codes "slack"))
fault_line fault.Records = Some (codes "history: more than 1000000 records\n")
fault_line fault.Memory = None

-- the line on a line of a certificate at fault
abbrev pub cert_line : ℕ → List ℕ → List ℕ
cert_line number word = codes "certificate line " ++ decimal number ++ codes ": " ++ word ++ codes "\n"

-- the line on a fault of a certificate; want of memory is none, and has no line
abbrev pub cert_fault_line : CertFault → Option (List ℕ)
cert_fault_line (cert_fault.Line number) = Some (cert_line number (codes "line"))
cert_fault_line (cert_fault.Number number) = Some (cert_line number (codes "number"))
cert_fault_line (cert_fault.Key number) = Some (cert_line number (codes "key"))
cert_fault_line (cert_fault.Absent key) = Some (codes "certificate: key " ++ decimal key ++ codes " absent\n")
cert_fault_line cert_fault.Memory = None

-- the line on a line at fault of the file of this kind
abbrev pub trace_line : List ℕ → ℕ → List ℕ
trace_line kind number = codes "trace " ++ kind ++ codes " line " ++ decimal number ++ codes "\n"

-- the line on a fault of the two files of a run; want of memory is none, and has no line
abbrev pub trace_fault_line : TraceFault → Option (List ℕ)
trace_fault_line (trace_fault.History number) = Some (trace_line (codes "history") number)
trace_fault_line (trace_fault.Journal number) = Some (trace_line (codes "journal") number)
trace_fault_line trace_fault.Memory = None

-- the line on words that are refused
abbrev pub words_line : List ℕ
words_line = codes "words refused\n"

-- the line on an input file that isn't there
abbrev pub missing_line : List ℕ → List ℕ
missing_line name = codes "missing: " ++ escaped name ++ codes "\n"

-- the line on an input file that is longer than its limit
abbrev pub too_long_line : List ℕ → List ℕ
too_long_line name = codes "too long: " ++ escaped name ++ codes "\n"

-- the line on a failed read
abbrev pub read_failed_line : List ℕ
read_failed_line = codes "read failed\n"
