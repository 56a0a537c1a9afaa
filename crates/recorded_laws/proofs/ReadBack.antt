-- The recorded history of a run is read back, and no key of it has a fault.
use Rattle.std.proofs.Common.{IfOk}
use Rattle.std.specs.Prelude.{All}
use Rattle.stale_model.specs.Operations.{operations}
use Rattle.stale_model.specs.Faults.{IsClearKey}
use Rattle.stale_model.specs.Texts.{recorded_text}
use Rattle.history_csv.specs.Reading.{read_of}
use Rattle.history_csv.proofs.ReadsBack.{recorded_reads_back}
use Rattle.recorded_laws.specs.Laws.{RunsReadBack, RunsHaveNoFaults}
use Rattle.recorded_laws.proofs.Readable.{runs_are_readable}
use Rattle.recorded_laws.proofs.Matched.{run_matched}
use Rattle.recorded_laws.proofs.Clear.{keys_are_clear}

pub runs_read_back : RunsReadBack
runs_read_back s plan entries journals limits whole run ticks =
    let readable = runs_are_readable s plan entries journals limits whole run ticks in
    recorded_reads_back entries readable.few readable.lines

pub runs_have_no_faults : RunsHaveNoFaults
runs_have_no_faults s plan entries journals limits whole run ticks h reads =
    let readable = runs_are_readable s plan entries journals limits whole run ticks in
    let back = runs_read_back s plan entries journals limits whole run ticks in
    let shown : IfOk (read_of (recorded_text entries)) (λ k. All (λ key. IsClearKey (operations key)) k.keys) =
    rw back (keys_are_clear entries (run_matched s plan entries journals limits whole run readable.lines)) in
    rw reads at shown
