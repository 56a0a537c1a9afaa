use Rattle.std.proofs.Common.{◌≡◌, inr, rules}
use Rattle.stale_model.specs.Texts.{recorded_header}
use Rattle.trace_check.specs.declared.reading.TraceFault.TheVariants as fault
use Rattle.trace_check.specs.Reading.{read_call, calls_read}
use Rattle.trace_check.proofs.LineSteps.{after_header, no_header}
use Rattle.trace_check.proofs.reading.files.calls_read.Goals as goal

pub returns-in-Some : goal.returns-in-Some
unfolding calls_read
returns-in-Some c =
    let header : c.as_slice.result.now ≡ recorded_header = search rules in
    let parts = rw header at c.in-Some.ensures.cases in
    after_header fault.History (read_call c.args.settings.now) recorded_header c.args.history.now c.in-Some.text.now c.calls_after.result parts.0 parts.1 c.calls_after.ensures

pub returns-in-None : goal.returns-in-None
unfolding calls_read
returns-in-None c =
    let header : c.as_slice.result.now ≡ recorded_header = search rules in
    inr (no_header fault.History (read_call c.args.settings.now) recorded_header c.args.history.now (rw header at c.in-None.ensures.cases))
