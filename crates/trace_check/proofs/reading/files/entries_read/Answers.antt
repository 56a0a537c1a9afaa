use Rattle.std.proofs.Common.{◌≡◌, inr, rules}
use Rattle.stale_model.specs.Texts.{journal_header}
use Rattle.trace_check.specs.declared.reading.TraceFault.TheVariants as fault
use Rattle.trace_check.specs.Reading.{read_entry, entries_read}
use Rattle.trace_check.proofs.LineSteps.{after_header, no_header}
use Rattle.trace_check.proofs.reading.files.entries_read.Goals as goal

pub returns-in-Some : goal.returns-in-Some
unfolding entries_read
returns-in-Some c =
    let header : c.as_slice.result.now ≡ journal_header = search rules in
    let parts = rw header at c.in-Some.ensures.cases in
    after_header fault.Journal (read_entry c.args.settings.now) journal_header c.args.journal.now c.in-Some.text.now c.entries_after.result parts.0 parts.1 c.entries_after.ensures

pub returns-in-None : goal.returns-in-None
unfolding entries_read
returns-in-None c =
    let header : c.as_slice.result.now ≡ journal_header = search rules in
    inr (no_header fault.Journal (read_entry c.args.settings.now) journal_header c.args.journal.now (rw header at c.in-None.ensures.cases))
