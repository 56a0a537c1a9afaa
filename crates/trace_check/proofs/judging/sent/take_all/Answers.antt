use Rattle.std.proofs.Common.{◌<◌, length, slice_index_or, arith}
use Rattle.std.proofs.lemmas.List.{get_or_default}
use Rattle.stale_model.specs.declared.store.JournalEntry.{JournalEntry}
use Rattle.trace_check.proofs.Serving.{no_entry}
use Rattle.trace_check.proofs.Sending.{first_more, first_fails}
use Rattle.trace_check.proofs.judging.sent.take_all.Goals as goal

pub loop-line-preserved : goal.loop-line-preserved
loop-line-preserved c =
    let js = c.args.journal.now in
    let n = c.loop-line.line-index in
    let less : n < length js = omega arith in
    let j : JournalEntry = slice_index_or js n no_entry in
    first_more js n j less (get_or_default js n j no_entry less) c.args.replica c.args.calls.now c.args.due.now c.loop-line.due c.loop-line.invariant c.take_next.new.due c.if-not-take_next.ensures

pub returns-then-not-take_next : goal.returns-then-not-take_next
returns-then-not-take_next c =
    let js = c.args.journal.now in
    let n = c.loop-line.line-index in
    let less : n < length js = omega arith in
    let j : JournalEntry = slice_index_or js n no_entry in
    first_fails js n j less (get_or_default js n j no_entry less) c.args.replica c.args.calls.now c.args.due.now c.loop-line.due c.loop-line.invariant
    c.take_next.new.due c.take_next.new.due (c.requires.clients n no_entry less) c.if-not-take_next.ensures
