use Rattle.std.proofs.Common.{◌≡◌, Err, refl, rules}
use Rattle.audit_words.specs.declared.Task.TheVariants.{Trace as TraceTask}
use Rattle.audit_commands.proofs.Refusing.{first_shows, journal_shows}
use Rattle.audit_commands.proofs.trace.trace_in.Goals as goal

pub returns-in_err-calls-clause-err : goal.returns-in_err-calls-clause-err
returns-in_err-calls-clause-err g c =
    let is : c.from_residual.result ≡ Err c.in_err-calls.field-0.0 = search rules in
    let name : c.as_slice.result.now ≡ c.args.history.now = search rules in
    rw is (first_shows (TraceTask c.args.history.now c.args.journal.now c.args.settings.now) c.args.history.now refl
    (g.S.Shelf.shown c.args.shelf.now) (g.S.Shelf.shown c.take_input.new.shelf) c.in_err-calls.field-0.0 (rw name at c.in_err-calls.ensures.err))

pub returns-in_err-lines-clause-err : goal.returns-in_err-lines-clause-err
returns-in_err-lines-clause-err g c =
    let is : c.from_residual-in_err-lines.result ≡ Err c.in_err-lines.field-0.0 = search rules in
    let name : c.as_slice.result.now ≡ c.args.history.now = search rules in
    let journal : c.as_slice-2.result.now ≡ c.args.journal.now = search rules in
    rw is (journal_shows c.args.history.now c.args.journal.now c.args.settings.now (g.S.Shelf.shown c.args.shelf.now) (g.S.Shelf.shown c.take_input.new.shelf)
    (g.S.Shelf.shown c.take_input-2.new.shelf) c.in_ok-calls.calls.items c.in_err-lines.field-0.0 (rw name at c.in_ok-calls.ensures.ok)
    (rw journal at c.in_err-lines.ensures.err))
