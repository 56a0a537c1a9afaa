use Rattle.std.proofs.Common.{rules}
use Rattle.audit_commands.proofs.Tracing.{ends_traced}
use Rattle.audit_commands.proofs.trace.trace.Goals as goal

pub returns : goal.returns
returns g c =
    ends_traced c.args.history.now c.args.journal.now c.args.settings.now (g.S.Shelf.shown c.args.shelf.now) (g.S.Shelf.shown c.found_in.new.shelf)
    (g.O.Sink.shown c.args.out.now) c.found_in.ensures.keeps c.requires.writing
    c.in_ok-found.found (g.O.Sink.shown c.print.new.out) c.status_of.result c.in_ok-found.ensures.ok (search rules) c.status_of.ensures
