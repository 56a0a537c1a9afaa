use Rattle.std.proofs.Common.{rules}
use Rattle.audit_commands.proofs.Checking.{ends_written}
use Rattle.audit_commands.proofs.check.check.Goals as goal

pub returns : goal.returns
returns g c =
    ends_written c.args.file.now c.args.cert.now (g.S.Shelf.shown c.args.shelf.now) (g.S.Shelf.shown c.found_in.new.shelf) (g.O.Sink.shown c.args.out.now) c.found_in.ensures.keeps c.requires
    c.in_ok-found.found (g.O.Sink.shown c.print.new.out) c.status_of.result c.in_ok-found.ensures.ok (search rules) c.status_of.ensures
