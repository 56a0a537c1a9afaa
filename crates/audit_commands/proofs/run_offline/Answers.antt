use Rattle.std.proofs.Common.{◌≡◌, Some, rules}
use Rattle.audit_words.specs.Tasks.{task_of}
use Rattle.audit_commands.specs.Status.{number}
use Rattle.audit_commands.proofs.Keeping.{keeps_outside}
use Rattle.audit_commands.proofs.Ending.{performed, refused}
use Rattle.audit_commands.proofs.Completing.{refused_complete, performed_complete}
use Rattle.audit_commands.proofs.run_offline.Goals as goal

pub returns-in-Ok-clause-ends : goal.returns-in-Ok-clause-ends
returns-in-Ok-clause-ends g c =
    let named : task_of c.args.words.now ≡ Some c.in-Ok-Some.task = search rules in
    record {
      status = c.in-Ok.status;
      number_is = search rules;
      ends = performed c.args.words.now c.in-Ok-Some.task named (g.S.Shelf.shown c.args.shelf.now) (g.S.Shelf.shown c.perform.new.shelf) (g.O.Sink.shown c.args.out.now) (g.O.Sink.shown c.perform.new.out)
          (g.E.Sink.shown c.args.err.now) (g.E.Sink.shown c.args.err.now) c.in-Ok.status c.in-Ok.ensures.done;
    }

pub returns-in-Ok-clause-complete : goal.returns-in-Ok-clause-complete
returns-in-Ok-clause-complete g c =
    let named : task_of c.args.words.now ≡ Some c.in-Ok-Some.task = search rules in
    let is : c.number-in-Ok.result ≡ number c.in-Ok.status = search rules in
    rw is (performed_complete c.args.words.now c.in-Ok-Some.task named (g.S.Shelf.shown c.args.shelf.now) (g.S.Shelf.shown c.perform.new.shelf) (g.O.Sink.shown c.args.out.now) (g.O.Sink.shown c.perform.new.out)
    (g.E.Sink.shown c.args.err.now) (g.E.Sink.shown c.args.err.now) c.in-Ok.status c.in-Ok.ensures.done)

pub returns-in-Err-clause-keeps : goal.returns-in-Err-clause-keeps
returns-in-Err-clause-keeps g c =
    keeps_outside c.args.words.now (g.S.Shelf.shown c.args.shelf.now) (g.O.Sink.shown c.args.out.now) (g.E.Sink.shown c.args.err.now) (g.E.Sink.shown c.end_without_memory.new.err)
    c.requires c.end_without_memory.ensures.says.keeps

pub returns-clause-ends : goal.returns-clause-ends
returns-clause-ends g c =
    let named : task_of c.args.words.now ≡ Some c.in-Ok-Some.task = search rules in
    record {
      status = c.refuse.result;
      number_is = search rules;
      ends = refused c.args.words.now c.in-Ok-Some.task named (g.S.Shelf.shown c.args.shelf.now) (g.S.Shelf.shown c.perform.new.shelf) (g.O.Sink.shown c.args.out.now) (g.O.Sink.shown c.perform.new.out)
          (g.E.Sink.shown c.args.err.now) (g.E.Sink.shown c.refuse.new.err) c.in-Err-perform.refusal c.refuse.result c.in-Err-perform.ensures.refused c.refuse.ensures;
    }

pub returns-clause-complete : goal.returns-clause-complete
returns-clause-complete g c =
    let named : task_of c.args.words.now ≡ Some c.in-Ok-Some.task = search rules in
    let is : c.number-in-Err-perform.result ≡ number c.refuse.result = search rules in
    rw is (refused_complete c.args.words.now c.in-Ok-Some.task named (g.S.Shelf.shown c.args.shelf.now) (g.S.Shelf.shown c.perform.new.shelf) (g.O.Sink.shown c.args.out.now) (g.O.Sink.shown c.perform.new.out)
    (g.E.Sink.shown c.args.err.now) (g.E.Sink.shown c.refuse.new.err) c.in-Err-perform.refusal c.refuse.result c.in-Err-perform.ensures.refused c.refuse.ensures)
