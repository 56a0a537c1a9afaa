use Rattle.std.proofs.Common.{◌≡◌, Some, sym, subst, rules}
use Rattle.std.specs.Prelude.{IfSome}
use Rattle.audit_words.specs.Benches.{bench_of}
use Rattle.audit_commands.specs.Ends.{outside}
use Rattle.bench_commands.specs.Status.{number}
use Rattle.bench_commands.specs.Ends.{EndsBench}
use Rattle.bench_commands.proofs.Ending.{bench_ends}
use Rattle.bench_commands.proofs.Without.{offline_without_memory, bench_without_memory}
use Rattle.bench_commands.proofs.run.Goals as goal

pub returns-in-Ok-Some-clause-bench : goal.returns-in-Ok-Some-clause-bench
returns-in-Ok-Some-clause-bench g c =
    let named : bench_of c.args.words.now ≡ Some c.in-Ok-Some.bench = search rules in
    let is : c.number.result ≡ number c.answer.result = search rules in
    subst (λ asked. IfSome asked (λ b. EndsBench b (outside (g.S.Shelf.shown c.args.shelf.now) (g.O.Sink.shown c.args.out.now) (g.E.Sink.shown c.args.err.now))
    (outside (g.S.Shelf.shown c.perform-performed.new.shelf) (g.O.Sink.shown c.perform-performed.new.out) (g.E.Sink.shown c.answer.new.err)) c.args.crew.now
    c.perform-performed.new.crew c.number.result)) (sym named) (rw is (bench_ends c.in-Ok-Some.bench (g.S.Shelf.shown c.args.shelf.now) (g.S.Shelf.shown c.perform-performed.new.shelf) c.requires.writing
    (g.O.Sink.shown c.args.out.now) (g.O.Sink.shown c.perform-performed.new.out) (g.E.Sink.shown c.args.err.now) (g.E.Sink.shown c.answer.new.err)
    c.args.crew.now c.perform-performed.new.crew c.perform-performed.result c.answer.result c.perform-performed.ensures.performs c.answer.ensures))

pub returns-in-Err-clause-bench : goal.returns-in-Err-clause-bench
returns-in-Err-clause-bench g c =
    let said = c.refuse_for_memory.ensures in
    rw said.status (bench_without_memory (g.S.Shelf.shown c.args.shelf.now) c.requires.writing (g.O.Sink.shown c.args.out.now) (g.E.Sink.shown c.args.err.now)
    (g.E.Sink.shown c.refuse_for_memory.new.err) said.says c.args.crew.now (bench_of c.args.words.now))

pub returns-in-Err-clause-offline : goal.returns-in-Err-clause-offline
returns-in-Err-clause-offline g c = λ none.
    let said = c.refuse_for_memory.ensures in
    rw said.status (offline_without_memory (g.S.Shelf.shown c.args.shelf.now) c.requires.writing (g.O.Sink.shown c.args.out.now) (g.E.Sink.shown c.args.err.now)
    (g.E.Sink.shown c.refuse_for_memory.new.err) said.says c.args.words.now)
