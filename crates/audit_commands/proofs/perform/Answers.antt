use Rattle.std.proofs.Common.{◌≡◌, rules}
use Rattle.audit_words.specs.declared.Task.TheVariants.{Gen, Trial}
use Rattle.audit_commands.proofs.perform.Goals as goal

pub returns-in-Gen : goal.returns-in-Gen
returns-in-Gen g c =
    let is : c.args.task.now ≡ Gen c.in-Gen.workload = search rules in
    rw is (c.generate.ensures (g.S.Shelf.shown c.args.shelf.now) c.requires.writing)

pub returns-in-Trial : goal.returns-in-Trial
returns-in-Trial g c =
    let is : c.args.task.now ≡ Trial c.in-Trial.workload c.in-Trial.workers = search rules in
    rw is (c.trial.ensures (g.S.Shelf.shown c.args.shelf.now) c.requires.writing)
