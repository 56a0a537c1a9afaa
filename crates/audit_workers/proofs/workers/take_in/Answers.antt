use Rattle.audit_workers.proofs.Filling.{gathered_more}
use Rattle.audit_workers.proofs.workers.take_in.Goals as goal

pub returns-clause-gathered : goal.returns-clause-gathered
returns-clause-gathered c = λ calls gathered.
    rw c.join.ensures.seat (gathered_more c.args.history.now.keys c.args.clock.now calls _ c.args.seat c.args.claims _ _ c.requires.done (rw c.into_vec.ensures at c.put_all.ensures.filled) gathered)
