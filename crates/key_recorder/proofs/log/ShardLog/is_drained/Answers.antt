-- The marks tell whether all clients ended.
use Rattle.std.proofs.Common.{subst, sym}
use Rattle.key_recorder.specs.Letters.{AreEnded}
use Rattle.key_recorder.specs.Recorders.{LogView}
use Rattle.key_recorder.proofs.Taking.{marked_ended, ended_marked}
use Rattle.key_recorder.proofs.log.ShardLog.is_drained.Goals as goal

pub returns : goal.returns
returns c = (
  λ yes. subst (λ (r : LogView). AreEnded r.clients r.taken) c.self.view_is
      (marked_ended c.self.inside c.self.invariant c.deref.result.now c.deref.ensures.value (c.are_all.ensures.0 yes)),
  λ are. c.are_all.ensures.1
      (ended_marked c.self.inside c.self.invariant c.deref.result.now c.deref.ensures.value
      (subst (λ (r : LogView). AreEnded r.clients r.taken) (sym c.self.view_is) are)),
)
