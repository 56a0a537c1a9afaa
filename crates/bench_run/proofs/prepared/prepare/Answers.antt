-- A run with all that was made for it is ready.
use Rattle.std.proofs.Common.{sym, subst, rules}
use Rattle.stale_model.specs.declared.store.Plan.{Plan}
use Rattle.quorum_client.specs.Plans.{IsWhole}
use Rattle.key_recorder.specs.Prepared.{IsPrepared}
use Rattle.bench_run.proofs.prepared.prepare.Goals as goal

pub invariant_of-result : goal.invariant_of-result
invariant_of-result g c =
    let s = c.args.settings.now in
    let made = c.in_ok-clock in
    record {
      limits = c.requires;
      whole = subst (λ (v : Plan). IsWhole s v) (sym made.ensures.plan) c.in_ok-plan.ensures.whole;
      clock = made.ensures.clock;
      boxes = made.ensures.boxes;
      replicas = made.ensures.replicas;
      clients = made.ensures.clients;
      recorder = subst (λ (v : Plan). IsPrepared s v c.in_ok-recorder.recorder c.in_ok-recorder.passes.items c.in_ok-recorder.logs.items) (sym made.ensures.plan)
          c.in_ok-recorder.ensures;
      none = search rules;
      room = search rules;
    }
