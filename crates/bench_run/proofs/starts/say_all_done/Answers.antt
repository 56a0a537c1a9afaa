-- The next client says that it is done.
use Rattle.std.proofs.Common.{rules, ℕ, List, All, subst}
use Rattle.quorum_client.specs.Routes.{IsReadyRoute}
use Rattle.bench_run.specs.declared.parts.ClientParts.{ClientParts}
use Rattle.bench_run.proofs.Told.{AreReady, ready_first, ready_left}
use Rattle.bench_run.proofs.starts.say_all_done.Goals as goal

pub say_done-requires : goal.say_done-requires
say_done-requires g c =
    let from = c.loop-parts.parts-iterator.b.start in
    let ready = subst (λ (cs : List ClientParts). AreReady from cs) c.in-Some.ensures.steps.0.0 c.loop-parts.invariant.ready in
    subst (λ (n : ℕ). All (IsReadyRoute n 1) c.in-Some.parts.routes.items) (search rules) (ready_first from c.in-Some.parts c.next.new.self.a.rest.items ready)

pub loop-parts-preserved : goal.loop-parts-preserved
loop-parts-preserved g c =
    let from = c.loop-parts.parts-iterator.b.start in
    let ready = subst (λ (cs : List ClientParts). AreReady from cs) c.in-Some.ensures.steps.0.0 c.loop-parts.invariant.ready in
    record {
      can_next = (tt, tt);
      is_finite = tt;
      ready = subst (λ (n : ℕ). AreReady n c.next.new.self.a.rest.items) (search rules) (ready_left from c.in-Some.parts c.next.new.self.a.rest.items ready);
    }
