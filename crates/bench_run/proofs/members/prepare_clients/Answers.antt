-- The parts of one client more.
use Rattle.std.proofs.Common.{◌≡◌, ◌∷◌, ◌++◌, [], List, length, true, ap, sym, ◌∙◌, rules, arith, append_assoc, append-nil}
use Rattle.std.specs.Prelude.{is_ok}
use Rattle.std.specs.Vec.Iter.{into_iter_items}
use Rattle.std.proofs.lemmas.List.{nil_from_length}
use Rattle.stale_model.specs.declared.store.PlanCall.{PlanCall}
use Rattle.bench_run.proofs.MoreMembers.{clients_none, clients_more, clients_done, clients_less, clients_room}
use Rattle.bench_run.proofs.members.prepare_clients.Goals as goal

pub loop-calls-init : goal.loop-calls-init
loop-calls-init g c = record {
  yielded = search rules;
  ends = search rules;
  so_far = clients_none c.args.settings.now c.args.clock.now c.args.seat.now c.args.boxes.now.items _ _ (search rules) (search rules) c.requires.boxes;
}

pub prepare-requires-clause-boxes : goal.prepare-requires-clause-boxes
prepare-requires-clause-boxes g c =
    let at = c.loop-calls in
    let s = c.args.settings.now in
    let x = c.in-Some.calls in
    let rest = into_iter_items c.next.new.self in
    let steps : into_iter_items at.calls-iterator ≡ x ∷ rest = c.in-Some.ensures.steps.0 in
    let is : at.yielded ++ x ∷ rest ≡ c.args.plan.clients = ap (λ (l : List (List PlanCall)). at.yielded ++ l) (sym steps) ∙ at.invariant.yielded in
    let count : c.len-client.result ≡ length at.clients.items = let ok = at.clients.ok.0 in let n = c.len-client.ensures in omega arith in
    let less = clients_less s c.args.clock.now c.args.seat.now at.seat c.args.boxes.now.items at.boxes.items at.yielded rest c.args.plan.clients x at.inboxes.items at.clients.items
    c.len-client.result count at.invariant.so_far is c.requires.plan.clients
    in
    (clients_room s c.args.clock.now c.args.seat.now at.seat c.args.boxes.now.items at.boxes.items at.yielded at.inboxes.items at.clients.items c.len-client.result count less c.requires.left
    at.invariant.so_far).can

pub loop-calls-preserved : goal.loop-calls-preserved
loop-calls-preserved g c =
    let at = c.loop-calls in
    let s = c.args.settings.now in
    let x = c.in-Some.calls in
    let steps : into_iter_items at.calls-iterator ≡ x ∷ into_iter_items c.next.new.self = c.in-Some.ensures.steps.0 in
    let went : is_ok c.push.result ≡ true = sym c.map_err.ensures.variant ∙ ap is_ok c.in_ok-map_err.was in
    let went_2 : is_ok c.push-in-loop-calls.result ≡ true = sym c.map_err-in-loop-calls.ensures.variant ∙ ap is_ok c.in_ok-map_err-2.was in
    let pushed = rw went at c.push.ensures.items in
    let pushed_2 = rw went_2 at c.push-in-loop-calls.ensures.items in
    let count : c.len-client.result ≡ length at.clients.items = let ok = at.clients.ok.0 in let n = c.len-client.ensures in omega arith in
    record {
      yielded = append_assoc at.yielded (x ∷ []) _ ∙ rw (← steps) at.invariant.yielded;
      ends = let was = at.invariant.ends in let gone = c.in-Some.ensures.steps.1 in let short = ap length steps in omega arith;
      so_far = clients_more s c.args.clock.now c.args.seat.now at.seat c.prepare.new.seat c.args.boxes.now.items at.boxes.items c.prepare.new.boxes.items at.yielded
          at.inboxes.items c.push.new.self.items at.clients.items c.push-in-loop-calls.new.self.items c.len-client.result x c.in_ok-inbox.inbox c.in_ok-inbox.parts
          count at.invariant.so_far c.in_ok-inbox.ensures.seat c.in_ok-inbox.ensures.boxes c.in_ok-inbox.ensures.inbox c.in_ok-inbox.ensures.calls c.in_ok-inbox.ensures.client
          pushed pushed_2;
    }

pub returns-clause-clients : goal.returns-clause-clients
returns-clause-clients g c =
    let at = c.loop-calls in
    let s = c.args.settings.now in
    let empty : into_iter_items at.calls-iterator ≡ [] = nil_from_length _ (sym at.invariant.ends ∙ c.in-None.ensures.steps.0) in
    let all : at.yielded ≡ c.args.plan.clients = sym (append-nil at.yielded) ∙ rw empty at at.invariant.yielded in
    clients_done s c.args.clock.now c.args.seat.now at.seat c.args.boxes.now.items at.boxes.items at.yielded at.inboxes.items at.clients.items
    (ap (λ (l : List (List PlanCall)). length l) all ∙ c.requires.plan.clients) at.invariant.so_far
