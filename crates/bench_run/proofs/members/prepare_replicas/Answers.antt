-- The parts of one replica more.
use Rattle.std.proofs.Common.{◌≡◌, ◌∷◌, ◌++◌, [], List, length, length-append, map, true, refl, ap, sym, ◌∙◌, rules, arith, append_assoc}
use Rattle.std.specs.Prelude.{is_ok}
use Rattle.std.specs.Arc.{arc_value}
use Rattle.std.specs.Vec.Iter.{into_iter_items}
use Rattle.post_box.specs.Boxes.{TakerView}
use Rattle.quorum_client.specs.declared.letters.Note.{Note}
use Rattle.bench_run.specs.declared.job.JobParts.{JobParts}
use Rattle.bench_run.specs.Openings.{boxes_of, first_taker}
use Rattle.bench_run.proofs.MoreMembers.{replicas_none, replicas_more, replicas_less, replicas_room, taker_next}
use Rattle.bench_run.proofs.members.prepare_replicas.Goals as goal

pub loop-taker-init : goal.loop-taker-init
loop-taker-init g c = record {
  yielded = search rules;
  ends = search rules;
  many = search rules;
  so_far = replicas_none c.args.settings.now (arc_value c.args.clock.now) c.args.seat.now c.args.boxes.now c.args.inboxes.now.items _ (search rules) c.requires.inboxes;
}

pub replica_parts-requires-clause-taker : goal.replica_parts-requires-clause-taker
replica_parts-requires-clause-taker g c =
    let at = c.loop-taker in
    let x = c.in-Some.taker in
    let rest = into_iter_items c.next.new.self in
    let steps : into_iter_items at.taker-iterator ≡ x ∷ rest = c.in-Some.ensures.steps.0 in
    let is : at.yielded ++ x ∷ rest ≡ map first_taker (boxes_of c.args.boxes.now) = ap (λ (l : List (TakerView Note)). at.yielded ++ l) (sym steps) ∙ at.invariant.yielded in
    let count : c.len-place.result ≡ length at.replicas.items = let ok = at.replicas.ok.0 in let n = c.len-place.ensures in omega arith in
    taker_next c.args.boxes.now at.yielded rest x c.len-place.result c.index-boxes-place.result (count ∙ at.invariant.many) is c.index-boxes-place.is

pub replica_parts-requires-clause-inboxes : goal.replica_parts-requires-clause-inboxes
replica_parts-requires-clause-inboxes g c =
    let at = c.loop-taker in
    let s = c.args.settings.now in
    let x = c.in-Some.taker in
    let rest = into_iter_items c.next.new.self in
    let steps : into_iter_items at.taker-iterator ≡ x ∷ rest = c.in-Some.ensures.steps.0 in
    let is : at.yielded ++ x ∷ rest ≡ map first_taker (boxes_of c.args.boxes.now) = ap (λ (l : List (TakerView Note)). at.yielded ++ l) (sym steps) ∙ at.invariant.yielded in
    let count : c.len-place.result ≡ length at.replicas.items = let ok = at.replicas.ok.0 in let n = c.len-place.ensures in omega arith in
    let less = replicas_less c.args.boxes.now at.yielded rest x c.len-place.result s.replicas (count ∙ at.invariant.many) is c.requires.many in
    (replicas_room s (arc_value c.args.clock.now) c.args.seat.now at.seat c.args.boxes.now c.args.inboxes.now.items at.inboxes.items at.replicas.items c.len-place.result count less c.requires.left
    at.invariant.so_far).can

pub loop-taker-preserved : goal.loop-taker-preserved
loop-taker-preserved g c =
    let at = c.loop-taker in
    let x = c.in-Some.taker in
    let steps : into_iter_items at.taker-iterator ≡ x ∷ into_iter_items c.next.new.self = c.in-Some.ensures.steps.0 in
    let went : is_ok c.push.result ≡ true = sym c.map_err.ensures.variant ∙ ap is_ok c.in_ok-map_err.was in
    let pushed = rw went at c.push.ensures.items in
    let count : c.len-place.result ≡ length at.replicas.items = let ok = at.replicas.ok.0 in let n = c.len-place.ensures in omega arith in
    let is : at.yielded ++ x ∷ into_iter_items c.next.new.self ≡ map first_taker (boxes_of c.args.boxes.now) = ap (λ (l : List (TakerView Note)). at.yielded ++ l) (sym steps) ∙ at.invariant.yielded in
    let within = replicas_less c.args.boxes.now at.yielded (into_iter_items c.next.new.self) x c.len-place.result (length c.args.boxes.now) (count ∙ at.invariant.many) is refl in
    record {
      yielded = append_assoc at.yielded (x ∷ []) _ ∙ rw (← steps) at.invariant.yielded;
      ends = let was = at.invariant.ends in let gone = c.in-Some.ensures.steps.1 in let short = ap length steps in omega arith;
      many = ap (λ (l : List JobParts). length l) pushed ∙ (length-append at.replicas.items (c.in_ok-parts.parts ∷ []) ∙ let m = at.invariant.many in let n = length-append at.yielded (x ∷ []) in omega arith);
      so_far = replicas_more c.args.settings.now (arc_value c.args.clock.now) c.args.seat.now at.seat c.replica_parts.new.seat c.args.boxes.now c.args.inboxes.now.items
          at.inboxes.items c.replica_parts.new.inboxes.items at.replicas.items c.push.new.self.items c.len-place.result c.index-boxes-place.result c.in_ok-parts.parts
          count within c.index-boxes-place.is at.invariant.so_far c.in_ok-parts.ensures.seat c.in_ok-parts.ensures.inboxes c.in_ok-parts.ensures.fresh c.in_ok-parts.ensures.replica
          pushed;
    }
