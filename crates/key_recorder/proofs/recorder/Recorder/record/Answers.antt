-- An entry that goes to the shard of its key.
use Rattle.std.proofs.Common.{◌≡◌, ◌<◌, ◌%◌, ℕ, true, false, length, map, slice_index_or, ap, sym, ◌∙◌, subst, arith}
use Rattle.std.specs.Arc.{arc_value}
use Rattle.std.proofs.lemmas.List.{length-map}
use Rattle.key_recorder.specs.Recorders.{LaneView, shard_of}
use Rattle.key_recorder.specs.declared.letters.RecordLetter.TheVariants.{Entry as OfEntry}
use Rattle.key_recorder.specs.Passes.{lane_of, IsOpenLane}
use Rattle.key_recorder.proofs.Lanes.{lane_of-sent, recorded_at}
use Rattle.key_recorder.proofs.Shards.{as_many, as_many_views, lane_box, left_at, open_at, all_open}
use Rattle.key_recorder.proofs.recorder.Recorder.record.Goals as goal

pub index-requires : goal.index-requires
index-requires g c = let some = c.self.invariant in let n = c.len.ensures in omega arith

pub index_mut-requires : goal.index_mut-requires
index_mut-requires g c =
    let some = c.self.invariant in let n = c.len.ensures in let ok = c.self.inside.boxes.ok in let lanes_ok = c.pass.inside.lanes.ok in
    let many = as_many (λ b. arc_value b) c.self.inside.boxes.items c.args.self.now.boxes c.pass.inside.lanes.items c.args.pass.now.lanes
    (ap (λ r. r.boxes) c.self.view_is) (ap (λ p. p.lanes) c.pass.view_is) c.requires.own
    in
    omega arith

pub send_on-requires-clause-own : goal.send_on-requires-clause-own
send_on-requires-clause-own g c =
    let some = c.self.invariant in let n = c.len.ensures in let ok = c.self.inside.boxes.ok in
    let many = as_many (λ b. arc_value b) c.self.inside.boxes.items c.args.self.now.boxes c.pass.inside.lanes.items c.args.pass.now.lanes
    (ap (λ r. r.boxes) c.self.view_is) (ap (λ p. p.lanes) c.pass.view_is) c.requires.own
    in
    let shard = c.args.entry.key % c.len.result in
    let less : shard < length c.pass.inside.lanes.items = omega arith in
    lane_box (λ b. arc_value b) c.self.inside.boxes.items c.args.self.now.boxes c.pass.inside.lanes.items c.args.pass.now.lanes
    (ap (λ r. r.boxes) c.self.view_is) (ap (λ p. p.lanes) c.pass.view_is) c.requires.own
    shard c.index_mut.result.now c.index.result.now less c.index_mut.ensures.value c.index.ensures
    ∙ sym c.deref.ensures

pub send_on-requires-clause-lane : goal.send_on-requires-clause-lane
send_on-requires-clause-lane g c =
    let some = c.self.invariant in let n = c.len.ensures in let ok = c.self.inside.boxes.ok in
    let boxes = ap (λ r. r.boxes) c.self.view_is in
    let lanes = ap (λ p. p.lanes) c.pass.view_is in
    let many = as_many (λ b. arc_value b) c.self.inside.boxes.items c.args.self.now.boxes c.pass.inside.lanes.items c.args.pass.now.lanes boxes lanes c.requires.own in
    let views = as_many_views (λ b. arc_value b) c.self.inside.boxes.items c.args.self.now.boxes c.pass.inside.lanes.items c.args.pass.now.lanes boxes lanes c.requires.own in
    let shard = c.args.entry.key % c.len.result in
    let less : shard < length c.pass.inside.lanes.items = omega arith in
    let shards : length c.args.pass.now.lanes ≡ c.len.result = omega arith in
    let still : c.pass.inside.closed ≡ false = ap (λ p. p.closed) c.pass.view_is ∙ c.requires.not_closed in
    let client : c.args.entry.client ≡ c.pass.inside.client = c.requires.client ∙ sym (ap (λ p. p.client) c.pass.view_is) in
    let here = open_at c.pass.inside.client c.pass.inside.lanes.items shard c.index_mut.result.now less c.index_mut.ensures.value (c.pass.invariant.not_closed still) in
    subst (λ (n : ℕ). IsOpenLane n c.index_mut.result.now) (sym client) here

pub invariant_of-pass : goal.invariant_of-pass
invariant_of-pass g c =
    let some = c.self.invariant in let n = c.len.ensures in let ok = c.self.inside.boxes.ok in
    let boxes = ap (λ r. r.boxes) c.self.view_is in
    let lanes = ap (λ p. p.lanes) c.pass.view_is in
    let many = as_many (λ b. arc_value b) c.self.inside.boxes.items c.args.self.now.boxes c.pass.inside.lanes.items c.args.pass.now.lanes boxes lanes c.requires.own in
    let views = as_many_views (λ b. arc_value b) c.self.inside.boxes.items c.args.self.now.boxes c.pass.inside.lanes.items c.args.pass.now.lanes boxes lanes c.requires.own in
    let shard = c.args.entry.key % c.len.result in
    let less : shard < length c.pass.inside.lanes.items = omega arith in
    let shards : length c.args.pass.now.lanes ≡ c.len.result = omega arith in
    let still : c.pass.inside.closed ≡ false = ap (λ p. p.closed) c.pass.view_is ∙ c.requires.not_closed in
    let client : c.args.entry.client ≡ c.pass.inside.client = c.requires.client ∙ sym (ap (λ p. p.client) c.pass.view_is) in
    let here = open_at c.pass.inside.client c.pass.inside.lanes.items shard c.index_mut.result.now less c.index_mut.ensures.value (c.pass.invariant.not_closed still) in
    let left = left_at c.pass.inside.lanes.items c.args.pass.now.lanes shard c.index_mut.result.now lanes less c.index_mut.ensures.value
    (subst (λ (n : ℕ). (l : LaneView) → 1 < (slice_index_or c.args.pass.now.lanes (c.args.entry.key % n) l).left) shards c.requires.left)
    in
    record {
      not_closed = λ _. all_open c.pass.inside.client c.args.entry c.pass.inside.lanes.items shard c.send_on.new.lane c.index_mut.result.now
          c.send_on.ensures here left (c.pass.invariant.not_closed still);
      closed = λ e. let not : false ≡ true = sym still ∙ e in cc;
    }

pub returns : goal.returns
returns g c =
    let some = c.self.invariant in let n = c.len.ensures in let ok = c.self.inside.boxes.ok in
    let boxes = ap (λ r. r.boxes) c.self.view_is in
    let lanes = ap (λ p. p.lanes) c.pass.view_is in
    let many = as_many (λ b. arc_value b) c.self.inside.boxes.items c.args.self.now.boxes c.pass.inside.lanes.items c.args.pass.now.lanes boxes lanes c.requires.own in
    let views = as_many_views (λ b. arc_value b) c.self.inside.boxes.items c.args.self.now.boxes c.pass.inside.lanes.items c.args.pass.now.lanes boxes lanes c.requires.own in
    let shard = c.args.entry.key % c.len.result in
    let less : shard < length c.pass.inside.lanes.items = omega arith in
    let shards : length c.args.pass.now.lanes ≡ c.len.result = omega arith in
    let still : c.pass.inside.closed ≡ false = ap (λ p. p.closed) c.pass.view_is ∙ c.requires.not_closed in
    let client : c.args.entry.client ≡ c.pass.inside.client = c.requires.client ∙ sym (ap (λ p. p.client) c.pass.view_is) in
    let here = open_at c.pass.inside.client c.pass.inside.lanes.items shard c.index_mut.result.now less c.index_mut.ensures.value (c.pass.invariant.not_closed still) in
    let place : shard ≡ shard_of (length (map lane_of c.pass.inside.lanes.items)) c.args.entry.key =
    ap (λ (n : ℕ). c.args.entry.key % n) (omega (arith, length-map c.pass.inside.lanes.items lane_of))
    in
    rw (← c.pass.view_is)
    (recorded_at c.args.entry c.pass.inside.client c.pass.inside.closed c.pass.inside.lanes.items shard c.send_on.new.lane c.index_mut.result.now place less
    c.index_mut.ensures.value (ap lane_of c.send_on.ensures ∙ lane_of-sent (OfEntry c.args.entry) c.index_mut.result.now here.here))
