-- A pass that goes back to the logs, one shard after the other.
use Rattle.std.proofs.Common.{◌≡◌, ℕ, ◌+◌, ◌<◌, ◌≤◌, ◌==◌, false, List, length, slice_index_or, slice_set, get_or-set_same, get_or-set_other, sym, ◌∙◌, ap, subst, inl, inr, arith}
use Rattle.std.proofs.lemmas.Bool.{cases_eq, ne_eqb}
use Rattle.std.proofs.lemmas.List.{get_or_default}
use Rattle.post_box.specs.Boxes.{letters_of}
use Rattle.stale_model.specs.RecordedRuns.{entries_of}
use Rattle.key_recorder.specs.Letters.{sender_of, entries_in}
use Rattle.key_recorder.specs.Recorders.{LaneView, PassView, LogView, IsSettled, IsLaneOf, IsTold}
use Rattle.bench_run.specs.Closing.{IsDrainedLog, AreKept}

-- the lanes of a pass from this shard on are as before
pub record IsSameFrom (shard : ℕ) (p q : PassView) : Type 0 where
  pub client : q.client ≡ p.client
  pub closed : q.closed ≡ p.closed
  pub as_many : length q.lanes ≡ length p.lanes
  pub lanes : (k : ℕ) (l : LaneView) → shard ≤ k → k < length p.lanes → slice_index_or q.lanes k l ≡ slice_index_or p.lanes k l

-- one lane more went back
pub same_from_more : (i : ℕ) (p q r : PassView) → IsSameFrom i p q → IsSettled i q r → IsSameFrom (i + 1) p r
same_from_more i p q r same settled = record {
  client = settled.client ∙ same.client;
  closed = settled.closed ∙ same.closed;
  as_many = settled.as_many ∙ same.as_many;
  lanes = λ k l from less.
      let many = same.as_many in
      let apart : (k == i) ≡ false = ne_eqb k i (λ e. omega arith) in
      (rw apart at (settled.each k l (omega arith))) ∙ same.lanes k l (omega arith) less;
}

-- the lane of this shard is still there
pub lane_from : (i : ℕ) (p q : PassView) (g : LogView) → g.shard ≡ i → IsSameFrom i p q → IsLaneOf g p → IsLaneOf g q
lane_from i p q g shard same lane =
    let many = same.as_many in
    let there = lane.there in
    let as_was : (l : LaneView) → slice_index_or q.lanes g.shard l ≡ slice_index_or p.lanes g.shard l = λ l. same.lanes g.shard l (omega arith) there in
    record {
      there = omega arith;
      own = λ l. ap (λ (x : LaneView). x.box) (as_was l) ∙ lane.own l;
      here = λ l. ap (λ (x : LaneView). x.here) (as_was l) ∙ lane.here l;
    }

-- what a log has of a pass, it has of the pass as it was
pub told_from : (i : ℕ) (p q : PassView) (g : LogView) → g.shard ≡ i → IsSameFrom i p q → IsLaneOf g p → IsTold g q → IsTold g p
told_from i p q g shard same lane told =
    let as_was : (l : LaneView) → slice_index_or q.lanes g.shard l ≡ slice_index_or p.lanes g.shard l = λ l. same.lanes g.shard l (omega arith) lane.there in
    record {
      letters = λ l.
          ap (λ (c : ℕ). letters_of sender_of c g.taken) (sym same.client) ∙ (told.letters l ∙ ap (λ (x : LaneView). x.sent) (as_was l));
      entries = λ l.
          ap (λ (c : ℕ). entries_of c (entries_in g.taken)) (sym same.client) ∙ (told.entries l ∙ ap (λ (x : LaneView). entries_in x.sent) (as_was l));
      clients = told.clients;
    }

-- at each place below i what F makes of it, and at the others what was there: with the place i as well
pub made_more : {X : Type 0} (F : X → X) (old now : List X) (i : ℕ) (y z : X) → length now ≡ length old → i < length old → z ≡ slice_index_or now i z → y ≡ F z
    → ((k : ℕ) (d : X) → k < i → slice_index_or now k d ≡ F (slice_index_or old k d))
    → ((k : ℕ) (d : X) → i ≤ k → k < length old → slice_index_or now k d ≡ slice_index_or old k d)
    → ((k : ℕ) (d : X) → k < i + 1 → slice_index_or (slice_set now i y) k d ≡ F (slice_index_or old k d))
    × ((k : ℕ) (d : X) → i + 1 ≤ k → k < length old → slice_index_or (slice_set now i y) k d ≡ slice_index_or old k d)
made_more F old now i y z long less read is done rest = (
  λ k d within. elim (cases_eq k i) [
    | inl same ↦
        let here : slice_index_or (slice_set now i y) i d ≡ y = get_or-set_same now i y d (omega arith) in
        let was : z ≡ slice_index_or old i d = read ∙ (get_or_default now i z d (omega arith) ∙ rest i d (omega arith) less) in
        subst (λ (j : ℕ). slice_index_or (slice_set now i y) j d ≡ F (slice_index_or old j d)) (sym same) (here ∙ (is ∙ ap F was))
    | inr apart ↦ get_or-set_other now i k y d apart ∙ done k d (omega arith)
  ],
  λ k d from within. get_or-set_other now i k y d (λ same. omega arith) ∙ rest k d (omega arith) within,
)

-- a log but for the clients that were settled
abbrev settled_as : LogView → LogView → LogView
settled_as g h = record g { settled = h.settled }

-- first some clients were settled, and then others
pub kept_then : (a b c : List LogView) → AreKept a b → AreKept b c → AreKept a c
kept_then a b c first second =
    let many = first.as_many in
    record {
      as_many = second.as_many ∙ first.as_many;
      each = λ k g less.
          second.each k g (omega arith) ∙ ap (λ (x : LogView). settled_as x (slice_index_or c k g)) (first.each k g less);
    }

-- the logs stay drained
pub drained_still : (old new : List LogView) → AreKept old new → ((k : ℕ) (g : LogView) → k < length old → IsDrainedLog k (slice_index_or old k g))
    → (k : ℕ) (g : LogView) → k < length new → IsDrainedLog k (slice_index_or new k g)
drained_still old new kept drained k g less =
    let many = kept.as_many in
    let was = drained k g (omega arith) in
    let is : IsDrainedLog k (settled_as (slice_index_or old k g) (slice_index_or new k g)) = record { shard_is = was.shard_is; ended = was.ended } in
    subst (IsDrainedLog k) (sym (kept.each k g (omega arith))) is

-- what is told of a log was true before
pub told_before : (old new : List LogView) (p : PassView) → AreKept old new → (k : ℕ) (g : LogView) → k < length old → IsTold (slice_index_or new k g) p → IsTold (slice_index_or old k g) p
told_before old new p kept k g less told =
    let is : IsTold (settled_as (slice_index_or old k g) (slice_index_or new k g)) p = subst (λ (x : LogView). IsTold x p) (kept.each k g less) told in
    record { letters = is.letters; entries = is.entries; clients = is.clients }
