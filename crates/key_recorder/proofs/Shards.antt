-- The shard of a key, among the boxes of a recorder and the lanes of a pass.
use Rattle.std.proofs.Common.{◌≡◌, ℕ, ◌<◌, List, length, map, get_or, ap, sym, ◌∙◌, subst, arith}
use Rattle.std.specs.Prelude.{All, slice_set}
use Rattle.std.proofs.lemmas.List.{length-map}
use Rattle.std.proofs.lemmas.List.Elements.{All-set}
use Rattle.post_box.specs.Boxes.{BoxView}
use Rattle.stale_model.specs.declared.store.Entry.{Entry}
use Rattle.key_recorder.specs.declared.letters.RecordLetter.TheVariants.{Entry as OfEntry}
use Rattle.key_recorder.specs.declared.pass.Lane.{Lane}
use Rattle.key_recorder.specs.Recorders.{LaneView}
use Rattle.key_recorder.specs.Passes.{lane_of, sent_on, IsOpenLane}
use Rattle.key_recorder.proofs.Lanes.{lane_at, as_many_lanes, box_at, open_after_entry}

module _ {A : Type 0} (view : A → BoxView) (bs : List A) (shown : List BoxView) (ls : List Lane) (vs : List LaneView) (boxes : map view bs ≡ shown) (lanes : map lane_of ls ≡ vs) (own : map (λ (l : LaneView). l.box) vs ≡ shown) where
  pub as_many : length ls ≡ length bs
  as_many =
      let a = ap (λ (l : List LaneView). length l) lanes in
      let b = length-map ls lane_of in
      let c = as_many_lanes view bs shown vs boxes own in omega arith

  pub as_many_views : length vs ≡ length bs
  as_many_views = as_many_lanes view bs shown vs boxes own

  pub lane_box : (k : ℕ) (z : Lane) (b : A) → k < length ls → z ≡ get_or ls k z → b ≡ get_or bs k b → (lane_of z).box ≡ view b
  lane_box k z b less read there =
      box_at view ls bs k z b (ap (λ (l : List LaneView). map (λ (v : LaneView). v.box) l) lanes ∙ (own ∙ sym boxes)) less read there

-- the lane of a key's shard has as many letters left as the view says
pub left_at : (ls : List Lane) (vs : List LaneView) (k : ℕ) (z : Lane) → map lane_of ls ≡ vs → k < length ls → z ≡ get_or ls k z → ((l : LaneView) → 1 < (get_or vs k l).left)
    → 1 < (lane_of z).left
left_at ls vs k z are less read left =
    let same = lane_at ls vs k z (lane_of z) are less read in
    let h = left (lane_of z) in subst (λ (v : LaneView). 1 < v.left) same h

-- a lane of open lanes is open
pub open_at : (client : ℕ) (ls : List Lane) (k : ℕ) (z : Lane) → k < length ls → z ≡ get_or ls k z → All (IsOpenLane client) ls → IsOpenLane client z
open_at client ls k z less read all = subst (IsOpenLane client) (sym read) (all k z less)

-- the lanes are open after an entry
pub all_open : (client : ℕ) (e : Entry) (ls : List Lane) (k : ℕ) (y z : Lane) → y ≡ sent_on (OfEntry e) z → IsOpenLane client z → 1 < (lane_of z).left → All (IsOpenLane client) ls
    → All (IsOpenLane client) (slice_set ls k y)
all_open client e ls k y z is here left all = All-set (IsOpenLane client) ls k y (subst (IsOpenLane client) (sym is) (open_after_entry client e z here left)) all
