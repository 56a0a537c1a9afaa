-- Lanes, after a letter was sent on one or its sender went back.
use Rattle.std.proofs.Common.{◌≡◌, ℕ, suc, ◌+◌, ◌<◌, Bool, true, false, eqb, ◌||◌, List, [], ◌∷◌, ◌++◌, length, map, take, drop, get_or, refl, ap, sym, ◌∙◌, inl, inr, arith, eq-eqb, get_or-set_same, get_or-set_other}
use Rattle.std.specs.Prelude.{All, slice_set, if◌then◌else◌}
use Rattle.std.proofs.lemmas.Bool.{cases_eq, ne_eqb}
use Rattle.std.proofs.lemmas.List.{length-map, length-set, length-take, get_or-map, drop_more, get_or_at}
use Rattle.post_box.specs.Boxes.{BoxView}
use Rattle.std.proofs.lemmas.List.Elements.{All-map, All-weaker}
use Rattle.key_recorder.specs.declared.letters.RecordLetter.{RecordLetter}
use Rattle.key_recorder.specs.declared.letters.RecordLetter.TheVariants.{Entry as OfEntry, End}
use Rattle.stale_model.specs.declared.store.Entry.{Entry}
use Rattle.key_recorder.specs.declared.pass.Lane.{Lane}
use Rattle.key_recorder.specs.declared.pass.Lane.TheVariants.{Here, Gone}
use Rattle.key_recorder.specs.Recorders.{LaneView, shard_of, with_letter, without_sender, IsRecorded, IsSettled}
use Rattle.key_recorder.specs.Passes.{lane_of, sent_on, IsOpenLane, IsClosedLane}
use Rattle.key_recorder.proofs.SentLetters.{has_ended-more}

-- a lane whose sender is there shows the letter that was sent on it
pub lane_of-sent : (x : RecordLetter) (l : Lane) → (lane_of l).here ≡ true → lane_of (sent_on x l) ≡ with_letter x (lane_of l)
lane_of-sent x (Here p) here = refl
lane_of-sent x (Gone s) here = let not : false ≡ true = here in cc

-- an open lane with more than one letter left is open after an entry
pub open_after_entry : (client : ℕ) (e : Entry) (l : Lane) → IsOpenLane client l → 1 < (lane_of l).left → IsOpenLane client (sent_on (OfEntry e) l)
open_after_entry client e (Here p) o more = record {
  number = o.number;
  here = refl;
  left = omega arith;
  not_ended = has_ended-more client p.sent (OfEntry e) ∙ ap (λ (b : Bool). b || false) o.not_ended;
}
open_after_entry client e (Gone s) o more = let not : false ≡ true = o.here in cc

-- an open lane is closed after the end
pub closed_after_end : (client : ℕ) (l : Lane) → IsOpenLane client l → IsClosedLane client (sent_on (End client) l)
closed_after_end client (Here p) o = record { number = o.number; ended = record { before = p.sent; last = refl; alone = o.not_ended } }
closed_after_end client (Gone s) o = let not : false ≡ true = o.here in cc

-- the views of lanes after one was changed
pub changed_at : (change : LaneView → LaneView) (before : List Lane) (k : ℕ) (y z : Lane) → k < length before → z ≡ get_or before k z
    → lane_of y ≡ change (lane_of z) → (j : ℕ) (l : LaneView) → j < length (map lane_of before)
    → get_or (map lane_of (slice_set before k y)) j l ≡ (if eqb j k then change (get_or (map lane_of before) j l) else get_or (map lane_of before) j l)
changed_at change before k y z inside read is j l within =
    let near : j < length before = omega (arith, length-map before lane_of) in
    let now : get_or (map lane_of (slice_set before k y)) j l ≡ lane_of (get_or (slice_set before k y) j z) =
    get_or-map lane_of (slice_set before k y) j z l (omega (arith, length-set before k y))
    in
    let was : get_or (map lane_of before) j l ≡ lane_of (get_or before j z) = get_or-map lane_of before j z l near in
    elim (cases_eq j k) [
      | inl same ↦
          let there : get_or (slice_set before k y) j z ≡ y = ap (λ (i : ℕ). get_or (slice_set before k y) i z) same ∙ get_or-set_same before k y z inside in
          let old : get_or before j z ≡ z = ap (λ (i : ℕ). get_or before i z) same ∙ sym read in
          rw (eq-eqb j k same) (now ∙ (ap lane_of there ∙ (is ∙ ap change (sym (was ∙ ap lane_of old)))))
      | inr apart ↦
          let there : get_or (slice_set before k y) j z ≡ get_or before j z = get_or-set_other before k j y z apart in
          rw (ne_eqb j k apart) (now ∙ (ap lane_of there ∙ sym was))
    ]

-- the view of one lane
pub lane_at : (ls : List Lane) (vs : List LaneView) (k : ℕ) (z : Lane) (l : LaneView) → map lane_of ls ≡ vs → k < length ls → z ≡ get_or ls k z → get_or vs k l ≡ lane_of z
lane_at ls vs k z l are less read = ap (λ (v : List LaneView). get_or v k l) (sym are) ∙ (get_or-map lane_of ls k z l less ∙ ap lane_of (sym read))

-- a place among lanes is one among their views
pub within_views : (ls : List Lane) (vs : List LaneView) (k : ℕ) → map lane_of ls ≡ vs → k < length vs → k < length ls
within_views ls vs k are less = let n = length-map ls lane_of in let e = ap (λ (v : List LaneView). length v) are in omega arith

-- a pass whose sender of one shard went back
pub settled_at : (client : ℕ) (closed : Bool) (before : List Lane) (k : ℕ) (y z : Lane) → k < length before → z ≡ get_or before k z → lane_of y ≡ without_sender (lane_of z)
    → IsSettled k (record { client = client; lanes = map lane_of before; closed = closed }) (record { client = client; lanes = map lane_of (slice_set before k y); closed = closed })
settled_at client closed before k y z less read is = record {
  client = refl;
  closed = refl;
  as_many = length-map (slice_set before k y) lane_of ∙ (length-set before k y ∙ sym (length-map before lane_of));
  each = changed_at without_sender before k y z less read is;
}

-- a pass after an entry was sent on the lane of its shard
pub recorded_at : (e : Entry) (client : ℕ) (closed : Bool) (before : List Lane) (k : ℕ) (y z : Lane) → k ≡ shard_of (length (map lane_of before)) e.key → k < length before
    → z ≡ get_or before k z → lane_of y ≡ with_letter (OfEntry e) (lane_of z)
    → IsRecorded e (record { client = client; lanes = map lane_of before; closed = closed }) (record { client = client; lanes = map lane_of (slice_set before k y); closed = closed })
recorded_at e client closed before k y z shard less read is = record {
  client = refl;
  closed = refl;
  as_many = length-map (slice_set before k y) lane_of ∙ (length-set before k y ∙ sym (length-map before lane_of));
  each = λ j l within. rw (← shard) (changed_at (with_letter (OfEntry e)) before k y z less read is j l within);
}

-- the lanes after a letter was sent on all of them
pub views_sent : (client : ℕ) (x : RecordLetter) (ls : List Lane) → All (IsOpenLane client) ls → map lane_of (map (sent_on x) ls) ≡ map (with_letter x) (map lane_of ls)
views_sent client x [] all = refl
views_sent client x (l ∷ ls) all =
    ap (λ (v : LaneView). v ∷ map lane_of (map (sent_on x) ls)) (lane_of-sent x l (all 0 l (omega arith)).here)
    ∙ ap (λ (vs : List LaneView). with_letter x (lane_of l) ∷ vs) (views_sent client x ls (λ k d less. all (suc k) d (omega arith)))

-- all lanes are closed after the end
pub all_closed : (client : ℕ) (ls : List Lane) → All (IsOpenLane client) ls → All (IsClosedLane client) (map (sent_on (End client)) ls)
all_closed client ls all = All-map (IsClosedLane client) (sent_on (End client)) ls
    (All-weaker (IsOpenLane client) (λ (l : Lane). IsClosedLane client (sent_on (End client) l)) (closed_after_end client) ls all)

-- the place that a letter goes to next is as it was
pub not_reached : (f : Lane → Lane) (xs ys : List Lane) (k : ℕ) (z : Lane) → k < length xs → ys ≡ map f (take k xs) ++ drop k xs → z ≡ get_or ys k z → z ≡ get_or xs k z
not_reached f xs ys k z less are read =
    let front = map f (take k xs) in
    let long : length front ≡ k = length-map (take k xs) f ∙ omega (arith, length-take k xs) in
    let parts : ys ≡ front ++ get_or xs k z ∷ drop (k + 1) xs = are ∙ ap (λ (l : List Lane). front ++ l) (drop_more xs k z less) in
    read ∙ (ap (λ (l : List Lane). get_or l k z) parts ∙ get_or_at front _ _ z k long)

module _ {A : Type 0} (view : A → BoxView) where
  -- as many boxes as lanes
  pub as_many_boxes : (ls : List Lane) (bs : List A) → map (λ (l : LaneView). l.box) (map lane_of ls) ≡ map view bs → length ls ≡ length bs
  as_many_boxes ls bs are =
      let n = ap (λ (l : List BoxView). length l) are in
      let a = length-map (map lane_of ls) (λ (l : LaneView). l.box) in
      let b = length-map ls lane_of in
      let c = length-map bs view in omega arith

  -- the lane at a place is through the box at that place
  pub box_at : (ls : List Lane) (bs : List A) (k : ℕ) (z : Lane) (b : A) → map (λ (l : LaneView). l.box) (map lane_of ls) ≡ map view bs → k < length ls
      → z ≡ get_or ls k z → b ≡ get_or bs k b → (lane_of z).box ≡ view b
  box_at ls bs k z b are less read there =
      let many = as_many_boxes ls bs are in
      let box : LaneView → BoxView = λ l. l.box in
      let shown : get_or (map lane_of ls) k (lane_of z) ≡ lane_of z = get_or-map lane_of ls k z (lane_of z) less ∙ ap lane_of (sym read) in
      let of : get_or (map box (map lane_of ls)) k (view b) ≡ box (lane_of z) =
      get_or-map box (map lane_of ls) k (lane_of z) (view b) (omega (arith, length-map ls lane_of)) ∙ ap box shown
      in
      let to : get_or (map view bs) k (view b) ≡ view b = get_or-map view bs k b (view b) (omega (arith, many)) ∙ ap view (sym there) in
      sym of ∙ (ap (λ (l : List BoxView). get_or l k (view b)) are ∙ to)

-- a recorder's pass has as many lanes as there are boxes
pub as_many_lanes : {A : Type 0} (view : A → BoxView) (bs : List A) (shown : List BoxView) (vs : List LaneView) → map view bs ≡ shown → map (λ (l : LaneView). l.box) vs ≡ shown
    → length vs ≡ length bs
as_many_lanes view bs shown vs boxes lanes =
    let n = ap (λ (l : List BoxView). length l) (lanes ∙ sym boxes) in
    let a = length-map vs (λ (l : LaneView). l.box) in
    let b = length-map bs view in omega arith
