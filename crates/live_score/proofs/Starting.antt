-- What is kept before any operation.
use Rattle.std.proofs.Common.{◌≡◌, ◌≢◌, ◌⊎◌, ℕ, ◌+◌, ◌<◌, List, [], ◌∷◌, Some, None, length, set, replicate, refl, sym, ◌∙◌, ap, inl, inr, subst, arith}
use Rattle.std.specs.Prelude.{Contains}
use Rattle.std.proofs.lemmas.List.{length-set, length-replicate, get_or-replicate}
use Rattle.std.proofs.lemmas.List.Elements.{All-nil}
use Rattle.std.proofs.lemmas.Option.{none-some, slice_get_within, get_or_from_slice_get}
use Rattle.stale_model.specs.declared.Op.{Op}
use Rattle.stale_model.specs.Operations.{initial_write}
use Rattle.stale_model.specs.Valid.{IsValidOp}
use Rattle.stale_model.specs.Clusters.{IsReadOf}
use Rattle.stale_model.specs.Orders.{StandsAt}
use Rattle.stale_model.proofs.Members.{empty_has_none, contains_first}
use Rattle.stale_model.proofs.Sorted.{first_or_later}
use Rattle.live_score.specs.declared.places.Place.{Place}
use Rattle.live_score.specs.declared.rows.Row.{Row}
use Rattle.live_score.specs.Places.{AreRising, unused}
use Rattle.live_score.specs.Rows.{IsRowOf}
use Rattle.live_score.specs.Placing.{IsVacant, IsShown, ArePlaced, IsGreatestWithoutEarly}
use Rattle.live_score.specs.Invariant.{AreFed, IsKept}
use Rattle.live_score.proofs.PlacesGrow.{rising_grows}
use Rattle.live_score.proofs.Raising.{score_vacant}
use Rattle.live_score.proofs.Stands.{after_write, written}

-- the place of absent, and the rows of absent and of a value that no operation has
abbrev first_place : Place
first_place = record { f = 0; w = 0; s = 0 }

abbrev absent_row : Row
absent_row = record { at = Some 0; write = Some 0; place = record { f = 0; w = 0; s = 0 }; count = 0 }

abbrev unseen_row : Row
unseen_row = record { at = None; write = None; place = record { f = 0; w = 0; s = 0 }; count = 0 }

-- only the initial write is there
only_initial : (a : Op) → Contains (initial_write ∷ []) a → initial_write ≡ a
only_initial a c = elim (first_or_later initial_write a [] c) [ inl same ↦ same | inr none ↦ absurd (empty_has_none a none) ]

value_is_zero : (a : Op) (value : ℕ) → Contains (initial_write ∷ []) a → a.value ≡ value → value ≡ 0
value_is_zero a value c e = sym e ∙ sym (ap (λ (x : Op). x.value) (only_initial a c))

no_read : (value : ℕ) (r : Op) → IsReadOf (initial_write ∷ []) value r → ⊥
no_read value r h =
    let reads = h.read.kind in
    let writes = ap (λ (x : Op). x.kind) (only_initial r h.read.there) in
    cc

absent_says : IsRowOf (initial_write ∷ []) 0 absent_row
absent_says = record {
  write = (initial_write, record { there = contains_first initial_write []; kind = refl; value_is = refl }, refl, refl);
  finish = record {
    there = (initial_write, record { there = contains_first initial_write []; value_is = refl }, refl);
    least = λ a h. omega arith;
  };
  start = record { there = inl refl; greatest = λ r h. absurd (no_read 0 r h) };
}

unseen_says : (value : ℕ) → value ≢ 0 → IsRowOf (initial_write ∷ []) value unseen_row
unseen_says value other = record {
  write = λ w h. other (value_is_zero w value h.there h.value_is);
  finish = λ a h. other (value_is_zero a value h.there h.value_is);
  start = record { there = inl refl; greatest = λ r h. absurd (no_read value r h) };
}

-- what stands in a list of one thing
all_one : {X : Type 0} (n k : ℕ) (x y : X) → StandsAt (replicate n x) k y → y ≡ x
all_one n k x y at =
    let l = slice_get_within (replicate n x) k y at in
    let long = length-replicate n x in
    sym (get_or_from_slice_get (replicate n x) k y y at) ∙ get_or-replicate n k x y (omega arith)

module _ (values places : ℕ) where
  abbrev rows : List Row
  rows = set (replicate (values + 1) unseen_row) 0 absent_row

  abbrev tree : List Place
  tree = set (replicate (places + 1) unused) 0 first_place

  row_room : 0 < length (replicate {A = Row} (values + 1) unseen_row)
  row_room = let n = length-replicate {A = Row} (values + 1) unseen_row in omega arith

  tree_room : 0 < length (replicate {A = Place} (places + 1) unused)
  tree_room = let n = length-replicate {A = Place} (places + 1) unused in omega arith

  row_cases : (value : ℕ) (row : Row) → StandsAt rows value row → ((value ≡ 0) × (row ≡ absent_row)) ⊎ ((value ≢ 0) × (row ≡ unseen_row))
  row_cases value row at = elim (after_write (replicate (values + 1) unseen_row) 0 absent_row value row row_room at) [
    | inl same ↦ inl same
    | inr (other, before) ↦ inr (other, all_one (values + 1) value unseen_row row before)
  ]

  place_cases : (k : ℕ) (place : Place) → StandsAt tree k place → ((k ≡ 0) × (place ≡ first_place)) ⊎ ((k ≢ 0) × (place ≡ unused))
  place_cases k place at = elim (after_write (replicate (places + 1) unused) 0 first_place k place tree_room at) [
    | inl same ↦ inl same
    | inr (other, before) ↦ inr (other, all_one (places + 1) k unused place before)
  ]

  says_first : (value : ℕ) (row : Row) → StandsAt rows value row → IsRowOf (initial_write ∷ []) value row
  says_first value row at = elim (row_cases value row at) [
    | inl (zero_is, is) ↦
        subst (λ (v : ℕ). IsRowOf (initial_write ∷ []) v row) (sym zero_is) (subst (λ (r : Row). IsRowOf (initial_write ∷ []) 0 r) (sym is) absent_says)
    | inr (other, is) ↦ subst (λ (r : Row). IsRowOf (initial_write ∷ []) value r) (sym is) (unseen_says value other)
  ]

  counts_first : (value : ℕ) (row : Row) → StandsAt rows value row → row.count ≡ 0
  counts_first value row at = elim (row_cases value row at) [
    | inl (zero_is, is) ↦ ap (λ (r : Row). r.count) is
    | inr (other, is) ↦ ap (λ (r : Row). r.count) is
  ]

  placed_is_absent : (value k : ℕ) (row : Row) → StandsAt rows value row → row.at ≡ Some k → value ≡ 0
  placed_is_absent value k row at e = elim (row_cases value row at) [
    | inl (zero_is, is) ↦ zero_is
    | inr (other, is) ↦ absurd (none-some k (sym (ap (λ (r : Row). r.at) is) ∙ e))
  ]

  vacant_first : (k : ℕ) (place : Place) → StandsAt tree k place → IsVacant place
  vacant_first k place at = elim (place_cases k place at) [
    | inl (zero_is, is) ↦ record { write = ap (λ (p : Place). p.w) is; reads = ap (λ (p : Place). p.s) is }
    | inr (other, is) ↦ record { write = ap (λ (p : Place). p.w) is; reads = ap (λ (p : Place). p.s) is }
  ]

  placed_first : ArePlaced rows 1 tree
  placed_first = record {
    shows = λ value row at. elim (row_cases value row at) [
      | inl (zero_is, is) ↦
          let here : IsShown tree 1 absent_row (Some 0) = ((let l : 0 < 1 = omega arith in l), written (replicate (places + 1) unused) 0 first_place tree_room) in
          subst (λ (r : Row). IsShown tree 1 r r.at) (sym is) here
      | inr (other, is) ↦ let none : IsShown tree 1 unseen_row None = tt in subst (λ (r : Row). IsShown tree 1 r r.at) (sym is) none
    ];
    apart = λ v u k row other ata atb e f. placed_is_absent v k row ata e ∙ sym (placed_is_absent u k other atb f);
    owned = λ k l.
        let k_is : 0 ≡ k = omega arith in
        record { value = 0; row = absent_row; stands = written (replicate (values + 1) unseen_row) 0 absent_row row_room; at_is = ap Some k_is };
    rest = λ k place l at. elim (place_cases k place at) [
      | inl (zero_is, is) ↦ absurd (omega arith)
      | inr (other, is) ↦ is
    ];
  }

  all_unused_rise : AreRising (replicate (places + 1) unused)
  all_unused_rise i j d le l =
      let long = length-replicate {A = Place} (places + 1) unused in
      let e = ap (λ (p : Place). p.f) (get_or-replicate (places + 1) i unused d (omega arith)) in
      let g = ap (λ (p : Place). p.f) (get_or-replicate (places + 1) j unused d (omega arith)) in
      omega arith

  scored_first : IsGreatestWithoutEarly tree 0
  scored_first = record {
    no_early = λ k place at. let z = (vacant_first k place at).write in omega arith;
    greatest = λ bound. (λ le i j a b ati atj apart. let e = score_vacant a b (vacant_first j b atj) in omega arith, λ each. omega arith);
  }

  fed_first : AreFed values []
  fed_first = record {
    valid = All-nil (IsValidOp values);
    records = λ i j d less l. absurd (omega arith);
    once = λ value v w hv hw. sym (only_initial v hv.there) ∙ only_initial w hw.there;
  }

  -- nothing is fed, and absent alone has a place
  pub kept_at_first : IsKept values [] rows 1 tree (Some 0) 0
  kept_at_first = record {
    operations = fed_first;
    size = length-set (replicate (values + 1) unseen_row) 0 absent_row ∙ length-replicate (values + 1) unseen_row;
    says = says_first;
    counts = λ value row at. counts_first value row at;
    few = omega arith;
    placed = placed_first;
    rising = rising_grows (replicate (places + 1) unused) 0 first_place tree_room all_unused_rise (λ i a l at. absurd (omega arith)) (λ j b l at. omega arith);
    score_is = scored_first;
    waiting_is = refl;
  }

-- the same of what the code begins with
pub kept_first : (values places : ℕ) (fed : List Op) (rows_now : List Row) (unused_now tree_now : List Place) → fed ≡ [] → rows_now ≡ replicate (values + 1) unseen_row → unused_now ≡ replicate (places + 1) unused
    → tree_now ≡ set unused_now 0 first_place → IsKept values fed (set rows_now 0 absent_row) 1 tree_now (Some 0) 0
kept_first values places fed rows_now unused_now tree_now fed_is rows_is unused_is tree_is =
    let tree_first : tree_now ≡ set (replicate (places + 1) unused) 0 first_place = tree_is ∙ ap (λ (l : List Place). set l 0 first_place) unused_is in
    subst (λ (l : List Op). IsKept values l (set rows_now 0 absent_row) 1 tree_now (Some 0) 0) (sym fed_is)
    (subst (λ (l : List Row). IsKept values [] (set l 0 absent_row) 1 tree_now (Some 0) 0) (sym rows_is)
    (subst (λ (l : List Place). IsKept values [] (set (replicate (values + 1) unseen_row) 0 absent_row) 1 l (Some 0) 0) (sym tree_first) (kept_at_first values places)))
