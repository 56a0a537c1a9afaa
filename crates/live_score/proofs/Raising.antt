-- The score after the numbers of one place changed.
use Rattle.std.proofs.Common.{◌≡◌, ◌≢◌, ◌↔◌, ℕ, ◌-◌, ◌<◌, ◌≤◌, max, min, cond, List, Option, Some, None, length, set, get_or, refl, sym, ◌∙◌, ap, inl, inr, subst, arith}
use Rattle.std.specs.Prelude.{All, nat_lt}
use Rattle.std.proofs.lemmas.Bool.{cases_lt, lt-ltb, le-ltb, cases_eq}
use Rattle.std.proofs.lemmas.Bool.Decides.{nat_tests}
use Rattle.std.proofs.lemmas.Option.{slice_get_within, get_or_from_slice_get, slice_get-get_or}
use Rattle.std.proofs.lemmas.List.{set-set}
use Rattle.stale_model.specs.Orders.{StandsAt}
use Rattle.stale_model.proofs.Places.{same_at}
use Rattle.live_score.specs.declared.places.Place.{Place}
use Rattle.live_score.specs.Places.{score, side, unbounded, AreRising}
use Rattle.live_score.specs.Placing.{IsVacant, IsSameWrite, IsRaised, IsGreatestOfPlaces, IsEarlyPlace, IsGreatestWithoutEarly, IsScoreOfPlaces, vacated, score_after}
use Rattle.live_score.proofs.Stands.{after_write, written, unwritten}

-- scores of two are the same either way round
pub score_flips : (a b : Place) → score a b ≡ score b a
score_flips a b = omega arith

side_to_vacant : (c x : Place) → IsVacant x → side c x ≡ 0
side_to_vacant c x v = let w = v.write in let s = v.reads in grind (arith, nat_tests)

-- a vacant place has no score with any
pub score_vacant : (c x : Place) → IsVacant x → score c x ≡ 0
score_vacant c x v = let e = side_to_vacant c x v in omega arith

side_to_raised : (c old new : Place) → IsSameWrite old new → side c old ≤ side c new
side_to_raised c old new same = let f = same.f in let w = same.w in let s = same.s in grind (arith, nat_tests)

side_from_raised : (c old new : Place) → IsSameWrite old new → side old c ≡ side new c
side_from_raised c old new same = ap (λ (f : ℕ). cond (nat_lt f c.w) unbounded (min unbounded (c.s - f))) same.f

-- no score falls where s rises
pub score_raised : (old new c : Place) → IsRaised old new → score old c ≤ score new c
score_raised old new c (inl vacant) = let e = score_flips old c ∙ score_vacant c old vacant in omega arith
score_raised old new c (inr same) = let e = side_from_raised c old new same in let r = side_to_raised c old new same in omega arith

score_after_early : (d : ℕ) (new : Place) (asked : ℕ) → new.f < new.w → score_after (Some d) new asked ≡ None
score_after_early d new asked less = rw (lt-ltb new.f new.w less) refl

score_after_late : (d : ℕ) (new : Place) (asked : ℕ) → new.w ≤ new.f → score_after (Some d) new asked ≡ Some (max d asked)
score_after_late d new asked le = rw (le-ltb new.f new.w le) refl

-- what holds of all holds of what stands at a place
pub all_at : {X : Type 0} (P : X → Type 0) (xs : List X) (i : ℕ) (x : X) → All P xs → StandsAt xs i x → P x
all_at P xs i x all at = subst P (get_or_from_slice_get xs i x x at) (all i x (slice_get_within xs i x at))

all_from_at : {X : Type 0} (P : X → Type 0) (xs : List X) → ((i : ℕ) (x : X) → StandsAt xs i x → P x) → All P xs
all_from_at P xs each = λ i d l. each i (get_or xs i d) (slice_get-get_or xs i d l)

module _ (places : List Place) (k : ℕ) (old new : Place) (here : StandsAt places k old) (raised : IsRaised old new) (asked : ℕ)
    (is : (bound : ℕ) → (asked ≤ bound) ↔ All (λ x. score new x ≤ bound) (set places k (vacated new))) where
  within : k < length places
  within = slice_get_within places k old here

  asked_bounds : (bound : ℕ) → asked ≤ bound → (j : ℕ) (b : Place) → j ≢ k → StandsAt places j b → score new b ≤ bound
  asked_bounds bound le j b other at =
      all_at (λ x. score new x ≤ bound) (set places k (vacated new)) j b ((is bound).0 le) (unwritten places k (vacated new) j b other at)

  asked_from : (bound : ℕ) → ((j : ℕ) (b : Place) → j ≢ k → StandsAt places j b → score new b ≤ bound) → asked ≤ bound
  asked_from bound each = (is bound).1 (all_from_at (λ x. score new x ≤ bound) (set places k (vacated new)) (λ j b at. elim (after_write places k (vacated new) j b within at) [
    | inl (same, e) ↦
        let vacant : IsVacant b = subst IsVacant (sym e) (record { write = refl; reads = refl }) in
        let zero_score = score_vacant new b vacant in
        omega arith
    | inr (other, before) ↦ each j b other before
  ]))

  greatest_bounds : (d bound : ℕ) → IsGreatestOfPlaces places d → max d asked ≤ bound → (i j : ℕ) (a b : Place) → StandsAt (set places k new) i a → StandsAt (set places k new) j b → i ≢ j → score a b ≤ bound
  greatest_bounds d bound greatest le i j a b ati atj apart = elim (after_write places k new i a within ati) [
    | inl (i_is, a_is) ↦ elim (after_write places k new j b within atj) [
      | inl (j_is, b_is) ↦ absurd (apart (i_is ∙ sym j_is))
      | inr (j_other, before) ↦ let h = asked_bounds bound (omega arith) j b j_other before in rw a_is h
    ]
    | inr (i_other, a_before) ↦ elim (after_write places k new j b within atj) [
      | inl (j_is, b_is) ↦
          let h = asked_bounds bound (omega arith) i a i_other a_before in
          let flips = score_flips a new in
          rw b_is (omega arith)
      | inr (j_other, b_before) ↦ (greatest bound).0 (omega arith) i j a b a_before b_before apart
    ]
  ]

  greatest_from : (d bound : ℕ) → IsGreatestOfPlaces places d → ((i j : ℕ) (a b : Place) → StandsAt (set places k new) i a → StandsAt (set places k new) j b → i ≢ j → score a b ≤ bound) → max d asked ≤ bound
  greatest_from d bound greatest each =
      let new_at = written places k new within in
      let asked_le : asked ≤ bound = asked_from bound (λ j b other at. each k j new b new_at (unwritten places k new j b other at) (λ e. other (sym e))) in
      let d_le : d ≤ bound = (greatest bound).1 (λ i j a b ati atj apart. elim (cases_eq i k) [
        | inl i_is ↦
            let j_other : j ≢ k = λ e. apart (i_is ∙ sym e) in
            let a_is : a ≡ old = same_at places k a old (subst (λ (n : ℕ). StandsAt places n a) i_is ati) here in
            let r = score_raised old new b raised in
            let h = each k j new b new_at (unwritten places k new j b j_other atj) (λ e. j_other (sym e)) in
            rw a_is (omega arith)
        | inr i_other ↦ elim (cases_eq j k) [
          | inl j_is ↦
              let b_is : b ≡ old = same_at places k b old (subst (λ (n : ℕ). StandsAt places n b) j_is atj) here in
              let r = score_raised old new a raised in
              let h = each k i new a new_at (unwritten places k new i a i_other ati) (λ e. i_other (sym e)) in
              let flips = score_flips a old in
              rw b_is (omega arith)
          | inr j_other ↦ each i j a b (unwritten places k new i a i_other ati) (unwritten places k new j b j_other atj) apart
        ]
      ]) in
      omega arith

  early_stays : IsEarlyPlace places → IsEarlyPlace (set places k new)
  early_stays h = elim (cases_eq h.at k) [
    | inl is_k ↦
        let e : h.place ≡ old = same_at places k h.place old (subst (λ (n : ℕ). StandsAt places n h.place) is_k h.stands) here in
        let less : old.f < old.w = rw e at h.early in
        record {
          at = k;
          place = new;
          stands = written places k new within;
          early = elim raised [
            | inl vacant ↦ let z = vacant.write in absurd (omega arith)
            | inr same ↦ let f = same.f in let w = same.w in omega arith
          ];
        }
    | inr other ↦ record { at = h.at; place = h.place; stands = unwritten places k new h.at h.place other h.stands; early = h.early }
  ]

  late_stays : new.w ≤ new.f → ((at : ℕ) (place : Place) → StandsAt places at place → place.w ≤ place.f) → (at : ℕ) (place : Place) → StandsAt (set places k new) at place → place.w ≤ place.f
  late_stays le h at place stands = elim (after_write places k new at place within stands) [
    | inl (same, e) ↦ rw e le
    | inr (other, before) ↦ h at place before
  ]

  -- the score that the places give is kept
  pub score_grows : (score : Option ℕ) → IsScoreOfPlaces places score → IsScoreOfPlaces (set places k new) (score_after score new asked)
  score_grows None early = early_stays early
  score_grows (Some d) h = elim (cases_lt new.f new.w) [
    | inl less ↦
        let early : IsEarlyPlace (set places k new) = record { at = k; place = new; stands = written places k new within; early = less } in
        subst (λ (s : Option ℕ). IsScoreOfPlaces (set places k new) s) (sym (score_after_early d new asked less)) early
    | inr le ↦
        let best : IsGreatestWithoutEarly (set places k new) (max d asked) = record {
          no_early = late_stays le h.no_early;
          greatest = λ bound. (greatest_bounds d bound h.greatest, greatest_from d bound h.greatest);
        } in
        subst (λ (s : Option ℕ). IsScoreOfPlaces (set places k new) s) (sym (score_after_late d new asked le)) best
  ]

-- filling a place that was vacated is one write
pub vacated_filled : (places vacant filled : List Place) (k : ℕ) (new : Place) → vacant ≡ set places k (vacated new) → filled ≡ set vacant k new → filled ≡ set places k new
vacated_filled places vacant filled k new vacant_is filled_is = filled_is ∙ ap (λ (l : List Place). set l k new) vacant_is ∙ set-set places k (vacated new) new

-- the same where the place is vacant while its greatest score is asked for
pub score_raises : (places vacant filled : List Place) (k asked : ℕ) (new : Place) (before result : Option ℕ) → vacant ≡ set places k (vacated new) → filled ≡ set vacant k new
    → (AreRising vacant → (bound : ℕ) → (asked ≤ bound) ↔ All (λ x. score new x ≤ bound) vacant) → result ≡ score_after before new asked
    → (old : Place) → StandsAt places k old → IsRaised old new → AreRising (set places k (vacated new)) → IsScoreOfPlaces places before → IsScoreOfPlaces filled result
score_raises places vacant filled k asked new before result vacant_is filled_is is result_is old here raised rising h =
    let asked_is : (bound : ℕ) → (asked ≤ bound) ↔ All (λ x. score new x ≤ bound) (set places k (vacated new)) =
    subst (λ (l : List Place). (bound : ℕ) → (asked ≤ bound) ↔ All (λ x. score new x ≤ bound) l) vacant_is (is (subst AreRising (sym vacant_is) rising)) in
    subst (λ (l : List Place). IsScoreOfPlaces l result) (sym (vacated_filled places vacant filled k new vacant_is filled_is))
    (subst (λ (r : Option ℕ). IsScoreOfPlaces (set places k new) r) (sym result_is) (score_grows places k old new here raised asked asked_is before h))
