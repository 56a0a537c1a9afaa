-- What is held of a key, and the freshest reply, are the first with the greatest stamp.
use Rattle.std.proofs.Common.{◌≡◌, ◌⊎◌, ℕ, zero, suc, ◌<◌, ◌≤◌, Bool, true, false, cond, ◌&&◌, nat_lt, true≢false, List, [], ◌∷◌, refl, sym, ◌∙◌, inl, inr, subst, arith, eq-eqb}
use Rattle.std.specs.Prelude.{◌==◌, Some, slice_get}
use Rattle.std.proofs.lemmas.Bool.{and_parts, eqb-true}
use Rattle.std.proofs.lemmas.Bool.Decides.{nat_tests}
use Rattle.std.proofs.lemmas.Option.{same_Some}
use Rattle.stale_model.specs.declared.store.JournalEntry.{JournalEntry}
use Rattle.stale_model.specs.declared.store.Took.{Took}
use Rattle.stale_model.specs.Journals.{Pair, nothing, changes, pair_of, held_after}
use Rattle.stale_model.specs.Calls.{freshest_from}
use Rattle.stale_model.proofs.Places.{at_its_place}
use Rattle.run_laws.specs.Laws.{IsFirstGreatest, IsChangeOf, HeldIsFirstGreatest, FreshestIsFirstGreatest}

module _ {X : Type 0} where
  -- a fact of the first element and of what stands at each later place
  each_place : (P : X → Type 0) (x : X) (xs : List X) → P x → ((k : ℕ) (y : X) → slice_get xs k ≡ Some y → P y) → (k : ℕ) (y : X) → slice_get (x ∷ xs) k ≡ Some y → P y
  each_place P x xs first later zero y at = subst P (same_Some x y at) first
  each_place P x xs first later (suc k) y at = later k y at

  -- and of what stands before a place
  each_before : (P : X → Type 0) (x : X) (xs : List X) (n : ℕ) → P x → ((k : ℕ) (y : X) → k < n → slice_get xs k ≡ Some y → P y) → (k : ℕ) (y : X) → k < suc n
      → slice_get (x ∷ xs) k ≡ Some y → P y
  each_before P x xs n first later zero y less at = subst P (same_Some x y at) first
  each_before P x xs n first later (suc k) y less at = later k y (omega arith) at

  module _ (Counts : X → Type 0) (rank : X → ℕ) where
    -- the first element, where no later one has a greater rank
    greatest_here : (x : X) (xs : List X) → Counts x → ((k : ℕ) (y : X) → slice_get xs k ≡ Some y → Counts y → rank y ≤ rank x) → IsFirstGreatest Counts rank (x ∷ xs) x
    greatest_here x xs counts later = record {
      place = zero;
      there = refl;
      counts = counts;
      greatest = each_place (λ (y : X). Counts y → rank y ≤ rank x) x xs (λ _. omega arith) later;
      first = λ k y less at c. absurd (omega arith);
    }

    -- a later one, where the first element has a lesser rank
    greatest_later : (y : X) (xs : List X) (x : X) → (Counts y → rank y < rank x) → IsFirstGreatest Counts rank xs x → IsFirstGreatest Counts rank (y ∷ xs) x
    greatest_later y xs x less found = record {
      place = suc found.place;
      there = found.there;
      counts = found.counts;
      greatest = each_place (λ (z : X). Counts z → rank z ≤ rank x) y xs (λ c. let l = less c in omega arith) found.greatest;
      first = each_before (λ (z : X). Counts z → rank z < rank x) y xs found.place less found.first;
    }

    -- no element that counts has a greater rank than this
    abbrev NoneAbove : ℕ → List X → Type 0
    NoneAbove most xs = (k : ℕ) (y : X) → slice_get xs k ≡ Some y → Counts y → rank y ≤ most

    -- the first with the greatest rank, which is above this
    record IsAbove (most : ℕ) (xs : List X) (x : X) : Type 0 where
      found : IsFirstGreatest Counts rank xs x
      above : most < rank x

    -- one more element in front that is not above
    none_above_more : (most : ℕ) (y : X) (xs : List X) → (Counts y → rank y ≤ most) → NoneAbove most xs → NoneAbove most (y ∷ xs)
    none_above_more most y xs under none = each_place (λ (z : X). Counts z → rank z ≤ most) y xs under none

    above_more : (most : ℕ) (y : X) (xs : List X) (x : X) → (Counts y → rank y ≤ most) → IsAbove most xs x → IsAbove most (y ∷ xs) x
    above_more most y xs x under a = record { found = greatest_later y xs x (λ c. let u = under c in let l = a.above in omega arith) a.found; above = a.above }

    -- one that is above, and is the greatest so far
    above_here : (most : ℕ) (y : X) (xs : List X) → Counts y → most < rank y → NoneAbove (rank y) xs → IsAbove most (y ∷ xs) y
    above_here most y xs counts less none = record { found = greatest_here y xs counts none; above = less }

    above_later : (most : ℕ) (y : X) (xs : List X) (x : X) → most < rank y → IsAbove (rank y) xs x → IsAbove most (y ∷ xs) x
    above_later most y xs x less a = record { found = greatest_later y xs x (λ _. a.above) a.found; above = let l = a.above in omega arith }

-- the stamp of an entry's reply
abbrev stamp : JournalEntry → ℕ
stamp j = j.reply.stamp

-- the pair that was held before stays, since no entry has a greater stamp
record Stays (pair : Pair) (key : ℕ) (js : List JournalEntry) (p : Pair) : Type 0 where
  none : NoneAbove (IsChangeOf key) stamp pair.stamp js
  is : p ≡ pair

-- or the first with the greatest stamp takes its place
record Rises (pair : Pair) (key : ℕ) (js : List JournalEntry) (p : Pair) : Type 0 where
  entry : JournalEntry
  above : IsAbove (IsChangeOf key) stamp pair.stamp js entry
  is : p ≡ pair_of entry

abbrev Holds : Pair → ℕ → List JournalEntry → Pair → Type 0
Holds pair key js p = Stays pair key js p ⊎ Rises pair key js p

holds_under : (pair : Pair) (key : ℕ) (j : JournalEntry) (js : List JournalEntry) (p : Pair) → (IsChangeOf key j → stamp j ≤ pair.stamp) → Holds pair key js p → Holds pair key (j ∷ js) p
holds_under pair key j js p under (inl s) = inl (record { none = none_above_more (IsChangeOf key) stamp pair.stamp j js under s.none; is = s.is })
holds_under pair key j js p under (inr r) = inr (record { entry = r.entry; above = above_more (IsChangeOf key) stamp pair.stamp j js r.entry under r.above; is = r.is })

holds_above : (pair : Pair) (key : ℕ) (j : JournalEntry) (js : List JournalEntry) (p : Pair) → IsChangeOf key j → pair.stamp < stamp j → Holds (pair_of j) key js p → Holds pair key (j ∷ js) p
holds_above pair key j js p change less (inl s) = inr (record { entry = j; above = above_here (IsChangeOf key) stamp pair.stamp j js change less s.none; is = s.is })
holds_above pair key j js p change less (inr r) = inr (record { entry = r.entry; above = above_later (IsChangeOf key) stamp pair.stamp j js r.entry less r.above; is = r.is })

-- the test of an entry says whether it is a change of the key
is_change : (key : ℕ) (j : JournalEntry) → ((j.request.key == key) && changes j.request.ask) ≡ true → IsChangeOf key j
is_change key j t = let (same, change) = and_parts (j.request.key == key) (changes j.request.ask) t in record { key_is = eqb-true j.request.key key same; change = change }

no_change : (key : ℕ) (j : JournalEntry) → ((j.request.key == key) && changes j.request.ask) ≡ false → IsChangeOf key j → ⊥
no_change key j t c = let t' : ((j.request.key == key) && changes j.request.ask) ≡ true = rw (eq-eqb j.request.key key c.key_is, c.change) refl in true≢false (sym t' ∙ t)

holds_by : (b c : Bool) (pair : Pair) (key : ℕ) (j : JournalEntry) (js : List JournalEntry) → ((j.request.key == key) && changes j.request.ask) ≡ b → nat_lt pair.stamp (stamp j) ≡ c
    → ((next : Pair) → Holds next key js (held_after next key js))
    → Holds pair key (j ∷ js) (held_after (cond b (cond c (pair_of j) pair) pair) key js)
holds_by false c pair key j js t l rest = holds_under pair key j js (held_after pair key js) (λ change. absurd (no_change key j t change)) (rest pair)
holds_by true false pair key j js t l rest = holds_under pair key j js (held_after pair key js) (λ _. grind (arith, nat_tests, l)) (rest pair)
holds_by true true pair key j js t l rest = holds_above pair key j js (held_after (pair_of j) key js) (is_change key j t) (grind (arith, nat_tests, l)) (rest (pair_of j))

holds : (js : List JournalEntry) (key : ℕ) (pair : Pair) → Holds pair key js (held_after pair key js)
holds [] key pair = inl (record { none = λ k j at c. absurd (cc at); is = refl })
holds (j ∷ js) key pair = holds_by ((j.request.key == key) && changes j.request.ask) (nat_lt pair.stamp (stamp j)) pair key j js refl refl (λ next. holds js key next)

pub held_is : HeldIsFirstGreatest
held_is key js = elim (holds js key nothing) [
  | inl s ↦ inl (record { none = λ j c change. let l = s.none c.0 j (at_its_place js j c) change in omega arith; pair = s.is })
  | inr r ↦ inr (record { entry = r.entry; first = r.above.found; pair = r.is })
]

-- each reply counts
abbrev Each : Took → Type 0
Each t = Unit {0}

abbrev taken_stamp : Took → ℕ
taken_stamp t = t.stamp

-- the best so far stays, or the first with the greatest stamp takes its place
abbrev IsBest : Took → List Took → Took → Type 0
IsBest best ts t = ((t ≡ best) × NoneAbove Each taken_stamp best.stamp ts) ⊎ IsAbove Each taken_stamp best.stamp ts t

best_by : (b : Bool) (best t : Took) (ts : List Took) → nat_lt best.stamp t.stamp ≡ b → ((next : Took) → IsBest next ts (freshest_from next ts)) → IsBest best (t ∷ ts) (freshest_from (cond b t best) ts)
best_by false best t ts l rest = elim (rest best) [
  | inl (is, none) ↦ inl (is, none_above_more Each taken_stamp best.stamp t ts (λ _. grind (arith, nat_tests, l)) none)
  | inr a ↦ inr (above_more Each taken_stamp best.stamp t ts (freshest_from best ts) (λ _. grind (arith, nat_tests, l)) a)
]
best_by true best t ts l rest = elim (rest t) [
  | inl (is, none) ↦ inr (subst (IsAbove Each taken_stamp best.stamp (t ∷ ts)) (sym is) (above_here Each taken_stamp best.stamp t ts tt (grind (arith, nat_tests, l)) none))
  | inr a ↦ inr (above_later Each taken_stamp best.stamp t ts (freshest_from t ts) (grind (arith, nat_tests, l)) a)
]

best : (ts : List Took) (b : Took) → IsBest b ts (freshest_from b ts)
best [] b = inl (refl, λ k t at c. absurd (cc at))
best (t ∷ ts) b = best_by (nat_lt b.stamp t.stamp) b t ts refl (λ next. best ts next)

pub freshest_is : FreshestIsFirstGreatest
freshest_is [] some = absurd (omega arith)
freshest_is (t ∷ ts) some = elim (best ts t) [
  | inl (is, none) ↦ subst (IsFirstGreatest Each taken_stamp (t ∷ ts)) (sym is) (greatest_here Each taken_stamp t ts tt none)
  | inr a ↦ greatest_later Each taken_stamp t ts (freshest_from t ts) (λ _. a.above) a.found
]
