-- Lists that are made of the numbers from one on, and how often numbers stand among numbers.
use Rattle.std.proofs.Common.{◌≡◌, ℕ, zero, suc, ◌+◌, ◌<◌, ◌≤◌, List, [], ◌∷◌, ◌++◌, Some, true, false, length, get_or, map, set, replicate, slice_get, refl, sym, ◌∙◌, ap, arith, if◌then◌else◌}
use Rattle.std.specs.Prelude.{◌==◌}
use Rattle.std.specs.List.{range_with_len}
use Rattle.std.proofs.lemmas.Bool.{eq-eqb, ne_eqb}
use Rattle.std.proofs.lemmas.List.Sums.{count_by-le-length, sum_by_push}
use Rattle.std.proofs.lemmas.Option.{get_or_from_slice_get}
use Rattle.history_csv.specs.Parting.{times_in}

module _ {X : Type 0} (f : ℕ → X) where
  pub made-get : (a n k at : ℕ) → at ≡ a + k → k < n → slice_get (map f (range_with_len a n)) k ≡ Some (f at)
  made-get a zero k at is low = absurd (omega arith)
  made-get a (suc n) zero at is low = let here : a ≡ at = omega arith in ap (λ i. Some (f i)) here
  made-get a (suc n) (suc k) at is low = made-get (a + 1) n k at (omega arith) (omega arith)

  module _ (g : ℕ → X) where
    made-agree : (a n : ℕ) → ((i : ℕ) → a ≤ i → g i ≡ f i) → map g (range_with_len a n) ≡ map f (range_with_len a n)
    made-agree a zero same = refl
    made-agree a (suc n) same = rw (same a (omega arith), made-agree (a + 1) n (λ i low. same i (omega arith))) refl

    -- two that differ at one number alone
    pub made-set : (a n k at : ℕ) → at ≡ a + k → k < n → ((i : ℕ) → (i ≡ at → ⊥) → g i ≡ f i) → map g (range_with_len a n) ≡ set (map f (range_with_len a n)) k (g at)
    made-set a zero k at is low same = absurd (omega arith)
    made-set a (suc n) zero at is low same =
        let here : a ≡ at = omega arith in
        let rest = made-agree (a + 1) n (λ i above. same i (λ e. omega arith)) in
        rw rest (ap (λ i. g i ∷ map f (range_with_len (a + 1) n)) here)
    made-set a (suc n) (suc k) at is low same =
        let first : g a ≡ f a = same a (λ e. omega arith) in
        let rest = made-set (a + 1) n k at (omega arith) (omega arith) same in
        rw (first, rest) refl

-- ---- counts

pub no-times : (a n : ℕ) → replicate n 0 ≡ map (times_in []) (range_with_len a n)
no-times a zero = refl
no-times a (suc n) = ap (λ l. 0 ∷ l) (no-times (a + 1) n)

times-push : (ns : List ℕ) (n i : ℕ) → times_in (ns ++ n ∷ []) i ≡ times_in ns i + (if n == i then 1 else 0)
times-push ns n i = sum_by_push (λ x. if x == i then 1 else 0) ns n

module _ (front : List ℕ) (n count : ℕ) (low : n < count) where
  -- the count of a number so far
  pub count-at : (counts : List ℕ) (d : ℕ) → counts ≡ map (times_in front) (range_with_len 0 count) → get_or counts n d ≡ times_in front n
  count-at counts d are = rw are (get_or_from_slice_get (map (times_in front) (range_with_len 0 count)) n (times_in front n) d (made-get (times_in front) 0 count n n (omega arith) low))

  -- and once it is one more
  pub count-more : (counts : List ℕ) (d here : ℕ) → counts ≡ map (times_in front) (range_with_len 0 count) → here ≡ get_or counts n d → set counts n (here + 1) ≡ map (times_in (front ++ n ∷ [])) (range_with_len 0 count)
  count-more counts d here are is =
      let own : (n == n) ≡ true = eq-eqb n n refl in
      let so_far : here ≡ times_in front n = is ∙ count-at counts d are in
      let one : times_in (front ++ n ∷ []) n ≡ here + 1 = times-push front n n ∙ rw (own, so_far) refl in
      let other : (i : ℕ) → (i ≡ n → ⊥) → times_in (front ++ n ∷ []) i ≡ times_in front i = λ i differs.
      let test : (n == i) ≡ false = ne_eqb n i (λ same. differs (sym same)) in
      times-push front n i ∙ rw test (omega arith) in
      sym (made-set (times_in front) (times_in (front ++ n ∷ [])) 0 count n n (omega arith) low other ∙ ap (λ l. set l n (times_in (front ++ n ∷ []) n)) (sym are) ∙ ap (set counts n) one)

-- a number stands at most as often as there are numbers
pub times-few : (ns : List ℕ) (n : ℕ) → times_in ns n ≤ length ns
times-few ns n = count_by-le-length (λ other. other == n) ns
