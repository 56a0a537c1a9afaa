-- Lists that are filtered and flattened: what they contain, and how long they are.
use Rattle.std.proofs.Common.{◌≡◌, ℕ, zero, suc, ◌+◌, ◌*◌, ◌<◌, ◌≤◌, Bool, true, false, cond, ◌&&◌, nat_lt, List, [], ◌∷◌, length, get_or, map, filter, refl, sym, ap, inl, inr, subst, arith, suc-mul, add-one, length-append}
use Rattle.std.specs.Prelude.{◌==◌, All, Contains, flat_map}
use Rattle.std.specs.List.{range_with_len}
use Rattle.std.proofs.lemmas.Bool.Decides.{nat_tests}
use Rattle.std.proofs.lemmas.List.Concat.{length-flat_map}
use Rattle.std.proofs.lemmas.List.Elements.{All-head, All-tail, Contains-get_or, Contains-append_left, Contains-append_right, filter-append}
use Rattle.std.proofs.lemmas.List.FromFn.{length-range_with_len, get_or-range_with_len}
use Rattle.std.proofs.lemmas.List.Sums.{sum_by-le}
use Rattle.stale_model.proofs.Sorted.{first_or_later}
use Rattle.stale_model.proofs.Members.{contains_first, before_flattened}

module _ {X : Type 0} where
  -- what holds of each element that there is holds of all
  pub all_there : (P : X → Type 0) (xs : List X) → ((x : X) → Contains xs x → P x) → All P xs
  all_there P xs each k d low = each (get_or xs k d) (Contains-get_or xs k d low)

  -- a list that contains nothing is empty
  pub empty_list : (xs : List X) → ((x : X) → Contains xs x → ⊥) → xs ≡ []
  empty_list [] none = refl
  empty_list (x ∷ xs) none = absurd (none x (contains_first x xs))

  kept_twice_by : (b c : Bool) (x : X) (xs ys : List X) (second : X → Bool) → second x ≡ c → xs ≡ filter second ys → cond (b && c) (x ∷ xs) xs ≡ filter second (cond b (x ∷ ys) ys)
  kept_twice_by true true x xs ys second t e = rw t (ap (λ (l : List X). x ∷ l) e)
  kept_twice_by true false x xs ys second t e = rw t e
  kept_twice_by false c x xs ys second t e = e

  -- to keep what passes two tests is to keep what passes the first, and of it what passes the second
  pub kept_twice : (first second : X → Bool) (xs : List X) → filter (λ x. first x && second x) xs ≡ filter second (filter first xs)
  kept_twice first second [] = refl
  kept_twice first second (x ∷ xs) =
      kept_twice_by (first x) (second x) x (filter (λ y. first y && second y) xs) (filter first xs) second refl (kept_twice first second xs)

module _ {X Y : Type 0} where
  -- a flattened list contains what is made of each element
  pub flattened_from : (f : X → List Y) (xs : List X) (x : X) (y : Y) → Contains xs x → Contains (f x) y → Contains (flat_map f xs) y
  flattened_from f [] x y there here = absurd (let low = there.1 in omega arith)
  flattened_from f (z ∷ xs) x y there here = elim (first_or_later z x xs there) [
    | inl is ↦ Contains-append_left (f z) (flat_map f xs) y (subst (λ (w : X). Contains (f w) y) (sym is) here)
    | inr later ↦ Contains-append_right (f z) (flat_map f xs) y (flattened_from f xs x y later here)
  ]

  kept_mapped_by : (b : Bool) (keeps : Y → Bool) (f : X → Y) (x : X) (xs : List X) → filter keeps (map f xs) ≡ map f (filter (λ z. keeps (f z)) xs)
      → cond b (f x ∷ filter keeps (map f xs)) (filter keeps (map f xs)) ≡ map f (cond b (x ∷ filter (λ z. keeps (f z)) xs) (filter (λ z. keeps (f z)) xs))
  kept_mapped_by true keeps f x xs e = ap (λ (l : List Y). f x ∷ l) e
  kept_mapped_by false keeps f x xs e = e

  -- to map and keep is to keep and map
  pub kept_mapped : (keeps : Y → Bool) (f : X → Y) (xs : List X) → filter keeps (map f xs) ≡ map f (filter (λ z. keeps (f z)) xs)
  kept_mapped keeps f [] = refl
  kept_mapped keeps f (x ∷ xs) = kept_mapped_by (keeps (f x)) keeps f x xs (kept_mapped keeps f xs)

  -- where at most n are made of each, a list is flattened to at most n times its length
  pub flattened_not_longer : (f : X → List Y) (n : ℕ) (xs : List X) → ((x : X) → length (f x) ≤ n) → length (flat_map f xs) ≤ length xs * n
  flattened_not_longer f n xs few =
      let long = length-flat_map f xs in
      let most = sum_by-le (λ (x : X). length (f x)) n xs (λ k d low. few (get_or xs k d)) in
      omega arith

  -- where one is kept of what is made of each, as many are kept as there are
  pub one_of_each : (f : X → List Y) (keeps : Y → Bool) (xs : List X) → ((x : X) → length (filter keeps (f x)) ≡ 1) → length (filter keeps (flat_map f xs)) ≡ length xs
  one_of_each f keeps [] one = refl
  one_of_each f keeps (x ∷ xs) one =
      let parts = ap (λ (l : List Y). length l) (filter-append keeps (f x) (flat_map f xs)) in
      let both = length-append (filter keeps (f x)) (filter keeps (flat_map f xs)) in
      let here = one x in
      let rest = one_of_each f keeps xs one in
      omega arith

module _ {Y : Type 0} (f : ℕ → List Y) (n : ℕ) where
  -- what the lists of the numbers below n contain, one list after the other, is of one of them
  pub before_lists : (y : Y) → Contains (flat_map f (range_with_len 0 n)) y → (k : ℕ) × (k < n) × Contains (f k) y
  before_lists y c =
      let (k, (i, within, is), here) = before_flattened f (range_with_len 0 n) y c in
      let long = length-range_with_len 0 n in
      let at = get_or-range_with_len 0 n i k (omega arith) in
      (k, omega arith, here)

  -- and they contain what each of them does
  pub of_each_list : (k : ℕ) (y : Y) → k < n → Contains (f k) y → Contains (flat_map f (range_with_len 0 n)) y
  of_each_list k y low here =
      let long = length-range_with_len 0 n in
      let at = get_or-range_with_len 0 n k k low in
      flattened_from f (range_with_len 0 n) k y (k, omega arith, omega arith) here

module _ {X : Type 0} (number : X → ℕ) where
  abbrev below : ℕ → List X → List X
  below n xs = filter (λ x. nat_lt (number x) n) xs

  abbrev numbered : ℕ → List X → List X
  numbered n xs = filter (λ x. number x == n) xs

  length_by : (b : Bool) (x : X) (xs : List X) → length (cond b (x ∷ xs) xs) ≡ cond b 1 0 + length xs
  length_by true x xs = omega arith
  length_by false x xs = omega arith

  one_more : (k n : ℕ) → (let m : ℕ = cond (nat_lt k (n + 1)) 1 0 in m) ≡ cond (nat_lt k n) 1 0 + cond (k == n) 1 0
  one_more k n = grind (arith, nat_tests)

  below_more : (n : ℕ) (xs : List X) → length (below (n + 1) xs) ≡ length (below n xs) + length (numbered n xs)
  below_more n [] = refl
  below_more n (x ∷ xs) =
      let all = length_by (nat_lt (number x) (n + 1)) x (below (n + 1) xs) in
      let before = length_by (nat_lt (number x) n) x (below n xs) in
      let here = length_by (number x == n) x (numbered n xs) in
      let more = one_more (number x) n in
      let rest = below_more n xs in
      omega (arith, all, before, here, more, rest)

  none_below : (xs : List X) → length (below 0 xs) ≡ 0
  none_below [] = refl
  none_below (x ∷ xs) =
      let first = length_by (nat_lt (number x) 0) x (below 0 xs) in
      let rest = none_below xs in
      let no : (let m : ℕ = cond (nat_lt (number x) 0) 1 0 in m) ≡ 0 = grind (arith, nat_tests) in
      omega (arith, first, rest, no)

  few_below : (n most : ℕ) (xs : List X) → ((k : ℕ) → k < n → length (numbered k xs) ≤ most) → length (below n xs) ≤ n * most
  few_below zero most xs few = let none = none_below xs in omega (arith, none)
  few_below (suc n) most xs few =
      let next = ap (λ (k : ℕ). length (below k xs)) (add-one n) in
      let more = below_more n xs in
      let rest = few_below n most xs (λ k low. few k (omega arith)) in
      let here = few n (omega arith) in
      let times = suc-mul n most in
      omega (arith, next, more, rest, here, times)

  all_below : (n : ℕ) (xs : List X) → All (λ x. number x < n) xs → length (below n xs) ≡ length xs
  all_below n [] low = refl
  all_below n (x ∷ xs) low =
      let first = length_by (nat_lt (number x) n) x (below n xs) in
      let rest = all_below n xs (All-tail (λ (y : X). number y < n) x xs low) in
      let here = All-head (λ (y : X). number y < n) x xs low in
      let yes : (let m : ℕ = cond (nat_lt (number x) n) 1 0 in m) ≡ 1 = grind (arith, nat_tests) in
      omega (arith, first, rest, yes)

  -- where each element has a number below n, and at most so many have each number, there are at most n times as many
  pub not_more : (n most : ℕ) (xs : List X) → All (λ x. number x < n) xs → ((k : ℕ) → k < n → length (numbered k xs) ≤ most) → length xs ≤ n * most
  not_more n most xs low few =
      let all = all_below n xs low in
      let least = few_below n most xs few in
      omega (arith, all, least)
