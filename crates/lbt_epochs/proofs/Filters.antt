-- Filters of lists, and of filtered and mapped lists.
use Rattle.std.proofs.Common.{◌≡◌, ◌⊎◌, ℕ, ◌+◌, ◌<◌, ◌≤◌, Bool, true, false, ◌&&◌, cond, List, [], ◌∷◌, map, length, refl, ap, inl, inr, arith}
use Rattle.std.specs.Prelude.{Contains}
use Rattle.std.specs.List.{filter}
use Rattle.stale_model.proofs.Sorted.{first_or_later, contains_later}
use Rattle.stale_model.proofs.Members.{empty_has_none, contains_first, kept_from}

-- each of a list passes a test that is always met
pub filter_all : {X : Type 0} (xs : List X) → filter (λ x. true) xs ≡ xs
filter_all [] = refl
filter_all {X = X} (x ∷ xs) = ap (λ (l : List X). x ∷ l) (filter_all xs)

-- two tests that agree on the elements keep the same
pub filter_within : {X : Type 0} (p q : X → Bool) (xs : List X) → ((x : X) → Contains xs x → p x ≡ q x) → filter p xs ≡ filter q xs
filter_within p q [] h = refl
filter_within p q (x ∷ xs) h =
    let e : p x ≡ q x = h x (contains_first x xs) in
    let rest = filter_within p q xs (λ y c. h y (contains_later x y xs c)) in
    rw (e, rest) refl

twice_by : {X : Type 0} (b c : Bool) (p : X → Bool) (x : X) (ys zs : List X) → p x ≡ c → filter p ys ≡ zs → filter p (cond b (x ∷ ys) ys) ≡ cond (b && c) (x ∷ zs) zs
twice_by true c p x ys zs e h = rw (e, h) refl
twice_by false c p x ys zs e h = h

-- a filter of a filter
pub filter_twice : {X : Type 0} (p q : X → Bool) (xs : List X) → filter p (filter q xs) ≡ filter (λ x. q x && p x) xs
filter_twice p q [] = refl
filter_twice p q (x ∷ xs) = twice_by (q x) (p x) p x (filter q xs) (filter (λ x. q x && p x) xs) refl (filter_twice p q xs)

mapped_by : {X Y : Type 0} (b : Bool) (f : X → Y) (x : X) (xs : List X) (ys : List Y) → ys ≡ map f xs → cond b (f x ∷ ys) ys ≡ map f (cond b (x ∷ xs) xs)
mapped_by {Y = Y} true f x xs ys e = ap (λ (l : List Y). f x ∷ l) e
mapped_by false f x xs ys e = e

-- a filter of a map
pub filter_mapped : {X Y : Type 0} (p : Y → Bool) (f : X → Y) (xs : List X) → filter p (map f xs) ≡ map f (filter (λ x. p (f x)) xs)
filter_mapped p f [] = refl
filter_mapped p f (x ∷ xs) = mapped_by (p (f x)) f x (filter (λ x. p (f x)) xs) (filter p (map f xs)) (filter_mapped p f xs)

shorter_by : {X : Type 0} (b : Bool) (x : X) (ys : List X) (n : ℕ) → length ys ≤ n → length (cond b (x ∷ ys) ys) ≤ n + 1
shorter_by true x ys n l = omega arith
shorter_by false x ys n l = omega arith

-- a filter is no longer
pub filter_no_longer : {X : Type 0} (p : X → Bool) (xs : List X) → length (filter p xs) ≤ length xs
filter_no_longer p [] = omega arith
filter_no_longer p (x ∷ xs) = let h = shorter_by (p x) x (filter p xs) (length xs) (filter_no_longer p xs) in omega arith

dropped_by : {X : Type 0} (b : Bool) (p : X → Bool) (x y : X) (xs : List X) → p x ≡ b → p y ≡ false → (x ≡ y) ⊎ (length (filter p xs) < length xs) → length (cond b (x ∷ filter p xs) (filter p xs)) < length xs + 1
dropped_by true p x y xs t f (inl e) = cc
dropped_by true p x y xs t f (inr l) = omega arith
dropped_by false p x y xs t f h = let l = filter_no_longer p xs in omega arith

-- a filter that leaves an element out is shorter
pub filter_shorter : {X : Type 0} (p : X → Bool) (xs : List X) (y : X) → Contains xs y → p y ≡ false → length (filter p xs) < length xs
filter_shorter p [] y c f = absurd (empty_has_none y c)
filter_shorter p (x ∷ xs) y c f =
    let h = dropped_by (p x) p x y xs refl f (elim (first_or_later x y xs c) [ inl e ↦ inl e | inr d ↦ inr (filter_shorter p xs y d f) ]) in
    omega arith

fails_by : {X : Type 0} (passes : X → Bool) (xs : List X) (x : X) (b : Bool) → passes x ≡ b → filter passes xs ≡ [] → Contains xs x → passes x ≡ false
fails_by passes xs x true e none c = absurd (empty_has_none x (rw none at (kept_from passes xs x c e)))
fails_by passes xs x false e none c = e

-- where a filter keeps nothing, nothing of the list passes
pub none_passes : {X : Type 0} (passes : X → Bool) (xs : List X) (x : X) → filter passes xs ≡ [] → Contains xs x → passes x ≡ false
none_passes passes xs x none c = fails_by passes xs x (passes x) refl none c
