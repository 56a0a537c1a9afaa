-- Places in a list, and its parts before and after them.
use Rattle.std.proofs.Common.{◌≡◌, ◌+◌, ℕ, zero, suc, List, [], ◌∷◌, ◌++◌, length, take, drop, Some, None, refl, ◌∙◌, ap, add-one}
use Rattle.std.specs.Prelude.{slice_get}

-- what stands at a place
pub get-at : {X : Type 0} (xs : List X) (i : ℕ) (x : X) (rest : List X) → drop i xs ≡ x ∷ rest → slice_get xs i ≡ Some x
get-at [] zero x rest e = absurd (cc)
get-at [] (suc i) x rest e = absurd (cc)
get-at (y ∷ ys) zero x rest e = cc
get-at (y ∷ ys) (suc i) x rest e = get-at ys i x rest e

-- past the end nothing does
pub get-past : {X : Type 0} (xs : List X) (i : ℕ) → drop i xs ≡ [] → slice_get xs i ≡ None
get-past [] i e = refl
get-past (y ∷ ys) zero e = absurd (cc)
get-past (y ∷ ys) (suc i) e = get-past ys i e

-- a list is what stands before a place, at it and after it
pub cut-at : {X : Type 0} (xs : List X) (i : ℕ) (x : X) → slice_get xs i ≡ Some x → xs ≡ take i xs ++ x ∷ drop (i + 1) xs
cut-at [] i x e = absurd (cc)
cut-at (y ∷ ys) zero x e = cc
cut-at (y ∷ ys) (suc i) x e = rw (add-one (suc i)) (ap (λ zs. y ∷ zs) (cut-at ys i x e ∙ ap (λ n. take i ys ++ x ∷ drop n ys) (add-one i)))

-- behind a list
pub get-behind : {X : Type 0} (xs : List X) (x : X) (ys : List X) → slice_get (xs ++ x ∷ ys) (length xs) ≡ Some x
get-behind [] x ys = refl
get-behind (z ∷ zs) x ys = get-behind zs x ys

pub take-front : {X : Type 0} (xs ys : List X) → take (length xs) (xs ++ ys) ≡ xs
take-front [] ys = refl
take-front (z ∷ zs) ys = ap (λ t. z ∷ t) (take-front zs ys)

pub drop-front : {X : Type 0} (xs : List X) (x : X) (ys : List X) → drop (suc (length xs)) (xs ++ x ∷ ys) ≡ ys
drop-front [] x ys = refl
drop-front (z ∷ zs) x ys = drop-front zs x ys

pub take-all : {X : Type 0} (xs : List X) → take (length xs) xs ≡ xs
take-all [] = refl
take-all (x ∷ xs) = ap (λ t. x ∷ t) (take-all xs)
