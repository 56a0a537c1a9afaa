-- The first place that passes a test, for a loop that looks for it.
use Rattle.std.proofs.Common.{◌≡◌, inl, inr, ℕ, ◌<◌, ◌≤◌, Bool, true, false, List, [], ◌∷◌, Some, None, length, get_or, map, refl, arith}
use Rattle.std.specs.List.{list_any, position, position_or_len}
use Rattle.std.proofs.lemmas.Bool.{cases_Bool, lt-ltb, le-ltb}
use Rattle.std.proofs.lemmas.List.Sums.{position_or_len_is}

pub some_of : {X : Type 0} (x y : X) → Some x ≡ Some y → x ≡ y
some_of x y e = cc

-- a loop found it
pub position-at : {X : Type 0} (p : X → Bool) (xs : List X) (i : ℕ) (d : X) → i < length xs → ((k : ℕ) → k < i → p (get_or xs k d) ≡ false) → p (get_or xs i d) ≡ true → Some i ≡ position p xs
position-at p xs i d within before here =
    let within_or_end : i ≤ length xs = omega arith in
    let first : position_or_len p xs ≡ i = position_or_len_is p xs i d within_or_end before (λ _. here) in
    let test = lt-ltb i (length xs) within in
    rw (first, test) refl

-- a loop found none
pub position-none : {X : Type 0} (p : X → Bool) (xs : List X) (i : ℕ) (d : X) → length xs ≤ i → ((k : ℕ) → k < i → p (get_or xs k d) ≡ false) → None ≡ position p xs
position-none p xs i d past before =
    let none : position_or_len p xs ≡ length xs = position_or_len_is p xs (length xs) d (omega arith) (λ k h. before k (omega arith)) (λ h. absurd (omega arith)) in
    let test = le-ltb (length xs) (length xs) (omega arith) in
    rw (none, test) refl

-- the same places in a list that is made of another
pub position_or_len-map : {X Y : Type 0} (p : Y → Bool) (f : X → Y) (xs : List X) → position_or_len p (map f xs) ≡ position_or_len (λ x. p (f x)) xs
position_or_len-map p f [] = refl
position_or_len-map p f (x ∷ xs) = rw (position_or_len-map p f xs) refl

pub list_any-map : {X Y : Type 0} (p : Y → Bool) (f : X → Y) (xs : List X) → list_any p (map f xs) ≡ list_any (λ x. p (f x)) xs
list_any-map p f [] = refl
list_any-map p f (x ∷ xs) = rw (list_any-map p f xs) refl

-- some element passes exactly where the first place is within the list
pub place-within : {X : Type 0} (p : X → Bool) (xs : List X) → list_any p xs ≡ true → position_or_len p xs < length xs
place-within p [] h = cc
place-within p (x ∷ xs) h = elim (cases_Bool (p x)) [
  | inl e ↦ rw e (omega arith)
  | inr e ↦ let rest = place-within p xs (rw e at h) in rw e (omega arith)
]

pub place-past : {X : Type 0} (p : X → Bool) (xs : List X) → list_any p xs ≡ false → position_or_len p xs ≡ length xs
place-past p [] h = refl
place-past p (x ∷ xs) h = elim (cases_Bool (p x)) [
  | inl e ↦ let no = rw e at h in cc
  | inr e ↦ let rest = place-past p xs (rw e at h) in rw e (omega arith)
]

-- what a look-up by a test says
pub place-found : {X : Type 0} (p : X → Bool) (xs : List X) (i : ℕ) → Some i ≡ position p xs → (i ≡ position_or_len p xs) × (list_any p xs ≡ true)
place-found p xs i e = elim (cases_Bool (list_any p xs)) [
  | inl h ↦
      let test = lt-ltb (position_or_len p xs) (length xs) (place-within p xs h) in
      let found : Some i ≡ Some (position_or_len p xs) = rw test at e in
      (cc, h)
  | inr h ↦
      let test = le-ltb (position_or_len p xs) (length xs) (omega (arith, place-past p xs h)) in
      let found : Some i ≡ None = rw test at e in
      cc
]

pub place-missing : {X : Type 0} (p : X → Bool) (xs : List X) → position p xs ≡ None → (position_or_len p xs ≡ length xs) × (list_any p xs ≡ false)
place-missing p xs e = elim (cases_Bool (list_any p xs)) [
  | inl h ↦
      let test = lt-ltb (position_or_len p xs) (length xs) (place-within p xs h) in
      let found : Some (position_or_len p xs) ≡ None = rw test at e in
      cc
  | inr h ↦ (place-past p xs h, h)
]
