-- What a list of places has once one place is taken from it.
use Rattle.std.proofs.Common.{◌≡◌, ℕ, ◌+◌, Bool, true, false, List, [], ◌∷◌, length, refl, ap, ◌∙◌, inl, inr, sym, subst, arith}
use Rattle.std.specs.Prelude.{◌||◌, ◌==◌, ◌⊎◌}
use Rattle.std.proofs.lemmas.Bool.{cases_eq, eqb-true, eq-eqb, eqb-false, ne_eqb, or_cases, or_parts, or_from, or_left, or_right, both_ways}
use Rattle.lbt_epochs.specs.Links.{has, without, AreApart}

-- a list has a place in front or behind
pub has_cases : (y : ℕ) (ys : List ℕ) (x : ℕ) → has (y ∷ ys) x ≡ true → (y ≡ x) ⊎ (has ys x ≡ true)
has_cases y ys x h = elim (or_cases _ _ h) [ inl e ↦ inl (eqb-true y x e) | inr r ↦ inr r ]

pub has_front : (y : ℕ) (ys : List ℕ) → has (y ∷ ys) y ≡ true
has_front y ys = or_left _ _ (eq-eqb y y refl)

pub has_behind : (y : ℕ) (ys : List ℕ) (x : ℕ) → has ys x ≡ true → has (y ∷ ys) x ≡ true
has_behind y ys x h = or_right _ _ h

-- what a list lacks, its front isn't, and its rest lacks
pub lacks_front : (y : ℕ) (ys : List ℕ) (x : ℕ) → has (y ∷ ys) x ≡ false → y ≡ x → ⊥
lacks_front y ys x h e = eqb-false y x (or_parts _ _ h).0 e

pub lacks_behind : (y : ℕ) (ys : List ℕ) (x : ℕ) → has (y ∷ ys) x ≡ false → has ys x ≡ false
lacks_behind y ys x h = (or_parts _ _ h).1

pub lacks_cons : (y : ℕ) (ys : List ℕ) (x : ℕ) → (y ≡ x → ⊥) → has ys x ≡ false → has (y ∷ ys) x ≡ false
lacks_cons y ys x apart h = or_from _ _ (ne_eqb y x apart) h

-- what holds of a place holds of one that equals it
pub has_at : (xs : List ℕ) (x y : ℕ) → x ≡ y → has xs y ≡ true → has xs x ≡ true
has_at xs x y e h = let P : ℕ → Type 0 = λ z. has xs z ≡ true in subst P (sym e) h

pub lacks_at : (xs : List ℕ) (x y : ℕ) → x ≡ y → has xs y ≡ false → has xs x ≡ false
lacks_at xs x y e h = let P : ℕ → Type 0 = λ z. has xs z ≡ false in subst P (sym e) h

-- a place that is had differs from one that is lacked
pub had_not_lacked : (xs : List ℕ) (x y : ℕ) → has xs x ≡ true → has xs y ≡ false → y ≡ x → ⊥
had_not_lacked xs x y h n e = both_ways (has xs x) (lacks_at xs x y (sym e) n) h

pub without_front : (x : ℕ) (xs : List ℕ) → without x (x ∷ xs) ≡ without x xs
without_front x xs = rw (eq-eqb x x refl) refl

pub without_other : (x y : ℕ) (ys : List ℕ) → (x ≡ y → ⊥) → without x (y ∷ ys) ≡ y ∷ without x ys
without_other x y ys apart = rw (ne_eqb x y apart) refl

-- a list that lacks a place is the same without it
pub without_lacked : (x : ℕ) (xs : List ℕ) → has xs x ≡ false → without x xs ≡ xs
without_lacked x [] h = refl
without_lacked x (y ∷ ys) h =
    let e = without_other x y ys (λ s. lacks_front y ys x h (rw s refl)) in
    rw e (ap (λ l. y ∷ l) (without_lacked x ys (lacks_behind y ys x h)))

or_false : (a b : Bool) → a ≡ false → (a || b) ≡ b
or_false a b e = rw e refl

pub without_lacks : (x : ℕ) (xs : List ℕ) → has (without x xs) x ≡ false
without_lacks x [] = refl
without_lacks x (y ∷ ys) = elim (cases_eq x y) [
  | inl e ↦ let P : ℕ → Type 0 = λ z. has (without x (z ∷ ys)) x ≡ false in subst P e (ap (λ l. has l x) (without_front x ys) ∙ without_lacks x ys)
  | inr n ↦ ap (λ l. has l x) (without_other x y ys n) ∙ lacks_cons y (without x ys) x (λ e. n (sym e)) (without_lacks x ys)
]

-- another place is had as before
pub has_without : (x : ℕ) (xs : List ℕ) (z : ℕ) → (x ≡ z → ⊥) → has (without x xs) z ≡ has xs z
has_without x [] z n = refl
has_without x (y ∷ ys) z n = elim (cases_eq x y) [
  | inl e ↦
      let P : ℕ → Type 0 = λ k. has (without x (k ∷ ys)) z ≡ has (k ∷ ys) z in
      subst P e (ap (λ l. has l z) (without_front x ys) ∙ (has_without x ys z n ∙ sym (or_false _ _ (ne_eqb x z n))))
  | inr m ↦ ap (λ l. has l z) (without_other x y ys m) ∙ ap (λ b. (y == z) || b) (has_without x ys z n)
]

pub without_differs : (x : ℕ) (xs : List ℕ) (z : ℕ) → has (without x xs) z ≡ true → x ≡ z → ⊥
without_differs x xs z h e = had_not_lacked (without x xs) z x h (without_lacks x xs) e

-- what a list without a place has, the list has
pub has_from_without : (x : ℕ) (xs : List ℕ) (z : ℕ) → has (without x xs) z ≡ true → has xs z ≡ true
has_from_without x xs z h = sym (has_without x xs z (without_differs x xs z h)) ∙ h

pub AreApart-without : (x : ℕ) (xs : List ℕ) → AreApart xs → AreApart (without x xs)
AreApart-without x [] a = tt
AreApart-without x (y ∷ ys) a = elim (cases_eq x y) [
  | inl e ↦ let P : ℕ → Type 0 = λ k. AreApart (without x (k ∷ ys)) in subst P e (subst AreApart (sym (without_front x ys)) (AreApart-without x ys a.1))
  | inr n ↦ subst AreApart (sym (without_other x y ys n)) (has_without x ys y n ∙ a.0, AreApart-without x ys a.1)
]

-- a list without one of its places is one shorter
pub length-without : (x : ℕ) (xs : List ℕ) → AreApart xs → has xs x ≡ true → length (without x xs) + 1 ≡ length xs
length-without x [] a h = absurd (cc)
length-without x (y ∷ ys) a h = elim (cases_eq x y) [
  | inl e ↦
      let P : ℕ → Type 0 = λ k. length (without x (k ∷ ys)) + 1 ≡ length (y ∷ ys) in
      let l : without x ys ≡ ys = without_lacked x ys (lacks_at ys x y e a.0) in
      subst P e (rw (without_front x ys, l) (omega arith))
  | inr n ↦
      let r : has ys x ≡ true = elim (has_cases y ys x h) [ inl e ↦ absurd (n (sym e)) | inr r ↦ r ] in
      let s = length-without x ys a.1 r in
      rw (without_other x y ys n) (omega arith)
]
