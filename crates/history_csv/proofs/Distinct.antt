-- Distinct names in order of first appearance, one more name at a time.
use Rattle.std.proofs.Common.{◌≡◌, ℕ, Bool, true, false, not, ◌&&◌, ◌||◌, List, [], ◌∷◌, ◌++◌, filter, refl, sym, ◌∙◌, ap, inl, inr}
use Rattle.std.proofs.lemmas.Bool.{cases_Bool}
use Rattle.std.proofs.lemmas.List.{append-nil}
use Rattle.std.proofs.lemmas.List.Elements.{filter-append}
use Rattle.std.proofs.lemmas.Map.Views.{any-filter_same}
use Rattle.std.proofs.lemmas.Slice.Eq.{bytes_eq-Decides}
use Rattle.std.specs.Cmp.Lexicographic.{nat_list_eq_equiv}
use Rattle.std.specs.List.{list_any}
use Rattle.std.specs.Str.{bytes_eq}
use Rattle.history_csv.specs.Numbering.{distinct}
use Rattle.history_csv.specs.Building.{with_text}

pub bytes_eq-itself : (a : List ℕ) → bytes_eq a a ≡ true
bytes_eq-itself a = nat_list_eq_equiv.refl a

pub bytes_eq-flip : (a b : List ℕ) → bytes_eq a b ≡ bytes_eq b a
bytes_eq-flip a b = nat_list_eq_equiv.symm a b

pub same_text : (a b : List ℕ) → bytes_eq a b ≡ true → a ≡ b
same_text a b h = (bytes_eq-Decides a b).0 h

-- a text that differs from a name is among the others exactly where it was there
others-any : (t n : List ℕ) (xs : List (List ℕ)) → list_any (bytes_eq t) (filter (λ o. not (bytes_eq n o)) xs) ≡ (not (bytes_eq n t) && list_any (bytes_eq t) xs)
others-any t n xs =
    any-filter_same (bytes_eq t) (λ o. not (bytes_eq n o)) (not (bytes_eq n t)) (λ k h. ap (λ z. not (bytes_eq n z)) (sym (same_text t k h))) xs

-- the distinct names are the same names
pub any-distinct : (t : List ℕ) (ns : List (List ℕ)) → list_any (bytes_eq t) (distinct ns) ≡ list_any (bytes_eq t) ns
any-distinct t [] = refl
any-distinct t (n ∷ ns) = elim (cases_Bool (bytes_eq t n)) [
  | inl h ↦ rw h refl
  | inr h ↦
      let flipped = bytes_eq-flip n t ∙ h in
      let others = others-any t n (distinct ns) in
      rw (h, others, flipped) (any-distinct t ns)
]

with_text-there : (xs : List (List ℕ)) (t : List ℕ) → list_any (bytes_eq t) xs ≡ true → with_text xs t ≡ xs
with_text-there xs t h = rw h refl

with_text-new : (xs : List (List ℕ)) (t : List ℕ) → list_any (bytes_eq t) xs ≡ false → with_text xs t ≡ xs ++ t ∷ []
with_text-new xs t h = rw h refl

or-true : (a b : Bool) → b ≡ true → (a || b) ≡ true
or-true true b h = refl
or-true false b h = h

-- one more name goes to the end, unless it is there
pub distinct-push : (ns : List (List ℕ)) (t : List ℕ) → distinct (ns ++ t ∷ []) ≡ with_text (distinct ns) t
distinct-push [] t = refl
distinct-push (n ∷ ns) t =
    let others : List (List ℕ) → List (List ℕ) = filter (λ o. not (bytes_eq n o)) in
    elim (cases_Bool (list_any (bytes_eq t) ns)) [
      | inl h ↦
          let same : distinct (ns ++ t ∷ []) ≡ distinct ns = distinct-push ns t ∙ with_text-there (distinct ns) t (any-distinct t ns ∙ h) in
          ap (λ l. n ∷ others l) same ∙ sym (with_text-there (distinct (n ∷ ns)) t (any-distinct t (n ∷ ns) ∙ or-true (bytes_eq t n) _ h))
      | inr h ↦
          let more : distinct (ns ++ t ∷ []) ≡ distinct ns ++ t ∷ [] = distinct-push ns t ∙ with_text-new (distinct ns) t (any-distinct t ns ∙ h) in
          ap (λ l. n ∷ others l) more ∙ ap (λ l. n ∷ l) (filter-append (λ o. not (bytes_eq n o)) (distinct ns) (t ∷ [])) ∙ elim (cases_Bool (bytes_eq t n)) [
            | inl e ↦
                let flipped = bytes_eq-flip n t ∙ e in
                let there : list_any (bytes_eq t) (distinct (n ∷ ns)) ≡ true = rw e refl in
                rw (flipped, append-nil (others (distinct ns))) (sym (with_text-there (distinct (n ∷ ns)) t there))
            | inr e ↦
                let flipped = bytes_eq-flip n t ∙ e in
                let new : list_any (bytes_eq t) (distinct (n ∷ ns)) ≡ false = any-distinct t (n ∷ ns) ∙ rw (e, h) refl in
                rw flipped (sym (with_text-new (distinct (n ∷ ns)) t new))
          ]
    ]
