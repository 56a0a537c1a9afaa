-- What holds place by place of two lists, with one more of each.
use Rattle.std.proofs.Common.{◌≡◌, ℕ, zero, suc, ◌+◌, ◌<◌, List, [], ◌∷◌, ◌++◌, length, map, take, drop, get_or, refl, ap, sym, ◌∙◌, subst, inl, inr, arith}
use Rattle.std.specs.List.{AllZip}
use Rattle.std.proofs.lemmas.Bool.{cases_lt}
use Rattle.std.proofs.lemmas.List.{get_or_append_left, get_or_push, take_more}
use Rattle.bench_run.proofs.Openings.{at_place}

-- one more of both lists
zip_push : {A B : Type 0} (R : A → B → Type 0) (xs : List A) (ys : List B) (x : A) (y : B) → AllZip R xs ys → R x y → AllZip R (xs ++ x ∷ []) (ys ++ y ∷ [])
zip_push R [] [] x y zip here = (here, zip)
zip_push R [] (b ∷ ys) x y zip here = absurd zip
zip_push R (a ∷ xs) [] x y zip here = absurd zip
zip_push R (a ∷ xs) (b ∷ ys) x y zip here = (zip.0, zip_push R xs ys x y zip.1 here)

-- both are as long
pub zip_length : {A B : Type 0} (R : A → B → Type 0) (xs : List A) (ys : List B) → AllZip R xs ys → length ys ≡ length xs
zip_length R [] [] zip = refl
zip_length R [] (b ∷ ys) zip = absurd zip
zip_length R (a ∷ xs) [] zip = absurd zip
zip_length R (a ∷ xs) (b ∷ ys) zip = ap suc (zip_length R xs ys zip.1)

-- what holds at a place
pub zip_at : {A B : Type 0} (R : A → B → Type 0) (xs : List A) (ys : List B) (i : ℕ) (d : A) (e : B) → AllZip R xs ys → i < length xs → R (get_or xs i d) (get_or ys i e)
zip_at R [] ys i d e zip less = absurd (omega arith)
zip_at R (a ∷ xs) [] i d e zip less = absurd zip
zip_at R (a ∷ xs) (b ∷ ys) zero d e zip less = zip.0
zip_at R (a ∷ xs) (b ∷ ys) (suc i) d e zip less = zip_at R xs ys i d e zip.1 (omega arith)

-- what holds at a place of the second list alone
pub zip_right : {A B : Type 0} (R : A → B → Type 0) (Q : B → Type 0) → ((x : A) (y : B) → R x y → Q y) → (xs : List A) (ys : List B) (i : ℕ) (e : B) → AllZip R xs ys → i < length xs
    → Q (get_or ys i e)
zip_right R Q says [] ys i e zip less = absurd (omega arith)
zip_right R Q says (a ∷ xs) [] i e zip less = absurd zip
zip_right R Q says (a ∷ xs) (b ∷ ys) zero e zip less = says a b zip.0
zip_right R Q says (a ∷ xs) (b ∷ ys) (suc i) e zip less = zip_right R Q says xs ys i e zip.1 (omega arith)

-- what a loop over a list, which changes each element, made of the elements so far
pub made_more : {A B : Type 0} (R : A → B → Type 0) (f : A → A) (xs now : List A) (ys : List B) (i : ℕ) (d : A) (y : B) → i < length xs
    → now ≡ map f (take i xs) ++ drop i xs → R (get_or now i d) y → AllZip R (take i xs) ys → AllZip R (take (i + 1) xs) (ys ++ y ∷ [])
made_more {A = A} R f xs now ys i d y less is here zip =
    let same : get_or now i d ≡ get_or xs i d = ap (λ (l : List A). get_or l i d) is ∙ at_place f xs i d less in
    subst (λ (l : List A). AllZip R l (ys ++ y ∷ [])) (sym (take_more xs i d less))
    (zip_push R (take i xs) ys (get_or xs i d) y zip (subst (λ (v : A). R v y) same here))

-- what holds at each place of two lists, after one more of each
pub pairs_more : {A B : Type 0} (P : ℕ → A → B → Type 0) (xs : List A) (ys : List B) (x : A) (y : B) (n : ℕ) → length xs ≡ n → length ys ≡ n
    → ((k : ℕ) (d : A) (e : B) → k < n → P k (get_or xs k d) (get_or ys k e)) → P n x y
    → (k : ℕ) (d : A) (e : B) → k < n + 1 → P k (get_or (xs ++ x ∷ []) k d) (get_or (ys ++ y ∷ []) k e)
pairs_more {A = A} {B = B} P xs ys x y n longx longy each here k d e less = elim (cases_lt k n) [
  | inl below ↦
      subst (λ (b : B). P k (get_or (xs ++ x ∷ []) k d) b) (sym (get_or_append_left ys (y ∷ []) e k (omega (arith, longy))))
      (subst (λ (a : A). P k a (get_or ys k e)) (sym (get_or_append_left xs (x ∷ []) d k (omega (arith, longx)))) (each k d e below))
  | inr above ↦
      let same : n ≡ k = omega arith in
      subst (λ (j : ℕ). P j (get_or (xs ++ x ∷ []) j d) (get_or (ys ++ y ∷ []) j e)) same
      (subst (λ (b : B). P n (get_or (xs ++ x ∷ []) n d) b) (sym (get_or_push ys y e n longy))
      (subst (λ (a : A). P n a y) (sym (get_or_push xs x d n longx)) here))
]
