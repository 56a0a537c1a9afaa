-- A byte and how it is escaped, by cases.
use Rattle.std.proofs.Common.{◌≡◌, ℕ, ◌==◌, if◌then◌else◌, Bool, true, false, List, [], ◌∷◌, codes, refl, sym, subst}
use Rattle.std.proofs.lemmas.Bool.{eqb-true}
use Rattle.element_text.specs.Elements.{escaped_byte}

by_test : (P : ℕ → List ℕ → Type 0) (b m : ℕ) (x y : List ℕ) → P m x → ((b == m) ≡ false → P b y) → P b (if b == m then x else y)
by_test P b m x y same differs = go (b == m) refl
  where
    go : (t : Bool) → (b == m) ≡ t → P b (if t then x else y)
    go true e = subst (λ (n : ℕ). P n x) (sym (eqb-true b m e)) same
    go false e = differs e

-- what is true of the five entities, and of any other byte, is true of each byte
pub by_marks : (P : ℕ → List ℕ → Type 0) → P 38 (codes "&amp;") → P 60 (codes "&lt;") → P 62 (codes "&gt;") → P 34 (codes "&quot;") → P 39 (codes "&apos;")
    → ((b : ℕ) → (b == 38) ≡ false → (b == 60) ≡ false → (b == 62) ≡ false → (b == 34) ≡ false → (b == 39) ≡ false → P b (b ∷ []))
    → (b : ℕ) → P b (escaped_byte b)
by_marks P amp lt gt quot apos other b =
    by_test P b 38 _ _ amp (λ n38. by_test P b 60 _ _ lt (λ n60. by_test P b 62 _ _ gt (λ n62. by_test P b 34 _ _ quot (λ n34. by_test P b 39 _ _ apos (λ n39. other b n38 n60 n62 n34 n39)))))
