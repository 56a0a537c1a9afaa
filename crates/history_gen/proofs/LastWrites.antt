-- What the last three writes of a key tell.
use Rattle.std.proofs.Common.{◌≡◌, ℕ, zero, suc, ◌<◌, ◌≤◌, List, [], ◌∷◌, ◌++◌, length, take, replicate, get_or, subst, sym, refl, arith}
use Rattle.std.proofs.lemmas.List.{length-replicate, get_or-replicate, get_or_past}
use Rattle.history_gen.specs.LastWrites.{AreLastThree, AreLastWrites}

get_or-take_three : (values : List ℕ) (j : ℕ) → j < 3 → get_or (take 3 (values ++ 0 ∷ 0 ∷ 0 ∷ [])) j 0 ≡ get_or values j 0
get_or-take_three [] zero lt = refl
get_or-take_three [] (suc zero) lt = refl
get_or-take_three [] (suc (suc zero)) lt = refl
get_or-take_three (a ∷ values) zero lt = refl
get_or-take_three (a ∷ []) (suc zero) lt = refl
get_or-take_three (a ∷ []) (suc (suc zero)) lt = refl
get_or-take_three (a ∷ b ∷ values) (suc zero) lt = refl
get_or-take_three (a ∷ b ∷ []) (suc (suc zero)) lt = refl
get_or-take_three (a ∷ b ∷ c ∷ values) (suc (suc zero)) lt = refl
get_or-take_three _ (suc (suc (suc j))) lt = absurd (omega arith)

-- each of the three is the value of its place, or 0
pub get_or-last : (values last : List ℕ) (j : ℕ) → AreLastThree values last → j < 3 → get_or last j 0 ≡ get_or values j 0
get_or-last values last j are lt = subst (λ (l : List ℕ). get_or l j 0 ≡ get_or values j 0) (sym are.items) (get_or-take_three values j lt)

-- at a 0 the values have ended
pub length_within : (values last : List ℕ) (j : ℕ) → AreLastThree values last → j < 3 → get_or last j 0 ≡ 0 → length values ≤ j
length_within values last j are lt none = grind (arith, get_or-last values last j are lt, are.positive j 0)

-- where there is no 0, a value stands
pub length_above : (values last : List ℕ) (j : ℕ) → AreLastThree values last → j < 3 → (get_or last j 0 ≡ 0 → ⊥) → j < length values
length_above values last j are lt some = grind (arith, get_or-last values last j are lt, get_or_past values j 0)

none_written : AreLastThree [] (0 ∷ 0 ∷ 0 ∷ [])
none_written = record { items = refl; positive = λ k d lt. absurd (omega arith) }

-- before the first line no key has a write
pub no_writes : (keys : ℕ) → AreLastWrites [] (replicate keys (0 ∷ 0 ∷ 0 ∷ []))
no_writes keys key lt =
    let none : List ℕ = 0 ∷ 0 ∷ 0 ∷ [] in
    let size : length (replicate keys none) ≡ keys = length-replicate keys none in
    let there : key < keys = omega arith in
    subst (AreLastThree []) (sym (get_or-replicate keys key none [] there)) none_written
