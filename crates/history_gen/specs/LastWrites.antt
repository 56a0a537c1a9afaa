-- What is kept of the writes to each key.
use Rattle.std.specs.Prelude.{◌≡◌, ℕ, ◌<◌, List, [], ◌∷◌, ◌++◌, length, take, get_or, All}
use Rattle.stale_model.specs.declared.Line.{Line}
use Rattle.history_gen.specs.Generated.{values_written}

-- the first three of these values, none of which is 0, and 0 for each that is missing
pub record AreLastThree (values last : List ℕ) : Type 0 where
  pub items : last ≡ take 3 (values ++ 0 ∷ 0 ∷ 0 ∷ [])
  pub positive : All (λ v. 0 < v) values

-- the last three values that these lines wrote to each key, by the number of the key
abbrev pub AreLastWrites : List Line → List (List ℕ) → Type 0
AreLastWrites lines last_writes = (key : ℕ) → key < length last_writes → AreLastThree (values_written key lines) (get_or last_writes key [])
