-- Operations in the order in which a verdict lists their records.
use Rattle.std.specs.Prelude.{◌≡◌, ℕ, ◌^◌, ◌<◌, List}
use Rattle.std.specs.List.Sorted.{IsPermutation}
use Rattle.stale_model.specs.declared.Op.{Op}
use Rattle.stale_model.specs.Operations.{records_of, latest_finish}
use Rattle.stale_model.specs.Orders.{StandsAt}
use Rattle.stale_model.specs.Precedence.{Precedes}

-- the operations, each once, as their records stand in the order
pub record AreInOrder (ops : List Op) (order : List ℕ) (ordered : List Op) : Type 0 where
  pub each_once : IsPermutation ops ordered
  pub records : order ≡ records_of ordered

-- the latest finish fits 64 bits, as that of an open write does too: it is at most 2^63 and a slack
abbrev pub FinishFits : Op → Type 0
FinishFits a = latest_finish a < 2 ^ 64

-- what precedes another at d, itself included, stands before it
abbrev pub ExtendsPrecedence : ℕ → List Op → Type 0
ExtendsPrecedence d ordered = (place later : ℕ) (a b : Op) → StandsAt ordered place a → StandsAt ordered later b → Precedes d a b → place < later
