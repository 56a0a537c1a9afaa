-- Precedence with both ends of every recorded operation moved: a form of our own, after Γ (Golab, Rahman and others 2014), which also moves both.
use Rattle.std.specs.Prelude.{ℕ, ◌+◌, ◌<◌, List, Contains}
use Rattle.stale_model.specs.declared.Op.{Op}
use Rattle.stale_model.specs.Operations.{records_of, earliest_start, latest_finish}
use Rattle.stale_model.specs.Faults.{IsWriteOf, IsReadIn}
use Rattle.stale_model.specs.Orders.{StandsBefore, ListsEachOnce, IsAmongLast}

-- a before b on both sides at g: hi a + g < lo b - g; the initial write, which has no clock and isn't moved, is before all others, and nothing is before it
pub record IsBeforeOnBothSides (g : ℕ) (a b : Op) : Type 0 where
  pub recorded : 0 < b.rec
  pub apart : 0 < a.rec → latest_finish a + g + g < earliest_start b

-- an order of all operations that extends this precedence, in which each read returns the last write before it
pub record IsSideOrder (ops : List Op) (g : ℕ) (order : List ℕ) : Type 0 where
  pub each_once : ListsEachOnce (records_of ops) order
  pub extends : (a b : Op) → Contains ops a → Contains ops b → IsBeforeOnBothSides g a b → StandsBefore order a.rec b.rec
  pub returns : (r : Op) → IsReadIn ops r → (w : Op) × IsWriteOf ops r.value w × IsAmongLast ops 1 order w r

-- g is the least at which there is one
pub record IsLeastSides (ops : List Op) (g : ℕ) : Type 0 where
  pub there : (order : List ℕ) × IsSideOrder ops g order
  pub least : (e : ℕ) → e < g → (order : List ℕ) → IsSideOrder ops e order → ⊥
