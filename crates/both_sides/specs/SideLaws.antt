-- What the precedence with both ends moved is: that of later finishes, and that of greater slacks.
use Rattle.std.specs.Prelude.{ℕ, ◌+◌, ◌==◌, ◌↔◌, if◌then◌else◌, List, map, Contains}
use Rattle.stale_model.specs.declared.Op.{Op}
use Rattle.stale_model.specs.declared.KeyOps.{KeyOps}
use Rattle.stale_model.specs.Operations.{operations}
use Rattle.stale_model.specs.Valid.{IsValidKey}
use Rattle.stale_model.specs.Precedence.{Precedes}
use Rattle.stale_model.specs.Orders.{IsOrder}
use Rattle.stale_model.specs.Sides.{IsBeforeOnBothSides, IsSideOrder}
use Rattle.both_sides.specs.Raised.{raised, raised_ops}

-- the operation with its slack greater by g; the initial write stays
abbrev pub widened : ℕ → Op → Op
widened g a = record { rec = a.rec; client = a.client; kind = a.kind; value = a.value; start = a.start; finish = a.finish; slack = if a.rec == 0 then a.slack else a.slack + g }

-- the operations with every recorded slack greater by g
abbrev pub widened_ops : ℕ → List Op → List Op
widened_ops g ops = map (widened g) ops

-- among the operations of a key, a is before b on both sides at g exactly where a precedes b at 0 once every slack is greater by g
abbrev pub SidesAreSlack : Type 0
SidesAreSlack = (key : KeyOps) (g : ℕ) (a b : Op) → IsValidKey key → Contains (operations key) a → Contains (operations key) b
    → IsBeforeOnBothSides g a b ↔ Precedes 0 (widened g a) (widened g b)

-- and exactly where it does once every finish is later by 2g
abbrev pub SidesAreLaterFinishes : Type 0
SidesAreLaterFinishes = (key : KeyOps) (g : ℕ) (a b : Op) → IsValidKey key → Contains (operations key) a → Contains (operations key) b
    → IsBeforeOnBothSides g a b ↔ Precedes 0 (raised (g + g) a) (raised (g + g) b)

-- a side order at g is an atomic order once every slack is greater by g: `sides` is the least further slack that makes the key atomic
abbrev pub SideOrdersAreOrdersOfSlack : Type 0
SideOrdersAreOrdersOfSlack = (key : KeyOps) (g : ℕ) (order : List ℕ) → IsValidKey key
    → IsSideOrder (operations key) g order ↔ IsOrder (widened_ops g (operations key)) 0 1 order

-- and once every finish is later by 2g
abbrev pub SideOrdersAreOrdersOfLaterFinishes : Type 0
SideOrdersAreOrdersOfLaterFinishes = (key : KeyOps) (g : ℕ) (order : List ℕ) → IsValidKey key
    → IsSideOrder (operations key) g order ↔ IsOrder (raised_ops (g + g) (operations key)) 0 1 order
