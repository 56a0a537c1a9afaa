-- Which of a key's operations count while they come in, and the score of those that do.
use Rattle.std.specs.Prelude.{ℕ, ◌==◌, ◌&&◌, ◌||◌, Bool, not, List, ◌∷◌, filter, count_by, Option, Some, None}
use Rattle.std.specs.List.{list_any}
use Rattle.stale_model.specs.declared.Op.{Op}
use Rattle.stale_model.specs.Operations.{initial_write, is_write}
use Rattle.stale_model.specs.LeastDelta.{IsLeastDelta, HasNoDelta}

-- whether one of the operations that came in writes this value
abbrev pub is_written : List Op → ℕ → Bool
is_written fed value = list_any (λ a. is_write a && (a.value == value)) fed

-- whether an operation counts: each write, each read of absent, and each read whose write came in
abbrev pub counts : List Op → Op → Bool
counts fed a = is_write a || (a.value == 0) || is_written fed a.value

-- the operations that count, in the order in which they came in, behind the initial write
abbrev pub counted : List Op → List Op
counted fed = initial_write ∷ filter (counts fed) fed

-- how many reads wait for their write
abbrev pub waiting : List Op → ℕ
waiting fed = count_by (λ a. not (counts fed a)) fed

-- the score of the operations that came in: the least Δ of those that count, or none where they have none
abbrev pub IsScore : List Op → Option ℕ → Type 0
IsScore fed None = HasNoDelta (counted fed) 1
IsScore fed (Some d) = IsLeastDelta (counted fed) 1 d
