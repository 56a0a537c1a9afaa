-- Serves the code alone: the answer to an operation, by the record of its value's write, and how many reads wait then.
use Rattle.std.specs.Prelude.{ℕ, ◌+◌, ◌-◌, Option, Some, None}
use Rattle.stale_model.specs.declared.Kind.{Kind}
use Rattle.stale_model.specs.declared.Kind.TheVariants.{Read, Write}
use Rattle.live_score.specs.declared.live.Fed.{Fed}
use Rattle.live_score.specs.declared.live.Fed.TheVariants.{Counted, Waiting, Duplicate}

-- the answer to an operation of this kind, where its value has this write
abbrev pub answer_of : Kind → Option ℕ → Fed
answer_of Read None = Waiting
answer_of Read (Some rec) = Counted
answer_of Write None = Counted
answer_of Write (Some rec) = Duplicate rec

-- how many reads wait after an operation of this kind that is taken in, where as many operations have its value
abbrev pub waiting_after : Kind → Option ℕ → ℕ → ℕ → ℕ
waiting_after Read None waiting count = waiting + 1
waiting_after Read (Some rec) waiting count = waiting
waiting_after Write write waiting count = waiting - count
