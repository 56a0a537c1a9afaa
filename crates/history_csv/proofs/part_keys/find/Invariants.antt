use Rattle.std.proofs.Common.{◌≡◌, ℕ, ◌<◌, false, [], get_or}
use Rattle.std.specs.Str.{bytes_eq}
use Rattle.history_csv.specs.Parting.{slices_shown}
use Rattle.history_csv.proofs.part_keys.find.Given as goal

abbrev pub invariant-loop-place : goal.invariant-loop-place
invariant-loop-place l = (k : ℕ) → k < l.place → bytes_eq l.text (get_or (slices_shown l.texts) k []) ≡ false
