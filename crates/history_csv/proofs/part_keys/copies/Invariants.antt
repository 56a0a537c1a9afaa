use Rattle.std.proofs.Common.{◌≡◌, take}
use Rattle.history_csv.specs.Parting.{slices_shown}
use Rattle.history_csv.proofs.part_keys.copies.Given as goal

abbrev pub invariant-loop-place : goal.invariant-loop-place
invariant-loop-place l = l.copies.items ≡ slices_shown (take l.place l.texts)
