use Rattle.std.proofs.Common.{◌≡◌, ◌++◌}
use Rattle.history_csv.specs.Building.{keys_shown}
use Rattle.history_csv.proofs.numbering.finished.Given as goal

abbrev pub invariant-loop-name : goal.invariant-loop-name
invariant-loop-name l = l.finished.items ++ keys_shown l.name-iterator ≡ keys_shown l.fn.keys.entries
