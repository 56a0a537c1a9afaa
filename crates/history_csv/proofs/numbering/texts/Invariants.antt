use Rattle.std.proofs.Common.{◌≡◌, ◌++◌}
use Rattle.history_csv.specs.Building.{texts_of}
use Rattle.history_csv.proofs.numbering.texts.Given as goal

abbrev pub invariant-loop-text : goal.invariant-loop-text
invariant-loop-text l = l.texts.items ++ texts_of l.text-iterator ≡ texts_of l.fn.set.keys
