-- The lines of the changes so far.
use Rattle.std.proofs.Common.{◌≡◌, ◌++◌, map, take}
use Rattle.std.specs.Prelude.{flat_map}
use Rattle.std.specs.String.{string_bytes}
use Rattle.mode_texts.specs.LiveTexts.{change_text, key_line}
use Rattle.mode_texts.proofs.live.push_changes.Given as goal

abbrev pub invariant-loop-change : goal.invariant-loop-change
invariant-loop-change l = string_bytes l.text ≡ string_bytes l.initial.text ++ flat_map (λ said. key_line l.key said) (map change_text (take l.change-index l.changes))
