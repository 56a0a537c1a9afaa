use Rattle.std.proofs.Common.{take}
use Rattle.std.specs.String.{string_bytes}
use Rattle.mode_texts.specs.Counting.{IsWritten}
use Rattle.mode_texts.specs.SidesTexts.{IsSidesVerdict, sides_key_text, g_of}
use Rattle.mode_texts.proofs.sides.keys_text.Given as goal

abbrev pub invariant-loop-key : goal.invariant-loop-key
invariant-loop-key l = IsWritten IsSidesVerdict sides_key_text g_of (take l.key-index l.keys) (string_bytes l.text) l.totals
