use Rattle.std.proofs.Common.{take}
use Rattle.std.specs.String.{string_bytes}
use Rattle.mode_texts.specs.Counting.{IsWritten}
use Rattle.mode_texts.specs.TwoTexts.{IsTwoVerdict, two_key_text, delta_of}
use Rattle.mode_texts.proofs.two.keys_text.Given as goal

abbrev pub invariant-loop-key : goal.invariant-loop-key
invariant-loop-key l = IsWritten IsTwoVerdict two_key_text delta_of (take l.key-index l.keys) (string_bytes l.text) l.totals
