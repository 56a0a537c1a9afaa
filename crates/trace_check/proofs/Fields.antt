-- The first part of a text.
use Rattle.std.proofs.Common.{◌≡◌, ◌<◌, ◌+◌, ◌==◌, ℕ, List, ◌∷◌, length, take, drop, position, Some, refl, sym, ◌∙◌, ap, drop-cons, add-one}
use Rattle.std.proofs.lemmas.List.Quantifiers.{position-Some}
use Rattle.cert_text.proofs.Splits.{first_part}
use Rattle.trace_check.specs.Lines.{split_at, parts_after}

-- what stands from a byte on, and after it
after_byte : (byte : ℕ) (text : List ℕ) (i : ℕ) → i < length text → parts_after byte (drop i text) ≡ split_at byte (drop (i + 1) text)
after_byte byte text i within = rw (drop-cons text i 0 within, ← add-one i) refl

-- the first part of a text, and the parts after it
pub first_part_is : (byte : ℕ) (text : List ℕ) (i : ℕ) → position (λ b. b == byte) text ≡ Some i → split_at byte text ≡ take i text ∷ parts_after byte (drop i text)
first_part_is byte text i e =
    let at = position-Some (λ b. b == byte) text i 0 e in
    first_part (λ b. b == byte) text i 0 e ∙ ap (λ ps. take i text ∷ ps) (sym (after_byte byte text i at.0))
