-- Values by their texts.
use Rattle.std.proofs.Common.{◌≡◌, ℕ, ◌^◌, ◌<◌, [], drop, sym, ◌∙◌, ap, inl, inr, arith}
use Rattle.std.proofs.lemmas.Bool.{cases_lt}
use Rattle.std.proofs.lemmas.Fmt.{decimal_injective}
use Rattle.stale_model.specs.Texts.{value_text}
use Rattle.history_csv.proofs.WrittenNumbers.{value_text-some}

-- a value of no text is absent
pub absent_value : (n : ℕ) → value_text n ≡ [] → n ≡ 0
absent_value n e = elim (cases_lt 0 n) [
  | inl some ↦ absurd (let f = sym (value_text-some n (omega arith)) ∙ e in cc f)
  | inr none ↦ omega arith
]

-- values of one text are one
pub same_value : (m n : ℕ) → m < 2 ^ 32 → n < 2 ^ 32 → value_text m ≡ value_text n → m ≡ n
same_value m n p q e = elim (cases_lt 0 m) [
  | inl some ↦ elim (cases_lt 0 n) [
    | inl more ↦ decimal_injective m n (omega arith) (omega arith) (ap (drop 1) (sym (value_text-some m (omega arith)) ∙ e ∙ value_text-some n (omega arith)))
    | inr none ↦ let zero_n : n ≡ 0 = omega arith in absent_value m (e ∙ ap value_text zero_n) ∙ sym zero_n
  ]
  | inr none ↦ let zero_m : m ≡ 0 = omega arith in zero_m ∙ sym (absent_value n (sym e ∙ ap value_text zero_m))
]
