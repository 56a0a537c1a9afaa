-- Digits in groups: without the blanks they are the digits.
use Rattle.std.proofs.Common.{◌≡◌, ℕ, ◌+◌, ◌*◌, ◌%◌, ◌^◌, ◌<◌, ◌≤◌, ◌==◌, ◌&&◌, Bool, true, false, not, ltb, List, [], ◌∷◌, ◌++◌, length, inl, inr, refl, sym, ap, ◌∙◌, subst, lit<, lit≤, arith}
use Rattle.std.specs.List.{filter, All, slice_split, onto_first}
use Rattle.std.proofs.lemmas.List.Elements.{All-nil, All-cons}
use Rattle.std.proofs.lemmas.List.Splits.{slice_split-cons_no}
use Rattle.std.specs.Fmt.{decimal}
use Rattle.std.specs.Char.{digit_value}
use Rattle.std.specs.Str.Parse.{AllDigits, IsNumeral}
use Rattle.std.proofs.lemmas.Fmt.{decimal_is_IsNumeral}
use Rattle.std.proofs.lemmas.Bool.{cases_eq, cases_lt, ne_eqb, eq-eqb, eqb-true, lt-ltb, cond-true, cond_both, not-true, and_parts, and_from, false≢true}
use Rattle.tick_axis.specs.Groups.{blank_before, in_groups, grouped}
use Rattle.tick_axis.specs.Laws.{AreGroups, IsGrouped}

-- whether a byte is no blank
abbrev pub is_shown : ℕ → Bool
is_shown byte = not (byte == 32)

blank_is_no_digit : digit_value 32 < 10 → ⊥
blank_is_no_digit h = omega (arith, h)

digit_is_shown : (digit : ℕ) → digit_value digit < 10 → is_shown digit ≡ true
digit_is_shown digit h =
    elim (cases_eq digit 32) [
      | inl e ↦ absurd (let P : ℕ → Type 0 = λ d. digit_value d < 10 in blank_is_no_digit (subst P e h))
      | inr ne ↦ ap not (ne_eqb digit 32 ne)
    ]

-- whether a byte is a blank
abbrev is_blank : ℕ → Bool
is_blank byte = byte == 32

digit_no_blank : (digit : ℕ) → digit_value digit < 10 → is_blank digit ≡ false
digit_no_blank digit h = not-true (is_blank digit) (digit_is_shown digit h)

not_both : (count : ℕ) → 0 < count → count % 3 ≡ 0 → (ltb 0 count && (count % 3 == 0)) ≡ false → ⊥
not_both count some whole e = false≢true (sym e ∙ and_from (ltb 0 count) (count % 3 == 0) (lt-ltb 0 count some) (eq-eqb (count % 3) 0 whole))

-- the blank before so many digits is not shown
blank_not_shown : (count : ℕ) (digits : List ℕ) → filter is_shown (blank_before count ++ digits) ≡ filter is_shown digits
blank_not_shown count digits =
    cond_both (ltb 0 count && (count % 3 == 0)) (32 ∷ []) [] (λ (blank : List ℕ). filter is_shown (blank ++ digits) ≡ filter is_shown digits) (λ e. refl) (λ e. refl)

pub digits_shown : (digits : List ℕ) → AllDigits 10 digits → filter is_shown (in_groups digits) ≡ digits
digits_shown [] h = refl
digits_shown (digit ∷ digits) h =
    cond-true (is_shown digit) (digit ∷ filter is_shown (blank_before (length digits) ++ in_groups digits)) (filter is_shown (blank_before (length digits) ++ in_groups digits)) (digit_is_shown digit h.0)
    ∙ ap (λ rest. digit ∷ rest) (blank_not_shown (length digits) (in_groups digits) ∙ digits_shown digits h.1)

-- so many digits in groups
abbrev IsOf : ℕ → List (List ℕ) → Type 0
IsOf count [] = ⊥
IsOf count (first ∷ others) = (length first + 3 * length others ≡ count) × (0 < length first) × (length first ≤ 3) × All (λ group. length group ≡ 3) others

whole_group : (count first others : ℕ) → first + 3 * others ≡ count → 0 < first → first ≤ 3 → count % 3 ≡ 0 → first ≡ 3
whole_group count first others e some most whole = omega arith

part_group : (count first others : ℕ) → first + 3 * others ≡ count → first ≤ 3 → (count % 3 ≡ 0 → ⊥) → first ≤ 2
part_group count first others e most part = elim (cases_lt 2 first) [ inl full ↦ absurd (part (omega arith)) | inr few ↦ few ]

-- one digit more begins a group where the others are whole groups
begins_group : (count digit : ℕ) (groups : List (List ℕ)) → count % 3 ≡ 0 → IsOf count groups → IsOf (count + 1) ((digit ∷ []) ∷ groups)
begins_group count digit [] whole h = absurd h
begins_group count digit (first ∷ others) whole h = (
  omega (arith, h.0, whole_group count (length first) (length others) h.0 h.1 h.2 whole),
  lit< tt,
  lit≤ tt,
  All-cons (λ group. length group ≡ 3) first others (whole_group count (length first) (length others) h.0 h.1 h.2 whole) h.3,
)

-- and else goes on with the first
goes_on : (count digit : ℕ) (groups : List (List ℕ)) → (count % 3 ≡ 0 → ⊥) → IsOf count groups → IsOf (count + 1) (onto_first digit groups)
goes_on count digit [] part h = absurd h
goes_on count digit (first ∷ others) part h = (omega (arith, h.0), omega arith, omega (arith, h.0, h.1, h.2, part_group count (length first) (length others) h.0 h.2 part), h.3)

-- what stands after a digit: a blank and the other groups, or these
after_digit : (count digit : ℕ) (text : List ℕ) → is_blank digit ≡ false → 0 < count → IsOf count (slice_split is_blank text) → IsOf (count + 1) (slice_split is_blank (digit ∷ (blank_before count ++ text)))
after_digit count digit text shown some h =
    cond_both (ltb 0 count && (count % 3 == 0)) (32 ∷ []) [] (λ (blank : List ℕ). IsOf (count + 1) (slice_split is_blank (digit ∷ (blank ++ text))))
    (λ e. let P : List (List ℕ) → Type 0 = λ groups. IsOf (count + 1) groups in
    subst P (sym (slice_split-cons_no is_blank digit (32 ∷ text) shown))
    (begins_group count digit (slice_split is_blank text) (eqb-true (count % 3) 0 (and_parts (ltb 0 count) (count % 3 == 0) e).1) h))
    (λ e. let P : List (List ℕ) → Type 0 = λ groups. IsOf (count + 1) groups in
    subst P (sym (slice_split-cons_no is_blank digit text shown))
    (goes_on count digit (slice_split is_blank text) (λ whole. not_both count some whole e) h))

digits_grouped : (digit : ℕ) (digits : List ℕ) → AllDigits 10 (digit ∷ digits) → IsOf (length (digit ∷ digits)) (slice_split is_blank (in_groups (digit ∷ digits)))
digits_grouped digit [] h =
    let P : List (List ℕ) → Type 0 = λ groups. IsOf 1 groups in
    subst P (sym (slice_split-cons_no is_blank digit [] (digit_no_blank digit h.0))) (refl, lit< tt, lit≤ tt, All-nil (λ group. length group ≡ 3))
digits_grouped digit (next ∷ digits) h =
    let P : ℕ → Type 0 = λ count. IsOf count (slice_split is_blank (in_groups (digit ∷ next ∷ digits))) in
    subst P (omega arith) (after_digit (length (next ∷ digits)) digit (in_groups (next ∷ digits)) (digit_no_blank digit h.0) (omega arith) (digits_grouped next digits h.1))

are_groups : (count : ℕ) (groups : List (List ℕ)) → IsOf count groups → AreGroups groups
are_groups count [] h = h
are_groups count (first ∷ others) h = (h.1, h.2, h.3)

some_grouped : (digits : List ℕ) → 0 < length digits → AllDigits 10 digits → AreGroups (slice_split is_blank (in_groups digits))
some_grouped [] some h = absurd (omega arith)
some_grouped (digit ∷ digits) some h = are_groups (length (digit ∷ digits)) (slice_split is_blank (in_groups (digit ∷ digits))) (digits_grouped digit digits h)

pub is_grouped : (number : ℕ) → number < 2 ^ 64 → IsGrouped number (grouped number)
is_grouped number h =
    let numeral : IsNumeral 10 (decimal number) = (decimal_is_IsNumeral number h).0 in
    record { digits = digits_shown (decimal number) numeral.1; groups = some_grouped (decimal number) numeral.0 numeral.1 }
