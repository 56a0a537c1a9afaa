-- Texts that are joined, and cut apart again.
use Rattle.std.proofs.Common.{◌≡◌, ◌⊎◌, ◌<◌, ◌^◌, ◌==◌, ℕ, zero, suc, true, false, List, [], ◌∷◌, refl, ◌∙◌, ap, inl, inr, arith}
use Rattle.std.specs.Prelude.{All}
use Rattle.std.specs.Char.{is_ascii_digit}
use Rattle.std.specs.Fmt.{decimal}
use Rattle.std.specs.List.{list_all, slice_split, join_with_byte}
use Rattle.std.proofs.lemmas.Bool.{and_parts, eq-eqb, ne_eqb, cond-false}
use Rattle.std.proofs.lemmas.Bool.Decides.{nat_tests}
use Rattle.std.proofs.lemmas.Fmt.{digits_decimal}
use Rattle.std.proofs.lemmas.List.Elements.{All-nil, All-cons, All-head, All-tail, All-append}
use Rattle.std.proofs.lemmas.List.Splits.{slice_split_none, slice_split_at}
use Rattle.stale_model.specs.declared.Kind.{Kind}
use Rattle.stale_model.specs.declared.Kind.TheVariants.{Read, Write}
use Rattle.stale_model.specs.declared.store.Ask.{Ask}
use Rattle.stale_model.specs.declared.store.Ask.TheVariants.{Read as AskRead, Write as AskWrite, Repair}
use Rattle.stale_model.specs.Texts.{op_text, ask_text, key_text, value_text}
use Rattle.cert_text.proofs.Numerals.{own}

-- a text that doesn't have this byte
abbrev pub Lacks : ℕ → List ℕ → Type 0
Lacks c text = All (λ b. (b == c) ≡ false) text

-- joined texts are cut apart as they were
pub cut_apart : (c : ℕ) (w : List ℕ) (ws : List (List ℕ)) → All (Lacks c) (w ∷ ws) → slice_split (λ b. b == c) (join_with_byte c (w ∷ ws)) ≡ w ∷ ws
cut_apart c w [] lacks = slice_split_none (λ b. b == c) w (All-head (Lacks c) w [] lacks)
cut_apart c w (v ∷ ws) lacks =
    slice_split_at (λ b. b == c) w c (join_with_byte c (v ∷ ws)) (All-head (Lacks c) w (v ∷ ws) lacks) (eq-eqb c c refl)
    ∙ ap (λ (rest : List (List ℕ)). w ∷ rest) (cut_apart c v ws (All-tail (Lacks c) w (v ∷ ws) lacks))

-- joined texts have no other byte than theirs and the one between them
pub joined_lacks : (c d : ℕ) (ws : List (List ℕ)) → (d == c) ≡ false → All (Lacks c) ws → Lacks c (join_with_byte d ws)
joined_lacks c d [] other lacks = All-nil (λ b. (b == c) ≡ false)
joined_lacks c d (w ∷ []) other lacks = All-head (Lacks c) w [] lacks
joined_lacks c d (w ∷ v ∷ ws) other lacks =
    let Apart : ℕ → Type 0 = λ b. (b == c) ≡ false in
    All-append Apart w (d ∷ join_with_byte d (v ∷ ws)) (All-head (Lacks c) w (v ∷ ws) lacks)
    (All-cons Apart d (join_with_byte d (v ∷ ws)) other (joined_lacks c d (v ∷ ws) other (All-tail (Lacks c) w (v ∷ ws) lacks)))

no_digit : (c d : ℕ) → (c < 48) ⊎ (57 < c) → is_ascii_digit d ≡ true → (d == c) ≡ false
no_digit c d (inl low) digit = grind (arith, nat_tests)
no_digit c d (inr high) digit = grind (arith, nat_tests)

digits_lack : (c : ℕ) (ds : List ℕ) → (c < 48) ⊎ (57 < c) → list_all is_ascii_digit ds ≡ true → Lacks c ds
digits_lack c [] apart digits = All-nil (λ b. (b == c) ≡ false)
digits_lack c (d ∷ ds) apart digits =
    let (first, rest) = and_parts (is_ascii_digit d) (list_all is_ascii_digit ds) digits in
    All-cons (λ b. (b == c) ≡ false) d ds (no_digit c d apart first) (digits_lack c ds apart rest)

-- a number's text has digits alone
pub decimal_lacks : (c n : ℕ) → (c < 48) ⊎ (57 < c) → n < 2 ^ 64 → Lacks c (decimal n)
decimal_lacks c n apart fits =
    let digits : list_all is_ascii_digit (decimal n) ≡ true = digits_decimal own n fits in
    digits_lack c (decimal n) apart digits

name_lacks : (c letter n : ℕ) → c < 48 → 57 < letter → n < 2 ^ 64 → Lacks c (letter ∷ decimal n)
name_lacks c letter n low high fits =
    All-cons (λ b. (b == c) ≡ false) letter (decimal n) (ne_eqb letter c (λ e. omega arith)) (decimal_lacks c n (inl low) fits)

word_lacks : (c letter : ℕ) → c < 48 → 57 < letter → Lacks c (letter ∷ [])
word_lacks c letter low high = All-cons (λ b. (b == c) ≡ false) letter [] (ne_eqb letter c (λ e. omega arith)) (All-nil (λ b. (b == c) ≡ false))

-- the name of a value that is there
pub named_value_text : (n : ℕ) → value_text (suc n) ≡ 118 ∷ decimal (suc n)
named_value_text n = cond-false (suc n == 0) [] (118 ∷ decimal (suc n)) (ne_eqb (suc n) 0 (λ none. omega arith))

-- the name of a key, of a value and the word of what is done, have no byte below the digits
pub key_lacks : (c n : ℕ) → c < 48 → n < 2 ^ 64 → Lacks c (key_text n)
key_lacks c n low fits = name_lacks c 107 n low (omega arith) fits

pub value_lacks : (c n : ℕ) → c < 48 → n < 2 ^ 64 → Lacks c (value_text n)
value_lacks c zero low fits = All-nil (λ b. (b == c) ≡ false)
value_lacks c (suc n) low fits = rw (named_value_text n) (name_lacks c 118 (suc n) low (omega arith) fits)

pub op_lacks : (c : ℕ) (kind : Kind) → c < 48 → Lacks c (op_text kind)
op_lacks c Read low = word_lacks c 114 low (omega arith)
op_lacks c Write low = word_lacks c 119 low (omega arith)

pub ask_lacks : (c : ℕ) (ask : Ask) → c < 48 → Lacks c (ask_text ask)
ask_lacks c AskRead low = word_lacks c 114 low (omega arith)
ask_lacks c (AskWrite value) low = word_lacks c 119 low (omega arith)
ask_lacks c (Repair stamp value) low = word_lacks c 112 low (omega arith)
