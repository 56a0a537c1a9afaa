-- The fields of a line need no quotes.
use Rattle.std.proofs.Common.{◌≡◌, ℕ, zero, suc, ◌+◌, ◌%◌, ◌/◌, ◌++◌, true, false, List, [], ◌∷◌, refl, ap, inl, inr, arith, append-nil, nat_lt, codes}
use Rattle.std.specs.Prelude.{◌==◌}
use Rattle.std.specs.Fmt.{decimal, digit_glyph, digits, digits_onto}
use Rattle.std.specs.List.{AllByRecursion, join_with_byte, list_any}
use Rattle.std.proofs.lemmas.Bool.{cases_Bool, lt-ltb, ne_eqb}
use Rattle.csv.specs.Writing.{comma, default_writer, field_text, fields_text, is_blank, needs_byte, row_text}
use Rattle.stale_model.specs.declared.Kind.{Kind}
use Rattle.stale_model.specs.declared.Kind.TheVariants.{Read, Write}
use Rattle.stale_model.specs.declared.Line.{Line}
use Rattle.stale_model.specs.Texts.{key_text, line_fields, op_text, record_text, value_text}
use Rattle.history_csv.specs.Written.{header_text, line_text}

-- a text with no byte that calls for quotes
abbrev pub IsPlain : List ℕ → Type 0
IsPlain text = list_any (needs_byte default_writer) text ≡ false

-- a digit
digit-plain : (d : ℕ) → needs_byte default_writer (48 + d) ≡ false
digit-plain d =
    let no_comma : ((48 + d) == 44) ≡ false = ne_eqb (48 + d) 44 (λ e. omega (arith, e)) in
    let no_quote : ((48 + d) == 34) ≡ false = ne_eqb (48 + d) 34 (λ e. omega (arith, e)) in
    let no_return : ((48 + d) == 13) ≡ false = ne_eqb (48 + d) 13 (λ e. omega (arith, e)) in
    let no_feed : ((48 + d) == 10) ≡ false = ne_eqb (48 + d) 10 (λ e. omega (arith, e)) in
    rw (no_comma, no_quote, no_return, no_feed) refl

-- digits before a text
digits-plain : (k n : ℕ) (acc : List ℕ) → IsPlain acc → IsPlain (digits_onto k 10 false n acc)
digits-plain zero n acc plain = plain
digits-plain (suc k) n acc plain =
    let small : nat_lt (n % 10) 10 ≡ true = lt-ltb (n % 10) 10 (omega arith) in
    let one : IsPlain (digit_glyph false (n % 10) ∷ acc) = rw (small, digit-plain (n % 10)) plain in
    elim (cases_Bool (n / 10 == 0)) [
      | inl last ↦ rw last one
      | inr more ↦ rw more (digits-plain k (n / 10) (digit_glyph false (n % 10) ∷ acc) one)
    ]

-- a number
pub decimal-plain : (n : ℕ) → IsPlain (decimal n)
unfolding digits
decimal-plain n = digits-plain 64 n [] refl

-- a word, a name and a value
op-plain : (kind : Kind) → IsPlain (op_text kind)
op-plain Read = refl
op-plain Write = refl

pub key-plain : (number : ℕ) → IsPlain (key_text number)
key-plain number = decimal-plain number

pub value-plain : (number : ℕ) → IsPlain (value_text number)
value-plain number = elim (cases_Bool (number == 0)) [
  | inl none ↦ rw none refl
  | inr some ↦ rw some (decimal-plain number)
]

-- fields with no byte that calls for quotes
abbrev pub ArePlain : List (List ℕ) → Type 0
ArePlain fields = AllByRecursion IsPlain fields

-- a field and those after it, each behind a comma
fields_text-plain : (x : List ℕ) (ys : List (List ℕ)) → ArePlain ys → x ++ fields_text default_writer ys ≡ join_with_byte comma (x ∷ ys)
unfolding fields_text
fields_text-plain x [] plain = append-nil x
fields_text-plain x (y ∷ ys) plain =
    let first : field_text default_writer y ≡ y = rw plain.0 refl in
    rw first (ap (λ (text : List ℕ). x ++ (comma ∷ text)) (fields_text-plain y ys plain.1))

-- the record of two plain fields or more is these with commas between them
pub row_text-plain : (x y : List ℕ) (ys : List (List ℕ)) → ArePlain (x ∷ y ∷ ys) → row_text default_writer (x ∷ y ∷ ys) ≡ record_text (x ∷ y ∷ ys)
unfolding is_blank
row_text-plain x y ys plain =
    let first : field_text default_writer x ≡ x = rw plain.0 refl in
    rw first (ap (λ (text : List ℕ). text ++ codes "\n") (fields_text-plain x (y ∷ ys) plain.1))

-- the fields of a line, before others
pub line_fields-plain : (line : Line) (others : List (List ℕ)) → ArePlain others → ArePlain (line_fields line ++ others)
line_fields-plain line others plain =
    (decimal-plain line.client, (op-plain line.kind, (key-plain line.key, (value-plain line.value, (decimal-plain line.start, (decimal-plain line.finish, plain))))))

-- the record of a line is its text
pub row_text-line : (line : Line) → row_text default_writer (line_fields line) ≡ line_text line
row_text-line line = row_text-plain _ _ _ (line_fields-plain line [] tt)

-- the names of the columns
abbrev pub header_names : List (List ℕ)
header_names = codes "client" ∷ codes "op" ∷ codes "key" ∷ codes "value" ∷ codes "start" ∷ codes "finish" ∷ []

-- the record of these is the header
pub row_text-header : row_text default_writer header_names ≡ header_text
unfolding fields_text is_blank
row_text-header = refl

-- what was written is a header, and then records
pub header_then_rows : (none first all header rows : List ℕ) → none ≡ [] → first ≡ none ++ header → all ≡ first ++ rows → all ≡ header ++ rows
header_then_rows none first all header rows empty behind whole = rw (whole, behind, empty) refl
