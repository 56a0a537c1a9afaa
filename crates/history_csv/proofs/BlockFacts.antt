-- Entries whose texts stand one behind the other.
use Rattle.std.proofs.Common.{◌≡◌, ℕ, ◌+◌, ◌<◌, ◌≤◌, ◌==◌, Option, Some, None, IfSome, unwrap_or, inl, inr, List, [], ◌∷◌, ◌++◌, All, length, map, take, drop, refl, sym, ◌∙◌, ap, arith, append_assoc, length-append, length-drop}
use Rattle.std.proofs.lemmas.Bool.{cases_Bool, eqb-true}
use Rattle.std.proofs.lemmas.List.{append-nil, drop_at, drop-append-le, map_push, take_at, take-append-le}
use Rattle.std.proofs.lemmas.List.Elements.{All-head, All-push, All-tail, All-weaker}
use Rattle.history_csv.specs.declared.blocks.Row.{Row}
use Rattle.history_csv.specs.Entries.{Entry}
use Rattle.history_csv.specs.Blocks.{StandsIn, entry_shown, finish_shown}
use Rattle.history_csv.specs.Numbering.{never}

-- a finish before `never` comes back from its one number
pub finish-comes-back : (finish : Option ℕ) → IfSome finish (λ tick. tick < never) → finish_shown (unwrap_or finish never) ≡ finish
finish-comes-back None before = refl
finish-comes-back (Some tick) before = elim (cases_Bool (tick == never)) [
  | inl same ↦ let is = eqb-true tick never same in absurd (omega arith)
  | inr other ↦ rw other refl
]

-- a piece of a text stays where the text grows
piece-stays : (text more : List ℕ) (at len : ℕ) → at + len ≤ length text → take len (drop at (text ++ more)) ≡ take len (drop at text)
piece-stays text more at len within =
    let left : len ≤ length (drop at text) = omega (arith, length-drop at text) in
    rw (drop-append-le at text more (omega arith), take-append-le len (drop at text) more left) refl

shown-stays : (text more : List ℕ) (row : Row) → StandsIn text row → entry_shown (text ++ more) row ≡ entry_shown text row
shown-stays text more row within =
    rw (piece-stays text more row.at row.key_len (omega arith), piece-stays text more (row.at + row.key_len) row.value_len (omega arith)) refl

all-stay : (text more : List ℕ) (rows : List Row) → All (StandsIn text) rows → map (entry_shown (text ++ more)) rows ≡ map (entry_shown text) rows
all-stay text more [] within = refl
all-stay text more (row ∷ rows) within =
    rw (shown-stays text more row (All-head (StandsIn text) row rows within), all-stay text more rows (All-tail (StandsIn text) row rows within)) refl

-- and the rows stand within the text that grew
pub stand-more : (text more : List ℕ) (rows : List Row) → All (StandsIn text) rows → All (StandsIn (text ++ more)) rows
stand-more text more rows within = All-weaker (StandsIn text) (StandsIn (text ++ more)) (λ row stands. omega (arith, length-append text more)) rows within

piece-here : (text piece more : List ℕ) → take (length piece) (drop (length text) (text ++ (piece ++ more))) ≡ piece
piece-here text piece more = rw (drop_at text (piece ++ more) (length text) refl) (take_at piece more (length piece) refl)

-- one more row, whose key and value were put to the end of the text
pub shown-push : (text key value : List ℕ) (rows : List Row) (row : Row) (e : Entry) → All (StandsIn text) rows → row.at ≡ length text → row.key_len ≡ length key → row.value_len ≡ length value
    → e ≡ record { rec = row.rec; client = row.client; kind = row.kind; key = key; value = value; start = row.start; finish = finish_shown row.finish; slack = row.slack }
    → map (entry_shown ((text ++ key) ++ value)) (rows ++ row ∷ []) ≡ map (entry_shown text) rows ++ e ∷ []
shown-push text key value rows row e within at key_len value_len is =
    let first : take row.key_len (drop row.at (text ++ (key ++ value))) ≡ key = rw (at, key_len) (piece-here text key value) in
    let behind : row.at + row.key_len ≡ length (text ++ key) = omega (arith, length-append text key) in
    let second : take row.value_len (drop (row.at + row.key_len) (text ++ (key ++ value))) ≡ value =
    rw (behind, value_len, ← append_assoc text key value) (ap (λ t. take (length value) (drop (length (text ++ key)) ((text ++ key) ++ t))) (sym (append-nil value)) ∙ piece-here (text ++ key) value []) in
    rw (append_assoc text key value) (map_push (entry_shown (text ++ (key ++ value))) rows row ∙ rw (all-stay text (key ++ value) rows within, first, second, is) refl)

-- and it stands there
pub stand-push : (text key value : List ℕ) (rows : List Row) (row : Row) → All (StandsIn text) rows → row.at ≡ length text → row.key_len ≡ length key → row.value_len ≡ length value → All (StandsIn ((text ++ key) ++ value)) (rows ++ row ∷ [])
stand-push text key value rows row within at key_len value_len =
    let longer = length-append (text ++ key) value in
    let long = length-append text key in
    All-push (StandsIn ((text ++ key) ++ value)) rows row (stand-more (text ++ key) value rows (stand-more text key rows within)) (omega arith)
