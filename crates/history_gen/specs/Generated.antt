-- The lines of a generated history: the words of a seed, and a rule of the project's own.
use Rattle.std.specs.Prelude.{ℕ, zero, suc, ◌+◌, ◌-◌, ◌*◌, ◌%◌, ◌==◌, ◌&&◌, Bool, if◌then◌else◌, min, List, [], ◌∷◌, ◌++◌, length, map, filter, reverse, get_or}
use Rattle.seeded_words.specs.Words.{word}
use Rattle.stale_model.specs.declared.Kind.{Kind}
use Rattle.stale_model.specs.declared.Kind.TheVariants.{Read, Write}
use Rattle.stale_model.specs.declared.Line.{Line}
use Rattle.stale_model.specs.Operations.{is_write_kind}

-- whether a line is a write to this key
abbrev pub writes_to : ℕ → Line → Bool
writes_to key line = is_write_kind line.kind && (line.key == key)

-- the values that these lines wrote to a key, the newest first
abbrev pub values_written : ℕ → List Line → List ℕ
values_written key lines = reverse (map (λ line. line.value) (filter (writes_to key) lines))

-- how many writes a read of this key goes back
abbrev pub age_of : ℕ → ℕ → ℕ
age_of key age_word = if age_word % 16 == 0 then key % 3 else 0

-- the value that is so many before the newest of these, or the one that was written first
abbrev pub value_of_age : ℕ → List ℕ → ℕ
value_of_age age values = get_or values (min age (length values - 1)) 0

-- line number i, with this kind and value
abbrev pub line_with : ℕ → ℕ → Kind → ℕ → Line
line_with i key kind value = record { client = i % 8; kind = kind; key = key; value = value; start = 10 * i; finish = 10 * i + 1 + 7 * i % 40 }

-- line number i on a key with these values: a write where there are none or the word is even, else a read
abbrev pub line_on : ℕ → ℕ → List ℕ → ℕ → ℕ → Line
line_on i key [] kind_word age_word = line_with i key Write i
line_on i key (v ∷ values) kind_word age_word =
    if kind_word % 2 == 0 then line_with i key Write i else line_with i key Read (value_of_age (age_of key age_word) (v ∷ values))

-- line number i after these lines, by its three words
abbrev pub next_line : ℕ → ℕ → List Line → ℕ → ℕ → ℕ → Line
next_line keys i lines key_word kind_word age_word =
    line_on i (key_word % keys) (values_written (key_word % keys) lines) kind_word age_word

-- the lines of so many operations on this many keys
unfoldable pub lines_of : ℕ → ℕ → ℕ → List Line
lines_of seed keys zero = []
lines_of seed keys (suc n) =
    let lines = lines_of seed keys n in
    lines ++ next_line keys (n + 1) lines (word seed (3 * n)) (word seed (3 * n + 1)) (word seed (3 * n + 2)) ∷ []
