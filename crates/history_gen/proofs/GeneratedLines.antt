-- What is known of each generated line.
use Rattle.std.proofs.Common.{◌≡◌, ℕ, zero, suc, ◌+◌, ◌-◌, ◌*◌, ◌%◌, ◌<◌, ◌≤◌, Bool, true, false, if◌then◌else◌, min, List, [], ◌∷◌, ◌++◌, length, map, filter, reverse, All, refl, sym, subst, arith}
use Rattle.std.proofs.lemmas.List.{get_or-reverse, length-reverse, length_push}
use Rattle.std.proofs.lemmas.List.Elements.{All-filter, All-map, All-nil, All-push, All-weaker}
use Rattle.stale_model.specs.declared.Kind.{Kind}
use Rattle.stale_model.specs.declared.Kind.TheVariants.{Read, Write}
use Rattle.stale_model.specs.declared.Line.{Line}
use Rattle.seeded_words.specs.Words.{word}
use Rattle.history_gen.specs.Generated.{age_of, value_of_age, values_written, writes_to, line_with, line_on, next_line, lines_of}

-- a line of one of the first n operations on this many keys
pub record IsGenerated (keys n : ℕ) (line : Line) : Type 0 where
  pub client : line.client < 8
  pub key : line.key < keys
  pub filled : 1 ≤ line.value
  pub value : line.value ≤ n
  pub starts : 1 ≤ line.start
  pub in_order : line.start ≤ line.finish
  pub finishes : line.finish ≤ 10 * n + 40

-- a value that one of the first n operations can have written
abbrev IsWrittenBy : ℕ → ℕ → Type 0
IsWrittenBy n value = (1 ≤ value) × (value ≤ n)

generated-line_with : (keys n i key : ℕ) (kind : Kind) (value : ℕ) → 1 ≤ i → i ≤ n → key < keys → IsWrittenBy n value
    → IsGenerated keys n (line_with i key kind value)
generated-line_with keys n i key kind value some within there written = record {
  client = omega arith;
  key = there;
  filled = written.0;
  value = written.1;
  starts = omega arith;
  in_order = omega arith;
  finishes = omega arith;
}

generated-later : (keys m n : ℕ) (line : Line) → m ≤ n → IsGenerated keys m line → IsGenerated keys n line
generated-later keys m n line later is =
    let value = is.value in
    let finishes = is.finishes in record {
      client = is.client;
      key = is.key;
      filled = is.filled;
      value = omega arith;
      starts = is.starts;
      in_order = is.in_order;
      finishes = omega arith;
    }

All-reverse : {X : Type 0} (P : X → Type 0) (xs : List X) → All P xs → All P (reverse xs)
All-reverse P xs all k d within =
    let size = length-reverse xs in
    let there : k < length xs = omega arith in
    subst P (sym (get_or-reverse xs k d there)) (all (length xs - 1 - k) d (omega arith))

-- the values that the lines wrote to a key
written-values : (keys n key : ℕ) (lines : List Line) → All (IsGenerated keys n) lines → All (IsWrittenBy n) (values_written key lines)
written-values keys n key lines all =
    let values : All (λ (line : Line). IsWrittenBy n line.value) lines =
    All-weaker (IsGenerated keys n) (λ line. IsWrittenBy n line.value) (λ line is. (is.filled, is.value)) lines all in
    All-reverse (IsWrittenBy n) (map (λ line. line.value) (filter (writes_to key) lines))
    (All-map (IsWrittenBy n) (λ line. line.value) (filter (writes_to key) lines) (All-filter (writes_to key) (λ line. IsWrittenBy n line.value) lines values))

written-value_of_age : (n age v : ℕ) (values : List ℕ) → All (IsWrittenBy n) (v ∷ values) → IsWrittenBy n (value_of_age age (v ∷ values))
written-value_of_age n age v values written = written (min age (length (v ∷ values) - 1)) 0 (omega arith)

generated-either : (keys n : ℕ) (b : Bool) (line other : Line) → IsGenerated keys n line → IsGenerated keys n other
    → IsGenerated keys n (if b then line else other)
generated-either keys n true line other is is_other = is
generated-either keys n false line other is is_other = is_other

generated-line_on : (keys n i key : ℕ) (values : List ℕ) (kind_word age_word : ℕ) → 1 ≤ i → i ≤ n → key < keys → All (IsWrittenBy n) values
    → IsGenerated keys n (line_on i key values kind_word age_word)
generated-line_on keys n i key [] kind_word age_word some within there written = generated-line_with keys n i key Write i some within there (some, within)
generated-line_on keys n i key (v ∷ values) kind_word age_word some within there written =
    generated-either keys n _ _ _ (generated-line_with keys n i key Write i some within there (some, within))
    (generated-line_with keys n i key Read _ some within there (written-value_of_age n (age_of key age_word) v values written))

-- one line more
generated-next : (keys n : ℕ) (lines : List Line) (key_word kind_word age_word : ℕ) → 1 ≤ keys → All (IsGenerated keys n) lines
    → All (IsGenerated keys (suc n)) (lines ++ next_line keys (n + 1) lines key_word kind_word age_word ∷ [])
generated-next keys n lines key_word kind_word age_word some all =
    let later : All (IsGenerated keys (suc n)) lines =
    All-weaker (IsGenerated keys n) (IsGenerated keys (suc n)) (λ line. generated-later keys n (suc n) line (omega arith)) lines all in
    let key = key_word % keys in
    let there : key < keys = omega arith in
    All-push (IsGenerated keys (suc n)) lines (next_line keys (n + 1) lines key_word kind_word age_word) later
    (generated-line_on keys (suc n) (n + 1) key (values_written key lines) kind_word age_word (omega arith) (omega arith) there (written-values keys (suc n) key lines later))

-- each line is that of an operation
pub generated-lines_of : (seed keys n : ℕ) → 1 ≤ keys → All (IsGenerated keys n) (lines_of seed keys n)
unfolding lines_of
generated-lines_of seed keys zero some = All-nil (IsGenerated keys 0)
generated-lines_of seed keys (suc n) some =
    generated-next keys n (lines_of seed keys n) (word seed (3 * n)) (word seed (3 * n + 1)) (word seed (3 * n + 2)) some (generated-lines_of seed keys n some)

length-more : (lines : List Line) (line : Line) (n : ℕ) → length lines ≡ n → length (lines ++ line ∷ []) ≡ suc n
length-more lines line n size = let more = length_push lines line in omega arith

-- there is one for each operation
pub length-lines_of : (seed keys n : ℕ) → length (lines_of seed keys n) ≡ n
unfolding lines_of
length-lines_of seed keys zero = refl
length-lines_of seed keys (suc n) =
    length-more (lines_of seed keys n) (next_line keys (n + 1) (lines_of seed keys n) (word seed (3 * n)) (word seed (3 * n + 1)) (word seed (3 * n + 2))) n (length-lines_of seed keys n)
