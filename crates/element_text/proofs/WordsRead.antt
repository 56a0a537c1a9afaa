-- Words that are escaped are read as they were.
use Rattle.std.proofs.Common.{◌≡◌, ℕ, ◌==◌, false, List, [], ◌∷◌, ◌++◌, Option, Some, codes, refl, sym, ap, ◌∙◌, append_assoc}
use Rattle.std.specs.Prelude.{option_and_then}
use Rattle.element_text.specs.Elements.{Elements, Words, escaped_byte, escaped}
use Rattle.element_text.specs.Reading.{byte_read, words_read, Place, outside, within, Reading, between, elements_at, with_elements, first_words, behind_words, step, reading_of}
use Rattle.element_text.specs.Laws.{words_before}
use Rattle.element_text.proofs.Marks.{by_marks}

-- a byte that is no mark is no entity's
no_mark : (b : ℕ) → (b == 38) ≡ false → (b == 60) ≡ false → (b == 62) ≡ false → (b == 34) ≡ false → (b == 39) ≡ false
    → (words : List ℕ) → byte_read b words ≡ Some (b ∷ words)
no_mark b n38 n60 n62 n34 n39 words = simp (n38, n60, n62, n34, n39)

-- an escaped byte in a value
abbrev IsReadAs : ℕ → List ℕ → Type 0
IsReadAs b text = (bs words : List ℕ) → words_read bs ≡ Some words → words_read (text ++ bs) ≡ Some (b ∷ words)

value_byte : (b : ℕ) → IsReadAs b (escaped_byte b)
value_byte =
    by_marks IsReadAs (λ bs words h. rw h refl) (λ bs words h. rw h refl) (λ bs words h. rw h refl) (λ bs words h. rw h refl) (λ bs words h. rw h refl)
    (λ b n38 n60 n62 n34 n39 bs words h. rw h (no_mark b n38 n60 n62 n34 n39 words))

-- a value that was escaped is read
pub value_read : (value : List ℕ) → words_read (escaped value) ≡ Some value
value_read [] = refl
value_read (b ∷ bs) = value_byte b (escaped bs) bs (value_read bs)

-- after one byte more
pub stepped : (b : ℕ) (text : List ℕ) (here next : Reading) → reading_of text ≡ Some here → step b here ≡ Some next → reading_of (b ∷ text) ≡ Some next
stepped b text here next h k = ap (λ (r : Option Reading). option_and_then (step b) r) h ∙ k

pub elements_there : (e : Elements) (place : Place) → elements_at (with_elements e place) ≡ e
elements_there e (outside other) = refl
elements_there e (within name other place) = refl

pub elements_again : (e other : Elements) (place : Place) → with_elements e (with_elements other place) ≡ with_elements e place
elements_again e other (outside _) = refl
elements_again e other (within name _ place) = refl

pub elements_same : (place : Place) → with_elements (elements_at place) place ≡ place
elements_same (outside e) = refl
elements_same (within name e place) = refl

-- elements with a byte before the words that they begin with
abbrev byte_before : ℕ → Elements → Elements
byte_before b e = Words (b ∷ first_words e) (behind_words e)

-- an escaped byte between tags
abbrev IsReadBetween : ℕ → List ℕ → Type 0
IsReadBetween b text =
    (rest : List ℕ) (place : Place) → reading_of rest ≡ Some (between place)
    → reading_of (text ++ rest) ≡ Some (between (with_elements (byte_before b (elements_at place)) place))

amp_read : IsReadBetween 38 (codes "&amp;")
amp_read rest (outside e) h = rw h refl
amp_read rest (within name e place) h = rw h refl

lt_read : IsReadBetween 60 (codes "&lt;")
lt_read rest (outside e) h = rw h refl
lt_read rest (within name e place) h = rw h refl

gt_read : IsReadBetween 62 (codes "&gt;")
gt_read rest (outside e) h = rw h refl
gt_read rest (within name e place) h = rw h refl

quot_read : IsReadBetween 34 (codes "&quot;")
quot_read rest (outside e) h = rw h refl
quot_read rest (within name e place) h = rw h refl

apos_read : IsReadBetween 39 (codes "&apos;")
apos_read rest (outside e) h = rw h refl
apos_read rest (within name e place) h = rw h refl

other_read : (b : ℕ) → (b == 38) ≡ false → (b == 60) ≡ false → (b == 62) ≡ false → (b == 34) ≡ false → (b == 39) ≡ false → IsReadBetween b (b ∷ [])
other_read b n38 n60 n62 n34 n39 rest place h =
    stepped b rest (between place) (between (with_elements (byte_before b (elements_at place)) place)) h (simp (n38, n60, n62, n34, n39))

byte_between : (b : ℕ) → IsReadBetween b (escaped_byte b)
byte_between = by_marks IsReadBetween amp_read lt_read gt_read quot_read apos_read other_read

first_of_before : (words : List ℕ) (e : Elements) → first_words (words_before words e) ≡ words ++ first_words e
first_of_before [] e = refl
first_of_before (b ∷ bs) e = refl

behind_before : (words : List ℕ) (e : Elements) → behind_words (words_before words e) ≡ behind_words e
behind_before [] e = refl
behind_before (b ∷ bs) e = refl

-- words that were escaped are read between tags
pub words_between : (words rest : List ℕ) (place : Place) → reading_of rest ≡ Some (between place)
    → reading_of (escaped words ++ rest) ≡ Some (between (with_elements (words_before words (elements_at place)) place))
words_between [] rest place h = h ∙ ap (λ (p : Place). Some (between p)) (sym (elements_same place))
words_between (b ∷ bs) rest place h =
    let e = elements_at place in
    let there = with_elements (words_before bs e) place in
    let same : elements_at there ≡ words_before bs e = elements_there (words_before bs e) place in
    let first : first_words (elements_at there) ≡ bs ++ first_words e = ap first_words same ∙ first_of_before bs e in
    let behind : behind_words (elements_at there) ≡ behind_words e = ap behind_words same ∙ behind_before bs e in
    let read = byte_between b (escaped bs ++ rest) there (words_between bs rest place h) in
    ap reading_of (append_assoc (escaped_byte b) (escaped bs) rest) ∙ read
    ∙ ap (λ (f : List ℕ). Some (between (with_elements (Words (b ∷ f) (behind_words (elements_at there))) there))) first
    ∙ ap (λ (n : Elements). Some (between (with_elements (Words (b ∷ (bs ++ first_words e)) n) there))) behind
    ∙ ap (λ (p : Place). Some (between p)) (elements_again (Words (b ∷ (bs ++ first_words e)) (behind_words e)) (words_before bs e) place)
