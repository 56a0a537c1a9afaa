-- The text of elements reads back, and is one.
use Rattle.std.specs.Prelude.{◌≡◌, ℕ, ◌==◌, ◌&&◌, ◌||◌, nat_le, not, true, false, Bool, IsTrue, List, [], ◌∷◌, ◌++◌, length, Some}
use Rattle.std.specs.List.{list_all}
use Rattle.element_text.specs.Elements.{Attribute, Elements, End, Element, Words, followed_by, elements_text}
use Rattle.element_text.specs.Reading.{is_name, are_apart, first_words, behind_words, elements_read}

-- whether attributes have names, each another
abbrev pub have_names : List Attribute → Bool
have_names attributes = list_all (λ a. is_name a.name) attributes && are_apart attributes

-- whether elements and their attributes do
abbrev pub are_named : Elements → Bool
are_named End = true
are_named (Element name attributes inside next) = is_name name && (have_names attributes && (are_named inside && are_named next))
are_named (Words words next) = are_named next

-- words before elements, as one with those that they begin with
abbrev pub words_before : List ℕ → Elements → Elements
words_before [] elements = elements
words_before (b ∷ bs) elements = Words ((b ∷ bs) ++ first_words elements) (behind_words elements)

-- elements with neighbouring words as one, and without empty words, which no text tells apart
abbrev pub joined : Elements → Elements
joined End = End
joined (Element name attributes inside next) = Element name attributes (joined inside) (joined next)
joined (Words words next) = words_before words (joined next)

-- whether elements begin with words
abbrev pub begins_with_words : Elements → Bool
begins_with_words End = false
begins_with_words (Element name attributes inside next) = false
begins_with_words (Words words next) = true

-- whether no words are empty, and none stand next to others
abbrev pub are_joined : Elements → Bool
are_joined End = true
are_joined (Element name attributes inside next) = are_joined inside && are_joined next
are_joined (Words words next) = not (length words == 0) && (not (begins_with_words next) && are_joined next)

-- whether a byte is a visible ASCII character, a blank or a line feed
abbrev pub is_plain_byte : ℕ → Bool
is_plain_byte b = b == 10 || (nat_le 32 b && nat_le b 126)

-- whether bytes are such alone
abbrev pub is_plain : List ℕ → Bool
is_plain bytes = list_all is_plain_byte bytes

-- whether names, values and words are
abbrev pub are_plain : Elements → Bool
are_plain End = true
are_plain (Element name attributes inside next) =
    is_plain name && (list_all (λ a. is_plain a.name && is_plain a.value) attributes && (are_plain inside && are_plain next))
are_plain (Words words next) = is_plain words && are_plain next

-- the text of elements with names is read as them, with neighbouring words as one
abbrev pub TextReadsBack : Type 0
TextReadsBack = (elements : Elements) → IsTrue (are_named elements) → elements_read (elements_text elements) ≡ Some (joined elements)

-- joined elements have the same text, and are themselves where no words are empty or stand next to others
abbrev pub JoinedAreSame : Type 0
JoinedAreSame = (elements : Elements) → (elements_text (joined elements) ≡ elements_text elements) × (IsTrue (are_joined elements) → joined elements ≡ elements)

-- elements with names and the same text are the same
abbrev pub TextIsOfOne : Type 0
TextIsOfOne =
    (one other : Elements) → IsTrue (are_named one) → IsTrue (are_named other) → elements_text one ≡ elements_text other
    → joined one ≡ joined other

-- the text of elements that follow others stands behind theirs
abbrev pub TextsFollow : Type 0
TextsFollow = (one other : Elements) → elements_text (followed_by one other) ≡ elements_text one ++ elements_text other

-- where names, values and words are plain, the text is
abbrev pub TextIsPlain : Type 0
TextIsPlain = (elements : Elements) → IsTrue (are_plain elements) → IsTrue (is_plain (elements_text elements))
