-- A reader of the text of elements, which goes from its end to its front.
use Rattle.std.specs.Prelude.{ℕ, ◌-◌, ◌==◌, ◌&&◌, ◌||◌, not, nat_eq, true, false, Bool, if◌then◌else◌, List, [], ◌∷◌, length, take, drop, Option, Some, None, option_and_then, option_map, codes}
use Rattle.std.specs.Char.{is_ascii_alphabetic, is_ascii_alphanumeric}
use Rattle.std.specs.List.{list_all, list_any, slice_split, starts_with}
use Rattle.std.specs.Str.{bytes_eq}
use Rattle.element_text.specs.Elements.{Attribute, Elements, End, Element, Words, label_text}

-- whether a name may begin with a byte (XML 1.0, section 2.3, in ASCII)
abbrev pub may_begin_name : ℕ → Bool
may_begin_name b = is_ascii_alphabetic b || (b == 95 || b == 58)

-- whether a byte may stand in a name
abbrev pub is_name_byte : ℕ → Bool
is_name_byte b = is_ascii_alphanumeric b || (b == 95 || (b == 58 || (b == 45 || b == 46)))

-- whether bytes are the name of an element or of an attribute
abbrev pub is_name : List ℕ → Bool
is_name [] = false
is_name (b ∷ bs) = may_begin_name b && list_all is_name_byte bs

-- whether no attribute has the name of an earlier one (XML 1.0, section 3.1)
abbrev pub are_apart : List Attribute → Bool
are_apart [] = true
are_apart (a ∷ rest) = not (list_any (λ other. bytes_eq other.name a.name) rest) && are_apart rest

-- whether a byte stands in words and values as an entity alone
abbrev pub is_mark : ℕ → Bool
is_mark b = b == 38 || (b == 60 || (b == 62 || (b == 34 || b == 39)))

-- the words that an ampersand and these are
abbrev pub entity_read : List ℕ → Option (List ℕ)
entity_read words =
    if starts_with nat_eq words (codes "amp;") then Some (38 ∷ drop 4 words)
    else if starts_with nat_eq words (codes "lt;") then Some (60 ∷ drop 3 words)
    else if starts_with nat_eq words (codes "gt;") then Some (62 ∷ drop 3 words)
    else if starts_with nat_eq words (codes "quot;") then Some (34 ∷ drop 5 words)
    else if starts_with nat_eq words (codes "apos;") then Some (39 ∷ drop 5 words)
    else None

-- the words that a byte of a text and the words read behind it are
abbrev pub byte_read : ℕ → List ℕ → Option (List ℕ)
byte_read b words = if b == 38 then entity_read words else if is_mark b then None else Some (b ∷ words)

-- the words that a text is
abbrev pub words_read : List ℕ → Option (List ℕ)
words_read [] = Some []
words_read (b ∷ bs) = option_and_then (byte_read b) (words_read bs)

-- what stands between the first byte and the last
abbrev pub between_ends : List ℕ → List ℕ
between_ends bytes = drop 1 (take (length bytes - 1) bytes)

-- the name of an attribute in what stands before its value
abbrev pub label_read : List ℕ → Option (List ℕ)
label_read label =
    if is_name (between_ends label) && bytes_eq label (label_text (between_ends label)) then Some (between_ends label) else None

-- the attributes that the parts between quotes are, in turn a label and a value, and nothing behind the last
abbrev pub parts_read : List (List ℕ) → Option (List Attribute)
parts_read [] = None
parts_read (last ∷ []) = if length last == 0 then Some [] else None
parts_read (label ∷ value ∷ parts) =
    option_and_then (λ name. option_and_then (λ words. option_map (λ rest. record { name = name; value = words } ∷ rest) (parts_read parts)) (words_read value)) (label_read label)

-- the attributes that stand behind the name in a start tag
abbrev pub attributes_read : List ℕ → Option (List Attribute)
attributes_read text =
    option_and_then (λ attributes. if are_apart attributes then Some attributes else None) (parts_read (slice_split (λ b. b == 34) text))

-- the elements read behind a place of a text: up to the end of the element that the place is in, whose name is known, and so on outwards
pub data Place : Type 0 where
  outside : Elements → Place
  within : (name : List ℕ) (elements : Elements) (place : Place) → Place

-- how far a text was read: up to a place between tags, or up to one in a tag, of which these bytes were read
pub data Reading : Type 0 where
  between : Place → Reading
  in_tag : (tag : List ℕ) (place : Place) → Reading

-- the elements read behind a place, up to the end of the element that it is in
abbrev pub elements_at : Place → Elements
elements_at (outside elements) = elements
elements_at (within name elements place) = elements

-- the same place with other elements
abbrev pub with_elements : Elements → Place → Place
with_elements others (outside elements) = outside others
with_elements others (within name elements place) = within name others place

-- the words that elements begin with
abbrev pub first_words : Elements → List ℕ
first_words End = []
first_words (Element name attributes inside next) = []
first_words (Words words next) = words

-- the elements behind them
abbrev pub behind_words : Elements → Elements
behind_words End = End
behind_words (Element name attributes inside next) = Element name attributes inside next
behind_words (Words words next) = next

-- a byte of words
abbrev pub word_read : ℕ → Place → Option Reading
word_read b place =
    option_map (λ words. between (with_elements (Words words (behind_words (elements_at place))) place)) (byte_read b (first_words (elements_at place)))

-- an end tag, by its name
abbrev pub end_tag_read : List ℕ → Place → Option Reading
end_tag_read name place = if is_name name then Some (between (within name End place)) else None

-- a start tag, by its name and attributes
abbrev pub start_tag_read : List ℕ → Place → Option Reading
start_tag_read tag (outside elements) = None
start_tag_read tag (within name elements place) =
    if starts_with nat_eq tag name
    then option_map (λ attributes. between (with_elements (Element name attributes elements (elements_at place)) place)) (attributes_read (drop (length name) tag))
    else None

-- a tag, by what stands between `<` and `>`
abbrev pub tag_read : List ℕ → Place → Option Reading
tag_read [] place = None
tag_read (b ∷ bs) place = if b == 47 then end_tag_read bs place else start_tag_read (b ∷ bs) place

-- how far was read after one byte more
abbrev pub step : ℕ → Reading → Option Reading
step b (between place) = if b == 62 then Some (in_tag [] place) else word_read b place
step b (in_tag tag place) = if b == 60 then tag_read tag place else if b == 62 then None else Some (in_tag (b ∷ tag) place)

-- how far a text was read
abbrev pub reading_of : List ℕ → Option Reading
reading_of [] = Some (between (outside End))
reading_of (b ∷ bs) = option_and_then (step b) (reading_of bs)

-- the elements of a whole text, where no element and no tag is cut off
abbrev pub whole_read : Reading → Option Elements
whole_read (between (outside elements)) = Some elements
whole_read (between (within name elements place)) = None
whole_read (in_tag tag place) = None

-- the elements that a text is
abbrev pub elements_read : List ℕ → Option Elements
elements_read text = option_and_then whole_read (reading_of text)
