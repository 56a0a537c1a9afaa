-- Tags are read.
use Rattle.std.proofs.Common.{◌≡◌, ℕ, ◌&&◌, nat_eq, Bool, true, List, [], ◌∷◌, ◌++◌, length, drop, Some, codes, refl, ap, ◌∙◌, append_assoc}
use Rattle.std.specs.List.{list_all, starts_with}
use Rattle.std.specs.Str.{bytes_eq}
use Rattle.std.proofs.lemmas.Bool.{and_parts, and_from}
use Rattle.std.proofs.lemmas.List.{append-nil, take_at, drop_at}
use Rattle.std.proofs.lemmas.Slice.Eq.{bytes_eq-Decides}
use Rattle.element_text.specs.Elements.{Attribute, Elements, End, Element, escaped_byte, escaped, label_text, attribute_text, attributes_text, close_text}
use Rattle.element_text.specs.Reading.{may_begin_name, is_name_byte, is_name, attributes_read, Place, within, between, in_tag, elements_at, with_elements, start_tag_read, tag_read, reading_of}
use Rattle.element_text.specs.Laws.{have_names}
use Rattle.element_text.proofs.Follow.{start_text}
use Rattle.element_text.proofs.Plain.{all_append, all_flat_map}
use Rattle.element_text.proofs.Marks.{by_marks}
use Rattle.element_text.proofs.WordsRead.{stepped}
use Rattle.element_text.proofs.AttributesRead.{is_not, not_same, refused_differs, all_pass, name_bytes, escaped_pass, attributes_are_read}

-- whether a byte begins and ends no tag
abbrev is_tag_byte : ℕ → Bool
is_tag_byte b = is_not 60 b && is_not 62 b

collected : (bytes tag rest : List ℕ) (place : Place) → list_all is_tag_byte bytes ≡ true → reading_of rest ≡ Some (in_tag tag place)
    → reading_of (bytes ++ rest) ≡ Some (in_tag (bytes ++ tag) place)
collected [] tag rest place h read = read
collected (b ∷ bs) tag rest place h read =
    let parts = and_parts _ _ h in
    let both = and_parts _ _ parts.0 in
    let n60 = not_same 60 b both.0 in
    let n62 = not_same 62 b both.1 in
    stepped b (bs ++ rest) (in_tag (bs ++ tag) place) (in_tag (b ∷ (bs ++ tag)) place) (collected bs tag rest place parts.1 read) (rw (n60, n62) refl)

-- the bytes between the first and the last of a tag
gathered : (bytes rest : List ℕ) (place : Place) → list_all is_tag_byte bytes ≡ true → reading_of rest ≡ Some (between place)
    → reading_of (bytes ++ 62 ∷ rest) ≡ Some (in_tag bytes place)
gathered bytes rest place h read =
    collected bytes [] (62 ∷ rest) place h (stepped 62 rest (between place) (in_tag [] place) read refl)
    ∙ ap (λ (t : List ℕ). Some (in_tag t place)) (append-nil bytes)

name_passes : (name : List ℕ) → is_name name ≡ true → list_all is_tag_byte name ≡ true
name_passes name h =
    all_pass is_name_byte is_tag_byte (λ b k. and_from _ _ (refused_differs is_name_byte 60 refl b k) (refused_differs is_name_byte 62 refl b k)) name (name_bytes name h)

byte_passes : (b : ℕ) → list_all is_tag_byte (escaped_byte b) ≡ true
byte_passes = by_marks (λ _ text. list_all is_tag_byte text ≡ true) refl refl refl refl refl (λ b _ n60 n62 _ _. rw (n60, n62) refl)

attribute_passes : (a : Attribute) → is_name a.name ≡ true → list_all is_tag_byte (attribute_text a) ≡ true
attribute_passes a h =
    let p = is_tag_byte in
    let words = escaped a.value in
    let label : list_all is_tag_byte (label_text a.name) ≡ true = all_append is_tag_byte (codes " " ++ a.name) (codes "=") (all_append is_tag_byte (codes " ") a.name refl (name_passes a.name h)) refl in
    let quoted : list_all is_tag_byte (label_text a.name ++ codes "\"") ≡ true = all_append is_tag_byte (label_text a.name) (codes "\"") label refl in
    let both : list_all is_tag_byte (label_text a.name ++ codes "\"" ++ words) ≡ true = all_append is_tag_byte (label_text a.name ++ codes "\"") words quoted (escaped_pass is_tag_byte byte_passes a.value) in
    all_append is_tag_byte (label_text a.name ++ codes "\"" ++ words) (codes "\"") both refl

attributes_pass : (attributes : List Attribute) → have_names attributes ≡ true → list_all is_tag_byte (attributes_text attributes) ≡ true
attributes_pass attributes h =
    all_flat_map is_tag_byte (λ (a : Attribute). is_name a.name) attribute_text attribute_passes attributes (and_parts _ _ h).0

-- an end tag is read
pub end_tag_is_read : (name rest : List ℕ) (place : Place) → is_name name ≡ true → reading_of rest ≡ Some (between place)
    → reading_of (close_text name ++ rest) ≡ Some (between (within name End place))
end_tag_is_read name rest place named read =
    let slash = stepped 47 (name ++ 62 ∷ rest) (in_tag name place) (in_tag (47 ∷ name) place) (gathered name rest place (name_passes name named) read) refl in
    ap (λ (t : List ℕ). reading_of (60 ∷ 47 ∷ t)) (append_assoc name (62 ∷ []) rest)
    ∙ stepped 60 (47 ∷ (name ++ 62 ∷ rest)) (in_tag (47 ∷ name) place) (between (within name End place)) slash (rw named refl)

start_is_read : (name text : List ℕ) (attributes : List Attribute) (inside : Elements) (place : Place) → attributes_read text ≡ Some attributes
    → start_tag_read (name ++ text) (within name inside place) ≡ Some (between (with_elements (Element name attributes inside (elements_at place)) place))
start_is_read name text attributes inside place read =
    let begins : starts_with nat_eq (name ++ text) name ≡ true = ap (λ (t : List ℕ). bytes_eq name t) (take_at name text (length name) refl) ∙ (bytes_eq-Decides name name).1 refl in
    let behind : attributes_read (drop (length name) (name ++ text)) ≡ Some attributes = ap attributes_read (drop_at name text (length name) refl) ∙ read in
    rw (begins, behind) refl

tag_is_read : (name text : List ℕ) (attributes : List Attribute) (inside : Elements) (place : Place) → is_name name ≡ true → attributes_read text ≡ Some attributes
    → tag_read (name ++ text) (within name inside place) ≡ Some (between (with_elements (Element name attributes inside (elements_at place)) place))
tag_is_read [] text attributes inside place named read = cc
tag_is_read (b ∷ bs) text attributes inside place named read =
    let differs = not_same 47 b (refused_differs may_begin_name 47 refl b (and_parts _ _ named).0) in
    rw differs (start_is_read (b ∷ bs) text attributes inside place read)

-- a start tag is read
pub start_tag_is_read : (name : List ℕ) (attributes : List Attribute) (rest : List ℕ) (inside : Elements) (place : Place)
    → is_name name ≡ true → have_names attributes ≡ true → reading_of rest ≡ Some (between (within name inside place))
    → reading_of (start_text name attributes ++ rest) ≡ Some (between (with_elements (Element name attributes inside (elements_at place)) place))
start_tag_is_read name attributes rest inside place named names read =
    let text = attributes_text attributes in
    let tag = name ++ text in
    let here = within name inside place in
    let there = between (with_elements (Element name attributes inside (elements_at place)) place) in
    let passes = all_append is_tag_byte name text (name_passes name named) (attributes_pass attributes names) in
    ap (λ (t : List ℕ). reading_of (60 ∷ t)) (append_assoc tag (62 ∷ []) rest)
    ∙ stepped 60 (tag ++ 62 ∷ rest) (in_tag tag here) there (gathered tag rest here passes read)
    (tag_is_read name text attributes inside place named (attributes_are_read attributes names))
