-- Elements, their attributes and words, and the text that they are (W3C, Extensible Markup Language (XML) 1.0).
use Rattle.std.specs.Prelude.{ℕ, ◌==◌, if◌then◌else◌, List, [], ◌∷◌, ◌++◌, codes}
use Rattle.std.specs.List.{flat_map}

-- an attribute: its name, and its value before it is escaped
pub record Attribute : Type 0 where
  pub name : List ℕ
  pub value : List ℕ

-- elements and words, one after another; the words are not escaped yet
pub data Elements : Type 0 where
  End : Elements
  Element : (name : List ℕ) (attributes : List Attribute) (inside next : Elements) → Elements
  Words : (words : List ℕ) (next : Elements) → Elements

-- elements, and others after them
abbrev pub followed_by : Elements → Elements → Elements
followed_by End others = others
followed_by (Element name attributes inside next) others = Element name attributes inside (followed_by next others)
followed_by (Words words next) others = Words words (followed_by next others)

-- a byte: one of five as its predefined entity (XML 1.0, section 4.6), any other as it is
abbrev pub escaped_byte : ℕ → List ℕ
escaped_byte b =
    if b == 38 then codes "&amp;"
    else if b == 60 then codes "&lt;"
    else if b == 62 then codes "&gt;"
    else if b == 34 then codes "&quot;"
    else if b == 39 then codes "&apos;"
    else b ∷ []

-- words, or the value of an attribute, with each byte escaped
abbrev pub escaped : List ℕ → List ℕ
escaped words = flat_map escaped_byte words

-- what stands before the value of an attribute and its quotes
abbrev pub label_text : List ℕ → List ℕ
label_text name = codes " " ++ name ++ codes "="

-- an attribute in a start tag (XML 1.0, section 3.1)
abbrev pub attribute_text : Attribute → List ℕ
attribute_text a = label_text a.name ++ codes "\"" ++ escaped a.value ++ codes "\""

-- attributes, in their order
abbrev pub attributes_text : List Attribute → List ℕ
attributes_text attributes = flat_map attribute_text attributes

-- what a start tag begins with
abbrev pub open_text : List ℕ → List ℕ
open_text name = codes "<" ++ name

-- an end tag
abbrev pub close_text : List ℕ → List ℕ
close_text name = codes "</" ++ name ++ codes ">"

-- the text of elements: each stands between a start tag with its attributes and an end tag
abbrev pub elements_text : Elements → List ℕ
elements_text End = []
elements_text (Element name attributes inside next) =
    open_text name ++ attributes_text attributes ++ codes ">" ++ elements_text inside ++ close_text name ++ elements_text next
elements_text (Words words next) = escaped words ++ elements_text next
