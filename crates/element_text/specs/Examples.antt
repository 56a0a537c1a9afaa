-- Elements worked by hand.
use Rattle.std.specs.Prelude.{[], ◌∷◌, codes}
use Rattle.element_text.specs.Elements.{Elements, End, Element, Words}

-- a label at a place, with the name of a company
abbrev pub label : Elements
label = Element (codes "text") (record { name = codes "x"; value = codes "16" } ∷ []) (Words (codes "R&D") End) End

-- a drawing of that label, with an empty mark before it
abbrev pub drawing : Elements
drawing =
    Element (codes "svg") (record { name = codes "width"; value = codes "300" } ∷ record { name = codes "aria-label"; value = codes "<'\"'>" } ∷ [])
    (Element (codes "path") [] End label) End
