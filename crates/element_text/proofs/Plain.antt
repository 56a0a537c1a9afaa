-- The text of plain elements is plain.
use Rattle.std.proofs.Common.{◌≡◌, ℕ, ◌==◌, ◌&&◌, if◌then◌else◌, Bool, true, false, List, [], ◌∷◌, ◌++◌, codes, refl, ◌∙◌}
use Rattle.std.specs.List.{list_all, flat_map}
use Rattle.std.proofs.lemmas.Bool.{and_parts, and_from}
use Rattle.std.proofs.lemmas.List.Folds.{list_all-append}
use Rattle.element_text.specs.Elements.{Attribute, Elements, End, Element, Words, escaped_byte, escaped, label_text, attribute_text, attributes_text, open_text, close_text, elements_text}
use Rattle.element_text.proofs.Follow.{start_text}
use Rattle.element_text.specs.Laws.{is_plain_byte, is_plain, are_plain, TextIsPlain}

-- where all of two lists pass a test, all of both do
pub all_append : {X : Type 0} (p : X → Bool) (xs ys : List X) → list_all p xs ≡ true → list_all p ys ≡ true → list_all p (xs ++ ys) ≡ true
all_append p xs ys h k = list_all-append p xs ys ∙ and_from _ _ h k

-- where each element is a list of which all pass a test, all of these lists do
pub all_flat_map : {X Y : Type 0} (p : Y → Bool) (q : X → Bool) (f : X → List Y) → ((x : X) → q x ≡ true → list_all p (f x) ≡ true)
    → (xs : List X) → list_all q xs ≡ true → list_all p (flat_map f xs) ≡ true
all_flat_map p q f each [] h = refl
all_flat_map p q f each (x ∷ xs) h =
    let parts = and_parts _ _ h in
    all_append p (f x) (flat_map f xs) (each x parts.0) (all_flat_map p q f each xs parts.1)

-- both of two lists are plain, so one of them is
one_of : (t : Bool) (p : ℕ → Bool) (x y : List ℕ) → list_all p x ≡ true → list_all p y ≡ true → list_all p (if t then x else y) ≡ true
one_of true p x y h k = h
one_of false p x y h k = k

-- an escaped byte passes a test where the entities and the byte do
pub escaped_byte_passes : (p : ℕ → Bool) → list_all p (codes "&amp;") ≡ true → list_all p (codes "&lt;") ≡ true → list_all p (codes "&gt;") ≡ true
    → list_all p (codes "&quot;") ≡ true → list_all p (codes "&apos;") ≡ true → (b : ℕ) → p b ≡ true → list_all p (escaped_byte b) ≡ true
escaped_byte_passes p amp lt gt quot apos b h =
    one_of (b == 38) p _ _ amp (one_of (b == 60) p _ _ lt (one_of (b == 62) p _ _ gt (one_of (b == 34) p _ _ quot (one_of (b == 39) p _ _ apos (and_from _ _ h refl)))))

plain_byte : (b : ℕ) → is_plain_byte b ≡ true → is_plain (escaped_byte b) ≡ true
plain_byte = escaped_byte_passes is_plain_byte refl refl refl refl refl

plain_words : (words : List ℕ) → is_plain words ≡ true → is_plain (escaped words) ≡ true
plain_words = all_flat_map is_plain_byte is_plain_byte escaped_byte plain_byte

plain_attribute : (a : Attribute) → (is_plain a.name && is_plain a.value) ≡ true → is_plain (attribute_text a) ≡ true
plain_attribute a h =
    let parts = and_parts _ _ h in
    let p = is_plain_byte in
    let words = escaped a.value in
    let label : is_plain (label_text a.name) ≡ true = all_append p (codes " " ++ a.name) (codes "=") (all_append p (codes " ") a.name refl parts.0) refl in
    let quoted : is_plain (label_text a.name ++ codes "\"") ≡ true = all_append p (label_text a.name) (codes "\"") label refl in
    let both : is_plain (label_text a.name ++ codes "\"" ++ words) ≡ true = all_append p (label_text a.name ++ codes "\"") words quoted (plain_words a.value parts.1) in
    all_append p (label_text a.name ++ codes "\"" ++ words) (codes "\"") both refl

plain_elements : (elements : Elements) → are_plain elements ≡ true → is_plain (elements_text elements) ≡ true
plain_elements End h = refl
plain_elements (Element name attributes inside next) h =
    let p = is_plain_byte in
    let of_name = and_parts _ _ h in
    let of_attributes = and_parts _ _ of_name.1 in
    let of_rest = and_parts _ _ of_attributes.1 in
    let attributes_plain = all_flat_map p (λ (a : Attribute). is_plain a.name && is_plain a.value) attribute_text plain_attribute attributes of_attributes.0 in
    let begun = all_append p (open_text name) (attributes_text attributes) (all_append p (codes "<") name refl of_name.0) attributes_plain in
    let start = all_append p (open_text name ++ attributes_text attributes) (codes ">") begun refl in
    let filled = all_append p (start_text name attributes) (elements_text inside) start (plain_elements inside of_rest.0) in
    let close = all_append p (codes "</" ++ name) (codes ">") (all_append p (codes "</") name refl of_name.0) refl in
    let closed = all_append p (start_text name attributes ++ elements_text inside) (close_text name) filled close in
    all_append p (start_text name attributes ++ elements_text inside ++ close_text name) (elements_text next) closed (plain_elements next of_rest.1)
plain_elements (Words words next) h =
    let parts = and_parts _ _ h in
    all_append is_plain_byte (escaped words) (elements_text next) (plain_words words parts.0) (plain_elements next parts.1)

pub text_is_plain : TextIsPlain
text_is_plain = plain_elements
