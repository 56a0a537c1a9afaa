-- The text of attributes is read as them.
use Rattle.std.proofs.Common.{◌≡◌, ℕ, ◌-◌, ◌==◌, ◌&&◌, ◌||◌, not, suc, if◌then◌else◌, Bool, true, false, List, [], ◌∷◌, ◌++◌, length, take, drop, Some, None, codes, refl, sym, ap, ◌∙◌, append_assoc, arith}
use Rattle.std.specs.Char.{is_ascii_digit, is_ascii_uppercase, is_ascii_lowercase}
use Rattle.std.specs.List.{list_all, slice_split}
use Rattle.std.specs.Str.{bytes_eq}
use Rattle.std.proofs.lemmas.Bool.{and_parts, and_from, eqb-true, eq-eqb}
use Rattle.std.proofs.lemmas.List.{take_at, length-append}
use Rattle.std.proofs.lemmas.Slice.Eq.{bytes_eq-Decides}
use Rattle.element_text.specs.Elements.{Attribute, escaped_byte, escaped, label_text, attributes_text}
use Rattle.element_text.specs.Reading.{may_begin_name, is_name_byte, is_name, between_ends, label_read, parts_read, attributes_read, words_read}
use Rattle.element_text.specs.Laws.{have_names}
use Rattle.element_text.proofs.Plain.{all_append}
use Rattle.element_text.proofs.Marks.{by_marks}
use Rattle.element_text.proofs.WordsRead.{value_read}

-- whether a byte is another
abbrev pub is_not : ℕ → ℕ → Bool
is_not m b = not (b == m)

pub not_same : (m b : ℕ) → is_not m b ≡ true → (b == m) ≡ false
not_same m b h = go (b == m) h
  where
    go : (t : Bool) → not t ≡ true → t ≡ false
    go true e = sym e
    go false e = refl

-- what a test refuses is none of the bytes that it lets through
pub refused_differs : (p : ℕ → Bool) (m : ℕ) → p m ≡ false → (b : ℕ) → p b ≡ true → is_not m b ≡ true
refused_differs p m refused b h = go (b == m) refl
  where
    go : (t : Bool) → (b == m) ≡ t → not t ≡ true
    go true e = let both : p m ≡ true = ap p (sym (eqb-true b m e)) ∙ h in cc
    go false e = refl

-- where all bytes pass a test, they pass a weaker one
pub all_pass : (p q : ℕ → Bool) → ((b : ℕ) → p b ≡ true → q b ≡ true) → (bs : List ℕ) → list_all p bs ≡ true → list_all q bs ≡ true
all_pass p q weaker [] h = refl
all_pass p q weaker (b ∷ bs) h =
    let parts = and_parts _ _ h in and_from _ _ (weaker b parts.0) (all_pass p q weaker bs parts.1)

first_is_name_byte : (b : ℕ) → may_begin_name b ≡ true → is_name_byte b ≡ true
first_is_name_byte b = go (is_ascii_digit b) (is_ascii_uppercase b) (is_ascii_lowercase b) (b == 95) (b == 58) (b == 45 || b == 46)
  where
    go : (digit upper lower low colon other : Bool) → ((upper || lower) || (low || colon)) ≡ true → (((digit || upper) || lower) || (low || (colon || other))) ≡ true
    go true upper lower low colon other h = refl
    go false true lower low colon other h = refl
    go false false true low colon other h = refl
    go false false false true colon other h = refl
    go false false false false true other h = refl
    go false false false false false other h = cc

-- all bytes of a name are name bytes
pub name_bytes : (name : List ℕ) → is_name name ≡ true → list_all is_name_byte name ≡ true
name_bytes [] h = refl
name_bytes (b ∷ bs) h = let parts = and_parts _ _ h in and_from _ _ (first_is_name_byte b parts.0) parts.1

-- all bytes of escaped words pass a test that those of each escaped byte pass
pub escaped_pass : (p : ℕ → Bool) → ((b : ℕ) → list_all p (escaped_byte b) ≡ true) → (words : List ℕ) → list_all p (escaped words) ≡ true
escaped_pass p each [] = refl
escaped_pass p each (b ∷ bs) = all_append p (escaped_byte b) (escaped bs) (each b) (escaped_pass p each bs)

-- a text is cut at its first byte of this kind
split_at : (m : ℕ) (xs ys : List ℕ) → list_all (is_not m) xs ≡ true → slice_split (λ b. b == m) (xs ++ m ∷ ys) ≡ xs ∷ slice_split (λ b. b == m) ys
split_at m [] ys h = let same : (m == m) ≡ true = eq-eqb m m refl in rw same refl
split_at m (x ∷ xs) ys h =
    let parts = and_parts _ _ h in
    let differs = not_same m x parts.0 in
    let rest = split_at m xs ys parts.1 in
    rw (differs, rest) refl

quote_escaped : (b : ℕ) → list_all (is_not 34) (escaped_byte b) ≡ true
quote_escaped = by_marks (λ _ text. list_all (is_not 34) text ≡ true) refl refl refl refl refl (λ b _ _ _ n34 _. rw n34 refl)

no_quote : (value : List ℕ) → list_all (is_not 34) (escaped value) ≡ true
no_quote = escaped_pass (is_not 34) quote_escaped

no_quote_in_label : (name : List ℕ) → is_name name ≡ true → list_all (is_not 34) (label_text name) ≡ true
no_quote_in_label name h =
    let in_name = all_pass is_name_byte (is_not 34) (refused_differs is_name_byte 34 refl) name (name_bytes name h) in
    all_append (is_not 34) (codes " " ++ name) (codes "=") (all_append (is_not 34) (codes " ") name refl in_name) refl

between_label : (name : List ℕ) → between_ends (label_text name) ≡ name
between_label name =
    let e : length (label_text name) - 1 ≡ suc (length name) = omega (arith, length-append name (61 ∷ [])) in
    ap (λ (k : ℕ). drop 1 (take k (label_text name))) e ∙ take_at name (61 ∷ []) (length name) refl

label_is_read : (name : List ℕ) → is_name name ≡ true → label_read (label_text name) ≡ Some name
label_is_read name h =
    go (between_ends (label_text name)) (between_label name)
  where
    go : (found : List ℕ) → found ≡ name → (if is_name found && bytes_eq (label_text name) (label_text found) then Some found else None) ≡ Some name
    go found e = let named : is_name found ≡ true = ap is_name e ∙ h in
        let same : bytes_eq (label_text name) (label_text found) ≡ true = ap (λ (n : List ℕ). bytes_eq (label_text name) (label_text n)) e ∙ (bytes_eq-Decides (label_text name) (label_text name)).1 refl in
        rw (named, same) (ap Some e)

regrouped : (label words rest : List ℕ) → label ++ 34 ∷ [] ++ words ++ 34 ∷ [] ++ rest ≡ label ++ 34 ∷ (words ++ 34 ∷ rest)
regrouped label words rest = simp append_assoc

parts_step : (label value : List ℕ) (parts : List (List ℕ)) (name words : List ℕ) (rest : List Attribute)
    → label_read label ≡ Some name → words_read value ≡ Some words → parts_read parts ≡ Some rest
    → parts_read (label ∷ value ∷ parts) ≡ Some (record { name = name; value = words } ∷ rest)
parts_step label value parts name words rest of_label of_value of_rest = rw (of_label, of_value, of_rest) refl

-- attributes with names are read from the parts of their text
parts_are_read : (attributes : List Attribute) → list_all (λ (a : Attribute). is_name a.name) attributes ≡ true
    → parts_read (slice_split (λ b. b == 34) (attributes_text attributes)) ≡ Some attributes
parts_are_read [] h = refl
parts_are_read (a ∷ rest) h =
    let parts = and_parts _ _ h in
    let label = label_text a.name in
    let words = escaped a.value in
    let behind = attributes_text rest in
    ap (λ (t : List ℕ). parts_read (slice_split (λ b. b == 34) t)) (regrouped label words behind)
    ∙ ap parts_read (split_at 34 label (words ++ 34 ∷ behind) (no_quote_in_label a.name parts.0))
    ∙ ap (λ (t : List (List ℕ)). parts_read (label ∷ t)) (split_at 34 words behind (no_quote a.value))
    ∙ parts_step label words (slice_split (λ b. b == 34) behind) a.name a.value rest (label_is_read a.name parts.0) (value_read a.value) (parts_are_read rest parts.1)

pub attributes_are_read : (attributes : List Attribute) → have_names attributes ≡ true → attributes_read (attributes_text attributes) ≡ Some attributes
attributes_are_read attributes h =
    let parts = and_parts _ _ h in
    let read = parts_are_read attributes parts.0 in
    let apart = parts.1 in
    rw (read, apart) refl
