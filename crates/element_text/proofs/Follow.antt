-- The text of elements that follow others, and of joined ones.
use Rattle.std.proofs.Common.{◌≡◌, ℕ, not, true, List, [], ◌∷◌, ◌++◌, codes, refl, sym, ap, ◌∙◌, append_assoc}
use Rattle.std.proofs.lemmas.Bool.{and_parts}
use Rattle.std.proofs.lemmas.List.{append-nil}
use Rattle.std.proofs.lemmas.List.Concat.{flat_map-append}
use Rattle.element_text.specs.Elements.{Attribute, Elements, End, Element, Words, escaped_byte, escaped, attributes_text, open_text, close_text, elements_text}
use Rattle.element_text.specs.Laws.{words_before, joined, begins_with_words, are_joined, JoinedAreSame, TextsFollow}

-- a start tag
abbrev pub start_text : List ℕ → List Attribute → List ℕ
start_text name attributes = open_text name ++ attributes_text attributes ++ codes ">"

pub texts_follow : TextsFollow
texts_follow End other = refl
texts_follow (Element name attributes inside next) other =
    let whole : List ℕ = start_text name attributes ++ elements_text inside ++ close_text name in
    ap (λ (t : List ℕ). whole ++ t) (texts_follow next other) ∙ sym (append_assoc whole (elements_text next) (elements_text other))
texts_follow (Words words next) other =
    ap (λ (t : List ℕ). escaped words ++ t) (texts_follow next other) ∙ sym (append_assoc (escaped words) (elements_text next) (elements_text other))

-- words before elements, and the text of both
words_before_text : (words : List ℕ) (elements : Elements) → elements_text (words_before words elements) ≡ escaped words ++ elements_text elements
words_before_text [] elements = refl
words_before_text (b ∷ bs) End = ap (λ (t : List ℕ). escaped t ++ []) (append-nil (b ∷ bs))
words_before_text (b ∷ bs) (Element name attributes inside next) =
    ap (λ (t : List ℕ). escaped t ++ elements_text (Element name attributes inside next)) (append-nil (b ∷ bs))
words_before_text (b ∷ bs) (Words words next) =
    ap (λ (t : List ℕ). t ++ elements_text next) (flat_map-append escaped_byte (b ∷ bs) words) ∙ append_assoc (escaped (b ∷ bs)) (escaped words) (elements_text next)

joined_text : (elements : Elements) → elements_text (joined elements) ≡ elements_text elements
joined_text End = refl
joined_text (Element name attributes inside next) =
    ap (λ (t : List ℕ). start_text name attributes ++ t ++ close_text name ++ elements_text (joined next)) (joined_text inside)
    ∙ ap (λ (t : List ℕ). start_text name attributes ++ elements_text inside ++ close_text name ++ t) (joined_text next)
joined_text (Words words next) =
    words_before_text words (joined next) ∙ ap (λ (t : List ℕ). escaped words ++ t) (joined_text next)

-- before elements that do not begin with words, words stand as they are
words_stand : (b : ℕ) (bs : List ℕ) (elements : Elements) → not (begins_with_words elements) ≡ true → words_before (b ∷ bs) elements ≡ Words (b ∷ bs) elements
words_stand b bs End h = ap (λ (t : List ℕ). Words t End) (append-nil (b ∷ bs))
words_stand b bs (Element name attributes inside next) h = ap (λ (t : List ℕ). Words t (Element name attributes inside next)) (append-nil (b ∷ bs))
words_stand b bs (Words words next) h = cc

joined_stand : (elements : Elements) → are_joined elements ≡ true → joined elements ≡ elements
joined_stand End h = refl
joined_stand (Element name attributes inside next) h =
    let p = and_parts _ _ h in
    ap (λ (e : Elements). Element name attributes e (joined next)) (joined_stand inside p.0) ∙ ap (λ (e : Elements). Element name attributes inside e) (joined_stand next p.1)
joined_stand (Words [] next) h = cc
joined_stand (Words (b ∷ bs) next) h =
    let p = and_parts _ _ (and_parts _ _ h).1 in
    ap (λ (e : Elements). words_before (b ∷ bs) e) (joined_stand next p.1) ∙ words_stand b bs next p.0

pub joined_same : JoinedAreSame
joined_same elements = (joined_text elements, joined_stand elements)
