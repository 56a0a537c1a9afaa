-- The text of elements reads back.
use Rattle.std.proofs.Common.{◌≡◌, ℕ, true, List, [], ◌++◌, Option, Some, refl, sym, ap, ◌∙◌, append_assoc}
use Rattle.std.specs.Prelude.{option_and_then}
use Rattle.std.proofs.lemmas.Bool.{and_parts}
use Rattle.std.proofs.lemmas.List.{append-nil}
use Rattle.element_text.specs.Elements.{Elements, End, Element, Words, escaped, close_text, elements_text}
use Rattle.element_text.specs.Reading.{Place, outside, within, Reading, between, elements_at, with_elements, whole_read, reading_of, elements_read}
use Rattle.element_text.specs.Laws.{are_named, words_before, joined, TextReadsBack, TextIsOfOne}
use Rattle.element_text.proofs.Follow.{start_text}
use Rattle.element_text.proofs.WordsRead.{elements_there, elements_again, elements_same, words_between}
use Rattle.element_text.proofs.TagsRead.{end_tag_is_read, start_tag_is_read}

-- elements before others, with neighbouring words as one
abbrev joined_before : Elements → Elements → Elements
joined_before End others = others
joined_before (Element name attributes inside next) others = Element name attributes (joined_before inside End) (joined_before next others)
joined_before (Words words next) others = words_before words (joined_before next others)

joined_before_none : (elements : Elements) → joined_before elements End ≡ joined elements
joined_before_none End = refl
joined_before_none (Element name attributes inside next) =
    ap (λ (e : Elements). Element name attributes e (joined_before next End)) (joined_before_none inside) ∙ ap (λ (e : Elements). Element name attributes (joined inside) e) (joined_before_none next)
joined_before_none (Words words next) = ap (λ (e : Elements). words_before words e) (joined_before_none next)

regrouped : (start inside close next rest : List ℕ) → start ++ inside ++ close ++ next ++ rest ≡ start ++ (inside ++ (close ++ (next ++ rest)))
regrouped start inside close next rest = simp append_assoc

-- behind elements that were read before a place, that place has them
elements_are_read : (elements : Elements) (rest : List ℕ) (place : Place) → are_named elements ≡ true → reading_of rest ≡ Some (between place)
    → reading_of (elements_text elements ++ rest) ≡ Some (between (with_elements (joined_before elements (elements_at place)) place))
elements_are_read End rest place h read = read ∙ ap (λ (p : Place). Some (between p)) (sym (elements_same place))
elements_are_read (Element name attributes inside next) rest place h read =
    let of_name = and_parts _ _ h in
    let of_attributes = and_parts _ _ of_name.1 in
    let of_rest = and_parts _ _ of_attributes.1 in
    let behind = joined_before next (elements_at place) in
    let there = with_elements behind place in
    let all_inside = joined_before inside End in
    let next_read = elements_are_read next rest place of_rest.1 read in
    let end_read = end_tag_is_read name (elements_text next ++ rest) there of_name.0 next_read in
    let inside_read = elements_are_read inside (close_text name ++ (elements_text next ++ rest)) (within name End there) of_rest.0 end_read in
    let start_read = start_tag_is_read name attributes (elements_text inside ++ (close_text name ++ (elements_text next ++ rest))) all_inside there of_name.0 of_attributes.0 inside_read in
    ap reading_of (regrouped (start_text name attributes) (elements_text inside) (close_text name) (elements_text next) rest) ∙ start_read
    ∙ ap (λ (e : Elements). Some (between (with_elements (Element name attributes all_inside e) there))) (elements_there behind place)
    ∙ ap (λ (p : Place). Some (between p)) (elements_again (Element name attributes all_inside behind) behind place)
elements_are_read (Words words next) rest place h read =
    let behind = joined_before next (elements_at place) in
    let there = with_elements behind place in
    ap reading_of (append_assoc (escaped words) (elements_text next) rest) ∙ words_between words (elements_text next ++ rest) there (elements_are_read next rest place h read)
    ∙ ap (λ (e : Elements). Some (between (with_elements (words_before words e) there))) (elements_there behind place)
    ∙ ap (λ (p : Place). Some (between p)) (elements_again (words_before words behind) behind place)

pub reads_back : TextReadsBack
reads_back elements named =
    ap (λ (t : List ℕ). elements_read t) (sym (append-nil (elements_text elements)))
    ∙ ap (λ (r : Option Reading). option_and_then whole_read r) (elements_are_read elements [] (outside End) named refl)
    ∙ ap Some (joined_before_none elements)

pub of_one : TextIsOfOne
of_one one other one_named other_named same =
    let first = reads_back one one_named in
    let second = reads_back other other_named in
    let both : elements_read (elements_text one) ≡ elements_read (elements_text other) = ap elements_read same in
    cc
