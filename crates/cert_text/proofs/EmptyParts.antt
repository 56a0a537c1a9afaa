-- Whether a text has an empty word, one byte at a time.
use Rattle.std.proofs.Common.{◌≡◌, ◌==◌, ◌&&◌, ◌||◌, ℕ, suc, Bool, true, false, cond, List, [], ◌∷◌, length, refl, ◌∙◌, ap, arith}
use Rattle.std.proofs.lemmas.Bool.Decides.{nat_tests}
use Rattle.std.specs.List.{list_any, onto_first}
use Rattle.cert_text.specs.Words.{words_of, is_empty}

-- whether there is an empty word, where this says whether the first one has no byte so far
abbrev pub empty_from : Bool → List ℕ → Bool
empty_from empty [] = empty
empty_from empty (b ∷ bs) = (empty && (b == 32)) || empty_from (b == 32) bs

-- the same of the words, where this says whether no byte stands before the first
abbrev empty_in : Bool → List (List ℕ) → Bool
empty_in empty [] = false
empty_in empty (w ∷ ws) = (empty && is_empty w) || list_any is_empty ws

not_none : (n : ℕ) → (suc n == 0) ≡ false
not_none n = grind (arith, nat_tests)

empty_after : (empty : Bool) (b : ℕ) (ws : List (List ℕ)) → empty_in false ws ≡ empty_in empty (onto_first b ws)
empty_after true b [] = refl
empty_after false b [] = refl
empty_after true b (w ∷ ws) = rw (not_none (length w)) refl
empty_after false b (w ∷ ws) = refl

empty_whole : (ws : List (List ℕ)) → empty_in true ws ≡ list_any is_empty ws
empty_whole [] = refl
empty_whole (w ∷ ws) = refl

empty_at : (empty blank : Bool) (b : ℕ) (ws : List (List ℕ)) → ((empty && blank) || empty_in blank ws) ≡ empty_in empty (cond blank ([] ∷ ws) (onto_first b ws))
empty_at true true b ws = refl
empty_at true false b ws = empty_after true b ws
empty_at false true b ws = empty_whole ws
empty_at false false b ws = empty_after false b ws

empty_of_words : (empty : Bool) (text : List ℕ) → empty_from empty text ≡ empty_in empty (words_of text)
empty_of_words true [] = refl
empty_of_words false [] = refl
empty_of_words empty (b ∷ bs) = ap (λ g. (empty && (b == 32)) || g) (empty_of_words (b == 32) bs) ∙ empty_at empty (b == 32) b (words_of bs)

-- a text is looked at from its first byte on
pub empty_from_first : (text : List ℕ) → empty_from true text ≡ list_any is_empty (words_of text)
empty_from_first text = empty_of_words true text ∙ empty_whole (words_of text)
