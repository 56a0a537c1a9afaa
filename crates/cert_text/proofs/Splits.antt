-- The first part of a split.
use Rattle.std.proofs.Common.{◌≡◌, ◌<◌, ◌≤◌, ◌+◌, ◌==◌, ℕ, Bool, true, false, cond, nat_lt, List, [], ◌∷◌, length, take, drop, Some, None, refl, sym, ◌∙◌, ap, arith, position, ltb-true, add-one, drop-cons}
use Rattle.std.proofs.lemmas.Bool.Decides.{nat_tests}
use Rattle.std.specs.List.{position_or_len, slice_split}
use Rattle.std.proofs.lemmas.List.Sums.{fails_before_first}
use Rattle.std.proofs.lemmas.List.Splits.{slice_split_first, slice_split_none}
use Rattle.cert_text.specs.Words.{words_of, words_after}

first_at : {X : Type 0} (p : X → Bool) (xs : List X) (i : ℕ) → position p xs ≡ Some i → (position_or_len p xs ≡ i) × (position_or_len p xs < length xs)
first_at p xs i e = go (nat_lt (position_or_len p xs) (length xs)) refl e
  where
    go : (b : Bool) → nat_lt (position_or_len p xs) (length xs) ≡ b → cond b (Some (position_or_len p xs)) None ≡ Some i
        → (position_or_len p xs ≡ i) × (position_or_len p xs < length xs)
    go true t s = (cc, ltb-true _ _ t)
    go false t s = absurd (cc)

-- what stands before the first line feed, and after it
pub first_part : {X : Type 0} (p : X → Bool) (xs : List X) (i : ℕ) (d : X) → position p xs ≡ Some i → slice_split p xs ≡ take i xs ∷ slice_split p (drop (i + 1) xs)
first_part p xs i d e =
    let at = first_at p xs i e in
    slice_split_first p xs d at.1 ∙ ap (λ n. take n xs ∷ slice_split p (drop (n + 1) xs)) at.0

not_less : (a b : ℕ) → nat_lt a b ≡ false → b ≤ a
not_less a b t = grind (arith, nat_tests)

not_there : {X : Type 0} (p : X → Bool) (xs : List X) → position p xs ≡ None → length xs ≤ position_or_len p xs
not_there p xs e = go (nat_lt (position_or_len p xs) (length xs)) refl e
  where
    go : (b : Bool) → nat_lt (position_or_len p xs) (length xs) ≡ b → cond b (Some (position_or_len p xs)) None ≡ None → length xs ≤ position_or_len p xs
    go true t s = absurd (cc)
    go false t s = not_less (position_or_len p xs) (length xs) t

-- a text without a line feed is one part
pub one_part : {X : Type 0} (p : X → Bool) (xs : List X) → position p xs ≡ None → slice_split p xs ≡ xs ∷ []
one_part p xs e = slice_split_none p xs (λ k d lt. fails_before_first p xs k d (omega (arith, not_there p xs e)))

-- what stands from a blank on, and after it
after_blank : (text : List ℕ) (i : ℕ) → i < length text → words_after (drop i text) ≡ words_of (drop (i + 1) text)
after_blank text i within = rw (drop-cons text i 0 within, ← add-one i) refl

-- the first word of a text, and the words after it
pub first_word_is : (text : List ℕ) (i : ℕ) → position (λ b. b == 32) text ≡ Some i → words_of text ≡ take i text ∷ words_after (drop i text)
first_word_is text i e =
    let at = first_at (λ b. b == 32) text i e in
    let within : i < length text = omega (arith, at.0, at.1) in
    first_part (λ b. b == 32) text i 0 e ∙ ap (λ ws. take i text ∷ ws) (sym (after_blank text i within))
