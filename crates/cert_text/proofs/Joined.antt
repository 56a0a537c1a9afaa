-- Words that are joined, and cut apart again.
use Rattle.std.proofs.Common.{◌≡◌, ◌<◌, ◌^◌, ◌==◌, ◌&&◌, ℕ, Bool, true, false, not, List, [], ◌∷◌, ◌++◌, map, length, refl, sym, ◌∙◌, ap, arith, true≢false, nat_le, lit<, append-nil, append_assoc}
use Rattle.std.proofs.lemmas.Bool.Decides.{nat_tests}
use Rattle.std.proofs.lemmas.Bool.{leb-true}
use Rattle.std.specs.List.{list_all, list_any, slice_split, join_with_byte}
use Rattle.std.specs.Char.{is_ascii_digit}
use Rattle.std.specs.Fmt.{decimal}
use Rattle.std.proofs.lemmas.Fmt.{digits_decimal, decimal_nonempty}
use Rattle.cert_text.specs.Texts.{numbers_text}
use Rattle.cert_text.specs.Words.{is_empty, words_of}
use Rattle.cert_text.specs.Numbers.{most_record}
use Rattle.cert_text.specs.Laws.{records_fit}
use Rattle.cert_text.proofs.Numerals.{own, both}

-- whether a text doesn't have this byte
abbrev pub lacks : ℕ → List ℕ → Bool
lacks c text = list_all (λ x. not (x == c)) text

-- whether a text may be a word
abbrev pub is_plain : List ℕ → Bool
is_plain w = lacks 32 w && (lacks 10 w && not (is_empty w))

-- what that says
pub record IsPlain (w : List ℕ) : Type 0 where
  pub no_blank : lacks 32 w ≡ true
  pub no_feed : lacks 10 w ≡ true
  pub some : not (is_empty w) ≡ true

pub plain_is : (w : List ℕ) → is_plain w ≡ true → IsPlain w
plain_is w e =
    let first = both (lacks 32 w) (lacks 10 w && not (is_empty w)) e in
    let second = both (lacks 10 w) (not (is_empty w)) first.1 in
    record { no_blank = first.0; no_feed = second.0; some = second.1 }

pub join_bools : (a b : Bool) → a ≡ true → b ≡ true → (a && b) ≡ true
join_bools true b e f = f
join_bools false b e f = e

pub not_true : (b : Bool) → not b ≡ true → b ≡ false
not_true true e = absurd (true≢false (sym e))
not_true false e = refl

-- a text without the byte is the first part
split_at : (c : ℕ) (xs ys : List ℕ) → lacks c xs ≡ true → slice_split (λ b. b == c) (xs ++ c ∷ ys) ≡ xs ∷ slice_split (λ b. b == c) ys
split_at c [] ys e = rw (same c) refl
  where
    same : (n : ℕ) → (n == n) ≡ true
    same n = grind (arith, nat_tests)
split_at c (x ∷ xs) ys e =
    let parts = both (not (x == c)) (lacks c xs) e in
    rw (not_true (x == c) parts.0, split_at c xs ys parts.1) refl

-- or the only one
split_whole : (c : ℕ) (xs : List ℕ) → lacks c xs ≡ true → slice_split (λ b. b == c) xs ≡ xs ∷ []
split_whole c [] e = refl
split_whole c (x ∷ xs) e =
    let parts = both (not (x == c)) (lacks c xs) e in
    rw (not_true (x == c) parts.0, split_whole c xs parts.1) refl

-- a line is the first of a text
pub first_line : (line rest : List ℕ) → lacks 10 line ≡ true → slice_split (λ b. b == 10) (line ++ 10 ∷ rest) ≡ line ∷ slice_split (λ b. b == 10) rest
first_line line rest e = split_at 10 line rest e

lacks-append : (c : ℕ) (xs ys : List ℕ) → lacks c xs ≡ true → lacks c ys ≡ true → lacks c (xs ++ ys) ≡ true
lacks-append c [] ys e f = f
lacks-append c (x ∷ xs) ys e f =
    let parts = both (not (x == c)) (lacks c xs) e in
    rw (parts.0, lacks-append c xs ys parts.1 f) refl

-- plain words, joined, have no line feed
pub lacks-join : (words : List (List ℕ)) → list_all is_plain words ≡ true → lacks 10 (join_with_byte 32 words) ≡ true
lacks-join [] e = refl
lacks-join (w ∷ []) e = (plain_is w (both (is_plain w) true e).0).no_feed
lacks-join (w ∷ v ∷ ws) e =
    let parts = both (is_plain w) (list_all is_plain (v ∷ ws)) e in
    lacks-append 10 w (32 ∷ join_with_byte 32 (v ∷ ws)) (plain_is w parts.0).no_feed (lacks-join (v ∷ ws) parts.1)

-- plain words, joined, are cut apart as they were
pub words_of-join : (w : List ℕ) (ws : List (List ℕ)) → list_all is_plain (w ∷ ws) ≡ true → words_of (join_with_byte 32 (w ∷ ws)) ≡ w ∷ ws
words_of-join w [] e = split_whole 32 w (plain_is w (both (is_plain w) true e).0).no_blank
words_of-join w (v ∷ ws) e =
    let parts = both (is_plain w) (list_all is_plain (v ∷ ws)) e in
    split_at 32 w (join_with_byte 32 (v ∷ ws)) (plain_is w parts.0).no_blank ∙ ap (λ rest. w ∷ rest) (words_of-join v ws parts.1)

digit_isnt : (c x : ℕ) → c < 48 → is_ascii_digit x ≡ true → not (x == c) ≡ true
digit_isnt c x low e = grind (arith, nat_tests)

digits_lack : (c : ℕ) (ds : List ℕ) → c < 48 → list_all is_ascii_digit ds ≡ true → lacks c ds ≡ true
digits_lack c [] low e = refl
digits_lack c (d ∷ ds) low e =
    let parts = both (is_ascii_digit d) (list_all is_ascii_digit ds) e in
    rw (digit_isnt c d low parts.0, digits_lack c ds low parts.1) refl

some_isnt : (k : ℕ) → 0 < k → not (k == 0) ≡ true
some_isnt k h = grind (arith, nat_tests)

-- a number's text is a plain word
pub decimal_plain : (n : ℕ) → n < 2 ^ 64 → is_plain (decimal n) ≡ true
decimal_plain n fits =
    let digits : list_all is_ascii_digit (decimal n) ≡ true = digits_decimal own n fits in
    join_bools _ _ (digits_lack 32 (decimal n) (lit< tt) digits)
    (join_bools _ _ (digits_lack 10 (decimal n) (lit< tt) digits) (some_isnt (length (decimal n)) (decimal_nonempty n fits)))

pub record_fits : (n : ℕ) → nat_le n most_record ≡ true → n < 2 ^ 64
record_fits n e = omega (arith, leb-true n most_record e)

pub decimals_plain : (ns : List ℕ) → records_fit ns ≡ true → list_all is_plain (map decimal ns) ≡ true
decimals_plain [] e = refl
decimals_plain (n ∷ ns) e =
    let parts = both (nat_le n most_record) (records_fit ns) e in
    join_bools _ _ (decimal_plain n (record_fits n parts.0)) (decimals_plain ns parts.1)

pub plain-append : (a b : List (List ℕ)) → list_all is_plain a ≡ true → list_all is_plain b ≡ true → list_all is_plain (a ++ b) ≡ true
plain-append [] b e f = f
plain-append (w ∷ ws) b e f =
    let parts = both (is_plain w) (list_all is_plain ws) e in
    join_bools _ _ parts.0 (plain-append ws b parts.1 f)

-- no plain word is empty
pub none_empty : (words : List (List ℕ)) → list_all is_plain words ≡ true → list_any is_empty words ≡ false
none_empty [] e = refl
none_empty (w ∷ ws) e =
    let parts = both (is_plain w) (list_all is_plain ws) e in
    rw (not_true (is_empty w) (plain_is w parts.0).some, none_empty ws parts.1) refl

-- a word with numbers after it
pub join-numbers : (w : List ℕ) (ns : List ℕ) → join_with_byte 32 (w ∷ map decimal ns) ≡ w ++ numbers_text ns
join-numbers w [] = sym (append-nil w)
join-numbers w (n ∷ ns) = ap (λ t. w ++ 32 ∷ t) (join-numbers (decimal n) ns)

-- a word with numbers and then words after it
pub join-numbers_and : (w : List ℕ) (ns : List ℕ) (v : List ℕ) (vs : List (List ℕ))
    → join_with_byte 32 (w ∷ (map decimal ns ++ v ∷ vs)) ≡ w ++ (numbers_text ns ++ 32 ∷ join_with_byte 32 (v ∷ vs))
join-numbers_and w [] v vs = refl
join-numbers_and w (n ∷ ns) v vs =
    ap (λ t. w ++ 32 ∷ t) (join-numbers_and (decimal n) ns v vs) ∙ ap (λ t. w ++ 32 ∷ t) (sym (append_assoc (decimal n) (numbers_text ns) (32 ∷ join_with_byte 32 (v ∷ vs))))
