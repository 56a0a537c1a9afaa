-- Words that read as a line are its words.
use Rattle.std.proofs.Common.{◌≡◌, ◌<◌, ◌^◌, ◌+◌, ◌-◌, ◌==◌, ◌&&◌, ℕ, Bool, true, false, cond, nat_le, List, [], ◌∷◌, ◌++◌, map, length, take, drop, Option, Some, None, option_map, Result, Ok, Err, refl, sym, ◌∙◌, ap, ap₂, subst, codes, true≢false, lit<}
use Rattle.std.specs.Prelude.{slice_get, option_and_then}
use Rattle.std.specs.Str.{bytes_eq}
use Rattle.std.specs.Fmt.{decimal}
use Rattle.std.proofs.lemmas.Slice.Eq.{bytes_eq-Decides}
use Rattle.cert_text.specs.declared.CertFault.{CertFault}
use Rattle.cert_text.specs.declared.CertFault.TheVariants as fault
use Rattle.cert_text.specs.declared.lines.CertLine.{CertLine}
use Rattle.cert_text.specs.declared.lines.CertLine.TheVariants as form
use Rattle.cert_text.specs.declared.lines.Keyword.{Keyword}
use Rattle.cert_text.specs.declared.lines.Keyword.TheVariants as word
use Rattle.cert_text.specs.Numbers.{most_record, most_delta, number_of, numbers_of}
use Rattle.cert_text.specs.Words.{keyword_of, then_next, or_number, only_word, is_word, one_number, records_of, four_of, pair_of, two_of, hard_of, soft_of, try_at, try_of, line_of}
use Rattle.cert_text.proofs.Numerals.{decimal-number_of}
use Rattle.cert_text.proofs.Places.{cut-at}
use Rattle.cert_text.proofs.LineWords.{keyword_text, keyword, other_words}

-- the words are those of the line
pub record IsLine (k : Keyword) (ws : List (List ℕ)) (l : CertLine) : Type 0 where
  pub keyword_is : k ≡ keyword l
  pub words_are : ws ≡ other_words l

pub ok_is : {X : Type 0} {x y : X} → ◌≡◌ {A = Result X CertFault} (Ok x) (Ok y) → x ≡ y
ok_is e = cc

some_is : {X : Type 0} {x y : X} → ◌≡◌ {A = Option X} (Some x) (Some y) → x ≡ y
some_is e = cc

-- one test of a keyword, and those after it
keyword_test : (w : List ℕ) (j k : Keyword) (rest : Option Keyword) → (bytes_eq w (keyword_text j) ≡ false → rest ≡ Some k → w ≡ keyword_text k)
    → cond (bytes_eq w (keyword_text j)) (Some j) rest ≡ Some k → w ≡ keyword_text k
keyword_test w j k rest later e = go (bytes_eq w (keyword_text j)) refl e
  where
    go : (b : Bool) → bytes_eq w (keyword_text j) ≡ b → cond b (Some j) rest ≡ Some k → w ≡ keyword_text k
    go true t s = (bytes_eq-Decides w (keyword_text j)).0 t ∙ ap keyword_text (some_is s)
    go false t s = later t s

-- a word that reads as a keyword is its text
pub keyword_is : (w : List ℕ) (k : Keyword) → keyword_of w ≡ Some k → w ≡ keyword_text k
keyword_is w k e =
    keyword_test w word.StaleCert k _ (λ a. keyword_test w word.Key k _ (λ b. keyword_test w word.Duplicate k _ (λ c.
    keyword_test w word.Unmatched k _ (λ d. keyword_test w word.Infinite k _ (λ f. keyword_test w word.Delta k _ (λ g.
    keyword_test w word.Order k _ (λ h. keyword_test w word.Pair k _ (λ i. keyword_test w word.Two k _ (λ j.
    keyword_test w word.Stuck k _ (λ m. keyword_test w word.Try k _ (λ n. keyword_test w word.End k None (λ o s. absurd (cc))))))))))))) e

-- numbers that are read are spelled by their decimals
decimals_are : (words : List (List ℕ)) (ns : List ℕ) → numbers_of most_record words ≡ Some ns → words ≡ map decimal ns
decimals_are [] ns e = ap (map decimal) (some_is e)
decimals_are (w ∷ ws) ns e = by_first (number_of most_record w) refl (numbers_of most_record ws) (decimals_are ws) e
  where
    by_first : (a : Option ℕ) → number_of most_record w ≡ a → (b : Option (List ℕ)) → ((ms : List ℕ) → b ≡ Some ms → ws ≡ map decimal ms)
        → option_and_then (λ n. option_map (λ ms. n ∷ ms) b) a ≡ Some ns → w ∷ ws ≡ map decimal ns
    by_first (Some n) p (Some ms) rest e = ap₂ (λ x xs. x ∷ xs) (decimal-number_of most_record n w (lit< tt) p).0 (rest ms refl) ∙ ap (map decimal) (some_is e)
    by_first (Some n) p None rest e = absurd (cc)
    by_first None p b rest e = absurd (cc)

records_text : (n : ℕ) (ws : List (List ℕ)) (recs : List ℕ) → records_of n ws ≡ Ok recs → ws ≡ map decimal recs
records_text n ws recs e = go (numbers_of most_record ws) refl e
  where
    go : (o : Option (List ℕ)) → numbers_of most_record ws ≡ o → or_number n o ≡ Ok recs → ws ≡ map decimal recs
    go (Some ns) p s = decimals_are ws ns p ∙ ap (map decimal) (ok_is s)
    go None p s = absurd (cc)

-- one number that is read is spelled by its decimals
number_text : (n most m : ℕ) (ws : List (List ℕ)) → most < 2 ^ 64 → one_number n most ws ≡ Ok m → ws ≡ map decimal (m ∷ [])
number_text n most m [] fits e = absurd (cc)
number_text n most m (w ∷ []) fits e = go (number_of most w) refl e
  where
    go : (o : Option ℕ) → number_of most w ≡ o → or_number n o ≡ Ok m → w ∷ [] ≡ map decimal (m ∷ [])
    go (Some k) p s = ap (λ x. x ∷ []) ((decimal-number_of most k w fits p).0 ∙ ap decimal (ok_is s))
    go None p s = absurd (cc)
number_text n most m (w ∷ v ∷ ws) fits e = absurd (cc)

-- where there is a value, what follows from it
pub next_is : {X Y : Type 0} (r : Result X CertFault) (next : X → Result Y CertFault) (y : Y) → then_next r next ≡ Ok y → (x : X) × (r ≡ Ok x) × (next x ≡ Ok y)
next_is (Ok x) next y e = (x, refl, e)
next_is (Err f) next y e = absurd (cc)

number_line : (n most : ℕ) (k : Keyword) (ws : List (List ℕ)) (make : ℕ → CertLine) (l : CertLine) → most < 2 ^ 64
    → ((m : ℕ) → (k ≡ keyword (make m)) × (map decimal (m ∷ []) ≡ other_words (make m))) → then_next (one_number n most ws) (λ m. Ok (make m)) ≡ Ok l → IsLine k ws l
number_line n most k ws make l fits made e =
    let went = next_is (one_number n most ws) (λ m. Ok (make m)) l e in
    subst (IsLine k ws) (ok_is went.2) (record { keyword_is = (made went.0).0; words_are = number_text n most went.0 ws fits went.1 ∙ (made went.0).1 })

records_line : (n : ℕ) (k : Keyword) (ws : List (List ℕ)) (make : List ℕ → CertLine) (l : CertLine)
    → ((ms : List ℕ) → (k ≡ keyword (make ms)) × (map decimal ms ≡ other_words (make ms))) → then_next (records_of n ws) (λ ms. Ok (make ms)) ≡ Ok l → IsLine k ws l
records_line n k ws make l made e =
    let went = next_is (records_of n ws) (λ ms. Ok (make ms)) l e in
    subst (IsLine k ws) (ok_is went.2) (record { keyword_is = (made went.0).0; words_are = records_text n ws went.0 went.1 ∙ (made went.0).1 })

-- a word that is there and is this one
word_is : (text : List ℕ) (o : Option (List ℕ)) → is_word text o ≡ true → o ≡ Some text
word_is text None e = absurd (true≢false (sym e))
word_is text (Some w) e = ap Some ((bytes_eq-Decides w text).0 e)

only_is : (w : List ℕ) (ws : List (List ℕ)) → only_word ws ≡ Some w → ws ≡ w ∷ []
only_is w [] e = absurd (cc)
only_is w (v ∷ []) e = ap (λ x. x ∷ []) (some_is e)
only_is w (v ∷ u ∷ ws) e = absurd (cc)

only_word_is : (text : List ℕ) (ws : List (List ℕ)) → is_word text (only_word ws) ≡ true → ws ≡ text ∷ []
only_word_is text ws e = only_is text ws (word_is text (only_word ws) e)

header_is : (n : ℕ) (ws : List (List ℕ)) (l : CertLine) → line_of n word.StaleCert ws ≡ Ok l → IsLine word.StaleCert ws l
header_is n ws l e = go (is_word (codes "1") (only_word ws)) refl e
  where
    go : (b : Bool) → is_word (codes "1") (only_word ws) ≡ b → cond b (Ok form.Header) (Err (fault.Line n)) ≡ Ok l → IsLine word.StaleCert ws l
    go true t s = subst (IsLine word.StaleCert ws) (ok_is s) (record { keyword_is = refl; words_are = only_word_is (codes "1") ws t })
    go false t s = absurd (cc)

two_is : (n : ℕ) (ws : List (List ℕ)) (l : CertLine) → two_of n ws ≡ Ok l → IsLine word.Two ws l
two_is n ws l e = go (is_word (codes "yes") (only_word ws)) refl (is_word (codes "no") (only_word ws)) refl e
  where
    go : (a : Bool) → is_word (codes "yes") (only_word ws) ≡ a → (b : Bool) → is_word (codes "no") (only_word ws) ≡ b
        → cond a (Ok form.TwoYes) (cond b (Ok form.TwoNo) (Err (fault.Line n))) ≡ Ok l → IsLine word.Two ws l
    go true s b t is = subst (IsLine word.Two ws) (ok_is is) (record { keyword_is = refl; words_are = only_word_is (codes "yes") ws s })
    go false s true t is = subst (IsLine word.Two ws) (ok_is is) (record { keyword_is = refl; words_are = only_word_is (codes "no") ws t })
    go false s false t is = absurd (cc)

four_is : (n : ℕ) (ws : List (List ℕ)) (recs : List ℕ) (l : CertLine) → ws ≡ map decimal recs → four_of n recs ≡ Ok l → IsLine word.Pair ws l
four_is n ws [] l t e = absurd (cc)
four_is n ws (p ∷ []) l t e = absurd (cc)
four_is n ws (p ∷ q ∷ []) l t e = absurd (cc)
four_is n ws (p ∷ q ∷ q2 ∷ []) l t e = absurd (cc)
four_is n ws (p ∷ q ∷ q2 ∷ p2 ∷ []) l t e = subst (IsLine word.Pair ws) (ok_is e) (record { keyword_is = refl; words_are = t })
four_is n ws (p ∷ q ∷ q2 ∷ p2 ∷ r ∷ recs) l t e = absurd (cc)

pair_is : (n : ℕ) (ws : List (List ℕ)) (l : CertLine) → pair_of n ws ≡ Ok l → IsLine word.Pair ws l
pair_is n ws l e = go (length ws == 4) e
  where
    go : (b : Bool) → cond b (then_next (records_of n ws) (four_of n)) (Err (fault.Line n)) ≡ Ok l → IsLine word.Pair ws l
    go true s =
        let went = next_is (records_of n ws) (four_of n) l s in
        four_is n ws went.0 l (records_text n ws went.0 went.1) went.2
    go false s = absurd (cc)

-- the parts of a try that is read
record TryParts (n c : ℕ) (with_end : List ℕ → List ℕ → Result CertLine CertFault) (ws : List (List ℕ)) (l : CertLine) : Type 0 where
  chain : List ℕ
  ends : List ℕ
  chain_is : take c ws ≡ map decimal chain
  ends_are : drop (c + 1) ws ≡ map decimal ends
  is : with_end chain ends ≡ Ok l

try_parts : (n c : ℕ) (with_end : List ℕ → List ℕ → Result CertLine CertFault) (ws : List (List ℕ)) (l : CertLine) → try_at n c with_end ws ≡ Ok l → TryParts n c with_end ws l
try_parts n c with_end ws l e =
    let first = next_is (records_of n (take c ws)) (λ chain. then_next (records_of n (drop (c + 1) ws)) (with_end chain)) l e in
    let second = next_is (records_of n (drop (c + 1) ws)) (with_end first.0) l first.2 in
    record {
      chain = first.0;
      ends = second.0;
      chain_is = records_text n (take c ws) first.0 first.1;
      ends_are = records_text n (drop (c + 1) ws) second.0 second.1;
      is = second.2;
    }

-- the words of a try by its parts
parts_words : (c : ℕ) (ws : List (List ℕ)) (w : List ℕ) (chain ends : List ℕ) → slice_get ws c ≡ Some w → take c ws ≡ map decimal chain → drop (c + 1) ws ≡ map decimal ends
    → ws ≡ map decimal chain ++ w ∷ map decimal ends
parts_words c ws w chain ends at front back = cut-at ws c w at ∙ ap₂ (λ a b. a ++ w ∷ b) front back

hard_is : (n : ℕ) (ws : List (List ℕ)) (chain ends : List ℕ) (l : CertLine) → ws ≡ map decimal chain ++ codes "hard" ∷ map decimal ends → hard_of n chain ends ≡ Ok l → IsLine word.Try ws l
hard_is n ws chain [] l t e = absurd (cc)
hard_is n ws chain (p ∷ []) l t e = absurd (cc)
hard_is n ws chain (p ∷ u ∷ []) l t e = subst (IsLine word.Try ws) (ok_is e) (record { keyword_is = refl; words_are = t })
hard_is n ws chain (p ∷ u ∷ v ∷ ends) l t e = absurd (cc)

soft_is : (n : ℕ) (ws : List (List ℕ)) (chain ends : List ℕ) (l : CertLine) → ws ≡ map decimal chain ++ codes "soft" ∷ map decimal ends → soft_of n chain ends ≡ Ok l → IsLine word.Try ws l
soft_is n ws chain [] l t e = absurd (cc)
soft_is n ws chain (p ∷ []) l t e = absurd (cc)
soft_is n ws chain (p ∷ q ∷ []) l t e = absurd (cc)
soft_is n ws chain (p ∷ q ∷ q2 ∷ []) l t e = subst (IsLine word.Try ws) (ok_is e) (record { keyword_is = refl; words_are = t })
soft_is n ws chain (p ∷ q ∷ q2 ∷ r ∷ ends) l t e = absurd (cc)

try_is : (n : ℕ) (ws : List (List ℕ)) (l : CertLine) → try_of n ws ≡ Ok l → IsLine word.Try ws l
try_is n ws l e =
    go (nat_le 4 (length ws)) (is_word (codes "hard") (slice_get ws (length ws - 3))) refl (nat_le 5 (length ws)) (is_word (codes "soft") (slice_get ws (length ws - 4))) refl e
  where
    hard : is_word (codes "hard") (slice_get ws (length ws - 3)) ≡ true → try_at n (length ws - 3) (hard_of n) ws ≡ Ok l → IsLine word.Try ws l
    hard at s =
        let parts = try_parts n (length ws - 3) (hard_of n) ws l s in
        hard_is n ws parts.chain parts.ends l
        (parts_words (length ws - 3) ws (codes "hard") parts.chain parts.ends (word_is (codes "hard") (slice_get ws (length ws - 3)) at) parts.chain_is parts.ends_are) parts.is

    soft : is_word (codes "soft") (slice_get ws (length ws - 4)) ≡ true → try_at n (length ws - 4) (soft_of n) ws ≡ Ok l → IsLine word.Try ws l
    soft at s =
        let parts = try_parts n (length ws - 4) (soft_of n) ws l s in
        soft_is n ws parts.chain parts.ends l
        (parts_words (length ws - 4) ws (codes "soft") parts.chain parts.ends (word_is (codes "soft") (slice_get ws (length ws - 4)) at) parts.chain_is parts.ends_are) parts.is

    go : (a b : Bool) → is_word (codes "hard") (slice_get ws (length ws - 3)) ≡ b → (c d : Bool) → is_word (codes "soft") (slice_get ws (length ws - 4)) ≡ d
        → cond (a && b) (try_at n (length ws - 3) (hard_of n) ws) (cond (c && d) (try_at n (length ws - 4) (soft_of n) ws) (Err (fault.Line n))) ≡ Ok l → IsLine word.Try ws l
    go true true p c d q s = hard p s
    go true false p true true q s = soft q s
    go true false p true false q s = absurd (cc)
    go true false p false d q s = absurd (cc)
    go false b p true true q s = soft q s
    go false b p true false q s = absurd (cc)
    go false b p false d q s = absurd (cc)

end_is : (n : ℕ) (ws : List (List ℕ)) (l : CertLine) → line_of n word.End ws ≡ Ok l → IsLine word.End ws l
end_is n [] l e = subst (IsLine word.End []) (ok_is e) (record { keyword_is = refl; words_are = refl })
end_is n (w ∷ ws) l e = absurd (cc)

-- words that read as a line after a keyword are the line's
pub line_is : (n : ℕ) (k : Keyword) (ws : List (List ℕ)) (l : CertLine) → line_of n k ws ≡ Ok l → IsLine k ws l
line_is n word.StaleCert ws l e = header_is n ws l e
line_is n word.Key ws l e = number_line n most_record word.Key ws form.Key l (lit< tt) (λ m. (refl, refl)) e
line_is n word.Duplicate ws l e = number_line n most_record word.Duplicate ws form.Duplicate l (lit< tt) (λ m. (refl, refl)) e
line_is n word.Unmatched ws l e = number_line n most_record word.Unmatched ws form.Unmatched l (lit< tt) (λ m. (refl, refl)) e
line_is n word.Infinite ws l e = number_line n most_record word.Infinite ws form.Infinite l (lit< tt) (λ m. (refl, refl)) e
line_is n word.Delta ws l e = number_line n most_delta word.Delta ws form.Delta l (lit< tt) (λ m. (refl, refl)) e
line_is n word.Order ws l e = records_line n word.Order ws form.Order l (λ ms. (refl, refl)) e
line_is n word.Pair ws l e = pair_is n ws l e
line_is n word.Two ws l e = two_is n ws l e
line_is n word.Stuck ws l e = records_line n word.Stuck ws form.Stuck l (λ ms. (refl, refl)) e
line_is n word.Try ws l e = try_is n ws l e
line_is n word.End ws l e = end_is n ws l e
