-- The words of a line read as it.
use Rattle.std.proofs.Common.{◌≡◌, ◌<◌, ◌+◌, ◌-◌, ◌^◌, ℕ, Bool, true, false, suc, List, [], ◌∷◌, ◌++◌, map, length, drop, Some, Result, Ok, refl, sym, ◌∙◌, ap, arith, codes, true≢false, nat_le, lit<, add-one}
use Rattle.std.proofs.lemmas.Bool.{leb-true, le-leb, ltb-true}
use Rattle.std.proofs.lemmas.Slice.Eq.{bytes_eq-Decides}
use Rattle.std.specs.Prelude.{slice_get}
use Rattle.std.specs.List.{list_all}
use Rattle.std.specs.Str.{bytes_eq}
use Rattle.std.specs.Char.{is_ascii_digit}
use Rattle.std.specs.Fmt.{decimal}
use Rattle.std.proofs.lemmas.Fmt.{digits_decimal}
use Rattle.stale_model.specs.declared.End.{End}
use Rattle.stale_model.specs.declared.End.TheVariants.{Hard, Soft}
use Rattle.cert_text.specs.declared.CertFault.{CertFault}
use Rattle.cert_text.specs.declared.lines.CertLine.{CertLine}
use Rattle.cert_text.specs.declared.lines.CertLine.TheVariants as form
use Rattle.cert_text.specs.declared.lines.Keyword.{Keyword}
use Rattle.cert_text.specs.declared.lines.Keyword.TheVariants as word
use Rattle.cert_text.specs.Numbers.{most_record, most_delta, number_of, numbers_of}
use Rattle.cert_text.specs.Texts.{end_words}
use Rattle.cert_text.specs.Words.{keyword_of, then_next, or_number, is_word, records_of, four_of, hard_of, soft_of, try_at, try_of, line_of}
use Rattle.cert_text.specs.Certificates.{has_chain}
use Rattle.cert_text.specs.Laws.{records_fit, end_fits, try_fits}
use Rattle.cert_text.proofs.Numerals.{own, both, number_of-decimal}
use Rattle.cert_text.proofs.Joined.{record_fits}
use Rattle.cert_text.proofs.Places.{get-behind, take-front, drop-front}
use Rattle.cert_text.proofs.LineWords.{keyword_text, keyword, other_words, line_fits}

pub keyword_of-text : (k : Keyword) → keyword_of (keyword_text k) ≡ Some k
keyword_of-text word.StaleCert = refl
keyword_of-text word.Key = refl
keyword_of-text word.Duplicate = refl
keyword_of-text word.Unmatched = refl
keyword_of-text word.Infinite = refl
keyword_of-text word.Delta = refl
keyword_of-text word.Order = refl
keyword_of-text word.Pair = refl
keyword_of-text word.Two = refl
keyword_of-text word.Stuck = refl
keyword_of-text word.Try = refl
keyword_of-text word.End = refl

-- numbers' texts read as them
numbers_of-decimals : (ns : List ℕ) → records_fit ns ≡ true → numbers_of most_record (map decimal ns) ≡ Some ns
numbers_of-decimals [] fit = refl
numbers_of-decimals (n ∷ ns) fit =
    let parts = both (nat_le n most_record) (records_fit ns) fit in
    rw (number_of-decimal most_record n (leb-true n most_record parts.0) (lit< tt), numbers_of-decimals ns parts.1) refl

records_are : (n : ℕ) (recs : List ℕ) → records_fit recs ≡ true → records_of n (map decimal recs) ≡ Ok recs
records_are n recs fit = ap (or_number n) (numbers_of-decimals recs fit)

record_is : (n rec : ℕ) → nat_le rec most_record ≡ true → or_number n (number_of most_record (decimal rec)) ≡ Ok rec
record_is n rec fit = ap (or_number n) (number_of-decimal most_record rec (leb-true rec most_record fit) (lit< tt))

delta_is : (n delta : ℕ) → nat_le delta most_delta ≡ true → or_number n (number_of most_delta (decimal delta)) ≡ Ok delta
delta_is n delta fit = ap (or_number n) (number_of-decimal most_delta delta (leb-true delta most_delta fit) (lit< tt))

-- a try by its chain's words, the kind of its end and the words after that
try_at-parts : (n : ℕ) (with_end : List ℕ → List ℕ → Result CertLine CertFault) (cs : List (List ℕ)) (w : List ℕ) (es : List (List ℕ)) (chain ends : List ℕ)
    → records_of n cs ≡ Ok chain → records_of n es ≡ Ok ends → try_at n (length cs) with_end (cs ++ w ∷ es) ≡ with_end chain ends
try_at-parts n with_end cs w es chain ends chain_is ends_is =
    ap (λ ws. then_next (records_of n ws) (λ chain. then_next (records_of n (drop (length cs + 1) (cs ++ w ∷ es))) (with_end chain))) (take-front cs (w ∷ es))
    ∙ ap (λ r. then_next r (λ chain. then_next (records_of n (drop (length cs + 1) (cs ++ w ∷ es))) (with_end chain))) chain_is
    ∙ ap (λ k. then_next (records_of n (drop k (cs ++ w ∷ es))) (with_end chain)) (add-one (length cs))
    ∙ ap (λ ws. then_next (records_of n ws) (with_end chain)) (drop-front cs w es)
    ∙ ap (λ r. then_next r (with_end chain)) ends_is

-- a try of the form `hard`
try_of-hard : (n : ℕ) (ws : List (List ℕ)) (c : ℕ) → length ws ≡ c + 3 → 0 < c → slice_get ws c ≡ Some (codes "hard") → try_of n ws ≡ try_at n c (hard_of n) ws
try_of-hard n ws c as_many some there =
    let place : length ws - 3 ≡ c = omega arith in
    let enough : nat_le 4 (length ws) ≡ true = le-leb 4 (length ws) (omega arith) in
    rw (enough, place, there) refl

-- a try of the form `soft`
try_of-soft : (n : ℕ) (ws : List (List ℕ)) (c : ℕ) → length ws ≡ c + 4 → 0 < c → is_word (codes "hard") (slice_get ws (c + 1)) ≡ false
    → slice_get ws c ≡ Some (codes "soft") → try_of n ws ≡ try_at n c (soft_of n) ws
try_of-soft n ws c as_many some other there =
    let third : length ws - 3 ≡ c + 1 = omega arith in
    let place : length ws - 4 ≡ c = omega arith in
    let four : nat_le 4 (length ws) ≡ true = le-leb 4 (length ws) (omega arith) in
    let five : nat_le 5 (length ws) ≡ true = le-leb 5 (length ws) (omega arith) in
    rw (four, five, third, other, place, there) refl

-- a number's text is no other word
decimal_isnt_hard : (n : ℕ) → n < 2 ^ 64 → bytes_eq (decimal n) (codes "hard") ≡ false
decimal_isnt_hard n fits = go (bytes_eq (decimal n) (codes "hard")) refl
  where
    go : (b : Bool) → bytes_eq (decimal n) (codes "hard") ≡ b → b ≡ false
    go true e =
        let digits : list_all is_ascii_digit (decimal n) ≡ true = digits_decimal own n fits in
        absurd (true≢false (sym digits ∙ ap (list_all is_ascii_digit) ((bytes_eq-Decides (decimal n) (codes "hard")).0 e)))
    go false e = refl

-- how many words there are round the kind of the end
length-parts : (cs : List (List ℕ)) (w : List ℕ) (es : List (List ℕ)) → length (cs ++ w ∷ es) ≡ length cs + (1 + length es)
length-parts [] w es = omega arith
length-parts (c ∷ cs) w es = omega (arith, length-parts cs w es)

-- what stands behind that kind
get-next : (cs : List (List ℕ)) (w x : List ℕ) (es : List (List ℕ)) → slice_get (cs ++ w ∷ x ∷ es) (length cs + 1) ≡ Some x
get-next cs w x es = rw (add-one (length cs)) (go cs)
  where
    go : (ds : List (List ℕ)) → slice_get (ds ++ w ∷ x ∷ es) (suc (length ds)) ≡ Some x
    go [] = refl
    go (d ∷ ds) = go ds

length-decimals : (ns : List ℕ) → length (map decimal ns) ≡ length ns
length-decimals [] = refl
length-decimals (n ∷ ns) = omega (arith, length-decimals ns)

hard_reads : (n : ℕ) (chain : List ℕ) (p u : ℕ) → 0 < length chain → records_fit chain ≡ true → records_fit (p ∷ u ∷ []) ≡ true
    → try_of n (map decimal chain ++ end_words (Hard p u)) ≡ Ok (form.Try (record { chain = chain; end = Hard p u }))
hard_reads n chain p u some chain_fits ends_fit =
    let cs = map decimal chain in
    let es = map decimal (p ∷ u ∷ []) in
    let as_many : length (cs ++ codes "hard" ∷ es) ≡ length cs + 3 = length-parts cs (codes "hard") es in
    let others : 0 < length cs = omega (arith, length-decimals chain) in
    try_of-hard n (cs ++ codes "hard" ∷ es) (length cs) as_many others (get-behind cs (codes "hard") es)
    ∙ try_at-parts n (hard_of n) cs (codes "hard") es chain (p ∷ u ∷ []) (records_are n chain chain_fits) (records_are n (p ∷ u ∷ []) ends_fit)

soft_reads : (n : ℕ) (chain : List ℕ) (p q q2 : ℕ) → 0 < length chain → records_fit chain ≡ true → records_fit (p ∷ q ∷ q2 ∷ []) ≡ true
    → try_of n (map decimal chain ++ end_words (Soft p q q2)) ≡ Ok (form.Try (record { chain = chain; end = Soft p q q2 }))
soft_reads n chain p q q2 some chain_fits ends_fit =
    let cs = map decimal chain in
    let es = map decimal (p ∷ q ∷ q2 ∷ []) in
    let as_many : length (cs ++ codes "soft" ∷ es) ≡ length cs + 4 = length-parts cs (codes "soft") es in
    let others : 0 < length cs = omega (arith, length-decimals chain) in
    let first : nat_le p most_record ≡ true = (both (nat_le p most_record) (records_fit (q ∷ q2 ∷ [])) ends_fit).0 in
    let other : is_word (codes "hard") (slice_get (cs ++ codes "soft" ∷ es) (length cs + 1)) ≡ false =
    ap (is_word (codes "hard")) (get-next cs (codes "soft") (decimal p) (map decimal (q ∷ q2 ∷ []))) ∙ decimal_isnt_hard p (record_fits p first) in
    try_of-soft n (cs ++ codes "soft" ∷ es) (length cs) as_many others other (get-behind cs (codes "soft") es)
    ∙ try_at-parts n (soft_of n) cs (codes "soft") es chain (p ∷ q ∷ q2 ∷ []) (records_are n chain chain_fits) (records_are n (p ∷ q ∷ q2 ∷ []) ends_fit)

end_reads : (n : ℕ) (chain : List ℕ) (end : End) → 0 < length chain → records_fit chain ≡ true → end_fits end ≡ true
    → try_of n (map decimal chain ++ end_words end) ≡ Ok (form.Try (record { chain = chain; end = end }))
end_reads n chain (Hard p u) some chain_fits ends_fit = hard_reads n chain p u some chain_fits ends_fit
end_reads n chain (Soft p q q2) some chain_fits ends_fit = soft_reads n chain p q q2 some chain_fits ends_fit

-- the words after a line's keyword read as it
pub line_of-words : (n : ℕ) (l : CertLine) → line_fits l ≡ true → line_of n (keyword l) (other_words l) ≡ Ok l
line_of-words n form.Header fit = refl
line_of-words n (form.Key key) fit = ap (λ r. then_next r (λ k. Ok (form.Key k))) (record_is n key fit)
line_of-words n (form.Duplicate rec) fit = ap (λ r. then_next r (λ k. Ok (form.Duplicate k))) (record_is n rec fit)
line_of-words n (form.Unmatched rec) fit = ap (λ r. then_next r (λ k. Ok (form.Unmatched k))) (record_is n rec fit)
line_of-words n (form.Infinite rec) fit = ap (λ r. then_next r (λ k. Ok (form.Infinite k))) (record_is n rec fit)
line_of-words n (form.Delta delta) fit = ap (λ r. then_next r (λ k. Ok (form.Delta k))) (delta_is n delta fit)
line_of-words n (form.Order order) fit = ap (λ r. then_next r (λ ks. Ok (form.Order ks))) (records_are n order fit)
line_of-words n (form.Pair four) fit = ap (λ r. then_next r (four_of n)) (records_are n (four.p ∷ four.q ∷ four.q2 ∷ four.p2 ∷ []) fit)
line_of-words n form.TwoYes fit = refl
line_of-words n form.TwoNo fit = refl
line_of-words n (form.Stuck stuck) fit = ap (λ r. then_next r (λ ks. Ok (form.Stuck ks))) (records_are n stuck fit)
line_of-words n (form.Try attempt) fit =
    let first = both (has_chain attempt) (try_fits attempt) fit in
    let second = both (records_fit attempt.chain) (end_fits attempt.end) first.1 in
    end_reads n attempt.chain attempt.end (ltb-true 0 (length attempt.chain) first.0) second.0 second.1
line_of-words n form.End fit = refl
