-- The words of a line: what they are, and that they are plain.
use Rattle.std.proofs.Common.{◌≡◌, ◌<◌, ◌^◌, ◌&&◌, ℕ, Bool, true, List, [], ◌∷◌, ◌++◌, map, refl, ◌∙◌, ap, arith, codes, nat_le}
use Rattle.std.proofs.lemmas.Bool.{leb-true}
use Rattle.std.specs.List.{list_all, join_with_byte}
use Rattle.std.specs.Fmt.{decimal}
use Rattle.stale_model.specs.declared.End.{End}
use Rattle.stale_model.specs.declared.End.TheVariants.{Hard, Soft}
use Rattle.cert_text.specs.declared.lines.CertLine.{CertLine}
use Rattle.cert_text.specs.declared.lines.CertLine.TheVariants as form
use Rattle.cert_text.specs.declared.lines.Keyword.{Keyword}
use Rattle.cert_text.specs.declared.lines.Keyword.TheVariants as word
use Rattle.cert_text.specs.Numbers.{most_record, most_delta}
use Rattle.cert_text.specs.Texts.{end_words, line_words, line_text}
use Rattle.cert_text.specs.Words.{words_of}
use Rattle.cert_text.specs.Certificates.{has_chain}
use Rattle.cert_text.specs.Laws.{records_fit, end_fits, try_fits}
use Rattle.cert_text.proofs.Numerals.{both}
use Rattle.cert_text.proofs.Joined.{lacks, is_plain, join_bools, decimal_plain, record_fits, decimals_plain, plain-append, lacks-join, words_of-join}

-- how a keyword is written
abbrev pub keyword_text : Keyword → List ℕ
keyword_text word.StaleCert = codes "stale-cert"
keyword_text word.Key = codes "key"
keyword_text word.Duplicate = codes "duplicate"
keyword_text word.Unmatched = codes "unmatched"
keyword_text word.Infinite = codes "infinite"
keyword_text word.Delta = codes "delta"
keyword_text word.Order = codes "order"
keyword_text word.Pair = codes "pair"
keyword_text word.Two = codes "two"
keyword_text word.Stuck = codes "stuck"
keyword_text word.Try = codes "try"
keyword_text word.End = codes "end"

-- the keyword of a line
abbrev pub keyword : CertLine → Keyword
keyword form.Header = word.StaleCert
keyword (form.Key key) = word.Key
keyword (form.Duplicate rec) = word.Duplicate
keyword (form.Unmatched rec) = word.Unmatched
keyword (form.Infinite rec) = word.Infinite
keyword (form.Delta delta) = word.Delta
keyword (form.Order order) = word.Order
keyword (form.Pair four) = word.Pair
keyword form.TwoYes = word.Two
keyword form.TwoNo = word.Two
keyword (form.Stuck stuck) = word.Stuck
keyword (form.Try attempt) = word.Try
keyword form.End = word.End

-- the words after it
abbrev pub other_words : CertLine → List (List ℕ)
other_words form.Header = codes "1" ∷ []
other_words (form.Key key) = map decimal (key ∷ [])
other_words (form.Duplicate rec) = map decimal (rec ∷ [])
other_words (form.Unmatched rec) = map decimal (rec ∷ [])
other_words (form.Infinite rec) = map decimal (rec ∷ [])
other_words (form.Delta delta) = map decimal (delta ∷ [])
other_words (form.Order order) = map decimal order
other_words (form.Pair four) = map decimal (four.p ∷ four.q ∷ four.q2 ∷ four.p2 ∷ [])
other_words form.TwoYes = codes "yes" ∷ []
other_words form.TwoNo = codes "no" ∷ []
other_words (form.Stuck stuck) = map decimal stuck
other_words (form.Try attempt) = map decimal attempt.chain ++ end_words attempt.end
other_words form.End = []

pub words_are : (l : CertLine) → line_words l ≡ keyword_text (keyword l) ∷ other_words l
words_are form.Header = refl
words_are (form.Key key) = refl
words_are (form.Duplicate rec) = refl
words_are (form.Unmatched rec) = refl
words_are (form.Infinite rec) = refl
words_are (form.Delta delta) = refl
words_are (form.Order order) = refl
words_are (form.Pair four) = refl
words_are form.TwoYes = refl
words_are form.TwoNo = refl
words_are (form.Stuck stuck) = refl
words_are (form.Try attempt) = refl
words_are form.End = refl

-- whether the numbers of a line fit their types, and a try has a chain
abbrev pub line_fits : CertLine → Bool
line_fits form.Header = true
line_fits (form.Key key) = nat_le key most_record
line_fits (form.Duplicate rec) = nat_le rec most_record
line_fits (form.Unmatched rec) = nat_le rec most_record
line_fits (form.Infinite rec) = nat_le rec most_record
line_fits (form.Delta delta) = nat_le delta most_delta
line_fits (form.Order order) = records_fit order
line_fits (form.Pair four) = records_fit (four.p ∷ four.q ∷ four.q2 ∷ four.p2 ∷ [])
line_fits form.TwoYes = true
line_fits form.TwoNo = true
line_fits (form.Stuck stuck) = records_fit stuck
line_fits (form.Try attempt) = has_chain attempt && try_fits attempt
line_fits form.End = true

pub keyword_plain : (k : Keyword) → is_plain (keyword_text k) ≡ true
keyword_plain word.StaleCert = refl
keyword_plain word.Key = refl
keyword_plain word.Duplicate = refl
keyword_plain word.Unmatched = refl
keyword_plain word.Infinite = refl
keyword_plain word.Delta = refl
keyword_plain word.Order = refl
keyword_plain word.Pair = refl
keyword_plain word.Two = refl
keyword_plain word.Stuck = refl
keyword_plain word.Try = refl
keyword_plain word.End = refl

end_plain : (end : End) → end_fits end ≡ true → list_all is_plain (end_words end) ≡ true
end_plain (Hard p u) fit = decimals_plain (p ∷ u ∷ []) fit
end_plain (Soft p q q2) fit = decimals_plain (p ∷ q ∷ q2 ∷ []) fit

one_plain : (n : ℕ) → n < 2 ^ 64 → list_all is_plain (map decimal (n ∷ [])) ≡ true
one_plain n fit = join_bools _ _ (decimal_plain n fit) refl

-- the words after the keyword are plain
pub others_plain : (l : CertLine) → line_fits l ≡ true → list_all is_plain (other_words l) ≡ true
others_plain form.Header fit = refl
others_plain (form.Key key) fit = one_plain key (record_fits key fit)
others_plain (form.Duplicate rec) fit = one_plain rec (record_fits rec fit)
others_plain (form.Unmatched rec) fit = one_plain rec (record_fits rec fit)
others_plain (form.Infinite rec) fit = one_plain rec (record_fits rec fit)
others_plain (form.Delta delta) fit = one_plain delta (omega (arith, leb-true delta most_delta fit))
others_plain (form.Order order) fit = decimals_plain order fit
others_plain (form.Pair four) fit = decimals_plain (four.p ∷ four.q ∷ four.q2 ∷ four.p2 ∷ []) fit
others_plain form.TwoYes fit = refl
others_plain form.TwoNo fit = refl
others_plain (form.Stuck stuck) fit = decimals_plain stuck fit
others_plain (form.Try attempt) fit =
    let parts = both (records_fit attempt.chain) (end_fits attempt.end) (both (has_chain attempt) (try_fits attempt) fit).1 in
    plain-append (map decimal attempt.chain) (end_words attempt.end) (decimals_plain attempt.chain parts.0) (end_plain attempt.end parts.1)
others_plain form.End fit = refl

words_plain : (l : CertLine) → line_fits l ≡ true → list_all is_plain (keyword_text (keyword l) ∷ other_words l) ≡ true
words_plain l fit = join_bools _ _ (keyword_plain (keyword l)) (others_plain l fit)

-- a line has no line feed
pub line_lacks : (l : CertLine) → line_fits l ≡ true → lacks 10 (line_text l) ≡ true
line_lacks l fit =
    ap (λ ws. lacks 10 (join_with_byte 32 ws)) (words_are l) ∙ lacks-join (keyword_text (keyword l) ∷ other_words l) (words_plain l fit)

-- the words of a line's text
pub words_of-line : (l : CertLine) → line_fits l ≡ true → words_of (line_text l) ≡ keyword_text (keyword l) ∷ other_words l
words_of-line l fit =
    ap (λ ws. words_of (join_with_byte 32 ws)) (words_are l) ∙ words_of-join (keyword_text (keyword l)) (other_words l) (words_plain l fit)
