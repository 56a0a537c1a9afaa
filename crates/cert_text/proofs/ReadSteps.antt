-- One line after the other.
use Rattle.std.proofs.Common.{◌≡◌, ◌⊎◌, inl, inr, ◌+◌, ◌==◌, ℕ, Bool, true, false, cond, List, [], ◌∷◌, Result, Ok, Err, sym, ◌∙◌, ap, codes, append_assoc}
use Rattle.std.specs.List.{list_any, slice_split, onto_first}
use Rattle.stale_model.specs.declared.Verdict.{Verdict}
use Rattle.cert_text.specs.declared.CertFault.{CertFault}
use Rattle.cert_text.specs.declared.CertFault.TheVariants as fault
use Rattle.cert_text.specs.declared.lines.CertLine.{CertLine}
use Rattle.cert_text.specs.declared.parts.Reading.{Reading}
use Rattle.cert_text.specs.Texts.{line_text, lines_text}
use Rattle.cert_text.specs.Words.{lines_of, words_of, is_empty, then_next}
use Rattle.cert_text.specs.Parts.{may_stand, advance}
use Rattle.cert_text.specs.Reading.{step, at_end, read_from}
use Rattle.cert_text.proofs.Joined.{not_true, plain_is, none_empty, first_line}
use Rattle.cert_text.proofs.LineWords.{keyword_text, keyword, other_words, line_fits, keyword_plain, others_plain, words_of-line, line_lacks}
use Rattle.cert_text.proofs.LineReads.{keyword_of-text, line_of-words}

-- the parts of a split are some
pub split_some : {X : Type 0} (p : X → Bool) (P : List (List X) → Type 0) → ((y : List X) (ys : List (List X)) → P (y ∷ ys)) → (xs : List X) → P (slice_split p xs)
split_some {X = X} p P h [] = h [] []
split_some {X = X} p P h (x ∷ xs) = elim (p x) as (λ b. P (cond b ([] ∷ slice_split p xs) (onto_first x (slice_split p xs)))) [
  | true ↦ h [] (slice_split p xs)
  | false ↦ onto (slice_split p xs)
]
  where
    onto : (zs : List (List X)) → P (onto_first x zs)
    onto [] = h (x ∷ []) []
    onto (part ∷ parts) = h (x ∷ part) parts

-- the reading goes on past a line as its step says
pub read-line : (keys n : ℕ) (r : Reading) (text rest : List ℕ) (o : Result Reading CertFault) → step keys n r (words_of text) ≡ o
    → read_from keys n r (text ∷ lines_of rest) ≡ then_next o (λ s. read_from keys (n + 1) s (lines_of rest))
unfolding read_from
read-line keys n r text rest o is =
    split_some (λ b. b == 10) (λ zs. read_from keys n r (text ∷ zs) ≡ then_next o (λ s. read_from keys (n + 1) s zs))
    (λ y ys. ap (λ a. then_next a (λ s. read_from keys (n + 1) s (y ∷ ys))) is) rest

-- the step past a line that may stand there
pub step-line : (keys n : ℕ) (r s : Reading) (l : CertLine) → line_fits l ≡ true → may_stand r.state (keyword l) ≡ true → advance keys n r l ≡ Ok s
    → step keys n r (words_of (line_text l)) ≡ Ok s
step-line keys n r s l fit stands goes =
    let first : is_empty (keyword_text (keyword l)) ≡ false = not_true (is_empty (keyword_text (keyword l))) (plain_is (keyword_text (keyword l)) (keyword_plain (keyword l))).some in
    let others : list_any is_empty (other_words l) ≡ false = none_empty (other_words l) (others_plain l fit) in
    ap (step keys n r) (words_of-line l fit)
    ∙ rw (first, others, keyword_of-text (keyword l), stands, line_of-words n l fit) goes

-- one line is the first of the lines of a text
pub first_of-lines : (l : CertLine) (ls : List CertLine) → line_fits l ≡ true → lines_of (lines_text (l ∷ ls)) ≡ line_text l ∷ lines_of (lines_text ls)
first_of-lines l ls fit =
    ap lines_of (append_assoc (line_text l) (codes "\n") (lines_text ls)) ∙ first_line (line_text l) (lines_text ls) (line_lacks l fit)

-- what the loop of the reader keeps: a fault of a step is that of the whole
pub fault-whole : (keys n : ℕ) (r : Reading) (f : CertFault) (rest text after : List ℕ) (whole : Result (List Verdict) CertFault) → read_from keys n r (lines_of rest) ≡ whole
    → lines_of rest ≡ text ∷ lines_of after
    → (◌≡◌ {A = Result Reading CertFault} (Err f) (Err fault.Memory)) ⊎ (Err f ≡ step keys n r (words_of text))
    → (◌≡◌ {A = Result (List Verdict) CertFault} (Err f) (Err fault.Memory)) ⊎ (Err f ≡ whole)
fault-whole keys n r f rest text after whole reads is (inl e) = inl (cc)
fault-whole keys n r f rest text after whole reads is (inr e) =
    inr (sym (sym reads ∙ ap (read_from keys n r) is ∙ read-line keys n r text after (Err f) (sym e)))

-- a step goes on with the whole
pub next-whole : (keys n : ℕ) (r s : Reading) (rest text after : List ℕ) (whole : Result (List Verdict) CertFault) → read_from keys n r (lines_of rest) ≡ whole
    → lines_of rest ≡ text ∷ lines_of after
    → (◌≡◌ {A = Result Reading CertFault} (Ok s) (Err fault.Memory)) ⊎ (Ok s ≡ step keys n r (words_of text))
    → read_from keys (n + 1) s (lines_of after) ≡ whole
next-whole keys n r s rest text after whole reads is (inl e) = absurd (cc)
next-whole keys n r s rest text after whole reads is (inr e) =
    sym (read-line keys n r text after (Ok s) (sym e)) ∙ ap (read_from keys n r) (sym is) ∙ reads

-- the end of the text is that of the whole
pub end-whole : (keys n : ℕ) (r : Reading) (rest : List ℕ) (whole : Result (List Verdict) CertFault) → read_from keys n r (lines_of rest) ≡ whole
    → lines_of rest ≡ rest ∷ [] → at_end n r rest ≡ whole
unfolding read_from
end-whole keys n r rest whole reads is = sym (ap (read_from keys n r) is) ∙ reads
