-- The text of lines, part by part.
use Rattle.std.proofs.Common.{◌≡◌, ℕ, ◌+◌, ◌<◌, List, [], ◌∷◌, ◌++◌, map, length, get_or, drop, suc, refl, sym, ◌∙◌, ap, Result, Ok, Err, OnOk, codes, append_assoc, add-one, drop-cons}
use Rattle.std.specs.List.{join_with_byte}
use Rattle.std.specs.Fmt.{decimal}
use Rattle.stale_model.specs.declared.End.{End}
use Rattle.stale_model.specs.declared.End.TheVariants.{Hard, Soft}
use Rattle.stale_model.specs.declared.Judgement.{Judgement}
use Rattle.stale_model.specs.declared.Try.{Try}
use Rattle.stale_model.specs.declared.Verdict.{Verdict}
use Rattle.stale_model.specs.declared.Verdict.TheVariants as verdict
use Rattle.cert_text.specs.declared.lines.CertLine.{CertLine}
use Rattle.cert_text.specs.declared.lines.CertLine.TheVariants as form
use Rattle.cert_text.specs.Texts.{numbers_text, end_words, line_text, lines_text}
use Rattle.cert_text.specs.Certificates.{pair_lines, two_lines, verdict_lines, parts_lines, cert_text}
use Rattle.cert_text.proofs.Joined.{join-numbers, join-numbers_and}

pub lines_text-append : (a b : List CertLine) → lines_text (a ++ b) ≡ lines_text a ++ lines_text b
lines_text-append [] b = refl
lines_text-append (l ∷ a) b =
    ap (λ t. line_text l ++ codes "\n" ++ t) (lines_text-append a b) ∙ sym (append_assoc (line_text l ++ codes "\n") (lines_text a) (lines_text b))

-- a word and numbers, one after the other behind a text
pub numbers_behind : (old word : List ℕ) (ns : List ℕ) (a b c : List ℕ) → a ≡ old ++ word → b ≡ a ++ numbers_text ns → c ≡ b ++ codes "\n"
    → c ≡ old ++ join_with_byte 32 (word ∷ map decimal ns) ++ codes "\n"
numbers_behind old word ns a b c first second third =
    third ∙ ap (λ t. t ++ codes "\n") (second ∙ ap (λ t. t ++ numbers_text ns) first ∙ append_assoc old word (numbers_text ns))
    ∙ ap (λ t. old ++ t ++ codes "\n") (sym (join-numbers word ns))

-- a try, behind a text
try_words : (chain : List ℕ) (end : End)
    → join_with_byte 32 (codes "try" ∷ (map decimal chain ++ end_words end)) ≡ codes "try" ++ (numbers_text chain ++ 32 ∷ join_with_byte 32 (end_words end))
try_words chain (Hard p u) = join-numbers_and (codes "try") chain (codes "hard") (map decimal (p ∷ u ∷ []))
try_words chain (Soft p q q2) = join-numbers_and (codes "try") chain (codes "soft") (map decimal (p ∷ q ∷ q2 ∷ []))

regroup : (text a b c d : List ℕ) → text ++ a ++ b ++ c ++ d ++ codes "\n" ≡ text ++ (a ++ (b ++ (c ++ d)) ++ codes "\n" ++ [])
regroup text a b c d = simp append_assoc refl

pub try_behind : (old : List ℕ) (attempt : Try) (a b c d e : List ℕ) → a ≡ old ++ codes "try" → b ≡ a ++ numbers_text attempt.chain → c ≡ b ++ codes " "
    → d ≡ c ++ join_with_byte 32 (end_words attempt.end) → e ≡ d ++ codes "\n" → e ≡ old ++ lines_text (form.Try attempt ∷ [])
try_behind old attempt a b c d e first second third fourth fifth =
    let end = join_with_byte 32 (end_words attempt.end) in
    fifth ∙ ap (λ t. t ++ codes "\n") (fourth ∙ ap (λ t. t ++ end) (third ∙ ap (λ t. t ++ codes " ") (second ∙ ap (λ t. t ++ numbers_text attempt.chain) first)))
    ∙ regroup old (codes "try") (numbers_text attempt.chain) (codes " ") end ∙ ap (λ t. old ++ (t ++ codes "\n" ++ [])) (sym (try_words attempt.chain attempt.end))

-- a line alone, behind a text, where it could be put there
pub line_alone : {T E : Type 0} (r : Result T E) (new old line : List ℕ) → OnOk r (new ≡ old ++ line ++ codes "\n") → OnOk r (new ≡ old ++ (line ++ codes "\n" ++ []))
line_alone (Ok x) new old line e = e ∙ simp append_assoc refl
line_alone (Err f) new old line e = e

-- the parts from one place on
parts_text-drop : (verdicts : List Verdict) (i key : ℕ) (v : Verdict) → i < length verdicts → v ≡ get_or verdicts i v
    → lines_text (parts_lines key (drop i verdicts)) ≡ line_text (form.Key key) ++ codes "\n" ++ (lines_text (verdict_lines v) ++ lines_text (parts_lines (key + 1) (drop (i + 1) verdicts)))
parts_text-drop verdicts i key v within is =
    rw (drop-cons verdicts i v within, add-one i, ← is)
    (ap (λ t. line_text (form.Key key) ++ codes "\n" ++ t) (lines_text-append (verdict_lines v) (parts_lines (key + 1) (drop (suc i) verdicts))))

part_parts : (text a v p : List ℕ) → text ++ a ++ codes "\n" ++ v ++ p ≡ text ++ (a ++ codes "\n" ++ (v ++ p))
part_parts text a v p = simp append_assoc refl

-- one part more of those that are left, behind a text
pub parts_behind : (old : List ℕ) (verdicts : List Verdict) (i : ℕ) (v : Verdict) (a b whole : List ℕ) → i < length verdicts → v ≡ get_or verdicts i v
    → a ≡ old ++ join_with_byte 32 (codes "key" ∷ map decimal ((i + 1) ∷ [])) ++ codes "\n" → b ≡ a ++ lines_text (verdict_lines v)
    → old ++ lines_text (parts_lines (i + 1) (drop i verdicts)) ≡ whole → b ++ lines_text (parts_lines (i + 1 + 1) (drop (i + 1) verdicts)) ≡ whole
parts_behind old verdicts i v a b whole within is first second so_far =
    let left = lines_text (parts_lines (i + 1 + 1) (drop (i + 1) verdicts)) in
    ap (λ t. t ++ left) (second ∙ ap (λ t. t ++ lines_text (verdict_lines v)) first)
    ∙ part_parts old (line_text (form.Key (i + 1))) (lines_text (verdict_lines v)) left
    ∙ ap (λ t. old ++ t) (sym (parts_text-drop verdicts i (i + 1) v within is)) ∙ so_far

-- a judgement, behind a text
judged_parts : (text a b p t : List ℕ) → text ++ a ++ codes "\n" ++ b ++ codes "\n" ++ p ++ t ≡ text ++ (a ++ codes "\n" ++ (b ++ codes "\n" ++ (p ++ t)))
judged_parts text a b p t = simp append_assoc refl

pub judged_behind : (old : List ℕ) (j : Judgement) (a b c d : List ℕ) → a ≡ old ++ join_with_byte 32 (codes "delta" ∷ map decimal (j.delta ∷ [])) ++ codes "\n"
    → b ≡ a ++ join_with_byte 32 (codes "order" ∷ map decimal j.order) ++ codes "\n" → c ≡ b ++ lines_text (pair_lines j.four) → d ≡ c ++ lines_text (two_lines j.two)
    → d ≡ old ++ lines_text (verdict_lines (verdict.Judged j))
judged_behind old j a b c d first second third fourth =
    let pair = lines_text (pair_lines j.four) in
    let two = lines_text (two_lines j.two) in
    let order = line_text (form.Order j.order) in
    fourth ∙ ap (λ t. t ++ two) (third ∙ ap (λ t. t ++ pair) (second ∙ ap (λ t. t ++ order ++ codes "\n") first))
    ∙ judged_parts old (line_text (form.Delta j.delta)) order pair two
    ∙ ap (λ t. old ++ (line_text (form.Delta j.delta) ++ codes "\n" ++ (order ++ codes "\n" ++ t))) (sym (lines_text-append (pair_lines j.four) (two_lines j.two)))

-- the whole
whole_parts : (a b c : List ℕ) → a ++ codes "\n" ++ b ++ (c ++ codes "\n") ≡ a ++ codes "\n" ++ (b ++ (c ++ codes "\n" ++ []))
whole_parts a b c = simp append_assoc refl

pub whole_text : (verdicts : List Verdict) (a b c : List ℕ) → a ≡ codes "stale-cert 1\n" → b ≡ a ++ lines_text (parts_lines 1 verdicts) → c ≡ b ++ codes "end\n" → c ≡ cert_text verdicts
unfolding cert_text
whole_text verdicts a b c first second third =
    let parts = lines_text (parts_lines 1 verdicts) in
    third ∙ ap (λ t. t ++ codes "end\n") (second ∙ ap (λ t. t ++ parts) first) ∙ whole_parts (codes "stale-cert 1") parts (codes "end")
    ∙ ap (λ t. codes "stale-cert 1" ++ codes "\n" ++ t) (sym (lines_text-append (parts_lines 1 verdicts) (form.End ∷ [])))
