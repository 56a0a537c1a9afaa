-- What is read has one text.
use Rattle.std.proofs.Common.{◌≡◌, ◌<◌, ◌≤◌, ◌+◌, ◌==◌, ◌&&◌, ◌||◌, ℕ, Bool, true, false, cond, nat_lt, List, [], ◌∷◌, ◌++◌, map, length, Option, Some, None, Ok, Err, refl, sym, ◌∙◌, ap, subst, arith, append_assoc, append-nil, true≢false, eqb-true}
use Rattle.std.specs.List.{list_any, join_with_byte}
use Rattle.std.proofs.lemmas.Bool.{ltb-true, ltb-false}
use Rattle.std.proofs.lemmas.List.{length_push}
use Rattle.std.proofs.lemmas.List.Splits.{join_with_byte-slice_split}
use Rattle.stale_model.specs.declared.Try.{Try}
use Rattle.stale_model.specs.declared.Refutation.{Refutation}
use Rattle.stale_model.specs.declared.TwoPart.TheVariants.{Yes, No}
use Rattle.stale_model.specs.declared.Verdict.{Verdict}
use Rattle.stale_model.specs.declared.Verdict.TheVariants as verdict
use Rattle.cert_text.specs.declared.CertFault.TheVariants as fault
use Rattle.cert_text.specs.declared.lines.CertLine.{CertLine}
use Rattle.cert_text.specs.declared.lines.CertLine.TheVariants as form
use Rattle.cert_text.specs.declared.lines.Keyword.{Keyword}
use Rattle.cert_text.specs.declared.parts.Bound.{Bound}
use Rattle.cert_text.specs.declared.parts.State.{State}
use Rattle.cert_text.specs.declared.parts.State.TheVariants as state
use Rattle.cert_text.specs.declared.parts.Reading.{Reading}
use Rattle.cert_text.specs.Texts.{line_words, line_text, lines_text}
use Rattle.cert_text.specs.Certificates.{pair_lines, verdict_lines, parts_lines, cert_text}
use Rattle.cert_text.specs.Words.{lines_of, words_of, is_empty, keyword_of, then_next, line_of}
use Rattle.cert_text.specs.Parts.{may_stand, judged, with_verdict, at_start, between, after_key, after_delta, after_order, after_pair, after_yes, after_no, after_stuck, advance_from, advance}
use Rattle.cert_text.specs.Reading.{step, step_by, is_ended, read_from, read_of}
use Rattle.cert_text.specs.Laws.{ReadHasOneText}
use Rattle.cert_text.proofs.LineWords.{keyword_text, keyword, words_are}
use Rattle.cert_text.proofs.WrittenLines.{lines_text-append}
use Rattle.cert_text.proofs.LineIs.{IsLine, keyword_is, line_is, next_is, ok_is}

-- the lines of a part up to the order that shows delta
abbrev ordered_lines : ℕ → List ℕ → List CertLine
ordered_lines delta order = form.Delta delta ∷ form.Order order ∷ []

-- those up to the pair
abbrev bound_lines : Bound → List CertLine
bound_lines bound = ordered_lines bound.delta bound.order ++ pair_lines bound.four

-- the lines of whole parts, and of the part that was begun
abbrev whole : List Verdict → List CertLine
whole vs = form.Header ∷ parts_lines 1 vs

abbrev begun : List Verdict → List CertLine → List CertLine
begun vs ls = whole vs ++ form.Key (length vs + 1) ∷ ls

-- the lines that a reading went past
lines_at : State → List Verdict → List CertLine
lines_at state.Start vs = []
lines_at state.Between vs = whole vs
lines_at state.Key vs = begun vs []
lines_at (state.Delta delta) vs = begun vs (form.Delta delta ∷ [])
lines_at (state.Ordered delta order) vs = begun vs (ordered_lines delta order)
lines_at (state.Paired bound) vs = begun vs (bound_lines bound)
lines_at (state.TwoYes bound) vs = begun vs (bound_lines bound ++ form.TwoYes ∷ [])
lines_at (state.TwoNo bound) vs = begun vs (bound_lines bound ++ form.TwoNo ∷ [])
lines_at (state.Refuted bound refutation) vs = begun vs (bound_lines bound ++ form.TwoNo ∷ form.Stuck refutation.stuck ∷ map form.Try refutation.tries)
lines_at state.Ended vs = whole vs ++ form.End ∷ []

-- how many whole parts there may be, where a reading stands
Counts : ℕ → State → List Verdict → Type 0
Counts keys state.Start vs = Unit {0}
Counts keys state.Between vs = length vs ≤ keys
Counts keys state.Ended vs = length vs ≡ keys
Counts keys _ vs = length vs < keys

-- one line more, and as many parts as may be
record Adds (keys : ℕ) (before : List CertLine) (l : CertLine) (s : Reading) : Type 0 where
  lines : lines_at s.state s.verdicts ≡ before ++ l ∷ []
  counts : Counts keys s.state s.verdicts

-- the parts with one more
parts_more : (k : ℕ) (vs : List Verdict) (v : Verdict) → parts_lines k (vs ++ v ∷ []) ≡ parts_lines k vs ++ form.Key (k + length vs) ∷ verdict_lines v
parts_more k [] v =
    let same : k ≡ k + 0 = omega arith in
    append-nil (form.Key k ∷ verdict_lines v) ∙ ap (λ n. form.Key n ∷ verdict_lines v) same
parts_more k (x ∷ vs) v =
    let same : k + 1 + length vs ≡ k + length {A = Verdict} (x ∷ vs) = omega arith in
    ap (λ t. form.Key k ∷ (verdict_lines x ++ t)) (parts_more (k + 1) vs v ∙ ap (λ n. parts_lines (k + 1) vs ++ form.Key n ∷ verdict_lines v) same)
    ∙ ap (λ t. form.Key k ∷ t) (sym (append_assoc (verdict_lines x) (parts_lines (k + 1) vs) (form.Key (k + length {A = Verdict} (x ∷ vs)) ∷ verdict_lines v)))

-- a whole part more
whole_more : (vs : List Verdict) (v : Verdict) → whole (vs ++ v ∷ []) ≡ begun vs (verdict_lines v)
whole_more vs v =
    let same : 1 + length vs ≡ length vs + 1 = omega arith in
    ap (λ t. form.Header ∷ t) (parts_more 1 vs v ∙ ap (λ n. parts_lines 1 vs ++ form.Key n ∷ verdict_lines v) same)

-- one line more of a part that was begun
begun_more : (vs : List Verdict) (ls : List CertLine) (l : CertLine) → begun vs (ls ++ l ∷ []) ≡ begun vs ls ++ l ∷ []
begun_more vs ls l = sym (append_assoc (whole vs) (form.Key (length vs + 1) ∷ ls) (l ∷ []))

-- a verdict that is whole ends its part
verdict_adds : (keys : ℕ) (vs : List Verdict) (v : Verdict) (ls : List CertLine) (l : CertLine) → length vs < keys → verdict_lines v ≡ ls ++ l ∷ []
    → Adds keys (begun vs ls) l (with_verdict vs v)
unfolding lines_at Counts
verdict_adds keys vs v ls l few is = record {
  lines = whole_more vs v ∙ ap (begun vs) is ∙ begun_more vs ls l;
  counts = omega (arith, length_push vs v);
}

start_adds : (keys n : ℕ) (l : CertLine) (s : Reading) → at_start n l ≡ Ok s → Adds keys [] l s
unfolding lines_at Counts
start_adds keys n form.Header s e = subst (Adds keys [] form.Header) (ok_is e) (record { lines = refl; counts = omega arith })
start_adds keys n l s e = absurd (cc)

-- the next key, or the end
between_adds : (keys n : ℕ) (vs : List Verdict) (l : CertLine) (s : Reading) → length vs ≤ keys → between keys n vs l ≡ Ok s → Adds keys (whole vs) l s
unfolding lines_at Counts
between_adds keys n vs (form.Key key) s few e = go (nat_lt (length vs) keys) refl (key == length vs + 1) refl e
  where
    go : (a : Bool) → nat_lt (length vs) keys ≡ a → (b : Bool) → (key == length vs + 1) ≡ b
        → cond (a && b) (Ok (record { state = state.Key; verdicts = vs })) (Err (fault.Key n)) ≡ Ok s → Adds keys (whole vs) (form.Key key) s
    go true p true q is = subst (Adds keys (whole vs) (form.Key key)) (ok_is is) (
        record { lines = ap (λ k. whole vs ++ form.Key k ∷ []) (sym (eqb-true key (length vs + 1) q)); counts = ltb-true (length vs) keys p })
    go true p false q is = absurd (cc)
    go false p b q is = absurd (cc)
between_adds keys n vs form.End s few e = go (nat_lt (length vs) keys) refl e
  where
    go : (a : Bool) → nat_lt (length vs) keys ≡ a → cond a (Err (fault.Absent (length vs + 1))) (Ok (record { state = state.Ended; verdicts = vs })) ≡ Ok s
        → Adds keys (whole vs) form.End s
    go true p is = absurd (cc)
    go false p is = subst (Adds keys (whole vs) form.End) (ok_is is) (record { lines = refl; counts = omega (arith, ltb-false (length vs) keys p) })
between_adds keys n vs l s few e = absurd (cc)

key_adds : (keys n : ℕ) (vs : List Verdict) (l : CertLine) (s : Reading) → length vs < keys → after_key n vs l ≡ Ok s → Adds keys (begun vs []) l s
unfolding lines_at Counts
key_adds keys n vs (form.Duplicate rec) s few e = subst (Adds keys (begun vs []) (form.Duplicate rec)) (ok_is e) (verdict_adds keys vs (verdict.Duplicate rec) [] (form.Duplicate rec) few refl)
key_adds keys n vs (form.Unmatched rec) s few e = subst (Adds keys (begun vs []) (form.Unmatched rec)) (ok_is e) (verdict_adds keys vs (verdict.Unmatched rec) [] (form.Unmatched rec) few refl)
key_adds keys n vs (form.Infinite rec) s few e = subst (Adds keys (begun vs []) (form.Infinite rec)) (ok_is e) (verdict_adds keys vs (verdict.Infinite rec) [] (form.Infinite rec) few refl)
key_adds keys n vs (form.Delta delta) s few e = subst (Adds keys (begun vs []) (form.Delta delta)) (ok_is e) (record { lines = begun_more vs [] (form.Delta delta); counts = few })
key_adds keys n vs l s few e = absurd (cc)

delta_adds : (keys n : ℕ) (vs : List Verdict) (delta : ℕ) (l : CertLine) (s : Reading) → length vs < keys → after_delta n vs delta l ≡ Ok s → Adds keys (begun vs (form.Delta delta ∷ [])) l s
unfolding lines_at Counts
delta_adds keys n vs delta (form.Order order) s few e =
    subst (Adds keys (begun vs (form.Delta delta ∷ [])) (form.Order order)) (ok_is e) (record { lines = begun_more vs (form.Delta delta ∷ []) (form.Order order); counts = few })
delta_adds keys n vs delta l s few e = absurd (cc)

order_adds : (keys n : ℕ) (vs : List Verdict) (delta : ℕ) (order : List ℕ) (l : CertLine) (s : Reading) → length vs < keys → after_order n vs delta order l ≡ Ok s
    → Adds keys (begun vs (ordered_lines delta order)) l s
unfolding lines_at Counts
order_adds keys n vs delta order (form.Pair four) s few e =
    subst (Adds keys (begun vs (ordered_lines delta order)) (form.Pair four)) (ok_is e) (record { lines = begun_more vs (ordered_lines delta order) (form.Pair four); counts = few })
order_adds keys n vs delta order form.TwoYes s few e =
    subst (Adds keys (begun vs (ordered_lines delta order)) form.TwoYes) (ok_is e) (record { lines = begun_more vs (ordered_lines delta order) form.TwoYes; counts = few })
order_adds keys n vs delta order form.TwoNo s few e =
    subst (Adds keys (begun vs (ordered_lines delta order)) form.TwoNo) (ok_is e) (record { lines = begun_more vs (ordered_lines delta order) form.TwoNo; counts = few })
order_adds keys n vs delta order l s few e = absurd (cc)

pair_adds : (keys n : ℕ) (vs : List Verdict) (bound : Bound) (l : CertLine) (s : Reading) → length vs < keys → after_pair n vs bound l ≡ Ok s → Adds keys (begun vs (bound_lines bound)) l s
unfolding lines_at Counts
pair_adds keys n vs bound form.TwoYes s few e =
    subst (Adds keys (begun vs (bound_lines bound)) form.TwoYes) (ok_is e) (record { lines = begun_more vs (bound_lines bound) form.TwoYes; counts = few })
pair_adds keys n vs bound form.TwoNo s few e =
    subst (Adds keys (begun vs (bound_lines bound)) form.TwoNo) (ok_is e) (record { lines = begun_more vs (bound_lines bound) form.TwoNo; counts = few })
pair_adds keys n vs bound l s few e = absurd (cc)

-- the last line of a verdict behind those of its bound
yes_lines : (bound : Bound) (order : List ℕ) → verdict_lines (judged bound (Yes order)) ≡ (bound_lines bound ++ form.TwoYes ∷ []) ++ form.Order order ∷ []
yes_lines bound order = sym (append_assoc (bound_lines bound) (form.TwoYes ∷ []) (form.Order order ∷ []))

yes_adds : (keys n : ℕ) (vs : List Verdict) (bound : Bound) (l : CertLine) (s : Reading) → length vs < keys → after_yes n vs bound l ≡ Ok s
    → Adds keys (begun vs (bound_lines bound ++ form.TwoYes ∷ [])) l s
yes_adds keys n vs bound (form.Order order) s few e =
    subst (Adds keys (begun vs (bound_lines bound ++ form.TwoYes ∷ [])) (form.Order order)) (ok_is e)
    (verdict_adds keys vs (judged bound (Yes order)) (bound_lines bound ++ form.TwoYes ∷ []) (form.Order order) few (yes_lines bound order))
yes_adds keys n vs bound l s few e = absurd (cc)

no_adds : (keys n : ℕ) (vs : List Verdict) (bound : Bound) (l : CertLine) (s : Reading) → length vs < keys → after_no n vs bound l ≡ Ok s
    → Adds keys (begun vs (bound_lines bound ++ form.TwoNo ∷ [])) l s
unfolding lines_at Counts
no_adds keys n vs bound (form.Stuck stuck) s few e =
    subst (Adds keys (begun vs (bound_lines bound ++ form.TwoNo ∷ [])) (form.Stuck stuck)) (ok_is e)
    (record {
      lines = ap (begun vs) (sym (append_assoc (bound_lines bound) (form.TwoNo ∷ []) (form.Stuck stuck ∷ []))) ∙ begun_more vs (bound_lines bound ++ form.TwoNo ∷ []) (form.Stuck stuck);
      counts = few;
    })
no_adds keys n vs bound l s few e = absurd (cc)

-- the lines of a refutation, and of its part
abbrev refuted_lines : Bound → Refutation → List CertLine
refuted_lines bound refutation = bound_lines bound ++ form.TwoNo ∷ form.Stuck refutation.stuck ∷ map form.Try refutation.tries

tries_more : (tries : List Try) (attempt : Try) → map form.Try (tries ++ attempt ∷ []) ≡ map form.Try tries ++ form.Try attempt ∷ []
tries_more [] attempt = refl
tries_more (t ∷ tries) attempt = ap (λ ls. form.Try t ∷ ls) (tries_more tries attempt)

-- a whole part is behind the others
settled : (keys : ℕ) (vs : List Verdict) (bound : Bound) (refutation : Refutation) (l : CertLine) (s : Reading)
    → Adds keys (whole (vs ++ judged bound (No refutation) ∷ [])) l s → Adds keys (begun vs (refuted_lines bound refutation)) l s
settled keys vs bound refutation l s adds = subst (λ ls. Adds keys ls l s) (whole_more vs (judged bound (No refutation))) adds

stuck_adds : (keys n : ℕ) (vs : List Verdict) (bound : Bound) (refutation : Refutation) (l : CertLine) (s : Reading) → length vs < keys → after_stuck keys n vs bound refutation l ≡ Ok s
    → Adds keys (begun vs (refuted_lines bound refutation)) l s
unfolding lines_at Counts
stuck_adds keys n vs bound refutation (form.Try attempt) s few e =
    subst (Adds keys (begun vs (refuted_lines bound refutation)) (form.Try attempt)) (ok_is e)
    (record {
      lines = ap (λ ls. begun vs (bound_lines bound ++ form.TwoNo ∷ form.Stuck refutation.stuck ∷ ls)) (tries_more refutation.tries attempt)
          ∙ ap (begun vs) (sym (append_assoc (bound_lines bound) (form.TwoNo ∷ form.Stuck refutation.stuck ∷ map form.Try refutation.tries) (form.Try attempt ∷ [])))
          ∙ begun_more vs (refuted_lines bound refutation) (form.Try attempt);
      counts = few;
    })
stuck_adds keys n vs bound refutation (form.Key key) s few e =
    settled keys vs bound refutation (form.Key key) s (between_adds keys n (vs ++ judged bound (No refutation) ∷ []) (form.Key key) s (omega (arith, length_push vs (judged bound (No refutation)))) e)
stuck_adds keys n vs bound refutation form.End s few e =
    settled keys vs bound refutation form.End s (between_adds keys n (vs ++ judged bound (No refutation) ∷ []) form.End s (omega (arith, length_push vs (judged bound (No refutation)))) e)
stuck_adds keys n vs bound refutation l s few e = absurd (cc)

-- each line adds itself
advance_adds : (keys n : ℕ) (st : State) (vs : List Verdict) (l : CertLine) (s : Reading) → Counts keys st vs → advance_from keys n st vs l ≡ Ok s → Adds keys (lines_at st vs) l s
unfolding lines_at Counts
advance_adds keys n state.Start vs l s few e = start_adds keys n l s e
advance_adds keys n state.Between vs l s few e = between_adds keys n vs l s few e
advance_adds keys n state.Key vs l s few e = key_adds keys n vs l s few e
advance_adds keys n (state.Delta delta) vs l s few e = delta_adds keys n vs delta l s few e
advance_adds keys n (state.Ordered delta order) vs l s few e = order_adds keys n vs delta order l s few e
advance_adds keys n (state.Paired bound) vs l s few e = pair_adds keys n vs bound l s few e
advance_adds keys n (state.TwoYes bound) vs l s few e = yes_adds keys n vs bound l s few e
advance_adds keys n (state.TwoNo bound) vs l s few e = no_adds keys n vs bound l s few e
advance_adds keys n (state.Refuted bound refutation) vs l s few e = stuck_adds keys n vs bound refutation l s few e
advance_adds keys n state.Ended vs l s few e = absurd (cc)

-- the line that a step went past
record WentPast (keys n : ℕ) (r s : Reading) (text : List ℕ) : Type 0 where
  line : CertLine
  text_is : line_text line ≡ text
  goes : advance keys n r line ≡ Ok s

line_spelled : (w : List ℕ) (ws : List (List ℕ)) (k : Keyword) (l : CertLine) → w ≡ keyword_text k → IsLine k ws l → w ∷ ws ≡ line_words l
line_spelled w ws k l first is = ap (λ x. x ∷ ws) (first ∙ ap keyword_text is.keyword_is) ∙ ap (λ xs. keyword_text (keyword l) ∷ xs) is.words_are ∙ sym (words_are l)

step_past : (keys n : ℕ) (r s : Reading) (text : List ℕ) → step keys n r (words_of text) ≡ Ok s → WentPast keys n r s text
step_past keys n r s text e = go (words_of text) (join_with_byte-slice_split 32 text) e
  where
    lined : (w : List ℕ) (ws : List (List ℕ)) (k : Keyword) → join_with_byte 32 (w ∷ ws) ≡ text → w ≡ keyword_text k
        → then_next (line_of n k ws) (advance keys n r) ≡ Ok s → WentPast keys n r s text
    lined w ws k t first is =
        let went = next_is (line_of n k ws) (advance keys n r) s is in
        record { line = went.0; text_is = ap (join_with_byte 32) (sym (line_spelled w ws k went.0 first (line_is n k ws went.0 went.1))) ∙ t; goes = went.2 }

    keyed : (w : List ℕ) (ws : List (List ℕ)) → join_with_byte 32 (w ∷ ws) ≡ text → (o : Option Keyword) → keyword_of w ≡ o → step_by keys n r ws o ≡ Ok s → WentPast keys n r s text
    keyed w ws t None p is = absurd (cc)
    keyed w ws t (Some k) p is = allowed (may_stand r.state k) is
      where
        allowed : (b : Bool) → cond b (then_next (line_of n k ws) (advance keys n r)) (Err (fault.Line n)) ≡ Ok s → WentPast keys n r s text
        allowed true q = lined w ws k t (keyword_is w k p) q
        allowed false q = absurd (cc)

    go : (words : List (List ℕ)) → join_with_byte 32 words ≡ text → step keys n r words ≡ Ok s → WentPast keys n r s text
    go [] t is = absurd (cc)
    go (w ∷ ws) t is = full (is_empty w || list_any is_empty ws) is
      where
        full : (b : Bool) → cond b (Err (fault.Line n)) (step_by keys n r ws (keyword_of w)) ≡ Ok s → WentPast keys n r s text
        full true q = absurd (cc)
        full false q = keyed w ws t (keyword_of w) refl q

ended_is : (st : State) → is_ended st ≡ true → st ≡ state.Ended
ended_is state.Ended e = refl
ended_is st e = absurd (true≢false (sym e))

none_left : (xs : List ℕ) → is_empty xs ≡ true → xs ≡ []
none_left [] e = refl
none_left (x ∷ xs) e = absurd (omega (arith, eqb-true (length (x ∷ xs)) 0 e))

one_line : (a b c : List ℕ) → a ++ (b ++ 10 ∷ c) ≡ (a ++ (b ++ (10 ∷ []) ++ [])) ++ c
one_line a b c = simp append_assoc refl

-- what a reading comes to: what is left of the text completes it, and there is a part for each key
record Completes (keys : ℕ) (before : List CertLine) (left : List ℕ) (vs : List Verdict) : Type 0 where
  text : lines_text before ++ left ≡ cert_text vs
  as_many : length vs ≡ keys

ended_completes : (keys n : ℕ) (st : State) (done vs : List Verdict) (rest : List ℕ) → Counts keys st done
    → cond (is_ended st && is_empty rest) (Ok done) (Err (fault.Line n)) ≡ Ok vs → Completes keys (lines_at st done) rest vs
unfolding lines_at Counts cert_text
ended_completes keys n st done vs rest counts is = go (is_ended st) refl (is_empty rest) refl is
  where
    there : st ≡ state.Ended → done ≡ vs → rest ≡ [] → Completes keys (lines_at st done) rest vs
    there s d t =
        let all : Counts keys state.Ended done = subst (λ x. Counts keys x done) s counts in
        record {
          text = ap (λ x. lines_text (lines_at x done) ++ rest) s ∙ ap (λ x. lines_text (whole done ++ form.End ∷ []) ++ x) t
              ∙ append-nil (lines_text (whole done ++ form.End ∷ [])) ∙ ap cert_text d;
          as_many = ap length (sym d) ∙ all;
        }

    go : (a : Bool) → is_ended st ≡ a → (b : Bool) → is_empty rest ≡ b → cond (a && b) (Ok done) (Err (fault.Line n)) ≡ Ok vs → Completes keys (lines_at st done) rest vs
    go true p true q ok = there (ended_is st p) (ok_is ok) (none_left rest q)
    go true p false q ok = absurd (cc)
    go false p b q ok = absurd (cc)

rest_completes : (keys n : ℕ) (r : Reading) (texts : List (List ℕ)) (vs : List Verdict) → Counts keys r.state r.verdicts → read_from keys n r texts ≡ Ok vs
    → Completes keys (lines_at r.state r.verdicts) (join_with_byte 10 texts) vs
unfolding read_from
rest_completes keys n r [] vs counts is = absurd (cc)
rest_completes keys n r (rest ∷ []) vs counts is = ended_completes keys n r.state r.verdicts vs rest counts is
rest_completes keys n r (text ∷ next ∷ texts) vs counts is =
    let went = next_is (step keys n r (words_of text)) (λ s. read_from keys (n + 1) s (next ∷ texts)) vs is in
    let past = step_past keys n r went.0 text went.1 in
    let adds = advance_adds keys n r.state r.verdicts past.line went.0 counts past.goes in
    let later = rest_completes keys (n + 1) went.0 (next ∷ texts) vs adds.counts went.2 in
    let left = join_with_byte 10 (next ∷ texts) in
    record {
      text = ap (λ t. lines_text (lines_at r.state r.verdicts) ++ (t ++ 10 ∷ left)) (sym past.text_is)
          ∙ one_line (lines_text (lines_at r.state r.verdicts)) (line_text past.line) left
          ∙ ap (λ t. t ++ left) (sym (lines_text-append (lines_at r.state r.verdicts) (past.line ∷ []))) ∙ ap (λ ls. lines_text ls ++ left) (sym adds.lines)
          ∙ later.text;
      as_many = later.as_many;
    }

pub one_text : ReadHasOneText
unfolding lines_at Counts read_of
one_text keys text vs is =
    let done = rest_completes keys 1 (record { state = state.Start; verdicts = [] }) (lines_of text) vs tt is in
    (sym (join_with_byte-slice_split 10 text) ∙ done.text, done.as_many)
