-- What is written reads back.
use Rattle.std.proofs.Common.{◌≡◌, ◌<◌, ◌+◌, ◌^◌, ℕ, true, false, nat_le, nat_lt, List, [], ◌∷◌, ◌++◌, map, length, Option, Some, None, Ok, refl, sym, ◌∙◌, ap, arith, append_assoc, append-nil, eq-eqb, subst}
use Rattle.std.specs.List.{list_all}
use Rattle.std.proofs.lemmas.Bool.{le-leb, lt-ltb, le-ltb}
use Rattle.std.proofs.lemmas.List.{length_push}
use Rattle.stale_model.specs.declared.Four.{Four}
use Rattle.stale_model.specs.declared.Try.{Try}
use Rattle.stale_model.specs.declared.Refutation.{Refutation}
use Rattle.stale_model.specs.declared.TwoPart.{TwoPart}
use Rattle.stale_model.specs.declared.TwoPart.TheVariants.{Yes, No}
use Rattle.stale_model.specs.declared.Judgement.{Judgement}
use Rattle.stale_model.specs.declared.Verdict.{Verdict}
use Rattle.stale_model.specs.declared.Verdict.TheVariants as verdict
use Rattle.cert_text.specs.declared.lines.CertLine.{CertLine}
use Rattle.cert_text.specs.declared.lines.CertLine.TheVariants as form
use Rattle.cert_text.specs.declared.parts.Bound.{Bound}
use Rattle.cert_text.specs.declared.parts.State.TheVariants as state
use Rattle.cert_text.specs.declared.parts.Reading.{Reading}
use Rattle.cert_text.specs.Numbers.{most_record, most_delta}
use Rattle.cert_text.specs.Texts.{lines_text}
use Rattle.cert_text.specs.Certificates.{has_chain, two_has_chains, has_chains, pair_lines, two_lines, verdict_lines, parts_lines, cert_text}
use Rattle.cert_text.specs.Words.{lines_of}
use Rattle.cert_text.specs.Parts.{may_stand, judged, with_verdict, between, advance}
use Rattle.cert_text.specs.Reading.{read_from, read_of}
use Rattle.cert_text.specs.Laws.{records_fit, four_fits, try_fits, two_fits, fits, TextReadsBack}
use Rattle.cert_text.proofs.Numerals.{both}
use Rattle.cert_text.proofs.Joined.{join_bools}
use Rattle.cert_text.proofs.LineWords.{keyword, line_fits}
use Rattle.cert_text.proofs.ReadSteps.{read-line, step-line, first_of-lines}

-- from this reading on, these lines give these verdicts, whatever the number of the first is
Gives : ℕ → Reading → List CertLine → List Verdict → Type 0
Gives keys r ls vs = (n : ℕ) → read_from keys n r (lines_of (lines_text ls)) ≡ Ok vs

-- one line before
past : (keys : ℕ) (r s : Reading) (l : CertLine) (ls : List CertLine) (vs : List Verdict) → line_fits l ≡ true → may_stand r.state (keyword l) ≡ true
    → ((n : ℕ) → advance keys n r l ≡ Ok s) → Gives keys s ls vs → Gives keys r (l ∷ ls) vs
unfolding Gives
past keys r s l ls vs fit stands goes later n =
    ap (read_from keys n r) (first_of-lines l ls fit)
    ∙ read-line keys n r _ (lines_text ls) (Ok s) (step-line keys n r s l fit stands (goes n)) ∙ later (n + 1)

-- a reading after which the next key or the end comes, with these verdicts
record RestsAt (keys : ℕ) (r : Reading) (vs : List Verdict) : Type 0 where
  key_stands : (key : ℕ) → may_stand r.state (keyword (form.Key key)) ≡ true
  key_goes : (n key : ℕ) → advance keys n r (form.Key key) ≡ between keys n vs (form.Key key)
  end_stands : may_stand r.state (keyword form.End) ≡ true
  end_goes : (n : ℕ) → advance keys n r form.End ≡ between keys n vs form.End

rests_between : (keys : ℕ) (vs : List Verdict) → RestsAt keys (record { state = state.Between; verdicts = vs }) vs
rests_between keys vs = record { key_stands = λ key. refl; key_goes = λ n key. refl; end_stands = refl; end_goes = λ n. refl }

rests_refuted : (keys : ℕ) (vs : List Verdict) (bound : Bound) (refutation : Refutation)
    → RestsAt keys (record { state = state.Refuted bound refutation; verdicts = vs }) (vs ++ judged bound (No refutation) ∷ [])
rests_refuted keys vs bound refutation = record { key_stands = λ key. refl; key_goes = λ n key. refl; end_stands = refl; end_goes = λ n. refl }

-- what comes of the lines after a part
After : ℕ → List Verdict → List CertLine → List Verdict → Type 0
After keys done ls vs = (r : Reading) → RestsAt keys r done → Gives keys r ls vs

-- the tries of a refutation
tries_give : (keys : ℕ) (done vs : List Verdict) (bound : Bound) (refutation : Refutation) (tries left : List Try) (ls : List CertLine)
    → refutation.tries ≡ tries ++ left → list_all try_fits left ≡ true → list_all has_chain left ≡ true
    → After keys (done ++ judged bound (No refutation) ∷ []) ls vs
    → Gives keys (record { state = state.Refuted bound (record refutation { tries = tries }); verdicts = done }) (map form.Try left ++ ls) vs
unfolding After
tries_give keys done vs bound refutation tries [] ls is fit chains later =
    let all : refutation.tries ≡ tries = is ∙ append-nil tries in
    later (record { state = state.Refuted bound (record refutation { tries = tries }); verdicts = done }) (
    let P : List Try → Type 0 = λ ts. RestsAt keys (record { state = state.Refuted bound (record refutation { tries = ts }); verdicts = done }) (done ++ judged bound (No refutation) ∷ []) in
    subst P all (rests_refuted keys done bound refutation))
tries_give keys done vs bound refutation tries (attempt ∷ left) ls is fit chains later =
    let fits_parts = both (try_fits attempt) (list_all try_fits left) fit in
    let chain_parts = both (has_chain attempt) (list_all has_chain left) chains in
    past keys (record { state = state.Refuted bound (record refutation { tries = tries }); verdicts = done })
    (record { state = state.Refuted bound (record refutation { tries = tries ++ attempt ∷ [] }); verdicts = done })
    (form.Try attempt) (map form.Try left ++ ls) vs (join_bools _ _ chain_parts.0 fits_parts.0) refl (λ n. refl)
    (tries_give keys done vs bound refutation (tries ++ attempt ∷ []) left ls (is ∙ sym (append_assoc tries (attempt ∷ []) left)) fits_parts.1 chain_parts.1 later)

-- whether the key is 2-atomic
yes_gives : (keys : ℕ) (done vs : List Verdict) (r : Reading) (bound : Bound) (order : List ℕ) (ls : List CertLine)
    → may_stand r.state (keyword form.TwoYes) ≡ true → ((n : ℕ) → advance keys n r form.TwoYes ≡ Ok (record { state = state.TwoYes bound; verdicts = done }))
    → records_fit order ≡ true → After keys (done ++ judged bound (Yes order) ∷ []) ls vs → Gives keys r (two_lines (Yes order) ++ ls) vs
unfolding After
yes_gives keys done vs r bound order ls stands goes fit later =
    past keys r (record { state = state.TwoYes bound; verdicts = done }) form.TwoYes (form.Order order ∷ ls) vs refl stands goes
    (past keys (record { state = state.TwoYes bound; verdicts = done }) (with_verdict done (judged bound (Yes order))) (form.Order order) ls vs fit refl (λ n. refl)
    (later (with_verdict done (judged bound (Yes order))) (rests_between keys (done ++ judged bound (Yes order) ∷ []))))

no_gives : (keys : ℕ) (done vs : List Verdict) (r : Reading) (bound : Bound) (refutation : Refutation) (ls : List CertLine)
    → may_stand r.state (keyword form.TwoNo) ≡ true → ((n : ℕ) → advance keys n r form.TwoNo ≡ Ok (record { state = state.TwoNo bound; verdicts = done }))
    → two_fits (No refutation) ≡ true → two_has_chains (No refutation) ≡ true
    → After keys (done ++ judged bound (No refutation) ∷ []) ls vs → Gives keys r (two_lines (No refutation) ++ ls) vs
no_gives keys done vs r bound refutation ls stands goes fit chains later =
    let parts = both (records_fit refutation.stuck) (list_all try_fits refutation.tries) fit in
    past keys r (record { state = state.TwoNo bound; verdicts = done }) form.TwoNo (form.Stuck refutation.stuck ∷ (map form.Try refutation.tries ++ ls)) vs refl stands goes
    (past keys (record { state = state.TwoNo bound; verdicts = done })
    (record { state = state.Refuted bound (record { stuck = refutation.stuck; tries = [] }); verdicts = done })
    (form.Stuck refutation.stuck) (map form.Try refutation.tries ++ ls) vs parts.0 refl (λ n. refl)
    (tries_give keys done vs bound refutation [] refutation.tries ls refl parts.1 chains later))

two_gives : (keys : ℕ) (done vs : List Verdict) (r : Reading) (bound : Bound) (two : TwoPart) (ls : List CertLine)
    → may_stand r.state (keyword form.TwoYes) ≡ true → ((n : ℕ) → advance keys n r form.TwoYes ≡ Ok (record { state = state.TwoYes bound; verdicts = done }))
    → ((n : ℕ) → advance keys n r form.TwoNo ≡ Ok (record { state = state.TwoNo bound; verdicts = done }))
    → two_fits two ≡ true → two_has_chains two ≡ true → After keys (done ++ judged bound two ∷ []) ls vs → Gives keys r (two_lines two ++ ls) vs
two_gives keys done vs r bound (Yes order) ls stands goes_yes goes_no fit chains later = yes_gives keys done vs r bound order ls stands goes_yes fit later
two_gives keys done vs r bound (No refutation) ls stands goes_yes goes_no fit chains later = no_gives keys done vs r bound refutation ls stands goes_no fit chains later

-- the pair, if there is one, and what follows
pair_gives : (keys : ℕ) (done vs : List Verdict) (delta : ℕ) (order : List ℕ) (four : Option Four) (two : TwoPart) (ls : List CertLine)
    → four_fits four ≡ true → two_fits two ≡ true → two_has_chains two ≡ true
    → After keys (done ++ verdict.Judged (record { delta = delta; order = order; four = four; two = two }) ∷ []) ls vs
    → Gives keys (record { state = state.Ordered delta order; verdicts = done }) ((pair_lines four ++ two_lines two) ++ ls) vs
pair_gives keys done vs delta order None two ls four_fit fit chains later =
    two_gives keys done vs (record { state = state.Ordered delta order; verdicts = done }) (record { delta = delta; order = order; four = None }) two ls
    refl (λ n. refl) (λ n. refl) fit chains later
pair_gives keys done vs delta order (Some four) two ls four_fit fit chains later =
    let bound : Bound = record { delta = delta; order = order; four = Some four } in
    past keys (record { state = state.Ordered delta order; verdicts = done }) (record { state = state.Paired bound; verdicts = done }) (form.Pair four)
    (two_lines two ++ ls) vs four_fit refl (λ n. refl)
    (two_gives keys done vs (record { state = state.Paired bound; verdicts = done }) bound two ls refl (λ n. refl) (λ n. refl) fit chains later)

-- the numbers of a judgement, part by part
record JudgementFits (j : Judgement) : Type 0 where
  delta : nat_le j.delta most_delta ≡ true
  order : records_fit j.order ≡ true
  four : four_fits j.four ≡ true
  two : two_fits j.two ≡ true

judgement_fits : (j : Judgement) → fits (verdict.Judged j) ≡ true → JudgementFits j
judgement_fits j fit =
    let a = both (nat_le j.delta most_delta) _ fit in
    let b = both (records_fit j.order) _ a.1 in
    let c = both (four_fits j.four) (two_fits j.two) b.1 in
    record { delta = a.0; order = b.0; four = c.0; two = c.1 }

-- the lines of a verdict
verdict_gives : (keys : ℕ) (done vs : List Verdict) (v : Verdict) (ls : List CertLine) → fits v ≡ true → has_chains v ≡ true
    → After keys (done ++ v ∷ []) ls vs → Gives keys (record { state = state.Key; verdicts = done }) (verdict_lines v ++ ls) vs
unfolding After
verdict_gives keys done vs (verdict.Duplicate rec) ls fit chains later =
    past keys (record { state = state.Key; verdicts = done }) (with_verdict done (verdict.Duplicate rec)) (form.Duplicate rec) ls vs fit refl (λ n. refl)
    (later (with_verdict done (verdict.Duplicate rec)) (rests_between keys (done ++ verdict.Duplicate rec ∷ [])))
verdict_gives keys done vs (verdict.Unmatched rec) ls fit chains later =
    past keys (record { state = state.Key; verdicts = done }) (with_verdict done (verdict.Unmatched rec)) (form.Unmatched rec) ls vs fit refl (λ n. refl)
    (later (with_verdict done (verdict.Unmatched rec)) (rests_between keys (done ++ verdict.Unmatched rec ∷ [])))
verdict_gives keys done vs (verdict.Infinite rec) ls fit chains later =
    past keys (record { state = state.Key; verdicts = done }) (with_verdict done (verdict.Infinite rec)) (form.Infinite rec) ls vs fit refl (λ n. refl)
    (later (with_verdict done (verdict.Infinite rec)) (rests_between keys (done ++ verdict.Infinite rec ∷ [])))
verdict_gives keys done vs (verdict.Judged j) ls fit chains later =
    let first = judgement_fits j fit in
    past keys (record { state = state.Key; verdicts = done }) (record { state = state.Delta j.delta; verdicts = done }) (form.Delta j.delta)
    (form.Order j.order ∷ ((pair_lines j.four ++ two_lines j.two) ++ ls)) vs first.delta refl (λ n. refl)
    (past keys (record { state = state.Delta j.delta; verdicts = done }) (record { state = state.Ordered j.delta j.order; verdicts = done }) (form.Order j.order)
    ((pair_lines j.four ++ two_lines j.two) ++ ls) vs first.order refl (λ n. refl)
    (pair_gives keys done vs j.delta j.order j.four j.two ls first.four first.two chains later))

-- the parts of the keys that are left, and the end
left_give : (keys : ℕ) (done left : List Verdict) → length done + length left ≡ keys → keys < 2 ^ 32 → list_all fits left ≡ true → list_all has_chains left ≡ true
    → After keys done (parts_lines (length done + 1) left ++ form.End ∷ []) (done ++ left)
unfolding After Gives read_from
left_give keys done [] all few fit chains r rests =
    let none : nat_lt (length done) keys ≡ false = le-ltb (length done) keys (omega arith) in
    past keys r (record { state = state.Ended; verdicts = done }) form.End [] (done ++ []) refl rests.end_stands (λ n. rests.end_goes n ∙ rw none refl)
    (λ n. ap Ok (sym (append-nil done)))
left_give keys done (v ∷ left) all few fit chains r rests =
    let fits_parts = both (fits v) (list_all fits left) fit in
    let chain_parts = both (has_chains v) (list_all has_chains left) chains in
    let k = length done + 1 in
    let more : nat_lt (length done) keys ≡ true = lt-ltb (length done) keys (omega arith) in
    let small : nat_le k most_record ≡ true = le-leb k most_record (omega arith) in
    let longer : length (done ++ v ∷ []) ≡ k = length_push done v in
    let rest = parts_lines (k + 1) left ++ form.End ∷ [] in
    let P : ℕ → Type 0 = λ m. After keys (done ++ v ∷ []) (parts_lines (m + 1) left ++ form.End ∷ []) (done ++ v ∷ left) in
    let Q : List Verdict → Type 0 = λ vs. After keys (done ++ v ∷ []) (parts_lines (length (done ++ v ∷ []) + 1) left ++ form.End ∷ []) vs in
    let later : After keys (done ++ v ∷ []) rest (done ++ v ∷ left) =
    subst P longer (subst Q (append_assoc done (v ∷ []) left)
    (left_give keys (done ++ v ∷ []) left (omega (arith, longer, all)) few fits_parts.1 chain_parts.1)) in
    let R : List CertLine → Type 0 = λ ls. Gives keys r (form.Key k ∷ ls) (done ++ v ∷ left) in
    subst R (sym (append_assoc (verdict_lines v) (parts_lines (k + 1) left) (form.End ∷ [])))
    (past keys r (record { state = state.Key; verdicts = done }) (form.Key k) (verdict_lines v ++ rest) (done ++ v ∷ left) small (rests.key_stands k)
    (λ n. rests.key_goes n k ∙ rw (more, eq-eqb k k refl) refl)
    (verdict_gives keys done (done ++ v ∷ left) v rest fits_parts.0 chain_parts.0 later))

pub reads_back : TextReadsBack
unfolding After Gives read_of cert_text
reads_back vs few fit chains =
    let keys = length vs in
    let start : Reading = record { state = state.Start; verdicts = [] } in
    let first : Reading = record { state = state.Between; verdicts = [] } in
    past keys start first form.Header (parts_lines 1 vs ++ form.End ∷ []) vs refl refl (λ n. refl)
    (left_give keys [] vs (omega arith) few fit chains first (rests_between keys [])) 1
