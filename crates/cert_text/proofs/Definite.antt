-- The definition of what a text is never says want of memory.
use Rattle.std.proofs.Common.{◌≡◌, ℕ, ◌+◌, ◌-◌, ◌==◌, ◌&&◌, ◌||◌, Bool, true, false, cond, nat_lt, nat_le, List, [], ◌∷◌, ◌++◌, length, take, drop, Option, Some, None, Result, Ok, Err, codes}
use Rattle.std.specs.Prelude.{slice_get}
use Rattle.std.specs.List.{list_any}
use Rattle.stale_model.specs.declared.Refutation.{Refutation}
use Rattle.stale_model.specs.declared.TwoPart.TheVariants.{No}
use Rattle.stale_model.specs.declared.Verdict.{Verdict}
use Rattle.cert_text.specs.declared.CertFault.{CertFault}
use Rattle.cert_text.specs.declared.CertFault.TheVariants as fault
use Rattle.cert_text.specs.declared.lines.CertLine.{CertLine}
use Rattle.cert_text.specs.declared.lines.CertLine.TheVariants as form
use Rattle.cert_text.specs.declared.lines.Keyword.{Keyword}
use Rattle.cert_text.specs.declared.lines.Keyword.TheVariants as word
use Rattle.cert_text.specs.declared.parts.Bound.{Bound}
use Rattle.cert_text.specs.declared.parts.State.{State}
use Rattle.cert_text.specs.declared.parts.State.TheVariants as state
use Rattle.cert_text.specs.declared.parts.Reading.{Reading}
use Rattle.cert_text.specs.Numbers.{most_record, number_of, numbers_of}
use Rattle.cert_text.specs.Words.{words_of, lines_of, is_empty, keyword_of, then_next, or_number, only_word, is_word, number_in, one_number, records_of, four_of, hard_of, soft_of, try_at, line_of}
use Rattle.cert_text.specs.Parts.{may_stand, judged, at_start, between, after_key, after_delta, after_order, after_pair, after_yes, after_no, after_stuck, advance_from, advance}
use Rattle.cert_text.specs.Reading.{step, step_by, is_ended, read_from, read_of}

-- an answer that is not want of memory
abbrev pub IsDefinite : {Y : Type 0} → Result Y CertFault → Type 0
IsDefinite r = r ≡ Err fault.Memory → ⊥

definite-next : {X Y : Type 0} (r : Result X CertFault) (next : X → Result Y CertFault) → IsDefinite r → ((x : X) → IsDefinite (next x)) → IsDefinite (then_next r next)
definite-next (Err f) next first more e = first (cc)
definite-next (Ok x) next first more e = more x e

definite-if : {Y : Type 0} (b : Bool) (r s : Result Y CertFault) → IsDefinite r → IsDefinite s → IsDefinite (cond b r s)
definite-if true r s first second e = first e
definite-if false r s first second e = second e

line_fault : {Y : Type 0} (n : ℕ) → IsDefinite {Y = Y} (Err (fault.Line n))
line_fault n e = cc

number_definite : {X : Type 0} (n : ℕ) (o : Option X) → IsDefinite (or_number n o)
number_definite n (Some x) e = cc
number_definite n None e = cc

one_definite : (n most : ℕ) (o : Option (List ℕ)) → IsDefinite (number_in n most o)
one_definite n most None e = cc
one_definite n most (Some w) e = number_definite n (number_of most w) e

four_definite : (n : ℕ) (recs : List ℕ) → IsDefinite (four_of n recs)
four_definite n (p ∷ q ∷ q2 ∷ p2 ∷ []) e = cc
four_definite n recs e = cc

hard_definite : (n : ℕ) (chain ends : List ℕ) → IsDefinite (hard_of n chain ends)
hard_definite n chain (p ∷ u ∷ []) e = cc
hard_definite n chain ends e = cc

soft_definite : (n : ℕ) (chain ends : List ℕ) → IsDefinite (soft_of n chain ends)
soft_definite n chain (p ∷ q ∷ q2 ∷ []) e = cc
soft_definite n chain ends e = cc

at_definite : (n c : ℕ) (with_end : List ℕ → List ℕ → Result CertLine CertFault) (ws : List (List ℕ)) → ((chain ends : List ℕ) → IsDefinite (with_end chain ends)) → IsDefinite (try_at n c with_end ws)
at_definite n c with_end ws ends_definite =
    definite-next (records_of n (take c ws)) (λ chain. then_next (records_of n (drop (c + 1) ws)) (with_end chain)) (number_definite n (numbers_of most_record (take c ws)))
    (λ chain. definite-next (records_of n (drop (c + 1) ws)) (with_end chain) (number_definite n (numbers_of most_record (drop (c + 1) ws))) (ends_definite chain))

number_line : (n most : ℕ) (ws : List (List ℕ)) (make : ℕ → CertLine) → IsDefinite (then_next (one_number n most ws) (λ m. Ok (make m)))
number_line n most ws make = definite-next (one_number n most ws) (λ m. Ok (make m)) (one_definite n most (only_word ws)) (λ m e. cc)

records_line : (n : ℕ) (ws : List (List ℕ)) (make : List ℕ → CertLine) → IsDefinite (then_next (records_of n ws) (λ ms. Ok (make ms)))
records_line n ws make = definite-next (records_of n ws) (λ ms. Ok (make ms)) (number_definite n (numbers_of most_record ws)) (λ ms e. cc)

line_definite : (n : ℕ) (k : Keyword) (ws : List (List ℕ)) → IsDefinite (line_of n k ws)
line_definite n word.StaleCert ws = definite-if (is_word (codes "1") (only_word ws)) (Ok form.Header) (Err (fault.Line n)) (λ e. cc) (line_fault n)
line_definite n word.Key ws = number_line n _ ws form.Key
line_definite n word.Duplicate ws = number_line n _ ws form.Duplicate
line_definite n word.Unmatched ws = number_line n _ ws form.Unmatched
line_definite n word.Infinite ws = number_line n _ ws form.Infinite
line_definite n word.Delta ws = number_line n _ ws form.Delta
line_definite n word.Order ws = records_line n ws form.Order
line_definite n word.Pair ws =
    definite-if (length ws == 4) (then_next (records_of n ws) (four_of n)) (Err (fault.Line n))
    (definite-next (records_of n ws) (four_of n) (number_definite n (numbers_of most_record ws)) (four_definite n)) (line_fault n)
line_definite n word.Two ws =
    definite-if (is_word (codes "yes") (only_word ws)) (Ok form.TwoYes) (cond (is_word (codes "no") (only_word ws)) (Ok form.TwoNo) (Err (fault.Line n))) (λ e. cc)
    (definite-if (is_word (codes "no") (only_word ws)) (Ok form.TwoNo) (Err (fault.Line n)) (λ e. cc) (line_fault n))
line_definite n word.Stuck ws = records_line n ws form.Stuck
line_definite n word.Try ws =
    definite-if (nat_le 4 (length ws) && is_word (codes "hard") (slice_get ws (length ws - 3))) (try_at n (length ws - 3) (hard_of n) ws)
    (cond (nat_le 5 (length ws) && is_word (codes "soft") (slice_get ws (length ws - 4))) (try_at n (length ws - 4) (soft_of n) ws) (Err (fault.Line n)))
    (at_definite n (length ws - 3) (hard_of n) ws (hard_definite n))
    (definite-if (nat_le 5 (length ws) && is_word (codes "soft") (slice_get ws (length ws - 4))) (try_at n (length ws - 4) (soft_of n) ws) (Err (fault.Line n))
    (at_definite n (length ws - 4) (soft_of n) ws (soft_definite n)) (line_fault n))
line_definite n word.End [] = λ e. cc
line_definite n word.End (w ∷ ws) = line_fault n

start_definite : (n : ℕ) (l : CertLine) → IsDefinite (at_start n l)
start_definite n form.Header e = cc
start_definite n l e = cc

between_definite : (keys n : ℕ) (vs : List Verdict) (l : CertLine) → IsDefinite (between keys n vs l)
between_definite keys n vs (form.Key key) =
    definite-if (nat_lt (length vs) keys && (key == length vs + 1)) (Ok (record { state = state.Key; verdicts = vs })) (Err (fault.Key n)) (λ e. cc) (λ e. cc)
between_definite keys n vs form.End =
    definite-if (nat_lt (length vs) keys) (Err (fault.Absent (length vs + 1))) (Ok (record { state = state.Ended; verdicts = vs })) (λ e. cc) (λ e. cc)
between_definite keys n vs l = line_fault n

key_definite : (n : ℕ) (vs : List Verdict) (l : CertLine) → IsDefinite (after_key n vs l)
key_definite n vs (form.Duplicate rec) e = cc
key_definite n vs (form.Unmatched rec) e = cc
key_definite n vs (form.Infinite rec) e = cc
key_definite n vs (form.Delta delta) e = cc
key_definite n vs l e = cc

delta_definite : (n : ℕ) (vs : List Verdict) (delta : ℕ) (l : CertLine) → IsDefinite (after_delta n vs delta l)
delta_definite n vs delta (form.Order order) e = cc
delta_definite n vs delta l e = cc

order_definite : (n : ℕ) (vs : List Verdict) (delta : ℕ) (order : List ℕ) (l : CertLine) → IsDefinite (after_order n vs delta order l)
order_definite n vs delta order (form.Pair four) e = cc
order_definite n vs delta order form.TwoYes e = cc
order_definite n vs delta order form.TwoNo e = cc
order_definite n vs delta order l e = cc

pair_definite : (n : ℕ) (vs : List Verdict) (bound : Bound) (l : CertLine) → IsDefinite (after_pair n vs bound l)
pair_definite n vs bound form.TwoYes e = cc
pair_definite n vs bound form.TwoNo e = cc
pair_definite n vs bound l e = cc

yes_definite : (n : ℕ) (vs : List Verdict) (bound : Bound) (l : CertLine) → IsDefinite (after_yes n vs bound l)
yes_definite n vs bound (form.Order order) e = cc
yes_definite n vs bound l e = cc

no_definite : (n : ℕ) (vs : List Verdict) (bound : Bound) (l : CertLine) → IsDefinite (after_no n vs bound l)
no_definite n vs bound (form.Stuck stuck) e = cc
no_definite n vs bound l e = cc

stuck_definite : (keys n : ℕ) (vs : List Verdict) (bound : Bound) (refutation : Refutation) (l : CertLine) → IsDefinite (after_stuck keys n vs bound refutation l)
stuck_definite keys n vs bound refutation (form.Try attempt) = λ e. cc
stuck_definite keys n vs bound refutation (form.Key key) = between_definite keys n (vs ++ judged bound (No refutation) ∷ []) (form.Key key)
stuck_definite keys n vs bound refutation form.End = between_definite keys n (vs ++ judged bound (No refutation) ∷ []) form.End
stuck_definite keys n vs bound refutation l = line_fault n

advance_definite : (keys n : ℕ) (st : State) (vs : List Verdict) (l : CertLine) → IsDefinite (advance_from keys n st vs l)
advance_definite keys n state.Start vs l = start_definite n l
advance_definite keys n state.Between vs l = between_definite keys n vs l
advance_definite keys n state.Key vs l = key_definite n vs l
advance_definite keys n (state.Delta delta) vs l = delta_definite n vs delta l
advance_definite keys n (state.Ordered delta order) vs l = order_definite n vs delta order l
advance_definite keys n (state.Paired bound) vs l = pair_definite n vs bound l
advance_definite keys n (state.TwoYes bound) vs l = yes_definite n vs bound l
advance_definite keys n (state.TwoNo bound) vs l = no_definite n vs bound l
advance_definite keys n (state.Refuted bound refutation) vs l = stuck_definite keys n vs bound refutation l
advance_definite keys n state.Ended vs l = line_fault n

by_definite : (keys n : ℕ) (r : Reading) (rest : List (List ℕ)) (o : Option Keyword) → IsDefinite (step_by keys n r rest o)
by_definite keys n r rest None = line_fault n
by_definite keys n r rest (Some k) =
    definite-if (may_stand r.state k) (then_next (line_of n k rest) (advance keys n r)) (Err (fault.Line n))
    (definite-next (line_of n k rest) (advance keys n r) (line_definite n k rest) (advance_definite keys n r.state r.verdicts)) (line_fault n)

step_definite : (keys n : ℕ) (r : Reading) (words : List (List ℕ)) → IsDefinite (step keys n r words)
step_definite keys n r [] = line_fault n
step_definite keys n r (w ∷ ws) =
    definite-if (is_empty w || list_any is_empty ws) (Err (fault.Line n)) (step_by keys n r ws (keyword_of w)) (line_fault n) (by_definite keys n r ws (keyword_of w))

from_definite : (keys n : ℕ) (r : Reading) (texts : List (List ℕ)) → IsDefinite (read_from keys n r texts)
unfolding read_from
from_definite keys n r [] = line_fault n
from_definite keys n r (rest ∷ []) = definite-if (is_ended r.state && is_empty rest) (Ok r.verdicts) (Err (fault.Line n)) (λ e. cc) (line_fault n)
from_definite keys n r (text ∷ next ∷ texts) =
    definite-next (step keys n r (words_of text)) (λ s. read_from keys (n + 1) s (next ∷ texts)) (step_definite keys n r (words_of text))
    (λ s. from_definite keys (n + 1) s (next ∷ texts))

-- what a text is, is no want of memory
pub read_definite : (keys : ℕ) (text : List ℕ) → IsDefinite (read_of keys text)
unfolding read_of
read_definite keys text = from_definite keys 1 (record { state = state.Start; verdicts = [] }) (lines_of text)
