-- Verdicts that are put at the places of their keys.
use Rattle.std.proofs.Common.{◌≡◌, ◌≢◌, ℕ, ◌+◌, ◌-◌, ◌<◌, List, [], ◌∷◌, ◌++◌, length, set, Some, refl, sym, ap, inl, inr, subst, append_assoc, arith, ◌∙◌}
use Rattle.std.specs.Prelude.{slice_get}
use Rattle.std.proofs.lemmas.Bool.Decides.{nat_tests}
use Rattle.std.proofs.lemmas.List.{length-set, map-append}
use Rattle.std.proofs.lemmas.List.Elements.{All-cons}
use Rattle.std.proofs.lemmas.Option.{same_Some, slice_get_within}
use Rattle.stale_model.specs.declared.KeyOps.{KeyOps}
use Rattle.stale_model.specs.declared.Verdict.{Verdict}
use Rattle.stale_model.specs.Operations.{operations}
use Rattle.stale_model.specs.PrintedVerdicts.{IsPrintedVerdict, ArePrintedVerdicts}
use Rattle.clusters.proofs.Growing.{after_set}
use Rattle.ticket_clock.specs.Seats.{ClockView, SeatView, times, IsOneToLength}
use Rattle.ticket_clock.proofs.Totals.{times_push, times_append}
use Rattle.audit_workers.specs.declared.claims.Claim.{Claim}
use Rattle.audit_workers.specs.Claims.{IsClaim, keys_of}
use Rattle.audit_workers.specs.Calls.{Call, claimed_by, drawn_by}
use Rattle.audit_workers.specs.Workers.{IsDone, IsFilled, IsGathered}
use Rattle.audit_workers.proofs.Claimed.{keys_are_claimed_once}

module _ (keys : List KeyOps) where
  -- where no key was claimed nothing is asked of the verdicts
  pub filled_none : (verdicts : List Verdict) → length verdicts ≡ length keys → IsFilled keys [] verdicts
  filled_none verdicts many = record { many = many; each = λ place key verdict there. absurd (omega arith) }

  -- the verdict of a claim is put at the place of its key
  pub filled_put : (claimed : List ℕ) (verdicts : List Verdict) (claim : Claim) → IsClaim IsPrintedVerdict keys claim → IsFilled keys claimed verdicts
      → IsFilled keys (claimed ++ claim.key ∷ []) (set verdicts (claim.key - 1) claim.verdict)
  filled_put claimed verdicts claim is filled =
      let at = claim.key - 1 in
      let within : at < length verdicts = subst (λ n. at < n) (sym filled.many) (slice_get_within keys at is.key is.at) in
      record {
        many = length-set verdicts at claim.verdict ∙ filled.many;
        each = λ place key verdict there at_key at_verdict. elim (after_set verdicts at place verdict claim.verdict within at_verdict) [
          | inl (here, same) ↦
              let one : is.key ≡ key = same_Some is.key key (sym is.at ∙ subst (λ (i : ℕ). slice_get keys i ≡ Some key) here at_key) in
              subst (λ (v : Verdict). IsPrintedVerdict (operations key) v) (sym same) (subst (λ (k : KeyOps). IsPrintedVerdict (operations k) claim.verdict) one is.verdict)
          | inr (other, before) ↦
              let number = is.number in
              let apart : claim.key ≢ place + 1 = λ e. other (omega arith) in
              let pushed = times_push (place + 1) claimed claim.key in
              filled.each place key verdict (grind (arith, nat_tests)) at_key before
        ];
      }

  -- the same keys were claimed, in another order
  filled_turned : (a b : List ℕ) (verdicts : List Verdict) → IsFilled keys (a ++ b) verdicts → IsFilled keys (b ++ a) verdicts
  filled_turned a b verdicts filled = record {
    many = filled.many;
    each = λ place key verdict there. filled.each place key verdict (omega (arith, times_append (place + 1) a b, times_append (place + 1) b a));
  }

  -- a claim more
  pub filled_more : (claimed : List ℕ) (before : List Claim) (claim : Claim) (verdicts : List Verdict)
      → IsFilled keys ((claimed ++ keys_of before) ++ claim.key ∷ []) verdicts → IsFilled keys (claimed ++ keys_of (before ++ claim ∷ [])) verdicts
  filled_more claimed before claim verdicts filled =
      subst (λ (l : List ℕ). IsFilled keys l verdicts)
      (append_assoc claimed (keys_of before) (claim.key ∷ []) ∙ ap (λ (l : List ℕ). claimed ++ l) (sym (map-append (λ (c : Claim). c.key) before (claim ∷ [])))) filled

  -- before any seat was joined
  pub gathered_none : (verdicts : List Verdict) → length verdicts ≡ length keys → IsGathered keys 0 [] verdicts
  gathered_none verdicts many = record {
    calls = [];
    as_many = refl;
    holds = record { above = λ i d less. absurd (omega arith); tickets = λ x. refl };
    filled = filled_none verdicts many;
  }

  -- a seat more that is done
  pub gathered_more : (clock : ClockView) (many : ℕ) (drawn : List ℕ) (seat : SeatView) (claims : List Claim) (old new : List Verdict)
      → IsDone clock keys seat claims
      → ((claimed : List ℕ) → IsFilled keys claimed old → IsFilled keys (claimed ++ keys_of claims) new)
      → IsGathered keys many drawn old → IsGathered keys (many + 1) (drawn ++ seat.drawn) new
  gathered_more clock many drawn seat claims old new done fills gathered =
      let call : Call = record { claims = claims; last = done.drawn.last } in
      let calls = gathered.calls in
      let own : seat.drawn ≡ keys_of claims ++ call.last ∷ [] = done.drawn.drawn ∙ ap (λ (l : List ℕ). l ++ keys_of claims ++ call.last ∷ []) done.ready.fresh in
      record {
        calls = call ∷ calls;
        as_many = omega (arith, gathered.as_many);
        holds = record {
          above = All-cons (λ (c : Call). length keys < c.last) call calls done.drawn.above gathered.holds.above;
          tickets = λ x. omega (
            arith,
            times_append x drawn seat.drawn,
            ap (λ (l : List ℕ). times x l) own,
            times_append x (keys_of claims ++ call.last ∷ []) (drawn_by calls),
            gathered.holds.tickets x,
          );
        };
        filled = filled_turned (claimed_by calls) (keys_of claims) new (fills (claimed_by calls) gathered.filled);
      }

  -- where tickets from 1 on were drawn, each once, each key has its verdict
  pub all_filled : (many : ℕ) (drawn : List ℕ) (verdicts : List Verdict) → 0 < many → IsOneToLength drawn → IsGathered keys many drawn verdicts → ArePrintedVerdicts keys verdicts
  all_filled many drawn verdicts some_call counted gathered = record {
    as_many = gathered.filled.many;
    each = λ place key verdict at_key at_verdict.
        let within = slice_get_within keys place key at_key in
        let once = keys_are_claimed_once (length keys) gathered.calls drawn (omega (arith, gathered.as_many)) gathered.holds counted (place + 1) (omega arith) (omega arith) in
        gathered.filled.each place key verdict (omega arith) at_key at_verdict;
  }
