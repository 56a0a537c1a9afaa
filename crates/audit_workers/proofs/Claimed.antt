-- What workers claim together.
use Rattle.std.proofs.Common.{◌≡◌, ℕ, ◌-◌, ◌<◌, ◌≤◌, List, [], ◌∷◌, ◌++◌, get_or, refl, subst, arith}
use Rattle.std.specs.Prelude.{All}
use Rattle.std.proofs.lemmas.Bool.Decides.{nat_tests}
use Rattle.std.proofs.lemmas.List.Elements.{All-head, All-tail}
use Rattle.std.proofs.lemmas.Option.{slice_get_within, get_or_from_slice_get}
use Rattle.stale_model.specs.declared.Op.{Op}
use Rattle.stale_model.specs.declared.KeyOps.{KeyOps}
use Rattle.stale_model.specs.declared.Verdict.{Verdict}
use Rattle.stale_model.specs.Operations.{operations}
use Rattle.stale_model.specs.Valid.{IsValidKey}
use Rattle.stale_model.specs.PrintedVerdicts.{IsPrintedVerdict}
use Rattle.ticket_clock.specs.Seats.{times}
use Rattle.ticket_clock.proofs.Totals.{times_push, times_append}
use Rattle.audit_workers.specs.declared.claims.Claim.{Claim}
use Rattle.audit_workers.specs.Claims.{AreClaims, keys_of}
use Rattle.audit_workers.specs.Calls.{Call, claimed_by, drawn_by, KeysAreClaimedOnce}

-- what a verdict that is printed has, each claim of a valid key has
pub claims_have : (Says : List Op → Verdict → Type 0)
    → ((key : KeyOps) (verdict : Verdict) → IsValidKey key → IsPrintedVerdict (operations key) verdict → Says (operations key) verdict)
    → (keys : List KeyOps) (claims : List Claim) → All IsValidKey keys → AreClaims IsPrintedVerdict keys claims → AreClaims Says keys claims
claims_have Says says keys claims valid are i d within =
    let claim = get_or claims i d in
    let is = are i d within in
    let is_valid = subst IsValidKey (get_or_from_slice_get keys (claim.key - 1) is.key is.key is.at) (valid (claim.key - 1) is.key (slice_get_within keys (claim.key - 1) is.key is.at)) in
    record { number = is.number; key = is.key; at = is.at; verdict = says is.key claim.verdict is_valid is.verdict }

-- a ticket that is no last one was drawn as often as its key was claimed
drawn_once_claimed : (keys x : ℕ) (calls : List Call) → All (λ call. keys < call.last) calls → x ≤ keys → times x (drawn_by calls) ≡ times x (claimed_by calls)
drawn_once_claimed keys x [] above within = refl
drawn_once_claimed keys x (call ∷ calls) above within =
    let rest = drawn_once_claimed keys x calls (All-tail (λ c. keys < c.last) call calls above) within in
    let own = times_push x (keys_of call.claims) call.last in
    let high = All-head (λ c. keys < c.last) call calls above in
    let drawn = times_append x (keys_of call.claims ++ call.last ∷ []) (drawn_by calls) in
    let claimed = times_append x (keys_of call.claims) (claimed_by calls) in
    grind (arith, nat_tests)

-- the last ticket of the first call was drawn
last_was_drawn : (call : Call) (calls : List Call) → 0 < times call.last (drawn_by (call ∷ calls))
last_was_drawn call calls =
    let own = times_push call.last (keys_of call.claims) call.last in
    let drawn = times_append call.last (keys_of call.claims ++ call.last ∷ []) (drawn_by calls) in
    grind (arith, nat_tests)

pub keys_are_claimed_once : KeysAreClaimedOnce
keys_are_claimed_once keys [] drawn some_call holds counted key number within = absurd (omega arith)
keys_are_claimed_once keys (call ∷ calls) drawn some_call holds counted key number within =
    let high = All-head (λ c. keys < c.last) call calls holds.above in
    let last = last_was_drawn call calls in
    let there = holds.tickets call.last in
    let few = counted.none_above call.last in
    let once = counted.once key number in
    let same = holds.tickets key in
    let claimed = drawn_once_claimed keys key (call ∷ calls) holds.above within in
    grind arith
