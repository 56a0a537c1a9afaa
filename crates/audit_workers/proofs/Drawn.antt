-- What one draw more makes of a worker's seat.
use Rattle.std.proofs.Common.{◌≡◌, ℕ, ◌+◌, ◌-◌, ◌≤◌, List, [], ◌∷◌, ◌++◌, length, sym, ap, append_assoc, ◌∙◌, Result, Ok, Err, OnErr, arith}
use Rattle.std.proofs.lemmas.List.{length-append, length-map, map-append}
use Rattle.ticket_clock.specs.Seats.{SeatView}
use Rattle.audit_workers.specs.declared.claims.Claim.{Claim}
use Rattle.audit_workers.specs.Claims.{keys_of, DrewMore}

-- what holds in any case holds after an error
pub on_err : {T E P : Type 0} (r : Result T E) → P → OnErr r P
on_err (Ok x) p = tt
on_err (Err e) p = p

module _ (before at after : SeatView) (claims : List Claim) (ticket : ℕ)
    (drawn : at.drawn ≡ before.drawn ++ keys_of claims)
    (left : at.left + length claims ≡ before.left)
    (draw : after ≡ record at { drawn = at.drawn ++ ticket ∷ []; left = at.left - 1; seen = ticket + 1 }) where
  -- after one draw more, the tickets are the keys of the claims so far, and this one
  drawn_one : after.drawn ≡ before.drawn ++ keys_of claims ++ ticket ∷ []
  drawn_one = ap (λ (s : SeatView). s.drawn) draw ∙ ap (λ (l : List ℕ). l ++ ticket ∷ []) drawn

  -- and the seat drew them
  pub drew_one : at.clock ≡ before.clock → before.seen ≤ at.seen → at.seen ≤ ticket → 1 ≤ at.left → DrewMore before after
  drew_one clock seen next some_left = record {
    more = keys_of claims ++ ticket ∷ [];
    clock = ap (λ (s : SeatView). s.clock) draw ∙ clock;
    drawn = drawn_one ∙ append_assoc before.drawn (keys_of claims) (ticket ∷ []);
    left = omega (
      arith,
      ap (λ (s : SeatView). s.left) draw,
      left,
      length-append (keys_of claims) (ticket ∷ []),
      length-map claims (λ (c : Claim). c.key),
    );
    seen = omega (arith, ap (λ (s : SeatView). s.seen) draw, seen, next);
  }

  -- where the key is claimed, the tickets are the keys of the claims
  pub drew_claim : (claim : Claim) → claim.key ≡ ticket → after.drawn ≡ before.drawn ++ keys_of (claims ++ claim ∷ [])
  drew_claim claim is =
      drawn_one
      ∙ ap (λ (x : ℕ). before.drawn ++ keys_of claims ++ x ∷ []) (sym is)
      ∙ append_assoc before.drawn (keys_of claims) (claim.key ∷ [])
      ∙ ap (λ (l : List ℕ). before.drawn ++ l) (sym (map-append (λ (c : Claim). c.key) claims (claim ∷ [])))
