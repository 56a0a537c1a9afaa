use Rattle.std.proofs.Common.{rules, arith, ◌≡◌, ◌∷◌, ◌++◌, [], subst, sym}
use Rattle.std.specs.Prelude.{All}
use Rattle.std.proofs.lemmas.List.Elements.{All-push}
use Rattle.stale_model.specs.PrintedVerdicts.{IsPrintedVerdict}
use Rattle.stale_model.specs.Truth.{IsTrueOf}
use Rattle.stale_model.specs.Shown.{IsShown}
use Rattle.audit_workers.specs.Claims.{IsClaim, keys_of}
use Rattle.audit_workers.proofs.Truth.{verdicts_are_true, verdicts_are_shown}
use Rattle.audit_workers.proofs.Drawn.{on_err, drew_one, drew_claim}
use Rattle.audit_workers.proofs.Claimed.{claims_have}
use Rattle.audit_workers.proofs.claims.judge_claims.Goals as goal

pub returns-in_err-claim-clause-err : goal.returns-in_err-claim-clause-err
returns-in_err-claim-clause-err g c =
    let at = c.loop-turn in
    let so_far = at.invariant in
    let drew = c.draw-ticket.ensures in
    on_err c.from_residual.result
    (drew_one c.args.seat.now at.seat c.draw-ticket.new.seat at.claims.items c.draw-ticket.result so_far.drawn (omega (arith, so_far.left, so_far.many)) drew.seat so_far.own so_far.seen drew.ticket.1 (search rules))

pub returns-in_err-map_err-clause-err : goal.returns-in_err-map_err-clause-err
returns-in_err-map_err-clause-err g c =
    let at = c.loop-turn in
    let so_far = at.invariant in
    let drew = c.draw-ticket.ensures in
    on_err c.from_residual-in_err-map_err.result
    (drew_one c.args.seat.now at.seat c.draw-ticket.new.seat at.claims.items c.draw-ticket.result so_far.drawn (omega (arith, so_far.left, so_far.many)) drew.seat so_far.own so_far.seen drew.ticket.1 (search rules))

pub loop-turn-preserved : goal.loop-turn-preserved
loop-turn-preserved g c =
    let at = c.loop-turn in
    let so_far = at.invariant in
    let drew = c.draw-ticket.ensures in
    let claim = c.in_ok-claim.claim in
    let pushed : c.push.new.self.items ≡ at.claims.items ++ claim ∷ [] = search rules in
    record {
      count = so_far.count;
      own = search rules;
      drawn = subst (λ claims. c.draw-ticket.new.seat.drawn ≡ c.args.seat.now.drawn ++ keys_of claims) (sym pushed)
          (drew_claim c.args.seat.now at.seat c.draw-ticket.new.seat at.claims.items c.draw-ticket.result so_far.drawn (omega (arith, so_far.left, so_far.many)) drew.seat claim c.in_ok-claim.ensures.key);
      left = search rules;
      many = search rules;
      are = subst (λ claims. All (IsClaim IsPrintedVerdict c.args.history.now.keys) claims) (sym pushed)
          (All-push (IsClaim IsPrintedVerdict c.args.history.now.keys) at.claims.items claim so_far.are c.in_ok-claim.ensures.claim);
      seen = search rules;
      rising = search rules;
      within = search rules;
    }

pub returns-then-ticket-keys-clause-truth : goal.returns-then-ticket-keys-clause-truth
returns-then-ticket-keys-clause-truth g c =
    rw c.from_vec.ensures (claims_have IsTrueOf verdicts_are_true c.args.history.now.keys c.loop-turn.claims.items c.requires.valid.keys c.loop-turn.invariant.are)

pub returns-then-ticket-keys-clause-shown : goal.returns-then-ticket-keys-clause-shown
returns-then-ticket-keys-clause-shown g c =
    rw c.from_vec.ensures (claims_have IsShown verdicts_are_shown c.args.history.now.keys c.loop-turn.claims.items c.requires.valid.keys c.loop-turn.invariant.are)
