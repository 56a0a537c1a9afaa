use Rattle.std.proofs.Common.{rules, arith, ap, ◌∙◌, sym, ◌≡◌, ◌∷◌, ◌++◌, [], subst, length, append_assoc, append-nil}
use Rattle.std.proofs.lemmas.List.{nil_from_length}
use Rattle.std.proofs.lemmas.List.Elements.{All-tail}
use Rattle.std.specs.Vec.Iter.{into_iter_items}
use Rattle.stale_model.specs.PrintedVerdicts.{IsPrintedVerdict}
use Rattle.audit_workers.proofs.Filling.{filled_more}
use Rattle.audit_workers.specs.Claims.{IsClaim, AreClaims, keys_of}
use Rattle.audit_workers.specs.Workers.{IsFilled}
use Rattle.audit_workers.proofs.workers.put_all.Goals as goal

pub loop-claim-preserved : goal.loop-claim-preserved
loop-claim-preserved c =
    let at = c.loop-claim in
    let keys = c.args.history.now.keys in
    let x = c.in-Some.claim in
    let steps : into_iter_items at.claim-iterator ≡ x ∷ into_iter_items c.next.new.self = c.in-Some.ensures.steps.0 in
    record {
      yielded = append_assoc at.yielded (x ∷ []) _ ∙ rw (← steps) at.invariant.yielded;
      ends = let was = at.invariant.ends in let gone = c.in-Some.ensures.steps.1 in let short = ap length steps in omega arith;
      many = search rules;
      are = All-tail (IsClaim IsPrintedVerdict keys) x _ (subst (λ claims. AreClaims IsPrintedVerdict keys claims) steps at.invariant.are);
      filled = λ claimed filled. filled_more keys claimed at.yielded x c.put.new.verdicts.items (c.put.ensures.filled _ (at.invariant.filled claimed filled));
    }

pub returns-clause-filled : goal.returns-clause-filled
returns-clause-filled c = λ claimed filled.
    let at = c.loop-claim in
    let empty : into_iter_items at.claim-iterator ≡ [] = nil_from_length _ (sym at.invariant.ends ∙ c.in-None.ensures.steps.0) in
    let all = sym (append-nil at.yielded) ∙ rw empty at at.invariant.yielded in
    subst (λ claims. IsFilled c.args.history.now.keys (claimed ++ keys_of claims) at.verdicts.items) all (at.invariant.filled claimed filled)
