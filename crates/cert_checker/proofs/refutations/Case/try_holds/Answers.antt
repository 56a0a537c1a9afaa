use Rattle.std.proofs.Common.{rules, List, ℕ, Some, None, sym, subst, true≢false}
use Rattle.stale_model.specs.Orders.{StandsAt}
use Rattle.cert_checker.specs.RefutationSteps.{FindsEnd}
use Rattle.cert_checker.proofs.Tries.{chain_from_try, try_from_end, end_from_try}
use Rattle.cert_checker.proofs.refutations.Case.try_holds.Goals as goal

pub returns-in-Some-chain_end-clause-holds : goal.returns-in-Some-chain_end-clause-holds
returns-in-Some-chain_end-clause-holds c =
    let begins : StandsAt c.args.attempt.now.chain 0 c.args.member = search rules in
    let found : FindsEnd c.args.self.now c.args.attempt.now.chain c.chain_end.new.marks c.args.mark (Some c.in-Some-chain_end.value) =
    subst (λ (xs : List ℕ). FindsEnd c.args.self.now xs c.chain_end.new.marks c.args.mark (Some c.in-Some-chain_end.value)) c.as_slice-chain.ensures c.in-Some-chain_end.ensures.end in
    let (chain, walk) = found in
    let (last, walked) = walk in
    let holds = c.end_holds.ensures c.args.attempt.now.chain last walked in (
      λ t. try_from_end c.args.self.now c.args.member c.args.attempt.now c.chain_end.new.marks c.args.mark c.in-Some-chain_end.value last walked begins chain (holds.0 t),
      λ h. holds.1 (end_from_try c.args.self.now c.args.member c.args.attempt.now c.chain_end.new.marks c.args.mark c.in-Some-chain_end.value last walked h),
    )

pub returns-in-None-clause-holds : goal.returns-in-None-clause-holds
returns-in-None-clause-holds c =
    let none : FindsEnd c.args.self.now c.args.attempt.now.chain c.chain_end.new.marks c.args.mark None =
    subst (λ (xs : List ℕ). FindsEnd c.args.self.now xs c.chain_end.new.marks c.args.mark None) c.as_slice-chain.ensures c.in-None.ensures.end in
    (λ t. absurd (true≢false (sym t)), λ h. absurd (none (chain_from_try c.args.self.now c.args.member c.args.attempt.now h)))
