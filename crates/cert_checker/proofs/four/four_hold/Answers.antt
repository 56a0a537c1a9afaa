use Rattle.std.proofs.Common.{sym, true≢false}
use Rattle.stale_model.specs.Operations.{operations}
use Rattle.cert_checker.proofs.Lookups.{ends, of_record}
use Rattle.cert_checker.proofs.FourOps.{four_from_ops, ops_from_four}
use Rattle.cert_checker.proofs.four.four_hold.Goals as goal

pub returns-in_default : goal.returns-in_default
returns-in_default c = (λ t. absurd (true≢false (sym t)), λ h. absurd (c.in_default.ensures h.p h.p_is))

pub returns-in_default-search : goal.returns-in_default-search
returns-in_default-search c = (λ t. absurd (true≢false (sym t)), λ h. absurd (c.in_default-search.ensures h.q h.q_is))

pub returns-in_default-search-2 : goal.returns-in_default-search-2
returns-in_default-search-2 c = (λ t. absurd (true≢false (sym t)), λ h. absurd (c.in_default-search-2.ensures h.q2 h.q2_is))

pub returns-in_default-search-3 : goal.returns-in_default-search-3
returns-in_default-search-3 c = (λ t. absurd (true≢false (sym t)), λ h. absurd (c.in_default-search-3.ensures h.p2 h.p2_is))

pub ops_hold-requires-clause-p_ends : goal.ops_hold-requires-clause-p_ends
ops_hold-requires-clause-p_ends c =
    ends c.args.key.now c.requires c.in-Some.p.op (of_record (operations c.args.key.now) c.args.four.now.p c.in-Some.p c.in-Some.ensures).there

pub ops_hold-requires-clause-q2_ends : goal.ops_hold-requires-clause-q2_ends
ops_hold-requires-clause-q2_ends c =
    ends c.args.key.now c.requires c.in-Some-search-2.q2.op (of_record (operations c.args.key.now) c.args.four.now.q2 c.in-Some-search-2.q2 c.in-Some-search-2.ensures).there

pub returns : goal.returns
returns c =
    let p = c.in-Some.p in
    let q = c.in-Some-search.q in
    let q2 = c.in-Some-search-2.q2 in
    let p2 = c.in-Some-search-3.p2 in (
      λ t. four_from_ops c.args.key.now c.requires c.args.d c.args.four.now p q q2 p2 c.in-Some.ensures c.in-Some-search.ensures c.in-Some-search-2.ensures c.in-Some-search-3.ensures (c.ops_hold.ensures.0 t),
      λ h. c.ops_hold.ensures.1 (ops_from_four c.args.key.now c.requires c.args.d c.args.four.now p q q2 p2 c.in-Some.ensures c.in-Some-search.ensures c.in-Some-search-2.ensures c.in-Some-search-3.ensures h),
    )
