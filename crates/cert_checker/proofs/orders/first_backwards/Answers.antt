use Rattle.std.proofs.Common.{rules, arith, ◌≡◌, ◌+◌, subst, sym, true≢false, get_or}
use Rattle.std.proofs.lemmas.Option.{slice_get-get_or}
use Rattle.stale_model.specs.Operations.{latest_finish}
use Rattle.cert_checker.specs.Steps.{IsAfter}
use Rattle.cert_checker.proofs.Lookups.{ends}
use Rattle.cert_checker.proofs.Starts.{AreLatest, none_yet}
use Rattle.cert_checker.proofs.InOrder.{no_op, known_at, found_here, latest_next, none_here, none_at_all}
use Rattle.cert_checker.proofs.orders.first_backwards.Goals as goal

pub loop-op-init : goal.loop-op-init
loop-op-init c = record { latest = none_yet c.args.listed.now; none = λ p lt b. absurd (omega arith) }

pub latest_finish-requires : goal.latest_finish-requires
latest_finish-requires c =
    let listed = c.args.listed.now in
    ends c.args.key.now c.requires.valid (get_or listed c.loop-op.op-index no_op)
    (known_at c.args.key.now c.requires.valid listed c.requires.listed c.loop-op.op-index (get_or listed c.loop-op.op-index no_op) (slice_get-get_or listed c.loop-op.op-index no_op c.loop-op-test.true))

pub returns-then-is_after : goal.returns-then-is_after
returns-then-is_after c =
    let finish : c.latest_finish.result ≡ latest_finish (get_or c.args.listed.now c.loop-op.op-index no_op) = c.latest_finish.ensures in
    found_here c.args.key.now c.requires.valid c.args.listed.now c.requires.listed c.args.d c.loop-op.op-index c.loop-op.latest c.loop-op-test.true c.loop-op.invariant.latest c.loop-op.invariant.none
    (subst (IsAfter c.loop-op.latest c.args.d) finish (c.if-is_after.ensures.0 (search rules)))

pub loop-op-preserved : goal.loop-op-preserved
loop-op-preserved c =
    let finish : c.latest_finish.result ≡ latest_finish (get_or c.args.listed.now c.loop-op.op-index no_op) = c.latest_finish.ensures in
    let not : IsAfter c.loop-op.latest c.args.d c.latest_finish.result → ⊥ = λ h. true≢false (sym (c.if-is_after.ensures.1 h)) in
    record {
      latest = subst (AreLatest c.args.listed.now (c.loop-op.op-index + 1)) (sym c.add.ensures)
          (latest_next c.args.key.now c.requires.valid c.args.listed.now c.requires.listed c.args.d c.loop-op.op-index c.loop-op.latest c.loop-op-test.true c.loop-op.invariant.latest c.loop-op.invariant.none);
      none = none_here c.args.key.now c.requires.valid c.args.listed.now c.requires.listed c.args.d c.loop-op.op-index c.loop-op.latest c.loop-op-test.true c.loop-op.invariant.latest c.loop-op.invariant.none
          (subst (λ f. IsAfter c.loop-op.latest c.args.d f → ⊥) finish not);
    }

pub returns : goal.returns
returns c = none_at_all c.args.key.now c.requires.valid c.args.listed.now c.requires.listed c.args.d c.loop-op.op-index (search rules) c.loop-op.invariant.none
