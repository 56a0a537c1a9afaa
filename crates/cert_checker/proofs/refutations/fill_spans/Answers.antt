use Rattle.std.proofs.Common.{rules, ℕ, ◌≡◌, ◌<◌, ◌+◌, length, replicate, set, get_or, arith, subst, sym, ap, ◌∙◌}
use Rattle.std.proofs.lemmas.List.{length-set}
use Rattle.std.proofs.lemmas.Option.{slice_get_read}
use Rattle.stale_model.specs.declared.Op.{Op}
use Rattle.stale_model.specs.declared.KeyOps.{KeyOps}
use Rattle.stale_model.specs.Operations.{operations}
use Rattle.stale_model.specs.Orders.{StandsAt}
use Rattle.cert_checker.specs.declared.refutations.Span.{Span}
use Rattle.cert_checker.specs.RefutationSteps.{AreSpans}
use Rattle.cert_checker.proofs.InOrder.{no_op}
use Rattle.cert_checker.proofs.Lookups.{later, in_slots}
use Rattle.stale_model.proofs.Places.{contains_at}
use Rattle.cert_checker.proofs.Spans.{no_times, first_spans, spans_more}
use Rattle.cert_checker.proofs.refutations.fill_spans.Goals as goal

pub loop-op-init : goal.loop-op-init
loop-op-init c =
    let slots = length c.as_slice.result.now + 1 in
    let all : c.refill.new.list.items ≡ replicate slots no_times = search rules in
    record {
      size = search rules;
      spans = subst (λ (s : Span). AreSpans (operations c.args.key.now) 1 (set c.refill.new.list.items 0 s)) (sym c.with.ensures)
          (first_spans c.args.key.now slots c.refill.new.list.items (omega arith) all);
    }

pub loop-op-preserved : goal.loop-op-preserved
loop-op-preserved c = record {
  size = length-set c.loop-op.spans.items op.value c.with-in-loop-op.result ∙ c.loop-op.invariant.size;
  spans = subst (λ (s : Span). AreSpans (operations key) (n + 1 + 1) (set c.loop-op.spans.items op.value s)) (sym c.with-in-loop-op.ensures)
      (spans_more (operations key) (n + 1) op at c.loop-op.spans.items c.index.result.now wide
      (slice_get_read c.loop-op.spans.items (length c.loop-op.spans.items) op.value c.index.result.now (λ i. length c.loop-op.spans.items) wide c.index.ensures) c.loop-op.invariant.spans);
}
  where
    key : KeyOps
    key = c.args.key.now

    n : ℕ
    n = c.loop-op.op-index

    op : Op
    op = get_or c.as_slice-op-items.result.now n no_op

    at : StandsAt (operations key) (n + 1) op
    at = subst (λ xs. StandsAt (operations key) (n + 1) (get_or xs n no_op)) (sym c.as_slice-op-items.ensures)
        (later key c.requires n no_op (let l = ap length c.as_slice-op-items.ensures in let t = c.loop-op-test.true in omega arith))

    wide : op.value < length c.loop-op.spans.items
    wide =
        let size = c.loop-op.invariant.size in
        let low = in_slots key c.requires op (contains_at (operations key) (n + 1) op at) in
        omega arith

pub returns-clause-spans : goal.returns-clause-spans
returns-clause-spans c =
    let e : c.loop-op.op-index + 1 ≡ length (operations c.args.key.now) = search rules in
    subst (λ n. AreSpans (operations c.args.key.now) n c.loop-op.spans.items) e c.loop-op.invariant.spans
