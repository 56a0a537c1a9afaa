use Rattle.std.proofs.Common.{◌≡◌, ◌<◌, ℕ, length, refl, sym, ◌∙◌, ap, subst, arith, inl, inr, eq-eqb, true≢false}
use Rattle.std.proofs.lemmas.Bool.{eqb-true}
use Rattle.std.proofs.lemmas.Result.{IfOk-weaker}
use Rattle.stale_model.specs.Operations.{operations}
use Rattle.cert_checker.specs.RefutationFaults.{IsRefutationCheck}
use Rattle.cert_checker.specs.RefutationSteps.{AreSpans, FindsFailed}
use Rattle.cert_checker.proofs.MemberMarks.{no_strangers}
use Rattle.cert_checker.proofs.Tries.{check_from_tries}
use Rattle.cert_checker.proofs.refutations.tries_fault.Goals.{then-is_empty-via-then-is_empty, then-is_empty-via-else-is_empty+then-as_slice-stuck}
use Rattle.cert_checker.proofs.refutations.tries_fault.Goals as goal

pub returns-then-is_empty : goal.returns-then-is_empty
returns-then-is_empty c = inr (inl (record {
  no_stranger = no_strangers (operations c.args.key.now) c.args.refutation.now.stuck c.args.members.now c.requires.members;
  count = elim c.then-is_empty.branch [
    | then-is_empty-via-then-is_empty w ↦ inl
        (ap length (sym c.as_slice-stuck.ensures) ∙ eqb-true (length c.as_slice-stuck.result.now) 0 (sym c.is_empty.ensures ∙ w.if-is_empty.true))
    | then-is_empty-via-else-is_empty+then-as_slice-stuck w ↦ inr
        (λ e. w.if-as_slice-stuck.true (ap length w.as_slice.ensures ∙ e ∙ ap length (sym c.as_slice-stuck.ensures)))
  ];
  zeroth = refl;
}))

pub first_failed-requires-clause-case : goal.first_failed-requires-clause-case
first_failed-requires-clause-case c =
    record {
      valid = c.requires.valid;
      matched = c.requires.matched;
      members = c.requires.members;
      members_size = c.requires.size;
      spans = subst (AreSpans (operations c.args.key.now) (length (operations c.args.key.now))) (sym c.as_slice-spans.ensures.value) c.in_ok-fill_spans.ensures.spans;
      spans_size = ap length c.as_slice-spans.ensures.value ∙ c.in_ok-fill_spans.ensures.size;
    }

pub returns : goal.returns
returns c =
    let same = ap length c.as_slice-stuck.ensures in
    let many : length c.args.refutation.now.tries ≡ length c.args.refutation.now.stuck = ap length (sym c.as_slice.ensures) ∙ c.if-as_slice-stuck.false ∙ same in
    IfOk-weaker c.first_failed.result (FindsFailed (operations c.args.key.now) c.args.d c.args.refutation.now) (IsRefutationCheck (operations c.args.key.now) c.args.d c.args.refutation.now)
    (check_from_tries (operations c.args.key.now) c.args.d c.args.refutation.now c.args.members.now c.requires.members
    (some (length c.args.refutation.now.stuck) (λ e. true≢false (sym (eq-eqb (length c.as_slice-stuck.result.now) 0 (same ∙ e)) ∙ sym c.is_empty.ensures ∙ c.if-is_empty.false))) many)
    c.first_failed.ensures
  where
    some : (n : ℕ) → (n ≡ 0 → ⊥) → 0 < n
    some n not = omega (arith, not)
