use Rattle.std.proofs.Common.{rules, ◌<◌, ℕ, List, length, get_or, refl, sym, ◌∙◌, subst, arith, true≢false}
use Rattle.std.specs.Prelude.{Contains}
use Rattle.std.proofs.lemmas.List.{length-set}
use Rattle.std.proofs.lemmas.Option.{slice_get-get_or, slice_get_within, get_or_from_slice_get}
use Rattle.stale_model.specs.declared.Op.{Op}
use Rattle.stale_model.specs.Orders.{StandsAt}
use Rattle.stale_model.proofs.Places.{contains_at}
use Rattle.cert_checker.specs.OrderFaults.{StandsTo}
use Rattle.cert_checker.specs.RefutationSteps.{case_ops, case_stuck, IsWrittenBy}
use Rattle.cert_checker.proofs.Marks.{good_more}
use Rattle.cert_checker.proofs.MemberMarks.{written_in_slots}
use Rattle.cert_checker.proofs.Written.{none_marked, mark_more}
use Rattle.cert_checker.proofs.Cases.{case_names}
use Rattle.cert_checker.proofs.ChainWalks.{IsLast, LastIs, forced_more, no_link, link, not_forced, stood_before, finds_end}
use Rattle.cert_checker.proofs.refutations.Case.chain_end.Goals.{in-Some+else-not-forces, in_default}
use Rattle.cert_checker.proofs.refutations.Case.chain_end.Goals as goal

pub loop-rec-init : goal.loop-rec-init
loop-rec-init c = record {
  size = c.requires.marks_size;
  bound = search rules;
  good = record { known = λ i x low at. absurd (omega (arith, low)); once = λ i j x li lj a b. absurd (omega (arith, li)) };
  forced = λ i e next low there after. absurd (omega (arith, low));
  marked = none_marked (case_ops c.args.self.now) c.args.chain.now c.args.marks.now c.args.mark
      (λ v at. let less = c.requires.earlier v 0 (slice_get_within c.args.marks.now v c.args.mark at) in let e = get_or_from_slice_get c.args.marks.now v c.args.mark 0 at in omega arith);
  last = refl;
}

pub returns-in_err-value-clause-end : goal.returns-in_err-value-clause-end
returns-in_err-value-clause-end c =
    rw c.from_residual.ensures
    (λ is. c.in_err-value.ensures
    (is.members (get_or c.args.chain.now c.loop-rec.rec-index 0) (contains_at c.args.chain.now c.loop-rec.rec-index _ (slice_get-get_or c.args.chain.now c.loop-rec.rec-index 0 c.loop-rec-test.true))))

pub returns-then-marks-value-clause-end : goal.returns-then-marks-value-clause-end
returns-then-marks-value-clause-end c = λ is. stood_before c.args.self.now chain n rec at stands is
  where
    chain : List ℕ
    chain = c.args.chain.now

    n : ℕ
    n = c.loop-rec.rec-index

    rec : ℕ
    rec = get_or chain n 0

    at : StandsAt chain n rec
    at = slice_get-get_or chain n 0 c.loop-rec-test.true

    value : ℕ
    value = c.in_ok-value.value

    by : IsWrittenBy (case_ops c.args.self.now) value rec
    by = c.in_ok-value.ensures.0

    wide : value < length c.loop-rec.marks
    wide = let low = written_in_slots c.args.self.now.key.now value rec c.requires.case.valid by in let size = c.loop-rec.invariant.size in omega arith

    stands : StandsTo chain n rec
    stands = c.loop-rec.invariant.marked.only value rec by
        (subst (λ m. StandsAt c.loop-rec.marks value m) c.if-marks-value.true (slice_get-get_or c.loop-rec.marks value 0 wide))

pub returns-then-not-forces-clause-end : goal.returns-then-not-forces-clause-end
returns-then-not-forces-clause-end c =
    not_forced c.args.self.now c.requires.case chain n rec c.in_ok-value.value c.in-Some.before at by last
    (λ less. true≢false (sym (c.forces.ensures.1 less) ∙ c.if-not-forces.true))
  where
    chain : List ℕ
    chain = c.args.chain.now

    n : ℕ
    n = c.loop-rec.rec-index

    rec : ℕ
    rec = get_or chain n 0

    at : StandsAt chain n rec
    at = slice_get-get_or chain n 0 c.loop-rec-test.true

    by : IsWrittenBy (case_ops c.args.self.now) c.in_ok-value.value rec
    by = c.in_ok-value.ensures.0

    last : IsLast (case_ops c.args.self.now) chain n c.in-Some.before
    last = subst (LastIs (case_ops c.args.self.now) chain n) c.in-Some.is c.loop-rec.invariant.last

pub loop-rec-preserved : goal.loop-rec-preserved
loop-rec-preserved c = record {
  size = length-set marks value c.args.mark ∙ c.loop-rec.invariant.size;
  bound = search rules;
  good = good_more chain n rec at (Contains (case_stuck c.args.self.now)) c.in_ok-value.ensures.1 c.loop-rec.invariant.good fresh;
  forced = elim c.match-last.branch [
    | in-Some+else-not-forces w ↦
        forced_more ops c.args.self.now.d chain n rec at
        (link c.args.self.now c.requires.case chain n rec value w.in-Some.before at by (subst (LastIs ops chain n) w.in-Some.is c.loop-rec.invariant.last) (w.forces.ensures.0 w.if-not-forces.false))
        c.loop-rec.invariant.forced
    | in_default w ↦ forced_more ops c.args.self.now.d chain n rec at (no_link ops c.args.self.now.d chain n rec (subst (LastIs ops chain n) w.in_default.is c.loop-rec.invariant.last)) c.loop-rec.invariant.forced
  ];
  marked = mark_more ops (case_names c.args.self.now c.requires.case) chain n rec value marks c.args.mark at by wide c.loop-rec.invariant.marked;
  last = record { place = n; next = refl; c = rec; there = at; by = by };
}
  where
    ops : List Op
    ops = case_ops c.args.self.now

    chain : List ℕ
    chain = c.args.chain.now

    n : ℕ
    n = c.loop-rec.rec-index

    rec : ℕ
    rec = get_or chain n 0

    at : StandsAt chain n rec
    at = slice_get-get_or chain n 0 c.loop-rec-test.true

    value : ℕ
    value = c.in_ok-value.value

    marks : List ℕ
    marks = c.loop-rec.marks

    by : IsWrittenBy ops value rec
    by = c.in_ok-value.ensures.0

    wide : value < length marks
    wide = let low = written_in_slots c.args.self.now.key.now value rec c.requires.case.valid by in let size = c.loop-rec.invariant.size in omega arith

    fresh : StandsTo chain n rec → ⊥
    fresh s = c.if-marks-value.false (get_or_from_slice_get marks value c.args.mark 0 (c.loop-rec.invariant.marked.marked value rec by s))

pub returns-clause-end : goal.returns-clause-end
returns-clause-end c =
    finds_end c.args.self.now c.args.chain.now c.loop-rec.marks c.args.mark c.loop-rec.rec-index c.loop-rec.last (search rules) (search rules)
    c.loop-rec.invariant.good c.loop-rec.invariant.forced c.loop-rec.invariant.marked c.loop-rec.invariant.last
