use Rattle.std.proofs.Common.{◌≡◌, ◌<◌, ◌+◌, ℕ, All, List, length, get_or, take, drop, ◌++◌, refl, sym, ◌∙◌, ap, subst, arith}
use Rattle.std.proofs.Math.Seq.{take-append_seam}
use Rattle.std.proofs.lemmas.Option.{slice_get-get_or, slice_get_within, slice_get_read}
use Rattle.stale_model.specs.declared.Try.{Try}
use Rattle.stale_model.specs.Orders.{StandsAt}
use Rattle.cert_checker.specs.RefutationSteps.{case_ops}
use Rattle.cert_checker.proofs.Tries.{held_more}
use Rattle.cert_checker.proofs.refutations.Case.first_failed.Goals as goal

-- what a call leaves of a whole list
whole : (len : ℕ) (new old : List ℕ) → length new ≡ len → take len (new ++ drop (length new) old) ≡ new
whole len new old e = subst (λ k. take k (new ++ drop (length new) old) ≡ new) e (take-append_seam new (drop (length new) old))

pub loop-place-preserved : goal.loop-place-preserved
loop-place-preserved c = record {
  tries = c.loop-place.invariant.tries;
  size = ap length left ∙ c.try_holds.auto.marks ∙ ap length c.deref_mut.ensures.value ∙ c.loop-place.invariant.size;
  bound = subst (λ (xs : List ℕ). All (λ m. m < n + 1 + 1) xs) (sym left) (λ k d low. let le = c.try_holds.ensures.marked k d low in omega arith);
  held = held_more (case_ops c.args.self.now) c.args.self.now.d c.args.self.now.refutation.now n (get_or c.as_slice-stuck.result.now n 0) c.attempt-item.result c.loop-place.invariant.held member_is attempt_is
      (c.try_holds.ensures.holds.0 c.if-not-try_holds.false);
}
  where
    n : ℕ
    n = c.loop-place.place

    left : take c.loop-place.marks.len (c.try_holds.new.marks ++ drop (length c.try_holds.new.marks) c.loop-place.marks.items) ≡ c.try_holds.new.marks
    left = whole c.loop-place.marks.len c.try_holds.new.marks c.loop-place.marks.items (c.try_holds.auto.marks ∙ c.deref_mut.ensures.len)

    tries : List Try
    tries = c.as_slice-attempt-items.result.now

    attempt_is : StandsAt c.args.self.now.refutation.now.tries n c.attempt-item.result
    attempt_is = subst (λ (xs : List Try). StandsAt xs n c.attempt-item.result) c.loop-place.invariant.tries
        (slice_get_read tries (length tries) n c.attempt-item.result refl c.loop-place-test.true c.attempt-item.is)

    member_is : StandsAt c.args.self.now.refutation.now.stuck n (get_or c.as_slice-stuck.result.now n 0)
    member_is =
        let low = slice_get_within c.args.self.now.refutation.now.tries n c.attempt-item.result attempt_is in
        let many = c.requires.as_many in
        let same = ap length c.as_slice-stuck.ensures in
        subst (λ (xs : List ℕ). StandsAt xs n (get_or c.as_slice-stuck.result.now n 0)) c.as_slice-stuck.ensures (slice_get-get_or c.as_slice-stuck.result.now n 0 (omega arith))

pub returns : goal.returns
returns c = λ t member attempt member_is attempt_is.
    let low = slice_get_within c.args.self.now.refutation.now.tries t attempt attempt_is in
    let same = ap length c.loop-place.invariant.tries in
    let past = c.loop-place-test.false in
    c.loop-place.invariant.held t member attempt (omega arith) member_is attempt_is
