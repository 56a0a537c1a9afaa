use Rattle.std.proofs.Common.{◌≡◌, ℕ, ◌<◌, true, List, [], length, refl, sym, ◌∙◌, inl, inr, subst, arith}
use Rattle.std.specs.Prelude.{All}
use Rattle.std.proofs.lemmas.Bool.{cases_eq}
use Rattle.std.proofs.lemmas.List.{get_or_read}
use Rattle.stale_model.specs.declared.store.JournalEntry.{JournalEntry}
use Rattle.stale_model.specs.RecordedRuns.{journal_of}
use Rattle.trace_check.specs.SendingSteps.{HasAllSent}
use Rattle.trace_check.proofs.judging.sent.are_all_sent.Goals as goal

pub is_sent-requires : goal.is_sent-requires
is_sent-requires c =
    let journals = c.args.journals.now in
    let r = c.loop-replica.replica in
    let less : r < length journals = omega arith in
    let same : c.as_slice.result.now ≡ journal_of journals r = c.as_slice.ensures ∙ get_or_read journals r c.index-journals-replica.result less c.index-journals-replica.is [] in
    subst (λ (l : List JournalEntry). All (λ j. j.request.client < length c.args.calls.now) l) (sym same) (c.requires.clients r)

pub returns-then-not-branch : goal.returns-then-not-branch
returns-then-not-branch c =
    let journals = c.args.journals.now in
    let r = c.loop-replica.replica in
    let less : r < length journals = omega arith in
    let same : c.as_slice.result.now ≡ journal_of journals r = c.as_slice.ensures ∙ get_or_read journals r c.index-journals-replica.result less c.index-journals-replica.is [] in (
      (λ no. absurd (cc no)),
      (λ all.
          let yes : c.in_ok-is_sent.field-0 ≡ true = c.in_ok-is_sent.ensures.1 (subst (λ (l : List JournalEntry). HasAllSent r c.args.calls.now l) (sym same) (all r less)) in
          let no = c.if-not-branch.true in
          cc (yes, no)),
    )

pub loop-replica-preserved : goal.loop-replica-preserved
loop-replica-preserved c =
    let journals = c.args.journals.now in
    let r = c.loop-replica.replica in
    let less : r < length journals = omega arith in
    let same : c.as_slice.result.now ≡ journal_of journals r = c.as_slice.ensures ∙ get_or_read journals r c.index-journals-replica.result less c.index-journals-replica.is [] in
    let here : HasAllSent r c.args.calls.now (journal_of journals r) = subst (λ (l : List JournalEntry). HasAllSent r c.args.calls.now l) same (c.in_ok-is_sent.ensures.0 c.if-not-branch.false) in
    λ k low. elim (cases_eq r k) [
      | inl e ↦ subst (λ (n : ℕ). HasAllSent n c.args.calls.now (journal_of journals n)) e here
      | inr apart ↦ c.loop-replica.invariant k (omega arith)
    ]

pub returns : goal.returns
returns c = ((λ yes replica less. c.loop-replica.invariant replica (omega arith)), (λ all. refl))
