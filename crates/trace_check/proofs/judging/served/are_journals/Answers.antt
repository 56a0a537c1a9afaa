use Rattle.std.proofs.Common.{◌≡◌, ℕ, ◌<◌, true, List, [], length, refl, sym, ◌∙◌, inl, inr, subst, arith}
use Rattle.std.proofs.lemmas.Bool.{cases_eq, cases_lt}
use Rattle.std.proofs.lemmas.List.{get_or_read, get_or_past}
use Rattle.stale_model.specs.declared.store.JournalEntry.{JournalEntry}
use Rattle.stale_model.specs.Journals.{IsJournal}
use Rattle.stale_model.specs.RecordedRuns.{journal_of}
use Rattle.stale_model.proofs.Growing.{empty_journal}
use Rattle.trace_check.proofs.judging.served.are_journals.Goals as goal

pub returns-then-not-branch : goal.returns-then-not-branch
returns-then-not-branch c =
    let journals = c.args.journals.now in
    let r = c.loop-replica.replica in
    let less : r < length journals = omega arith in
    let same : c.as_slice.result.now ≡ journal_of journals r = c.as_slice.ensures ∙ get_or_read journals r c.index-journals-replica.result less c.index-journals-replica.is [] in (
      (λ no. absurd (cc no)),
      (λ all.
          let yes : c.in_ok-is_journal.field-0 ≡ true = c.in_ok-is_journal.ensures.1 (subst (λ (l : List JournalEntry). IsJournal r l) (sym same) (all r)) in
          let no = c.if-not-branch.true in
          cc (yes, no)),
    )

pub loop-replica-preserved : goal.loop-replica-preserved
loop-replica-preserved c =
    let journals = c.args.journals.now in
    let r = c.loop-replica.replica in
    let less : r < length journals = omega arith in
    let same : c.as_slice.result.now ≡ journal_of journals r = c.as_slice.ensures ∙ get_or_read journals r c.index-journals-replica.result less c.index-journals-replica.is [] in
    let here : IsJournal r (journal_of journals r) = subst (λ (l : List JournalEntry). IsJournal r l) same (c.in_ok-is_journal.ensures.0 c.if-not-branch.false) in
    λ k low. elim (cases_eq r k) [
      | inl e ↦ subst (λ (n : ℕ). IsJournal n (journal_of journals n)) e here
      | inr apart ↦ c.loop-replica.invariant k (omega arith)
    ]

pub returns : goal.returns
returns c =
    let journals = c.args.journals.now in (
      (λ yes replica. elim (cases_lt replica (length journals)) [
        | inl low ↦ c.loop-replica.invariant replica (omega arith)
        | inr past ↦ subst (λ (l : List JournalEntry). IsJournal replica l) (sym (get_or_past journals replica [] past)) (empty_journal replica)
      ]),
      (λ all. refl),
    )
