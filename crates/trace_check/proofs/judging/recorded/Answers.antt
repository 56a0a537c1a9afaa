use Rattle.std.proofs.Common.{◌≡◌, ℕ, true, false, List, sym, subst, rules}
use Rattle.std.specs.Prelude.{All}
use Rattle.std.proofs.lemmas.Bool.{both_ways}
use Rattle.stale_model.specs.declared.store.JournalEntry.{JournalEntry}
use Rattle.stale_model.specs.Journals.{IsJournal}
use Rattle.stale_model.specs.RecordedRuns.{journal_of, ArePlanned, AreTimed, AreTaken, ReadsFreshest, AreSent}
use Rattle.quorum_client.specs.Plans.{plan_for}
use Rattle.trace_check.proofs.FirstFailing.{fifth_fails, sixth_fails}
use Rattle.trace_check.proofs.judging.recorded.Goals as goal

pub returns-then-not-branch-3 : goal.returns-then-not-branch-3
returns-then-not-branch-3 c =
    let settings = c.args.settings.now in
    let trace = c.args.trace.now in
    let planned : ArePlanned settings (plan_for settings) trace.entries = search rules in
    let timed : AreTimed trace.entries trace.journals = search rules in
    let taken : All (AreTaken settings trace.journals) trace.entries = search rules in
    let freshest : All ReadsFreshest trace.entries = search rules in
    let same : c.as_slice-journals.result.now ≡ trace.journals = search rules in
    let no : c.in_ok-are_journals.field-0 ≡ false = search rules in
    let fails : ((replica : ℕ) → IsJournal replica (journal_of trace.journals replica)) → ⊥ = λ h.
    both_ways c.in_ok-are_journals.field-0 no (c.in_ok-are_journals.ensures.1 (subst (λ (js : List (List JournalEntry)). (replica : ℕ) → IsJournal replica (journal_of js replica)) (sym same) h)) in
    fifth_fails settings (plan_for settings) trace planned timed taken freshest fails

pub returns-then-not-branch-4 : goal.returns-then-not-branch-4
returns-then-not-branch-4 c =
    let settings = c.args.settings.now in
    let trace = c.args.trace.now in
    let planned : ArePlanned settings (plan_for settings) trace.entries = search rules in
    let timed : AreTimed trace.entries trace.journals = search rules in
    let taken : All (AreTaken settings trace.journals) trace.entries = search rules in
    let freshest : All ReadsFreshest trace.entries = search rules in
    let same : c.as_slice-journals.result.now ≡ trace.journals = search rules in
    let yes : c.in_ok-are_journals.field-0 ≡ true = search rules in
    let served : (replica : ℕ) → IsJournal replica (journal_of trace.journals replica) =
    subst (λ (js : List (List JournalEntry)). (replica : ℕ) → IsJournal replica (journal_of js replica)) same (c.in_ok-are_journals.ensures.0 yes) in
    let fails : AreSent settings trace.entries trace.journals → ⊥ = search rules in
    sixth_fails settings (plan_for settings) trace planned timed taken freshest served fails

pub returns : goal.returns
returns c =
    let settings = c.args.settings.now in
    let trace = c.args.trace.now in
    let planned : ArePlanned settings (plan_for settings) trace.entries = search rules in
    let timed : AreTimed trace.entries trace.journals = search rules in
    let taken : All (AreTaken settings trace.journals) trace.entries = search rules in
    let freshest : All ReadsFreshest trace.entries = search rules in
    let same : c.as_slice-journals.result.now ≡ trace.journals = search rules in
    let yes : c.in_ok-are_journals.field-0 ≡ true = search rules in
    let served : (replica : ℕ) → IsJournal replica (journal_of trace.journals replica) =
    subst (λ (js : List (List JournalEntry)). (replica : ℕ) → IsJournal replica (journal_of js replica)) same (c.in_ok-are_journals.ensures.0 yes) in
    let sent : AreSent settings trace.entries trace.journals = search rules in
    record { planned = planned; timed = timed; taken = taken; freshest = freshest; served = served; sent = sent }
