use Rattle.std.proofs.Common.{[], inl, inr, refl, ap, sym, ◌∙◌, arith}
use Rattle.stale_model.specs.declared.store.JournalEntry.{JournalEntry}
use Rattle.stale_model.specs.declared.store.Took.{Took}
use Rattle.stale_model.specs.RecordedRuns.{AreTaken}
use Rattle.stale_model.proofs.Sorted.{first_or_later}
use Rattle.stale_model.proofs.Members.{empty_has_none}
use Rattle.run_laws.specs.Examples.{taken, first_write, first_served, second_write, reply_in_no_journal}
use Rattle.run_laws.proofs.examples.reply_that_stands_in_no_journal.Goals as goal

-- the journal has the first reply alone
reply : AreTaken reply_in_no_journal.settings reply_in_no_journal.journals second_write → ⊥
reply h =
    let r = h.each (taken 0 5 4 2) (0, omega arith, refl) in
    elim (first_or_later first_served r.entry [] r.there) [
      | inl is ↦ let serve = ap (λ (t : Took). t.serve) r.same ∙ ap (λ (j : JournalEntry). j.reply.serve) (sym is) in omega arith
      | inr none ↦ empty_has_none r.entry none
    ]

pub returns-clause-reply : goal.returns-clause-reply
returns-clause-reply c = reply

pub returns-clause-none : goal.returns-clause-none
returns-clause-none c run = reply (run.taken 1 first_write (omega arith))
