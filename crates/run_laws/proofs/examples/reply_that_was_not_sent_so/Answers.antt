use Rattle.std.proofs.Common.{◌≡◌, [], ◌∷◌, inl, inr, refl, ap, arith}
use Rattle.stale_model.specs.declared.store.JournalEntry.{JournalEntry}
use Rattle.stale_model.specs.declared.store.Took.{Took}
use Rattle.stale_model.proofs.Sorted.{first_or_later}
use Rattle.stale_model.proofs.Members.{empty_has_none}
use Rattle.run_laws.specs.Examples.{taken, first_write, first_served, second_served}
use Rattle.run_laws.proofs.examples.reply_that_was_not_sent_so.Goals as goal

pub returns : goal.returns
returns c run =
    let r = (run.taken 1 first_write (omega arith)).each (taken 0 5 3 2) (0, omega arith, refl) in
    let stamp : 3 ≡ r.entry.reply.stamp = ap (λ (t : Took). t.stamp) r.same in
    elim (first_or_later first_served r.entry (second_served ∷ []) r.there) [
      | inl is ↦ let given = ap (λ (j : JournalEntry). j.reply.stamp) is in omega arith
      | inr later ↦ elim (first_or_later second_served r.entry [] later) [
        | inl is ↦ let given = ap (λ (j : JournalEntry). j.reply.stamp) is in omega arith
        | inr none ↦ empty_has_none r.entry none
      ]
    ]
