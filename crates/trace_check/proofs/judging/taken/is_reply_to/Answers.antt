use Rattle.std.proofs.Common.{◌≡◌, sym, ◌∙◌, subst}
use Rattle.std.proofs.lemmas.Option.{same_Some, none-some}
use Rattle.stale_model.specs.declared.store.JournalEntry.{JournalEntry}
use Rattle.trace_check.specs.TakingSteps.{IsAnswer}
use Rattle.trace_check.proofs.Taking.{reply_found, reply_is_found, reply_answers}
use Rattle.trace_check.proofs.judging.taken.is_reply_to.Goals as goal

pub returns-in-Some : goal.returns-in-Some
returns-in-Some c = λ journals by_ticket once.
    let e = c.args.call.now in
    let t = c.args.took.now in
    let j = c.in-Some.entry.now in
    let found = c.in-Some.ensures journals by_ticket in (
      (λ yes. reply_found journals e t j (sym found) (c.is_answer.ensures.0 yes)),
      (λ r.
          let same : r.entry ≡ j = same_Some r.entry j (sym (reply_is_found journals e t once r) ∙ sym found) in
          c.is_answer.ensures.1 (subst (λ (i : JournalEntry). IsAnswer e t i) same (reply_answers journals e t r))),
    )

pub returns-in-None : goal.returns-in-None
returns-in-None c = λ journals by_ticket once. (
  (λ no. absurd (cc no)),
  (λ r. absurd (none-some r.entry (c.in-None.ensures journals by_ticket ∙ reply_is_found journals c.args.call.now c.args.took.now once r))),
)
