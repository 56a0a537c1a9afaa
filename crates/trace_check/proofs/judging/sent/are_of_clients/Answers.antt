use Rattle.std.proofs.Common.{◌≡◌, ◌<◌, List, [], length, sym, ◌∙◌, subst, arith}
use Rattle.std.specs.Prelude.{All}
use Rattle.std.proofs.lemmas.List.{get_or_read}
use Rattle.stale_model.specs.declared.store.JournalEntry.{JournalEntry}
use Rattle.stale_model.specs.RecordedRuns.{journal_of}
use Rattle.trace_check.proofs.judging.sent.are_of_clients.Goals as goal

pub returns-then-not-is_of_clients : goal.returns-then-not-is_of_clients
returns-then-not-is_of_clients c =
    let journals = c.args.journals.now in
    let r = c.loop-journal.journal-index in
    let less : r < length journals = omega arith in
    let same : c.as_slice.result.now ≡ journal_of journals r = c.as_slice.ensures ∙ get_or_read journals r c.journal-item.result less c.journal-item.is [] in (
      (λ no. absurd (cc no)),
      (λ all. c.if-not-is_of_clients.ensures.1 (subst (λ (l : List JournalEntry). All (λ j. j.request.client < c.args.clients) l) (sym same) (all r))),
    )
