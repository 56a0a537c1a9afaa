use Rattle.std.proofs.Common.{List, sym, subst}
use Rattle.trace_check.specs.TakingSteps.{Lookup, AreByTicket}
use Rattle.trace_check.proofs.Taking.{served_once}
use Rattle.trace_check.proofs.judging.taken.are_taken.Goals as goal

pub returns : goal.returns
returns c =
    let journals = c.args.journals.now in
    c.are_all_taken.ensures journals (subst (λ (l : List Lookup). AreByTicket journals l) (sym c.as_slice.ensures.value) c.in_ok-lookups.ensures)
    (served_once c.args.entries.now journals c.requires.once)
