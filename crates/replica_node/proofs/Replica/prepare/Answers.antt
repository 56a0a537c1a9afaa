use Rattle.std.proofs.Common.{List, length, sym, ◌∙◌, ap, subst, arith}
use Rattle.std.proofs.lemmas.List.{length-replicate}
use Rattle.stale_model.specs.declared.store.JournalEntry.{JournalEntry}
use Rattle.stale_model.specs.Journals.{held, IsJournal}
use Rattle.stale_model.proofs.Growing.{empty_journal}
use Rattle.replica_node.specs.declared.HeldPair.{HeldPair}
use Rattle.replica_node.proofs.Holding.{nothing_held}
use Rattle.replica_node.proofs.Replica.prepare.Goals as goal

pub invariant_of-result : goal.invariant_of-result
invariant_of-result c =
    let empty = c.in-Ok.ensures.items in
    let none = c.in-Ok.ensures.len in
    let nothing : HeldPair = record { stamp = 0; value = 0 } in
    record {
      holds = λ key past within.
          let long = ap (λ (l : List HeldPair). length l) c.in_ok-held.ensures in
          let many = length-replicate c.args.keys nothing in
          let ok = c.in_ok-held.held.ok in
          nothing_held c.args.keys c.in_ok-held.held.items key past c.in_ok-held.ensures (omega arith) ∙ ap (held key) (sym empty);
      journal = subst (λ (js : List JournalEntry). IsJournal c.args.number js) (sym empty) (empty_journal c.args.number);
      within = omega arith;
      room = c.in-Ok.ensures.capacity;
    }
