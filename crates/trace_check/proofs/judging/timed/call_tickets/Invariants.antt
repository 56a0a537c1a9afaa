use Rattle.std.proofs.Common.{◌≡◌, ◌∷◌, [], take}
use Rattle.std.specs.Prelude.{flat_map}
use Rattle.trace_check.proofs.judging.timed.call_tickets.Given as goal

abbrev pub invariant-loop-entry : goal.invariant-loop-entry
invariant-loop-entry l = l.tickets.items ≡ flat_map (λ e. e.start ∷ e.finish ∷ []) (take l.entry-index l.entries)
