use Rattle.std.proofs.Common.{◌-◌, ◌≤◌, arith, get_or, length, refl}
use Rattle.std.specs.Fmt.{decimal}
use Rattle.std.proofs.lemmas.Fmt.{length-decimal-le}
use Rattle.std.proofs.lemmas.List.{drop_all}
use Rattle.stale_model.specs.Calls.{no_took}
use Rattle.history_csv.proofs.TicketFacts.{tickets_of-last, tickets_of-more}
use Rattle.history_csv.proofs.recorded.tickets_text.Goals as goal
use Rattle.history_csv.proofs.recorded.tickets_text.Goals.{then-place-taken, else-place-taken}

pub loop-place-init : goal.loop-place-init
loop-place-init c = record {
  written = rw (drop_all 147 c.args.text.now (omega arith), drop_all (length c.args.taken.now) c.args.taken.now (omega arith)) refl;
  room = omega arith;
  within = omega arith;
}

pub write_digits-start-requires : goal.write_digits-start-requires
write_digits-start-requires c =
    let ticket = (get_or c.args.taken.now (c.loop-place.place - 1) no_took).serve in
    let short : length (decimal ticket) ≤ 20 = length-decimal-le 20 ticket (omega arith) (omega arith) (omega arith) in
    elim c.if-place-taken.branch [
      | then-place-taken w ↦ (omega arith, omega arith)
      | else-place-taken w ↦ (omega arith, omega arith)
    ]

pub loop-place-preserved : goal.loop-place-preserved
loop-place-preserved c =
    let taken = c.args.taken.now in
    let place = c.loop-place.place in
    let before = c.loop-place.invariant.written in
    let after = c.write_digits-start.ensures.written in
    let ticket = (get_or taken (place - 1) no_took).serve in
    let short : length (decimal ticket) ≤ 20 = length-decimal-le 20 ticket (omega arith) (omega arith) (omega arith) in
    elim c.if-place-taken.branch [
      | then-place-taken w ↦ record {
        written = tickets_of-more taken place no_took c.loop-place.text c.loop-place.start _ c.loop-place-test.true (omega arith) (omega arith) (omega arith) before (rw (w.text-is, w.start-is) at after);
        room = omega arith;
        within = omega arith;
      }
      | else-place-taken w ↦ record {
        written = tickets_of-last taken place no_took _ _ c.loop-place-test.true (omega arith) before (rw (w.text-is, w.start-is) at after);
        room = omega arith;
        within = omega arith;
      }
    ]
