-- The seat, past one more serve ticket.
use Rattle.std.proofs.Common.{arith, ap, ◌∙◌, take}
use Rattle.std.proofs.lemmas.Grind.{common_steps}
use Rattle.ticket_clock.specs.Seats.{SeatView}
use Rattle.quorum_client.proofs.Replies.{past_more}
use Rattle.quorum_client.proofs.gather.await_all.Goals as goal

pub loop-took-preserved : goal.loop-took-preserved
loop-took-preserved g c =
    let i = c.loop-took.invariant in
    let awaited = c.await_past.ensures in
    record {
      seat = awaited.seat ∙ ap (λ (s : SeatView). record s { seen = c.await_past.new.seat.seen }) i.seat;
      seen = omega (arith, awaited.seen, i.seen);
      past = past_more (take c.args.taken.now.count c.args.taken.now.took)
          c.loop-took.took-index c.loop-took.seat.seen c.await_past.new.seat.seen awaited.seen (omega arith) (grind (arith, common_steps, awaited.past)) i.past;
    }

pub returns-clause-past : goal.returns-clause-past
returns-clause-past g c = let past = c.loop-took.invariant.past in λ k t inside. grind (arith, common_steps, past k t)
