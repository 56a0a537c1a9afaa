-- The numbers that were given out are those of clients.
use Rattle.std.proofs.Common.{ap, ◌∙◌}
use Rattle.ticket_clock.specs.Seats.{times}
use Rattle.post_box.specs.Boxes.{WholeView}
use Rattle.key_recorder.specs.declared.letters.RecordLetter.{RecordLetter}
use Rattle.key_recorder.proofs.prepare.open_shard.Goals as goal

pub first_log-requires-clause-numbers : goal.first_log-requires-clause-numbers
first_log-requires-clause-numbers g c =
    λ s past. ap (λ (w : WholeView RecordLetter). times s w.numbers) c.split_taker-taker.ensures.whole ∙ c.in_ok-give_senders.ensures.numbers s past
