-- The taker and the sender go back, and the box tells of the sender.
use Rattle.std.proofs.Common.{◌≡◌, ◌<◌, ℕ, true, List, Option, length, ap, sym, ◌∙◌, subst, slice_index_or}
use mathlib.Core.List.{IsPrefix}
use Rattle.ticket_clock.specs.Seats.{times}
use Rattle.post_box.specs.Boxes.{TakerView, WholeView, letters_of}
use Rattle.key_recorder.specs.declared.letters.RecordLetter.{RecordLetter}
use Rattle.key_recorder.specs.Letters.{sender_of, AreEnded}
use Rattle.key_recorder.specs.Recorders.{LaneView, LogView}
use Rattle.key_recorder.specs.Logs.{taken_by, IsLog}
use Rattle.key_recorder.proofs.Taking.{log_settled, all_taken, is_told, given_below}
use Rattle.key_recorder.proofs.log.ShardLog.settle.Goals as goal

pub gather_sender-requires-clause-own : goal.gather_sender-requires-clause-own
gather_sender-requires-clause-own g c κs within =
    let sender = c.give_back-sender.result in
    let lane : LaneView = record { box = sender.box; sent = sender.sent; left = sender.budget; here = true } in
    let own = subst (λ (r : LogView). (l : LaneView) → (slice_index_or c.args.pass.now.lanes r.shard l).box ≡ r.box) (sym c.self.view_is) c.requires.lane.own in (
      ap (λ (w : WholeView RecordLetter). w.box) c.recall.ensures.whole ∙ (c.self.invariant.own ∙ sym c.deref-2.ensures),
      sym (c.give_back-sender.ensures.own lane) ∙ (own lane ∙ sym c.deref-2.ensures),
    )

pub invariant_of-self : goal.invariant_of-self
invariant_of-self g c =
    let recalled = c.recall.ensures.whole in let gathered = c.gather_sender.ensures.whole in
    subst (λ (o : Option (TakerView RecordLetter)). IsLog (record c.self.inside { taker = o; whole = c.gather_sender.new.whole })) (sym c.recall.ensures.taker)
    (log_settled c.self.inside c.self.invariant c.gather_sender.new.whole
    (subst (λ (r : LogView). AreEnded r.clients r.taken) (sym c.self.view_is) c.requires.ended)
    (ap (λ (w : WholeView RecordLetter). w.box) gathered ∙ ap (λ (w : WholeView RecordLetter). w.box) recalled)
    (ap (λ (w : WholeView RecordLetter). w.takes) gathered ∙ ap (λ (w : WholeView RecordLetter). w.takes) recalled)
    (ap (λ (w : WholeView RecordLetter). w.taken) gathered ∙ ap (λ (w : WholeView RecordLetter). w.taken) recalled)
    (ap (λ (w : WholeView RecordLetter). w.numbers) gathered ∙ ap (λ (w : WholeView RecordLetter). w.numbers) recalled))

pub returns-clause-told : goal.returns-clause-told
returns-clause-told g c =
    let recalled = c.recall.ensures.whole in
    let sender = c.give_back-sender.result in
    let takes : c.recall.new.whole.takes ≡ true = ap (λ (w : WholeView RecordLetter). w.takes) recalled in
    let inside : c.recall.new.whole.taken ≡ taken_by c.self.inside.taker c.self.inside.whole = ap (λ (w : WholeView RecordLetter). w.taken) recalled in
    let taken : c.recall.new.whole.taken ≡ c.args.self.now.taken = inside ∙ ap (λ (r : LogView). r.taken) c.self.view_is in
    let pre : IsPrefix (letters_of sender_of c.args.pass.now.client c.args.self.now.taken) sender.sent =
    subst (λ (n : ℕ). IsPrefix (letters_of sender_of n c.args.self.now.taken) sender.sent) c.give_back-sender.ensures.number
    (subst (λ (xs : List RecordLetter). IsPrefix (letters_of sender_of sender.number xs) sender.sent) taken (c.gather_sender.ensures.taken takes))
    in
    let lane = subst (λ (r : LogView). (l : LaneView) → (slice_index_or c.args.pass.now.lanes r.shard l).sent ≡ sender.sent) c.self.view_is c.give_back-sender.ensures.sent in
    let here : (s : ℕ) → 0 < length (letters_of sender_of s c.recall.new.whole.taken) → s < c.self.inside.clients =
    λ s some. given_below c.self.inside.clients s (times s c.recall.new.whole.numbers)
    (λ past. ap (λ (w : WholeView RecordLetter). times s w.numbers) recalled ∙ c.self.invariant.numbers s past) (c.gather_sender.ensures.known takes s some)
    in
    let known = subst (λ (r : LogView). (s : ℕ) → 0 < length (letters_of sender_of s r.taken) → s < r.clients) c.self.view_is
    (subst (λ (xs : List RecordLetter). (s : ℕ) → 0 < length (letters_of sender_of s xs) → s < c.self.inside.clients) inside here)
    in
    is_told c.args.self.now c.args.pass.now sender.sent
    (all_taken c.args.self.now.clients c.args.pass.now.client c.args.self.now.taken sender.sent pre c.give_back-sender.ensures.ended c.requires.ended c.requires.client)
    lane known
