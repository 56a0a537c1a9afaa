-- One more letter.
use Rattle.std.proofs.Common.{◌≡◌, Option, Some, None, ap, sym, ◌∙◌, subst, arith, length}
use Rattle.post_box.specs.Boxes.{TakerView}
use Rattle.key_recorder.specs.declared.letters.RecordLetter.{RecordLetter}
use Rattle.key_recorder.specs.Letters.{AreEnded}
use Rattle.key_recorder.specs.Recorders.{LogView}
use Rattle.key_recorder.specs.Logs.{taken_by}
use Rattle.key_recorder.proofs.Taking.{log_more, room_left}
use Rattle.key_recorder.proofs.log.ShardLog.step.Goals as goal

pub unreachable-requires : goal.unreachable-requires
unreachable-requires g c =
    let none : c.self.inside.taker ≡ None = sym c.take.ensures.value ∙ c.in_default.is in
    let taken = ap (λ (o : Option (TakerView RecordLetter)). taken_by o c.self.inside.whole) none in
    c.requires
    (subst (λ (r : LogView). AreEnded r.clients r.taken) c.self.view_is
    (subst (AreEnded c.self.inside.clients) (sym taken) (c.self.invariant.taking.ended none)))

pub keep-requires : goal.keep-requires
keep-requires g c =
    let is : c.self.inside.taker ≡ Some c.in-Some.taker = sym c.take.ensures.value ∙ c.in-Some.is in
    let same = ap (λ (t : TakerView RecordLetter). length t.taken) c.in-Some-letter.ensures.some in
    let capacity = ap (λ b. b.capacity) c.deref.ensures in
    let most = c.in-Some-letter.ensures.most in
    room_left c.self.inside c.self.invariant c.in-Some.taker c.in-Some-letter.letter is (omega (arith, same, capacity, most))

pub invariant_of-self : goal.invariant_of-self
invariant_of-self g c =
    let is : c.self.inside.taker ≡ Some c.in-Some.taker = sym c.take.ensures.value ∙ c.in-Some.is in
    log_more c.self.inside c.self.invariant c.in-Some.taker c.take-letter.new.pass c.in-Some-letter.letter c.keep.new.entries c.keep.new.ended is
    c.in-Some-letter.ensures.some c.keep.ensures.entries c.keep.ensures.room c.keep.ensures.as_many c.keep.ensures.ended
