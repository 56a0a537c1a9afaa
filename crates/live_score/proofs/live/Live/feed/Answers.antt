-- What is known of the row that was read carries over to the row after the operation.
use Rattle.std.proofs.Common.{◌≡◌, ◌<◌, ℕ, List, None, length, get_or, refl, sym, ◌∙◌, ap, subst, arith}
use Rattle.std.proofs.lemmas.List.{length-set}
use Rattle.std.proofs.lemmas.Option.{slice_get_read}
use Rattle.stale_model.specs.declared.Op.{Op}
use Rattle.stale_model.specs.Operations.{IsWrite}
use Rattle.stale_model.specs.Orders.{StandsAt}
use Rattle.live_score.specs.declared.live.Fed.{Fed}
use Rattle.live_score.specs.declared.live.Fed.TheVariants.{Duplicate}
use Rattle.live_score.specs.declared.live.Live.TheInside.{Inside}
use Rattle.live_score.specs.declared.places.Place.{Place}
use Rattle.live_score.specs.declared.rows.Row.{Row}
use Rattle.live_score.specs.Answers.{answer_of}
use Rattle.live_score.specs.Feeding.{LiveView, CanBeFed, IsFedAs, fed_after}
use Rattle.live_score.specs.Invariant.{IsLive}
use Rattle.live_score.proofs.Answering.{answered, first_write, fed_last}
use Rattle.live_score.proofs.Counting.{waiting_few, count_few, count_within}
use Rattle.live_score.proofs.Keeping.{place_within, kept_grows}
use Rattle.live_score.proofs.live.Live.feed.Goals as goal

-- what is known of an operation that is taken in, and of the row of its value
record IsTaken (l : Inside) (op : Op) (row : Row) : Type 0 where
  can : CanBeFed (record { fed = l.fed.items; places = l.places; values = l.values }) op
  here : StandsAt l.rows.items op.value row
  first : IsWrite op → row.write ≡ None

taken : (l : Inside) (view : LiveView) (op : Op) (row : Row) (answer : Fed) → IsLive l → record { fed = l.fed.items; places = l.places; values = l.values } ≡ view → CanBeFed view op → row ≡ get_or l.rows.items op.value row
    → answer ≡ answer_of op.kind row.write → ((rec : ℕ) → answer ≡ Duplicate rec → ⊥) → IsTaken l op row
taken l view op row answer live view_is can row_is answer_is not_duplicate =
    let can_be = subst (λ (v : LiveView). CanBeFed v op) (sym view_is) can in
    let size = live.kept.size in
    let le = can_be.valid.value in
    record {
      can = can_be;
      here = slice_get_read l.rows.items (length l.rows.items) op.value row refl (omega arith) row_is;
      first = λ kind. first_write op.kind row.write answer answer_is not_duplicate kind;
    }

pub with_operation-next-requires : goal.with_operation-next-requires
with_operation-next-requires c =
    let t = taken c.self.inside c.args.self.now c.args.op.now c.index.result.now c.answer-answer.result c.self.invariant c.self.view_is c.requires c.index.ensures c.answer-answer.ensures c.in_default.not-Duplicate in
    let counts = c.self.invariant.kept.counts c.args.op.now.value c.index.result.now t.here in
    let few = count_few c.self.inside.fed.items c.args.op.now.value in
    let room = t.can.room in
    let ends = t.can.valid.ends in
    let slack = t.can.valid.slack in
    record { finish = omega arith; count = omega arith }

pub waiting_after-self-inside-requires : goal.waiting_after-self-inside-requires
waiting_after-self-inside-requires c =
    let t = taken c.self.inside c.args.self.now c.args.op.now c.index.result.now c.answer-answer.result c.self.invariant c.self.view_is c.requires c.index.ensures c.answer-answer.ensures c.in_default.not-Duplicate in
    let op = c.args.op.now in
    let row = c.index.result.now in
    let kept = c.self.invariant.kept in
    let waits = waiting_few c.self.inside.fed.items in
    let waiting_is = kept.waiting_is in
    let room = t.can.room in
    record {
      one_more = omega arith;
      of_them = λ kind. count_within c.self.inside.fed.items op row.write row.place.w c.self.inside.waiting row.count kind (t.first kind) (kept.says op.value row t.here).write kept.waiting_is (kept.counts op.value row t.here);
    }

pub raise-self-inside-requires : goal.raise-self-inside-requires
raise-self-inside-requires c =
    let t = taken c.self.inside c.args.self.now c.args.op.now c.index.result.now c.answer-answer.result c.self.invariant c.self.view_is c.requires c.index.ensures c.answer-answer.ensures c.in_default.not-Duplicate in
    let l = c.self.inside in
    subst (λ (n : ℕ). n < length l.tree) (sym c.unwrap_or-at.ensures)
    (place_within l.values l.fed.items l.rows.items l.taken l.tree l.score l.waiting c.self.invariant.kept c.args.op.now c.index.result.now t.here t.can.valid t.first l.places t.can.room c.self.invariant.enough)

pub invariant_of-self : goal.invariant_of-self
invariant_of-self c =
    let t = taken c.self.inside c.args.self.now c.args.op.now c.index.result.now c.answer-answer.result c.self.invariant c.self.view_is c.requires c.index.ensures c.answer-answer.ensures c.in_default.not-Duplicate in
    let l = c.self.inside in
    let room = t.can.room in
    let long = c.in-Ok.ensures.len in
    record {
      kept = kept_grows l.values l.fed.items l.rows.items l.taken l.tree l.score l.waiting c.self.invariant.kept c.args.op.now c.index.result.now t.here t.can.valid t.first l.places t.can.room c.self.invariant.enough t.can.new_record t.can.last
          c.unwrap_or-at.result c.taken_after-self-inside.result c.waiting_after-self-inside.result c.with_operation-next.result c.shown.result c.push.new.self.items _ c.raise-self-inside.new.tree c.raise-self-inside.result
          c.unwrap_or-at.ensures c.with_operation-next.ensures c.shown.ensures c.in-Ok.ensures.items refl c.taken_after-self-inside.ensures
          c.raise-self-inside.ensures.places c.waiting_after-self-inside.ensures c.raise-self-inside.ensures.score;
      within = let ok = l.fed.ok in omega arith;
      room = let r = c.self.invariant.room in let more = c.in-Ok.ensures.capacity in omega arith;
      enough = ap (λ (places : List Place). length places) c.raise-self-inside.ensures.places ∙ (length-set l.tree c.unwrap_or-at.result c.shown.result ∙ c.self.invariant.enough);
    }

pub returns : goal.returns
returns c =
    let t = taken c.self.inside c.args.self.now c.args.op.now c.index.result.now c.answer-answer.result c.self.invariant c.self.view_is c.requires c.index.ensures c.answer-answer.ensures c.in_default.not-Duplicate in
    let l = c.self.inside in
    let op = c.args.op.now in
    let row = c.index.result.now in
    let write = (c.self.invariant.kept.says op.value row t.here).write in
    let answer = subst (λ (a : Fed). IsFedAs l.fed.items op a) (sym c.answer-answer.ensures) (answered l.fed.items op row.write row.place.w write) in
    let last = fed_last l.fed.items op c.answer-answer.result c.in_default.not-Duplicate in
    let with_fed : List Op → LiveView = λ fed. record { fed = fed; places = l.places; values = l.values } in
    let with_answer : LiveView → LiveView = λ v. record v { fed = fed_after v.fed op c.answer-answer.result } in
    record {
      answer = subst (λ (v : LiveView). IsFedAs v.fed op c.answer-answer.result) c.self.view_is answer;
      fed = ap with_fed (c.in-Ok.ensures.items ∙ sym last) ∙ ap with_answer c.self.view_is;
    }
