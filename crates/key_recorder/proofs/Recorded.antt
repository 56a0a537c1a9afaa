-- A pass after an entry was recorded on it.
use Rattle.std.proofs.Common.{◌≡◌, ℕ, ◌<◌, Bool, true, false, cond, eqb, [], length, map, slice_index_or, refl, sym, ◌∙◌, ap, arith}
use Rattle.std.proofs.lemmas.List.{length-map, get_or-map, same_lists}
use Rattle.post_box.specs.Boxes.{BoxView}
use Rattle.stale_model.specs.declared.store.Entry.{Entry}
use Rattle.key_recorder.specs.declared.letters.RecordLetter.{RecordLetter}
use Rattle.key_recorder.specs.declared.letters.RecordLetter.TheVariants.{Entry as OfEntry}
use Rattle.key_recorder.specs.Recorders.{RecorderView, LaneView, PassView, IsOf, shard_of, with_letter, IsRecorded}

-- the box of a lane stays where an entry is sent, or none
box_stays : (b : Bool) (x : RecordLetter) (l : LaneView) → (cond b (with_letter x l) l).box ≡ l.box
box_stays true x l = refl
box_stays false x l = refl

-- the pass stays one of its recorder
pub still_of : (e : Entry) (p q : PassView) → IsRecorded e p q → (recorder : RecorderView) → IsOf recorder p → IsOf recorder q
still_of e p q recorded recorder is =
    let box : LaneView → BoxView = λ l. l.box in
    let many = recorded.as_many in
    let long : length (map box q.lanes) ≡ length (map box p.lanes) = length-map q.lanes box ∙ (many ∙ sym (length-map p.lanes box)) in
    let at : (k : ℕ) (d : BoxView) → k < length (map box q.lanes) → slice_index_or (map box q.lanes) k d ≡ slice_index_or (map box p.lanes) k d = λ k d less.
    let l : LaneView = record { box = d; sent = []; left = 0; here = true } in
    let inside : k < length q.lanes = let n = length-map q.lanes box in omega arith in
    get_or-map box q.lanes k l d inside
    ∙ (ap box (recorded.each k l (omega arith))
    ∙ (box_stays (eqb k (shard_of (length p.lanes) e.key)) (OfEntry e) (slice_index_or p.lanes k l)
    ∙ sym (get_or-map box p.lanes k l d (omega arith))))
    in
    same_lists (map box q.lanes) (map box p.lanes) long at ∙ is
