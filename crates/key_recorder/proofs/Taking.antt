-- A log after one more letter, and after the taker went back.
use Rattle.std.proofs.Common.{◌≡◌, ℕ, ◌+◌, ◌<◌, ◌≤◌, Bool, true, false, ◌||◌, List, [], ◌∷◌, ◌++◌, Option, Some, None, length, refl, ap, sym, ◌∙◌, subst, arith, slice_index_or, vec_len, vec_capacity, length-append}
use Rattle.std.specs.Prelude.{All, IsTrue}
use Rattle.std.specs.declared.vec.Vec.{Vec}
use Rattle.std.specs.declared.alloc.Global.{Global}
use Rattle.std.specs.Arc.{arc_value}
use Rattle.std.proofs.Common.{replicate, inl, inr}
use Rattle.std.proofs.lemmas.Bool.{cases_lt}
use Rattle.std.proofs.lemmas.List.{length-replicate, get_or-replicate}
use mathlib.Core.List.{IsPrefix}
use Rattle.ticket_clock.specs.Seats.{times}
use Rattle.post_box.specs.Boxes.{TakerView, WholeView, letters_of}
use Rattle.stale_model.specs.declared.store.Entry.{Entry}
use Rattle.key_recorder.specs.declared.letters.RecordLetter.{RecordLetter}
use Rattle.key_recorder.specs.declared.log.ShardLog.TheInside.{Inside}
use Rattle.key_recorder.specs.Letters.{sender_of, entries_in, is_end_of, has_ended, AreEnded}
use Rattle.key_recorder.specs.Recorders.{LaneView, PassView, LogView, IsTold}
use Rattle.key_recorder.specs.Passes.{IsEnded}
use Rattle.key_recorder.specs.Logs.{taken_by, IsTaking, IsLog}
use Rattle.key_recorder.proofs.SentLetters.{has_ended-more, entries_in-append, length-entries_in, entries_of-letters, has_ended-letters, last_taken, clients_known}

some_same : (t u : TakerView RecordLetter) → Some t ≡ Some u → t ≡ u
some_same t u e = cc

-- the taker is there, and takes from the whole's box
taking_on : (clients : ℕ) (t u : TakerView RecordLetter) (w : WholeView RecordLetter) → t.box ≡ w.box → u.box ≡ t.box → IsTaking clients (Some u) w
taking_on clients t u w own same = record {
  own = λ v is. subst (λ (x : TakerView RecordLetter). x.box ≡ w.box) (some_same u v is) (same ∙ own);
  takes = λ e. let none : Some u ≡ None = e in cc;
  ended = λ e. let none : Some u ≡ None = e in cc;
}

is_true : (b : Bool) → IsTrue b → b ≡ true
is_true b h = h

pub to_true : (b : Bool) → b ≡ true → IsTrue b
to_true b e = e

module _ (g : Inside) (h : IsLog g) where
  -- one more letter
  pub log_more : (t u : TakerView RecordLetter) (x : RecordLetter) (entries : Vec Entry Global) (ended : Vec Bool Global) → g.taker ≡ Some t → u ≡ record t { taken = t.taken ++ x ∷ [] }
      → entries.items ≡ g.entries.items ++ entries_in (x ∷ []) → vec_capacity entries ≡ vec_capacity g.entries → vec_len ended ≡ vec_len g.ended
      → ((k : ℕ) (b : Bool) → k < vec_len g.ended → slice_index_or ended.items k b ≡ (slice_index_or g.ended.items k b || is_end_of k x))
      → IsLog (record g { taker = Some u; entries = entries; ended = ended })
  log_more t u x entries ended is after grown room many known =
      let taken : taken_by g.taker g.whole ≡ t.taken = ap (λ (o : Option (TakerView RecordLetter)). taken_by o g.whole) is in
      let now : t.taken ++ x ∷ [] ≡ u.taken = sym (ap (λ (v : TakerView RecordLetter). v.taken) after) in
      record {
        own = h.own;
        taking = taking_on g.clients t u g.whole (h.taking.own t is) (ap (λ (v : TakerView RecordLetter). v.box) after);
        numbers = h.numbers;
        entries =
            grown ∙ (ap (λ (es : List Entry). es ++ entries_in (x ∷ [])) (h.entries ∙ ap entries_in taken)
            ∙ (sym (entries_in-append t.taken (x ∷ [])) ∙ ap entries_in now));
        room = let r = h.room in omega (arith, room);
        as_many = many ∙ h.as_many;
        ended = λ k b less.
            known k b (let n = h.as_many in omega arith)
            ∙ (ap (λ (v : Bool). v || is_end_of k x) (h.ended k b less ∙ ap (has_ended k) taken)
            ∙ (sym (has_ended-more k t.taken x) ∙ ap (has_ended k) now));
      }

  -- none was found
  pub log_none : (t u : TakerView RecordLetter) → g.taker ≡ Some t → u ≡ record t { empties = t.empties + 1 } → IsLog (record g { taker = Some u })
  log_none t u is after =
      let now : taken_by g.taker g.whole ≡ u.taken =
      ap (λ (o : Option (TakerView RecordLetter)). taken_by o g.whole) is ∙ sym (ap (λ (v : TakerView RecordLetter). v.taken) after)
      in
      record {
        own = h.own;
        taking = taking_on g.clients t u g.whole (h.taking.own t is) (ap (λ (v : TakerView RecordLetter). v.box) after);
        numbers = h.numbers;
        entries = h.entries ∙ ap entries_in now;
        room = h.room;
        as_many = h.as_many;
        ended = λ k b less. h.ended k b less ∙ ap (has_ended k) now;
      }

  -- the taker went back, once the ends of all clients were taken
  pub log_settled : (w : WholeView RecordLetter) → AreEnded g.clients (taken_by g.taker g.whole) → w.box ≡ g.whole.box → w.takes ≡ true → w.taken ≡ taken_by g.taker g.whole
      → w.numbers ≡ g.whole.numbers → IsLog (record g { taker = None; whole = w })
  log_settled w are box takes taken numbers = record {
    own = box ∙ h.own;
    taking = record {
      own = λ v e. let none : None ≡ Some v = e in cc;
      takes = λ _. takes;
      ended = λ _. subst (AreEnded g.clients) (sym taken) are;
    };
    numbers = λ s past. ap (times s) numbers ∙ h.numbers s past;
    entries = h.entries ∙ ap entries_in (sym taken);
    room = h.room;
    as_many = h.as_many;
    ended = λ k b less. h.ended k b less ∙ ap (has_ended k) (sym taken);
  }

  -- there is room for the entry of one more letter
  pub room_left : (t : TakerView RecordLetter) (x : RecordLetter) → g.taker ≡ Some t → length (t.taken ++ x ∷ []) ≤ (arc_value g.post).capacity
      → vec_len g.entries < vec_capacity g.entries
  room_left t x is most =
      let taken : taken_by g.taker g.whole ≡ t.taken = ap (λ (o : Option (TakerView RecordLetter)). taken_by o g.whole) is in
      let same : length g.entries.items ≡ length (entries_in t.taken) = ap (λ (es : List Entry). length es) (h.entries ∙ ap entries_in taken) in
      let few = length-entries_in t.taken in
      let more = length-append t.taken (x ∷ []) in
      let room = h.room in
      let ok = g.entries.ok in omega arith

  -- all marks are true exactly where all clients ended
  pub marked_ended : (shown : List Bool) → shown ≡ g.ended.items → All IsTrue shown → AreEnded g.clients (taken_by g.taker g.whole)
  marked_ended shown is all client less =
      let many = h.as_many in let ok = g.ended.ok in
      let marks = subst (All IsTrue) is all in
      sym (h.ended client false less) ∙ is_true (slice_index_or g.ended.items client false) (marks client false (omega arith))

  pub ended_marked : (shown : List Bool) → shown ≡ g.ended.items → AreEnded g.clients (taken_by g.taker g.whole) → All IsTrue shown
  ended_marked shown is are =
      let marks : All IsTrue g.ended.items =
      λ k d less. let within : k < g.clients = let many = h.as_many in let ok = g.ended.ok in omega arith in
      to_true (slice_index_or g.ended.items k d) (h.ended k d within ∙ are k within)
      in
      subst (All IsTrue) (sym is) marks

-- a log that has taken nothing
pub first_is_log : (g : Inside) (t : TakerView RecordLetter) → g.taker ≡ Some t → t.taken ≡ [] → t.box ≡ g.whole.box → g.whole.box ≡ arc_value g.post
    → ((s : ℕ) → g.clients ≤ s → times s g.whole.numbers ≡ 0) → g.entries.items ≡ [] → (arc_value g.post).capacity ≤ vec_capacity g.entries
    → g.ended.items ≡ replicate g.clients false → IsLog g
first_is_log g t is none own box numbers empty room marks =
    let taken : taken_by g.taker g.whole ≡ [] = ap (λ (o : Option (TakerView RecordLetter)). taken_by o g.whole) is ∙ none in
    record {
      own = box;
      taking = subst (λ (o : Option (TakerView RecordLetter)). IsTaking g.clients o g.whole) (sym is) (taking_on g.clients t t g.whole own refl);
      numbers = numbers;
      entries = empty ∙ sym (ap entries_in taken);
      room = room;
      as_many = let n = ap (λ (l : List Bool). length l) marks in let m = length-replicate g.clients false in let ok = g.ended.ok in omega arith;
      ended = λ k b less.
          ap (λ (l : List Bool). slice_index_or l k b) marks ∙ (get_or-replicate g.clients k false b less ∙ sym (ap (has_ended k) taken));
    }

-- what was taken of a client that ended is all that it sent
pub all_taken : (clients client : ℕ) (taken sent : List RecordLetter) → IsPrefix (letters_of sender_of client taken) sent → IsEnded client sent → AreEnded clients taken
    → client < clients → letters_of sender_of client taken ≡ sent
all_taken clients client taken sent pre ended are less =
    last_taken client ended.before (letters_of sender_of client taken)
    (subst (λ (l : List RecordLetter). IsPrefix (letters_of sender_of client taken) l) ended.last pre)
    (has_ended-letters client taken ∙ are client less) ended.alone
    ∙ sym ended.last

-- what a log is told of a pass
pub is_told : (g : LogView) (p : PassView) (sent : List RecordLetter) → letters_of sender_of p.client g.taken ≡ sent
    → ((l : LaneView) → (slice_index_or p.lanes g.shard l).sent ≡ sent) → ((s : ℕ) → 0 < length (letters_of sender_of s g.taken) → s < g.clients) → IsTold g p
is_told g p sent is lane known = record {
  letters = λ l. is ∙ sym (lane l);
  entries = λ l. entries_of-letters p.client g.taken ∙ ap entries_in (is ∙ sym (lane l));
  clients = clients_known g.clients g.taken known;
}

-- a number that was given out is one of a client
pub given_below : (clients s given : ℕ) → (clients ≤ s → given ≡ 0) → 0 < given → s < clients
given_below clients s given none some = elim (cases_lt s clients) [
  | inl below ↦ below
  | inr past ↦ absurd (let zero_given = none past in omega (arith, some))
]
