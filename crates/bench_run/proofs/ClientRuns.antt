-- The run of a client so far: what each call and its entry leave of the client and of its pass.
use Rattle.std.proofs.Common.{◌≡◌, ℕ, ◌+◌, ◌-◌, ◌<◌, ◌≤◌, Bool, cond, eqb, List, [], ◌∷◌, ◌++◌, length, map, slice_index_or, append_assoc, length-append, refl, sym, ◌∙◌, ap, subst, inl, inr, arith, eq-eqb}
use Rattle.std.proofs.lemmas.Bool.{cases_eq, ne_eqb}
use Rattle.std.proofs.lemmas.List.{append-nil, map-append}
use Rattle.std.proofs.lemmas.List.Elements.{filter-append}
use Rattle.std.proofs.lemmas.List.Sums.{sum_by-cons}
use Rattle.ticket_clock.specs.Seats.{ClockView}
use Rattle.stale_model.specs.declared.store.PlanCall.{PlanCall}
use Rattle.stale_model.specs.declared.store.Entry.{Entry}
use Rattle.key_recorder.specs.declared.letters.RecordLetter.{RecordLetter}
use Rattle.key_recorder.specs.declared.letters.RecordLetter.TheVariants.{Entry as EntryLetter}
use Rattle.key_recorder.specs.Recorders.{RecorderView, LaneView, PassView, shard_of, with_letter, IsRecorded}
use Rattle.key_recorder.specs.Prepared.{calls_on}
use Rattle.key_recorder.proofs.Recorded.{still_of}
use Rattle.quorum_client.specs.Clients.{ClientView, IsCalled}
use Rattle.bench_run.specs.Clients.{Ran}
use Rattle.bench_run.specs.Logs.{entries_on}
use Rattle.bench_run.specs.Runs.{IsReadyRunner, with_letters}
use Rattle.bench_run.specs.declared.runner.Runner.{Runner}
use Rattle.bench_run.proofs.Chains.{IsSameClient, ran_push, ran_same}

-- the lane after these entries and no end
abbrev with_entries : ℕ → ℕ → List Entry → LaneView → LaneView
with_entries shards shard es l = with_letters (map EntryLetter (entries_on shards shard es)) l

-- a client that has made these calls, and has recorded each of them
pub record IsRunSoFar (r s : Runner) : Type 0 where
  pub entries : List Entry
  pub ran : Ran r.client entries s.client
  pub client : s.pass.client ≡ r.pass.client
  pub as_many : length s.pass.lanes ≡ length r.pass.lanes
  pub lanes : (shard : ℕ) (l : LaneView) → shard < length r.pass.lanes
      → slice_index_or s.pass.lanes shard l ≡ with_entries (length r.pass.lanes) shard entries (slice_index_or r.pass.lanes shard l)

no_letters : (l : LaneView) → l ≡ with_letters [] l
no_letters l =
    let left : l.left - 0 ≡ l.left = omega arith in
    rw (append-nil l.sent, left) refl

letters_push : (xs : List RecordLetter) (x : RecordLetter) (l : LaneView) → with_letter x (with_letters xs l) ≡ with_letters (xs ++ x ∷ []) l
letters_push xs x l =
    let sent : (l.sent ++ xs) ++ x ∷ [] ≡ l.sent ++ (xs ++ x ∷ []) = append_assoc l.sent xs (x ∷ []) in
    let many = length-append xs (x ∷ []) in
    let left : (l.left - length xs) - 1 ≡ l.left - length (xs ++ x ∷ []) = omega arith in
    rw (sent, left) refl

entries_push : (shards shard : ℕ) (es : List Entry) (e : Entry)
    → entries_on shards shard (es ++ e ∷ []) ≡ entries_on shards shard es ++ cond (eqb (shard_of shards e.key) shard) (e ∷ []) []
entries_push shards shard es e = filter-append (λ (x : Entry). eqb (shard_of shards x.key) shard) es (e ∷ [])

-- the lane of a shard after one more entry
lane_push : (shards shard : ℕ) (es : List Entry) (e : Entry) (l : LaneView)
    → cond (eqb shard (shard_of shards e.key)) (with_letter (EntryLetter e) (with_entries shards shard es l)) (with_entries shards shard es l) ≡ with_entries shards shard (es ++ e ∷ []) l
lane_push shards shard es e l =
    let before = entries_on shards shard es in
    let letters = map EntryLetter before in
    elim (cases_eq shard (shard_of shards e.key)) [
      | inl same ↦
          let push : map EntryLetter (entries_on shards shard (es ++ e ∷ [])) ≡ letters ++ EntryLetter e ∷ [] =
          ap (λ (xs : List Entry). map EntryLetter xs)
          (entries_push shards shard es e ∙ ap (λ (b : Bool). before ++ cond b (e ∷ []) []) (eq-eqb (shard_of shards e.key) shard (sym same)))
          ∙ map-append EntryLetter before (e ∷ [])
          in
          ap (λ (b : Bool). cond b (with_letter (EntryLetter e) (with_letters letters l)) (with_letters letters l)) (eq-eqb shard (shard_of shards e.key) same)
          ∙ (letters_push letters (EntryLetter e) l ∙ ap (λ (xs : List RecordLetter). with_letters xs l) (sym push))
      | inr apart ↦
          let push : map EntryLetter (entries_on shards shard (es ++ e ∷ [])) ≡ letters =
          ap (λ (xs : List Entry). map EntryLetter xs)
          (entries_push shards shard es e
          ∙ (ap (λ (b : Bool). before ++ cond b (e ∷ []) []) (ne_eqb (shard_of shards e.key) shard (λ is. apart (sym is))) ∙ append-nil before))
          in
          ap (λ (b : Bool). cond b (with_letter (EntryLetter e) (with_letters letters l)) (with_letters letters l)) (ne_eqb shard (shard_of shards e.key) apart)
          ∙ ap (λ (xs : List RecordLetter). with_letters xs l) (sym push)
    ]

module _ (e : Entry) (p q : PassView) (recorded : IsRecorded e p q) where
  -- each lane has room for the entries of the calls that are left
  room_after : (calls left : List PlanCall) (call : PlanCall) (shard : ℕ) (l : LaneView) → calls ≡ call ∷ left → e.key ≡ call.key → shard < length p.lanes
      → calls_on (length p.lanes) shard calls + 1 ≤ (slice_index_or p.lanes shard l).left → calls_on (length p.lanes) shard left + 1 ≤ (slice_index_or q.lanes shard l).left
  room_after calls left call shard l are key inside room =
      let shards = length p.lanes in
      let here = slice_index_or p.lanes shard l in
      let now = ap (λ (x : LaneView). x.left) (recorded.each shard l inside) in
      let passes : PlanCall → ℕ = λ c. cond (eqb (shard_of shards c.key) shard) 1 0 in
      let count : calls_on shards shard calls ≡ passes call + calls_on shards shard left = ap (λ (cs : List PlanCall). calls_on shards shard cs) are ∙ sum_by-cons passes call left in
      elim (cases_eq shard (shard_of shards e.key)) [
        | inl same ↦
            let one : passes call ≡ 1 =
            ap (λ (b : Bool). cond b 1 0) (eq-eqb (shard_of shards call.key) shard (ap (λ (k : ℕ). shard_of shards k) (sym key) ∙ sym same))
            in
            let less : (slice_index_or q.lanes shard l).left ≡ here.left - 1 =
            now ∙ ap (λ (b : Bool). (cond b (with_letter (EntryLetter e) here) here).left) (eq-eqb shard (shard_of shards e.key) same)
            in
            omega arith
        | inr apart ↦
            let same_left : (slice_index_or q.lanes shard l).left ≡ here.left =
            now ∙ ap (λ (b : Bool). (cond b (with_letter (EntryLetter e) here) here).left) (ne_eqb shard (shard_of shards e.key) apart)
            in
            omega arith
      ]

module _ (clock : ClockView) (recorder : RecorderView) (s : Runner) (d : ClientView) (q : PassView) (e : Entry) (ready : IsReadyRunner clock recorder s) (called : IsCalled s.client d e) where
  same : IsSameClient s.client d
  same = ran_same s.client d (e ∷ []) (d, called, refl)

  -- the client can make the rest of its calls
  pub ready_after : IsRecorded e s.pass q → IsReadyRunner clock recorder (record { client = d; pass = q })
  ready_after recorded =
      let many = recorded.as_many in
      let some = ready.shards in
      record {
        own = same.clock ∙ ready.own;
        pass = still_of e s.pass q recorded recorder ready.pass;
        number = recorded.client ∙ (ready.number ∙ sym same.number);
        not_closed = recorded.closed ∙ ready.not_closed;
        shards = omega arith;
        room = λ shard l inside.
            let within : shard < length s.pass.lanes = omega arith in
            subst (λ (n : ℕ). calls_on n shard d.left + 1 ≤ (slice_index_or q.lanes shard l).left) (sym many)
            (room_after e s.pass q recorded s.client.left d.left called.call shard l called.left called.planned.key within (ready.room shard l within));
      }

  -- one more call, and its entry
  pub run_push : (r : Runner) → IsRunSoFar r s → IsRecorded e s.pass q → IsRunSoFar r (record { client = d; pass = q })
  run_push r so_far recorded =
      let shards = so_far.as_many in
      record {
        entries = so_far.entries ++ e ∷ [];
        ran = ran_push r.client s.client d so_far.entries e so_far.ran called;
        client = recorded.client ∙ so_far.client;
        as_many = recorded.as_many ∙ shards;
        lanes = λ shard l inside.
            let n = length r.pass.lanes in
            let here = slice_index_or r.pass.lanes shard l in
            let within : shard < length s.pass.lanes = omega arith in
            recorded.each shard l within
            ∙ (ap (λ (m : ℕ). cond (eqb shard (shard_of m e.key)) (with_letter (EntryLetter e) (slice_index_or s.pass.lanes shard l)) (slice_index_or s.pass.lanes shard l)) shards
            ∙ (ap (λ (x : LaneView). cond (eqb shard (shard_of n e.key)) (with_letter (EntryLetter e) x) x) (so_far.lanes shard l inside)
            ∙ lane_push n shard so_far.entries e here));
      }
