-- What the clients of a run and their logs have, from start to end.
use Rattle.std.proofs.Common.{◌≡◌, ℕ, ◌-◌, ◌*◌, ◌<◌, ◌≤◌, ◌⊎◌, true, List, [], ◌∷◌, ◌++◌, length, map, slice_index_or, All, take, refl, sym, ◌∙◌, ap, subst, inl, inr, arith}
use Rattle.std.specs.Prelude.{◌==◌}
use Rattle.std.specs.List.{filter}
use Rattle.std.proofs.Math.Seq.{take-append_seam}
use Rattle.std.proofs.lemmas.Bool.{cases_lt}
use Rattle.std.proofs.lemmas.List.{length-map, get_or-map}
use Rattle.ticket_clock.specs.Seats.{ClockView, SeatView}
use Rattle.stale_model.specs.declared.store.Settings.{Settings}
use Rattle.stale_model.specs.declared.store.Plan.{Plan}
use Rattle.stale_model.specs.declared.store.Entry.{Entry}
use Rattle.stale_model.specs.Settings.{AreSettings, calls_of}
use Rattle.quorum_client.specs.declared.letters.Note.TheVariants.{Done}
use Rattle.quorum_client.specs.declared.letters.Route.{Route}
use Rattle.quorum_client.specs.declared.client.ClientEnd.{ClientEnd}
use Rattle.quorum_client.specs.Routes.{with_sent}
use Rattle.quorum_client.specs.Clients.{ClientView}
use Rattle.key_recorder.specs.declared.letters.RecordLetter.{RecordLetter}
use Rattle.key_recorder.specs.declared.letters.RecordLetter.TheVariants.{Entry as EntryLetter, End}
use Rattle.post_box.specs.Boxes.{BoxView}
use Rattle.key_recorder.specs.Letters.{entries_in}
use Rattle.key_recorder.specs.Recorders.{RecorderView, LaneView, PassView, LogView, IsOf, IsLaneOf, IsTold}
use Rattle.key_recorder.specs.Prepared.{calls_on, IsFirstPass, IsPrepared}
use Rattle.bench_run.specs.declared.parts.ClientParts.{ClientParts}
use Rattle.bench_run.specs.declared.runner.Runner.{Runner}
use Rattle.bench_run.specs.Clients.{Ran, IsFirst, tickets_of_calls, notes_to}
use Rattle.bench_run.specs.Logs.{entries_on, AreLogged}
use Rattle.bench_run.specs.Runs.{IsReadyRunner, IsRun, IsDrained, with_letters}
use Rattle.bench_run.specs.Ended.{CanMakeCalls, IsEndOf, AreCalled}
use Rattle.bench_run.specs.Closing.{first_client, first_runner, end_of, IsDrainedLog, IsDoneRunner, AreKept}
use Rattle.bench_run.proofs.Chains.{after_calls, client_share, sent_twice}

-- an element of a list that has some
pub some_of : {X : Type 0} (xs : List X) → 0 < length xs → X
some_of [] has = absurd (omega arith)
some_of (x ∷ xs) has = x

-- a list that was written over another of as many elements
pub written_over : {X : Type 0} (n : ℕ) (xs ys : List X) → length xs ≡ n → take n (xs ++ ys) ≡ xs
written_over n xs ys is = ap (λ (m : ℕ). take m (xs ++ ys)) (sym is) ∙ take-append_seam xs ys

abbrev chosen : {X : Type 0} (d : X) (P : ℕ → X → Type 0) (n : ℕ) → ((k : ℕ) → k < n → (x : X) × P k x) → (k : ℕ) → (k < n) ⊎ (n ≤ k) → X
chosen d P n each k (inl below) = (each k below).0
chosen d P n each k (inr above) = d

chosen_holds : {X : Type 0} (d : X) (P : ℕ → X → Type 0) (n : ℕ) (each : (k : ℕ) → k < n → (x : X) × P k x) (k : ℕ) → k < n → (c : (k < n) ⊎ (n ≤ k)) → P k (chosen d P n each k c)
chosen_holds d P n each k less (inl below) = (each k below).1
chosen_holds d P n each k less (inr above) = absurd (omega arith)

-- where there is a value for each number below n, a function gives one
pub choice : {X : Type 0} (d : X) (P : ℕ → X → Type 0) (n : ℕ) → ((k : ℕ) → k < n → (x : X) × P k x) → (f : ℕ → X) × ((k : ℕ) → k < n → P k (f k))
choice d P n each = (λ k. chosen d P n each k (cases_lt k n), λ k less. chosen_holds d P n each k less (cases_lt k n))

-- the entries among the letters of a client
pub entries_in_letters : (client : ℕ) (es : List Entry) → entries_in (map EntryLetter es ++ End client ∷ []) ≡ es
entries_in_letters client [] = refl
entries_in_letters client (e ∷ es) = ap (λ (xs : List Entry). e ∷ xs) (entries_in_letters client es)

module _ (s : Settings) (plan : Plan) (clock : ClockView) (client : ℕ) (c : ClientParts) (can : CanMakeCalls s plan clock client c) where
  -- before its first call, with the pass of the client
  pub ready_first : (recorder : RecorderView) (p : PassView) → AreSettings s → IsOf recorder p → IsFirstPass s plan client p → IsReadyRunner clock recorder (first_runner s client c p)
  ready_first recorder p limits own first =
      let shards = limits.shards.0 in
      let many = first.as_many in
      record {
        own = can.seat_of;
        pass = own;
        number = first.client_is;
        not_closed = first.not_closed;
        shards = omega arith;
        room = λ shard l less.
            let left = (first.each shard l (omega arith)).left in
            let same : calls_on (length p.lanes) shard c.calls ≡ calls_on s.shards shard (calls_of plan client) =
            ap (λ (n : ℕ). calls_on n shard c.calls) many ∙ ap (calls_on s.shards shard) can.planned
            in
            omega (arith, left, same);
      }

  many_routes : length c.routes.items ≡ s.replicas
  many_routes = sym c.routes.ok.0 ∙ can.as_many

  is_first : IsFirst s plan client (first_client s client c)
  is_first = record { number = refl; calls = refl; reads = refl; writes = refl; left = can.planned; made = refl; many = many_routes; taken = can.none_taken; drawn = can.none_drawn }

  -- the end of a client that has made its calls
  pub end_of_calls : (d : ClientView) (es : List Entry) → Ran (first_client s client c) es d → d.left ≡ [] → IsEndOf s plan client c es (end_of d)
  end_of_calls d es ran done =
      let after = after_calls (first_client s client c) d es ran in
      let many = after.as_many in
      let own = c.routes.ok.0 in
      let say : Route → Route = with_sent (Done d.number ∷ []) in
      record {
        share = client_share s plan client (first_client s client c) es d is_first ran done;
        seat = after.seat
            ∙ ap (λ (xs : List ℕ). let r : SeatView = record c.seat { drawn = xs ++ tickets_of_calls es; left = c.seat.left - 2 * length es; seen = d.seat.seen } in r) can.none_drawn;
        box = after.box;
        as_many = length-map d.routes say ∙ (many ∙ sym own);
        routes = λ replica r less.
            let inside : replica < length c.routes.items = omega arith in
            get_or-map say d.routes replica r r (omega arith)
            ∙ (ap say (after.routes replica r inside)
            ∙ (sent_twice (notes_to replica es) (Done d.number ∷ []) (slice_index_or c.routes.items replica r)
            ∙ ap (λ (n : ℕ). with_sent (notes_to replica es ++ Done n ∷ []) (slice_index_or c.routes.items replica r)) after.number));
      }

-- a run of these calls
pub record IsRunOf (r t : Runner) (es : List Entry) : Type 0 where
  pub ran : Ran r.client es t.client
  pub done : t.client.left ≡ []
  pub client : t.pass.client ≡ r.pass.client
  pub lanes : (shard : ℕ) (l : LaneView) → shard < length r.pass.lanes
      → slice_index_or t.pass.lanes shard l
      ≡ with_letters (map EntryLetter (entries_on (length r.pass.lanes) shard es) ++ End r.pass.client ∷ []) (slice_index_or r.pass.lanes shard l)

-- the runner of each client, before its first call
abbrev pub AreFirst : Settings → List ClientParts → List PassView → List Runner → Type 0
AreFirst s clients passes runners = (k : ℕ) (r : Runner) (c : ClientParts) (p : PassView) → k < s.clients
    → slice_index_or runners k r ≡ first_runner s k (slice_index_or clients k c) (slice_index_or passes k p)

module _ (s : Settings) (plan : Plan) (clock : ClockView) (recorder : RecorderView) (clients : List ClientParts) (passes : List PassView) (logs : List LogView)
    (limits : AreSettings s) (prepared : IsPrepared s plan recorder passes logs) (can : (k : ℕ) (c : ClientParts) → k < s.clients → CanMakeCalls s plan clock k (slice_index_or clients k c))
    (many_clients : length clients ≡ s.clients) (runners : List Runner) (many : length runners ≡ s.clients) (firsts : AreFirst s clients passes runners) where
  some_client : ClientParts
  some_client = let least = limits.clients.0 in some_of clients (omega arith)

  -- each client can make its calls
  pub all_ready : (k : ℕ) (r : Runner) → k < length runners → IsReadyRunner clock recorder (slice_index_or runners k r)
  all_ready k r inside =
      let less : k < s.clients = omega arith in
      subst (IsReadyRunner clock recorder) (sym (firsts k r some_client r.pass less))
      (ready_first s plan clock k (slice_index_or clients k some_client) (can k some_client less) recorder (slice_index_or passes k r.pass) limits (prepared.own k r.pass less) (prepared.passes k r.pass less))

  first_pass : (k : ℕ) (r : Runner) → k < s.clients → IsFirstPass s plan k (slice_index_or runners k r).pass
  first_pass k r less = subst (λ (x : Runner). IsFirstPass s plan k x.pass) (sym (firsts k r some_client r.pass less)) (prepared.passes k r.pass less)

  own_pass : (k : ℕ) (r : Runner) → k < s.clients → IsOf recorder (slice_index_or runners k r).pass
  own_pass k r less = subst (λ (x : Runner). IsOf recorder x.pass) (sym (firsts k r some_client r.pass less)) (prepared.own k r.pass less)

  module _ (ran : List Runner) (as_many_ran : length ran ≡ length runners) (runs : (k : ℕ) (r : Runner) → k < length runners → IsRun (slice_index_or runners k r) (slice_index_or ran k r))
      (drained : List LogView) (as_many_drained : length drained ≡ length logs) (drains : (k : ℕ) (g : LogView) → k < length logs → IsDrained (slice_index_or logs k g) (slice_index_or drained k g)) where
    first_log_at : (k : ℕ) (g : LogView) → k < s.shards → (b : BoxView)
        → ((slice_index_or drained k g).shard ≡ k) × ((slice_index_or drained k g).clients ≡ s.clients) × ((slice_index_or drained k g).box ≡ slice_index_or recorder.boxes k b)
    first_log_at k g less b =
        let long = prepared.as_many_logs in
        let rest = (drains k g (omega arith)).rest in
        let first = prepared.logs k b g less in (
          ap (λ (x : LogView). x.shard) rest ∙ ap (λ (x : LogView). x.shard) first,
          ap (λ (x : LogView). x.clients) rest ∙ ap (λ (x : LogView). x.clients) first,
          ap (λ (x : LogView). x.box) rest ∙ ap (λ (x : LogView). x.box) first,
        )

    -- each log is drained
    pub all_drained : (k : ℕ) (g : LogView) → k < length drained → IsDrainedLog k (slice_index_or drained k g)
    all_drained k g inside =
        let long = prepared.as_many_logs in
        record { shard_is = (first_log_at k g (omega arith) g.box).0; ended = (drains k g (omega arith)).ended }

    lane_of_log : (j k : ℕ) (r : Runner) (g : LogView) → j < s.clients → k < s.shards → IsLaneOf (slice_index_or drained k g) (slice_index_or ran j r).pass
    lane_of_log j k r g less within =
        let p = (slice_index_or runners j r).pass in
        let q = (slice_index_or ran j r).pass in
        let h = slice_index_or drained k g in
        let run = runs j r (omega arith) in
        let first = first_pass j r less in
        let many_lanes = first.as_many in
        let many_now = run.as_many in
        let shard : k ≡ h.shard = sym (first_log_at k g within g.box).0 in
        let inside : k < length p.lanes = omega arith in
        let box_at : (l : LaneView) → (slice_index_or p.lanes k l).box ≡ h.box =
        λ l.
        sym (get_or-map (λ (x : LaneView). x.box) p.lanes k l l.box inside)
        ∙ (ap (λ (bs : List BoxView). slice_index_or bs k l.box) (own_pass j r less) ∙ sym (first_log_at k g within l.box).2)
        in
        record {
          there = omega arith;
          own = λ l. subst (λ (n : ℕ). (slice_index_or q.lanes n l).box ≡ h.box) shard (ap (λ (x : LaneView). x.box) (run.lanes k l inside) ∙ box_at l);
          here = λ l. subst (λ (n : ℕ). (slice_index_or q.lanes n l).here ≡ true) shard (ap (λ (x : LaneView). x.here) (run.lanes k l inside) ∙ (first.each k l within).here);
        }

    -- each client is done, and its pass can be settled
    pub all_done : (j : ℕ) (r : Runner) → j < s.clients → IsDoneRunner drained (slice_index_or ran j r)
    all_done j r less =
        let run = runs j r (omega arith) in
        let long = prepared.as_many_logs in
        let number = (first_pass j r less).client_is in
        let same = run.client in
        record {
          left = run.done;
          pass = record {
            closed = run.closed;
            client = λ k g inside. let count = (first_log_at k g (omega arith) g.box).1 in omega arith;
            lanes = λ k g inside. lane_of_log j k r g less (omega arith);
          };
        }

    module _ (kept : List LogView) (are_kept : AreKept drained kept) (ends : List ClientEnd) (as_many_ends : length ends ≡ length ran)
        (ends_are : (j : ℕ) (r : Runner) (e : ClientEnd) → j < length ran → slice_index_or ends j e ≡ end_of (slice_index_or ran j r).client)
        (told : (j k : ℕ) (r : Runner) (g : LogView) → j < length ran → k < length drained → IsTold (slice_index_or drained k g) (slice_index_or ran j r).pass) where
      some_runner : Runner
      some_runner = let least = limits.clients.0 in some_of runners (omega arith)

      abbrev IsRunAt : ℕ → List Entry → Type 0
      IsRunAt k es = IsRunOf (slice_index_or runners k some_runner) (slice_index_or ran k some_runner) es

      chosen_calls : (f : ℕ → List Entry) × ((k : ℕ) → k < s.clients → IsRunAt k (f k))
      chosen_calls = choice [] IsRunAt s.clients (λ k less.
          let run = runs k some_runner (omega arith) in
          (run.entries, record { ran = run.ran; done = run.done; client = run.client; lanes = run.lanes }))

      -- the end of each client is that of its calls
      end_at : (k : ℕ) (c : ClientParts) (e : ClientEnd) → k < s.clients → IsEndOf s plan k (slice_index_or clients k c) (chosen_calls.0 k) (slice_index_or ends k e)
      end_at k c e less =
          let parts = slice_index_or clients k c in
          let d = (slice_index_or ran k some_runner).client in
          let run = chosen_calls.1 k less in
          let ran_from : Ran (first_client s k parts) (chosen_calls.0 k) d =
          subst (λ (x : Runner). Ran x.client (chosen_calls.0 k) d) (firsts k some_runner c some_runner.pass less) run.ran
          in
          subst (IsEndOf s plan k parts (chosen_calls.0 k)) (sym (ends_are k some_runner e (omega arith)))
          (end_of_calls s plan clock k parts (can k c less) d (chosen_calls.0 k) ran_from run.done)

      -- each log has of a client those of its calls that are on the keys of its shard
      logged_of : (k client : ℕ) (g : LogView) → k < s.shards → client < s.clients
          → filter (λ e. e.client == client) (entries_in (slice_index_or drained k g).taken) ≡ entries_on s.shards k (chosen_calls.0 client)
      logged_of k client g within less =
          let h = slice_index_or drained k g in
          let es = chosen_calls.0 client in
          let p = (slice_index_or runners client some_runner).pass in
          let q = (slice_index_or ran client some_runner).pass in
          let l : LaneView = record { box = g.box; sent = []; left = 0; here = true } in
          let long = prepared.as_many_logs in
          let run = chosen_calls.1 client less in
          let first = first_pass client some_runner less in
          let many_lanes = first.as_many in
          let number : q.client ≡ client = run.client ∙ first.client_is in
          let shard = (first_log_at k g within g.box).0 in
          ap (λ (n : ℕ). filter (λ (e : Entry). e.client == n) (entries_in h.taken)) (sym number)
          ∙ ((told client k some_runner g (omega arith) (omega arith)).entries l
          ∙ (ap (λ (n : ℕ). entries_in (slice_index_or q.lanes n l).sent) shard
          ∙ (ap (λ (x : LaneView). entries_in x.sent) (run.lanes k l (omega arith))
          ∙ (ap (λ (xs : List RecordLetter). entries_in (xs ++ (map EntryLetter (entries_on (length p.lanes) k es) ++ End p.client ∷ []))) (first.each k l within).sent
          ∙ (entries_in_letters p.client (entries_on (length p.lanes) k es)
          ∙ ap (λ (n : ℕ). entries_on n k es) first.as_many)))))

      logged_at : (k : ℕ) (g : LogView) → k < s.shards → AreLogged s chosen_calls.0 k (entries_in (slice_index_or drained k g).taken)
      logged_at k g within =
          let h = slice_index_or drained k g in
          let long = prepared.as_many_logs in
          let least = limits.clients.0 in
          record {
            clients = subst (λ (n : ℕ). All (λ (e : Entry). e.client < n) (entries_in h.taken)) (first_log_at k g within g.box).1
                (told 0 k some_runner g (omega arith) (omega arith)).clients;
            each = λ client less. logged_of k client g within less;
          }

      -- what the clients leave, with the calls of each
      pub are_called : AreCalled s plan clients ends kept
      are_called =
          let long = prepared.as_many_logs in
          let same = are_kept.as_many in
          record {
            calls = chosen_calls.0;
            as_many_ends = as_many_ends ∙ (as_many_ran ∙ many);
            each_end = end_at;
            as_many_logs = same ∙ (as_many_drained ∙ long);
            each_log = λ k g within.
                subst (λ (xs : List RecordLetter). AreLogged s chosen_calls.0 k (entries_in xs)) (sym (ap (λ (x : LogView). x.taken) (are_kept.each k g (omega arith))))
                (logged_at k g within);
          }
