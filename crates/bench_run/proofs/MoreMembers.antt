-- What is known of the boxes, the seat and the parts of a run, with one client or one replica more.
use Rattle.std.proofs.Common.{◌≡◌, ℕ, ◌+◌, ◌-◌, ◌*◌, ◌<◌, ◌≤◌, List, [], ◌∷◌, ◌++◌, length, map, get_or, refl, ap, sym, ◌∙◌, subst, arith, length-append}
use Rattle.std.specs.Prelude.{All}
use Rattle.std.specs.Arc.{arc_value}
use Rattle.std.proofs.Math.Nat.{mul-le-mul_right, suc-mul}
use Rattle.std.proofs.Math.ListN.{get_or-map}
use Rattle.std.proofs.lemmas.List.{length-map, map-append, get_or_default}
use Rattle.std.proofs.lemmas.List.Elements.{All-map, All-nil, All-push}
use Rattle.ticket_clock.specs.Seats.{ClockView, SeatView}
use Rattle.post_box.specs.Boxes.{BoxView, TakerView}
use Rattle.stale_model.specs.declared.store.Settings.{Settings}
use Rattle.stale_model.specs.declared.store.PlanCall.{PlanCall}
use Rattle.quorum_client.specs.declared.letters.Note.{Note}
use Rattle.bench_run.specs.declared.boxes.NoteBox.{NoteBox}
use Rattle.bench_run.specs.declared.boxes.ReplyBox.{ReplyBox}
use Rattle.bench_run.specs.declared.parts.ClientParts.{ClientParts}
use Rattle.bench_run.specs.declared.job.JobParts.{JobParts}
use Rattle.bench_run.specs.Jobs.{JobView}
use Rattle.bench_run.specs.JobSteps.{view_of, IsFreshJob}
use Rattle.bench_run.specs.Openings.{boxes_of, inboxes_of, first_taker, notes_without, replies_without, CanNotes, CanReplies, AreNotesGiven, AreRepliesGiven, IsSplitBy}
use Rattle.bench_run.specs.Ready.{places, IsReadyClient, IsReadyReplica, AreReadyClients, AreReadyReplicas}
use Rattle.bench_run.proofs.Openings.{can_split, given_more}
use Rattle.key_recorder.proofs.Making.{places_more}
use Rattle.bench_run.proofs.Pairs.{pairs_more}

-- one place more of as much
pub once_more : (k m : ℕ) → (k + 1) * m ≡ k * m + m
once_more k m = ap (λ (n : ℕ). n * m) (omega arith) ∙ suc-mul k m

-- at a place below n there is as much left
pub fits_at : (k n m : ℕ) → k < n → k * m + m ≤ n * m
fits_at k n m less =
    let most : (k + 1) * m ≤ n * m = mul-le-mul_right m (omega arith) in
    let more = once_more k m in omega arith

-- where so much went, there is as much left for one more
pub room_left : (k m left first all : ℕ) → k * m + m ≤ all → left + k * m ≡ first → all ≤ first → m ≤ left
room_left k m left first all fits gone enough = omega arith

-- what is left after one place more
pub left_after : (k n m : ℕ) → n * m - k * m - m ≡ n * m - (k + 1) * m
left_after k n m = let more = once_more k m in omega arith

-- the same boxes stand at the same places
pub same_box : (xs ys : List NoteBox) (k : ℕ) (d : NoteBox) → boxes_of xs ≡ boxes_of ys → arc_value (get_or xs k d).post ≡ arc_value (get_or ys k d).post
same_box xs ys k d same =
    sym (get_or-map (λ (b : NoteBox). arc_value b.post) xs k d)
    ∙ (ap (λ (l : List BoxView). get_or l k (arc_value d.post)) same ∙ get_or-map (λ (b : NoteBox). arc_value b.post) ys k d)

-- likewise inboxes
pub same_inbox : (xs ys : List ReplyBox) (k : ℕ) (d : ReplyBox) → inboxes_of xs ≡ inboxes_of ys → arc_value (get_or xs k d).post ≡ arc_value (get_or ys k d).post
same_inbox xs ys k d same =
    sym (get_or-map (λ (b : ReplyBox). arc_value b.post) xs k d)
    ∙ (ap (λ (l : List BoxView). get_or l k (arc_value d.post)) same ∙ get_or-map (λ (b : ReplyBox). arc_value b.post) ys k d)

-- as many boxes
pub same_many : (xs ys : List NoteBox) → boxes_of xs ≡ boxes_of ys → length xs ≡ length ys
same_many xs ys same =
    sym (length-map xs (λ (b : NoteBox). arc_value b.post))
    ∙ (ap (λ (l : List BoxView). length l) same ∙ length-map ys (λ (b : NoteBox). arc_value b.post))

-- as many inboxes
pub same_many_inboxes : (xs ys : List ReplyBox) → inboxes_of xs ≡ inboxes_of ys → length xs ≡ length ys
same_many_inboxes xs ys same =
    sym (length-map xs (λ (b : ReplyBox). arc_value b.post))
    ∙ (ap (λ (l : List BoxView). length l) same ∙ length-map ys (λ (b : ReplyBox). arc_value b.post))

-- boxes stay the same when a sender is split off
pub boxes_kept : (k m : ℕ) (xs : List NoteBox) → boxes_of (map (notes_without k m) xs) ≡ boxes_of xs
boxes_kept k m [] = refl
boxes_kept k m (b ∷ xs) = ap (λ (l : List BoxView). arc_value b.post ∷ l) (boxes_kept k m xs)

-- likewise inboxes
pub inboxes_kept : (k m : ℕ) (xs : List ReplyBox) → inboxes_of (map (replies_without k m) xs) ≡ inboxes_of xs
inboxes_kept k m [] = refl
inboxes_kept k m (b ∷ xs) = ap (λ (l : List BoxView). arc_value b.post ∷ l) (inboxes_kept k m xs)

-- the boxes can give the next sender
pub notes_can : (k m left : ℕ) (xs : List NoteBox) → All (AreNotesGiven k left) xs → m ≤ left → All (CanNotes k m) xs
notes_can k m left xs all fits j d less = can_split k m left (arc_value (get_or xs j d).post) (get_or xs j d).whole (all j d less) fits

-- likewise the inboxes
pub replies_can : (k m left : ℕ) (xs : List ReplyBox) → All (AreRepliesGiven k left) xs → m ≤ left → All (CanReplies k m) xs
replies_can k m left xs all fits j d less = can_split k m left (arc_value (get_or xs j d).post) (get_or xs j d).whole (all j d less) fits

-- the boxes after one sender more
pub notes_more : (k m left : ℕ) (xs : List NoteBox) → All (AreNotesGiven k left) xs → All (AreNotesGiven (k + 1) (left - m)) (map (notes_without k m) xs)
notes_more k m left xs all =
    All-map (AreNotesGiven (k + 1) (left - m)) (notes_without k m) xs
    (λ j d less. given_more k m left (arc_value (get_or xs j d).post) (get_or xs j d).whole (all j d less))

-- likewise the inboxes
pub replies_more : (k m left : ℕ) (xs : List ReplyBox) → All (AreRepliesGiven k left) xs → All (AreRepliesGiven (k + 1) (left - m)) (map (replies_without k m) xs)
replies_more k m left xs all =
    All-map (AreRepliesGiven (k + 1) (left - m)) (replies_without k m) xs
    (λ j d less. given_more k m left (arc_value (get_or xs j d).post) (get_or xs j d).whole (all j d less))

-- tickets that went to other seats in two steps
pub split_more : (g h n : ℕ) (a b c : SeatView) → g + h ≡ n → IsSplitBy g a b → IsSplitBy h b c → IsSplitBy n a c
split_more g h n a b c sum first second = record {
  rest = second.rest ∙ ap (λ (s : SeatView). let r : SeatView = record s { left = c.left } in r) first.rest;
  left = let one = first.left in let two = second.left in omega arith;
}

-- the parts of a client, where the boxes are the same
pub client_moved : (s : Settings) (clock : ClockView) (k : ℕ) (inbox inbox' : ReplyBox) (boxes boxes' : List NoteBox) (c : ClientParts)
    → arc_value inbox.post ≡ arc_value inbox'.post → boxes_of boxes ≡ boxes_of boxes' → IsReadyClient s clock k inbox boxes c → IsReadyClient s clock k inbox' boxes' c
client_moved s clock k inbox inbox' boxes boxes' c one all ready = record {
  calls = ready.calls;
  seat_of = ready.seat_of;
  none_drawn = ready.none_drawn;
  left = ready.left;
  inbox_is = ready.inbox_is ∙ one;
  taker = ready.taker ∙ one;
  none_taken = ready.none_taken;
  as_many = ready.as_many;
  routes = ready.routes;
  none_sent = ready.none_sent;
  to = λ r d b less. ready.to r d b less ∙ same_box boxes boxes' r b all;
}

-- the parts of a replica, where the boxes are the same
pub replica_moved : (s : Settings) (clock : ClockView) (k : ℕ) (box : NoteBox) (inboxes inboxes' : List ReplyBox) (j : JobView)
    → inboxes_of inboxes ≡ inboxes_of inboxes' → IsReadyReplica s clock k box inboxes j → IsReadyReplica s clock k box inboxes' j
replica_moved s clock k box inboxes inboxes' j all ready = record {
  settings_are = ready.settings_are;
  clock_is = ready.clock_is;
  replica = ready.replica;
  seat_of = ready.seat_of;
  none_drawn = ready.none_drawn;
  left = ready.left;
  inbox = ready.inbox;
  taker = ready.taker;
  none_taken = ready.none_taken;
  as_many = ready.as_many;
  routes = ready.routes;
  to = λ c d b less. ready.to c d b less ∙ same_inbox inboxes inboxes' c b all;
}

-- what was made for the clients so far, whose calls these are
pub record HasClients (s : Settings) (clock : ClockView) (first now : SeatView) (boxes rest : List NoteBox) (plans : List (List PlanCall)) (inboxes : List ReplyBox) (clients : List ClientParts) : Type 0 where
  pub made : map (λ (c : ClientParts). c.calls) clients ≡ plans
  pub many : length inboxes ≡ length clients
  pub seat : IsSplitBy (length clients * (2 * s.calls)) first now
  pub same : boxes_of rest ≡ boxes_of boxes
  pub given : All (AreNotesGiven (length clients) (s.clients * (2 * s.calls + 1) - length clients * (2 * s.calls + 1))) rest
  pub replies : All (AreRepliesGiven 0 (s.replicas * s.calls)) inboxes
  pub each : (k : ℕ) (b : ReplyBox) (c : ClientParts) → k < length clients → IsReadyClient s clock k (get_or inboxes k b) boxes (get_or clients k c)

-- for no client yet
pub clients_none : (s : Settings) (clock : ClockView) (seat : SeatView) (boxes : List NoteBox) (inboxes : List ReplyBox) (clients : List ClientParts) → inboxes ≡ [] → clients ≡ []
    → All (AreNotesGiven 0 (s.clients * (2 * s.calls + 1))) boxes → HasClients s clock seat seat boxes boxes [] inboxes clients
clients_none s clock seat boxes inboxes clients no_inboxes no_clients given =
    let m : ℕ = 2 * s.calls + 1 in
    let all : s.clients * m ≡ s.clients * m - 0 * m = omega arith in
    let none : HasClients s clock seat seat boxes boxes [] [] [] = record {
      made = refl;
      many = refl;
      seat = record { rest = refl; left = omega arith };
      same = refl;
      given = subst (λ (n : ℕ). All (AreNotesGiven 0 n) boxes) all given;
      replies = All-nil (AreRepliesGiven 0 (s.replicas * s.calls));
      each = λ k b c less. absurd (omega arith);
    } in
    subst (λ (l : List ReplyBox). HasClients s clock seat seat boxes boxes [] l clients) (sym no_inboxes)
    (subst (λ (l : List ClientParts). HasClients s clock seat seat boxes boxes [] [] l) (sym no_clients) none)

-- for one client more
pub clients_more : (s : Settings) (clock : ClockView) (first now next : SeatView) (boxes rest after : List NoteBox) (plans : List (List PlanCall)) (inboxes inboxes' : List ReplyBox) (clients clients' : List ClientParts) (k : ℕ) (calls : List PlanCall) (inbox : ReplyBox) (parts : ClientParts)
    → k ≡ length clients → HasClients s clock first now boxes rest plans inboxes clients → IsSplitBy (2 * s.calls) now next → after ≡ map (notes_without k (2 * s.calls + 1)) rest
    → AreRepliesGiven 0 (s.replicas * s.calls) inbox → parts.calls ≡ calls → IsReadyClient s clock k inbox rest parts → inboxes' ≡ inboxes ++ inbox ∷ [] → clients' ≡ clients ++ parts ∷ []
    → HasClients s clock first next boxes after (plans ++ calls ∷ []) inboxes' clients'
clients_more s clock first now next boxes rest after plans inboxes inboxes' clients clients' k calls inbox parts at so_far seat splits replies is_calls ready more_inboxes more_clients =
    let m : ℕ = 2 * s.calls + 1 in
    let long : length clients' ≡ length clients + 1 = ap (λ (l : List ClientParts). length l) more_clients ∙ length-append clients (parts ∷ []) in
    let long_inboxes : length inboxes' ≡ length inboxes + 1 = ap (λ (l : List ReplyBox). length l) more_inboxes ∙ length-append inboxes (inbox ∷ []) in
    let as_many = so_far.many in
    let count : length clients' ≡ k + 1 = omega (arith, long, at) in
    let kept : boxes_of after ≡ boxes_of rest = ap (λ (l : List NoteBox). boxes_of l) splits ∙ boxes_kept k m rest in
    let was : All (AreNotesGiven k (s.clients * m - k * m)) rest = subst (λ (n : ℕ). All (AreNotesGiven n (s.clients * m - n * m)) rest) (sym at) so_far.given in
    let moved = client_moved s clock k inbox inbox rest boxes parts refl so_far.same ready in
    let each = pairs_more (λ (j : ℕ) (b : ReplyBox) (c : ClientParts). IsReadyClient s clock j b boxes c) inboxes clients inbox parts k (omega (arith, as_many, at)) (sym at)
    (λ j b c less. so_far.each j b c (omega (arith, at, less))) moved in
    record {
      made = ap (λ (l : List ClientParts). map (λ (c : ClientParts). c.calls) l) more_clients
          ∙ (map-append (λ (c : ClientParts). c.calls) clients (parts ∷ [])
          ∙ (ap (λ (l : List (List PlanCall)). l ++ parts.calls ∷ []) so_far.made ∙ ap (λ (x : List PlanCall). plans ++ x ∷ []) is_calls));
      many = omega (arith, long, long_inboxes, as_many);
      seat = split_more (length clients * (2 * s.calls)) (2 * s.calls) (length clients' * (2 * s.calls)) first now next
          (sym (once_more (length clients) (2 * s.calls)) ∙ ap (λ (n : ℕ). n * (2 * s.calls)) (sym long)) so_far.seat seat;
      same = kept ∙ so_far.same;
      given = subst (λ (n : ℕ). All (AreNotesGiven n (s.clients * m - n * m)) after) (sym count)
          (subst (λ (l : List NoteBox). All (AreNotesGiven (k + 1) (s.clients * m - (k + 1) * m)) l) (sym splits)
          (subst (λ (n : ℕ). All (AreNotesGiven (k + 1) n) (map (notes_without k m) rest)) (left_after k s.clients m) (notes_more k m (s.clients * m - k * m) rest was)));
      replies = subst (λ (l : List ReplyBox). All (AreRepliesGiven 0 (s.replicas * s.calls)) l) (sym more_inboxes)
          (All-push (AreRepliesGiven 0 (s.replicas * s.calls)) inboxes inbox so_far.replies replies);
      each = λ j b c less.
          subst (λ (l : List ReplyBox). IsReadyClient s clock j (get_or l j b) boxes (get_or clients' j c)) (sym more_inboxes)
          (subst (λ (l : List ClientParts). IsReadyClient s clock j (get_or (inboxes ++ inbox ∷ []) j b) boxes (get_or l j c)) (sym more_clients)
          (each j b c (omega (arith, less, count))));
    }

-- what one client more needs
pub record HasRoom (s : Settings) (now : SeatView) (rest : List NoteBox) (k : ℕ) : Type 0 where
  pub left : 2 * s.calls ≤ now.left
  pub can : All (CanNotes k (2 * s.calls + 1)) rest

-- while clients are to come, there is room for one more
pub clients_room : (s : Settings) (clock : ClockView) (first now : SeatView) (boxes rest : List NoteBox) (plans : List (List PlanCall)) (inboxes : List ReplyBox) (clients : List ClientParts) (k : ℕ) → k ≡ length clients
    → k < s.clients → s.clients * (2 * s.calls) ≤ first.left → HasClients s clock first now boxes rest plans inboxes clients → HasRoom s now rest k
clients_room s clock first now boxes rest plans inboxes clients k at less enough so_far =
    let m : ℕ = 2 * s.calls + 1 in
    let fits = fits_at k s.clients (2 * s.calls) less in
    let fits_box = fits_at k s.clients m less in
    let was : All (AreNotesGiven k (s.clients * m - k * m)) rest = subst (λ (n : ℕ). All (AreNotesGiven n (s.clients * m - n * m)) rest) (sym at) so_far.given in
    let gone : now.left + k * (2 * s.calls) ≡ first.left = subst (λ (n : ℕ). now.left + n * (2 * s.calls) ≡ first.left) (sym at) so_far.seat.left in
    record {
      left = room_left k (2 * s.calls) now.left first.left (s.clients * (2 * s.calls)) fits gone enough;
      can = notes_can k m (s.clients * m - k * m) rest was (omega (arith, fits_box));
    }

-- an element that comes next in a list, and its place
pub record IsNext (X : Type 0) (before : List X) (x d : X) (all : List X) : Type 0 where
  pub less : length before < length all
  pub read : get_or all (length before) d ≡ x

pub next_in : {X : Type 0} (before after : List X) (x d : X) (all : List X) → before ++ x ∷ after ≡ all → IsNext X before x d all
next_in [] after x d all is = subst (λ l. IsNext _ [] x d l) is (record { less = omega arith; read = refl })
next_in {X = X} (b ∷ before) after x d all is =
    let one = next_in before after x d (before ++ x ∷ after) refl in
    subst (λ (l : List X). IsNext X (b ∷ before) x d l) is (record { less = let e = one.less in omega arith; read = one.read })

-- at the end, all clients have their parts
pub clients_done : (s : Settings) (clock : ClockView) (first now : SeatView) (boxes rest : List NoteBox) (plans : List (List PlanCall)) (inboxes : List ReplyBox) (clients : List ClientParts)
    → length plans ≡ s.clients → HasClients s clock first now boxes rest plans inboxes clients → AreReadyClients s clock inboxes boxes clients
clients_done s clock first now boxes rest plans inboxes clients all so_far =
    let long : length clients ≡ s.clients = sym (length-map clients (λ (c : ClientParts). c.calls)) ∙ (ap (λ (l : List (List PlanCall)). length l) so_far.made ∙ all) in
    record {
      as_many = long;
      each = λ k b c less. so_far.each k b c (omega (arith, long, less));
    }

-- what was made for the replicas so far
pub record HasReplicas (s : Settings) (clock : ClockView) (first now : SeatView) (boxes : List NoteBox) (inboxes rest : List ReplyBox) (replicas : List JobParts) : Type 0 where
  pub seat : IsSplitBy (length replicas * places s) first now
  pub same : inboxes_of rest ≡ inboxes_of inboxes
  pub given : All (AreRepliesGiven (length replicas) (s.replicas * s.calls - length replicas * s.calls)) rest
  pub fresh : (k : ℕ) (r : JobParts) → k < length replicas → IsFreshJob (get_or replicas k r)
  pub each : (k : ℕ) (b : NoteBox) (r : JobParts) → k < length replicas → IsReadyReplica s clock k (get_or boxes k b) inboxes (view_of (get_or replicas k r))

-- for no replica yet
pub replicas_none : (s : Settings) (clock : ClockView) (seat : SeatView) (boxes : List NoteBox) (inboxes : List ReplyBox) (replicas : List JobParts) → replicas ≡ []
    → All (AreRepliesGiven 0 (s.replicas * s.calls)) inboxes → HasReplicas s clock seat seat boxes inboxes inboxes replicas
replicas_none s clock seat boxes inboxes replicas no_replicas given =
    let all : s.replicas * s.calls ≡ s.replicas * s.calls - 0 * s.calls = omega arith in
    let none : HasReplicas s clock seat seat boxes inboxes inboxes [] = record {
      seat = record { rest = refl; left = omega arith };
      same = refl;
      given = subst (λ (n : ℕ). All (AreRepliesGiven 0 n) inboxes) all given;
      fresh = λ k r less. absurd (omega arith);
      each = λ k b r less. absurd (omega arith);
    } in
    subst (λ (l : List JobParts). HasReplicas s clock seat seat boxes inboxes inboxes l) (sym no_replicas) none

-- for one replica more
pub replicas_more : (s : Settings) (clock : ClockView) (first now next : SeatView) (boxes : List NoteBox) (inboxes rest after : List ReplyBox) (replicas replicas' : List JobParts) (k : ℕ) (box : NoteBox) (parts : JobParts)
    → k ≡ length replicas → k < length boxes → box ≡ get_or boxes k box → HasReplicas s clock first now boxes inboxes rest replicas → IsSplitBy (places s) now next
    → after ≡ map (replies_without k s.calls) rest → IsFreshJob parts → IsReadyReplica s clock k box rest (view_of parts) → replicas' ≡ replicas ++ parts ∷ []
    → HasReplicas s clock first next boxes inboxes after replicas'
replicas_more s clock first now next boxes inboxes rest after replicas replicas' k box parts at within read so_far seat splits is_fresh ready more =
    let long : length replicas' ≡ length replicas + 1 = ap (λ (l : List JobParts). length l) more ∙ length-append replicas (parts ∷ []) in
    let count : length replicas' ≡ k + 1 = omega (arith, long, at) in
    let kept : inboxes_of after ≡ inboxes_of rest = ap (λ (l : List ReplyBox). inboxes_of l) splits ∙ inboxes_kept k s.calls rest in
    let was : All (AreRepliesGiven k (s.replicas * s.calls - k * s.calls)) rest =
    subst (λ (n : ℕ). All (AreRepliesGiven n (s.replicas * s.calls - n * s.calls)) rest) (sym at) so_far.given
    in
    let here : (b : NoteBox) → IsReadyReplica s clock k (get_or boxes k b) inboxes (view_of parts) =
    λ b. subst (λ (n : NoteBox). IsReadyReplica s clock k n inboxes (view_of parts)) (read ∙ get_or_default boxes k box b within)
    (replica_moved s clock k box rest inboxes (view_of parts) so_far.same ready)
    in
    let fresh = places_more (λ (j : ℕ) (r : JobParts). IsFreshJob r) replicas parts k (sym at) (λ j r less. so_far.fresh j r (omega (arith, at, less))) is_fresh in
    let each = λ (b : NoteBox). places_more (λ (j : ℕ) (r : JobParts). IsReadyReplica s clock j (get_or boxes j b) inboxes (view_of r)) replicas parts k (sym at)
    (λ j r less. so_far.each j b r (omega (arith, at, less))) (here b) in
    record {
      seat = split_more (length replicas * places s) (places s) (length replicas' * places s) first now next
          (sym (once_more (length replicas) (places s)) ∙ ap (λ (n : ℕ). n * places s) (sym long)) so_far.seat seat;
      same = kept ∙ so_far.same;
      given = subst (λ (n : ℕ). All (AreRepliesGiven n (s.replicas * s.calls - n * s.calls)) after) (sym count)
          (subst (λ (l : List ReplyBox). All (AreRepliesGiven (k + 1) (s.replicas * s.calls - (k + 1) * s.calls)) l) (sym splits)
          (subst (λ (n : ℕ). All (AreRepliesGiven (k + 1) n) (map (replies_without k s.calls) rest)) (left_after k s.replicas s.calls)
          (replies_more k s.calls (s.replicas * s.calls - k * s.calls) rest was)));
      fresh = λ j r less. subst (λ (l : List JobParts). IsFreshJob (get_or l j r)) (sym more) (fresh j r (omega (arith, less, count)));
      each = λ j b r less. subst (λ (l : List JobParts). IsReadyReplica s clock j (get_or boxes j b) inboxes (view_of (get_or l j r))) (sym more)
          (each b j r (omega (arith, less, count)));
    }

-- what one replica more needs
pub record HasRoomFor (s : Settings) (now : SeatView) (rest : List ReplyBox) (k : ℕ) : Type 0 where
  pub left : places s ≤ now.left
  pub can : All (CanReplies k s.calls) rest

-- while replicas are to come, there is room for one more
pub replicas_room : (s : Settings) (clock : ClockView) (first now : SeatView) (boxes : List NoteBox) (inboxes rest : List ReplyBox) (replicas : List JobParts) (k : ℕ) → k ≡ length replicas
    → k < s.replicas → s.replicas * places s ≤ first.left → HasReplicas s clock first now boxes inboxes rest replicas → HasRoomFor s now rest k
replicas_room s clock first now boxes inboxes rest replicas k at less enough so_far =
    let p : ℕ = places s in
    let fits : k * p + p ≤ s.replicas * p = fits_at k s.replicas p less in
    let fits_box = fits_at k s.replicas s.calls less in
    let was : All (AreRepliesGiven k (s.replicas * s.calls - k * s.calls)) rest =
    subst (λ (n : ℕ). All (AreRepliesGiven n (s.replicas * s.calls - n * s.calls)) rest) (sym at) so_far.given
    in
    let gone : now.left + k * p ≡ first.left = subst (λ (n : ℕ). now.left + n * p ≡ first.left) (sym at) so_far.seat.left in
    record {
      left = room_left k p now.left first.left (s.replicas * p) fits gone enough;
      can = replies_can k s.calls (s.replicas * s.calls - k * s.calls) rest was (omega (arith, fits_box));
    }

-- the taker at a place is of the box there
pub taker_at : (boxes : List NoteBox) (k : ℕ) (b : NoteBox) (taker d : TakerView Note) → b ≡ get_or boxes k b → d ≡ first_taker (arc_value b.post)
    → get_or (map first_taker (boxes_of boxes)) k d ≡ taker → taker ≡ first_taker (arc_value b.post)
taker_at boxes k b taker d read default is =
    let box : BoxView = arc_value b.post in
    let found : get_or (boxes_of boxes) k box ≡ box = get_or-map (λ (n : NoteBox). arc_value n.post) boxes k b ∙ ap (λ (n : NoteBox). arc_value n.post) (sym read) in
    sym is ∙ (ap (λ (v : TakerView Note). get_or (map first_taker (boxes_of boxes)) k v) default
    ∙ (get_or-map (λ (v : BoxView). first_taker {M = Note} v) (boxes_of boxes) k box ∙ ap (λ (v : BoxView). first_taker {M = Note} v) found))

-- at the end, all replicas have their parts
pub replicas_done : (s : Settings) (clock : ClockView) (first now : SeatView) (boxes : List NoteBox) (inboxes rest : List ReplyBox) (replicas : List JobParts) → length replicas ≡ s.replicas
    → HasReplicas s clock first now boxes inboxes rest replicas → AreReadyReplicas s clock boxes inboxes replicas
replicas_done s clock first now boxes inboxes rest replicas long so_far = record {
  as_many = long;
  fresh = λ k r less. so_far.fresh k r (omega (arith, long, less));
  each = λ k b r less. so_far.each k b r (omega (arith, long, less));
}

-- a client whose calls come next is one of the run
pub clients_less : (s : Settings) (clock : ClockView) (first now : SeatView) (boxes rest : List NoteBox) (plans after all : List (List PlanCall)) (calls : List PlanCall) (inboxes : List ReplyBox) (clients : List ClientParts) (k : ℕ)
    → k ≡ length clients → HasClients s clock first now boxes rest plans inboxes clients → plans ++ calls ∷ after ≡ all → length all ≡ s.clients → k < s.clients
clients_less s clock first now boxes rest plans after all calls inboxes clients k at so_far is many =
    let long : length clients ≡ length plans = sym (length-map clients (λ (c : ClientParts). c.calls)) ∙ ap (λ (l : List (List PlanCall)). length l) so_far.made in
    let next = (next_in plans after calls [] all is).less in omega (arith, next, long, at, many)

-- the takers are as many as the boxes
pub takers_many : (boxes : List NoteBox) → length (map (first_taker {M = Note}) (boxes_of boxes)) ≡ length boxes
takers_many boxes = length-map (boxes_of boxes) (first_taker {M = Note}) ∙ length-map boxes (λ (b : NoteBox). arc_value b.post)

-- a replica whose taker comes next is one of the run
pub replicas_less : (boxes : List NoteBox) (before after : List (TakerView Note)) (taker : TakerView Note) (k n : ℕ) → k ≡ length before → before ++ taker ∷ after ≡ map first_taker (boxes_of boxes)
    → length boxes ≡ n → k < n
replicas_less boxes before after taker k n at is many =
    let next = (next_in before after taker taker (map first_taker (boxes_of boxes)) is).less in
    let all = takers_many boxes in omega (arith, next, all, at, many)

-- the taker that comes next is of the box at its place
pub taker_next : (boxes : List NoteBox) (before after : List (TakerView Note)) (taker : TakerView Note) (k : ℕ) (b : NoteBox) → k ≡ length before
    → before ++ taker ∷ after ≡ map first_taker (boxes_of boxes) → b ≡ get_or boxes k b → taker ≡ first_taker (arc_value b.post)
taker_next boxes before after taker k b at is read =
    let d : TakerView Note = first_taker (arc_value b.post) in
    let next = (next_in before after taker d (map first_taker (boxes_of boxes)) is).read in
    taker_at boxes k b taker d read refl (ap (λ (n : ℕ). get_or (map first_taker (boxes_of boxes)) n d) at ∙ next)
