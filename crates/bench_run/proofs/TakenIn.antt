-- What is known once one end more was taken in.
use Rattle.std.proofs.Common.{◌≡◌, ℕ, zero, suc, ◌+◌, ◌<◌, ◌≤◌, ◌≢◌, ◌⊎◌, inl, inr, List, [], ◌∷◌, ◌++◌, length, map, flat_map, sum_by, take, Some, slice_get, slice_index_or, slice_set, append_assoc, refl, sym, ◌∙◌, ap, subst, arith}
use mathlib.Core.Logic.{dite}
use mathlib.Core.List.{IsPrefix}
use native.Mathlib.Decide.{ℕ_discrete}
use Rattle.std.specs.List.{enumerate_from}
use Rattle.std.proofs.lemmas.List.{append-nil, map-append, take_more, get_or-set_other}
use Rattle.std.proofs.lemmas.List.FromFn.{length-enumerate_from, get_or-enumerate_from}
use Rattle.std.proofs.lemmas.Grind.{flat_map-append, get_or-set_at}
use Rattle.std.proofs.lemmas.List.Sums.{sum_by_push}
use Rattle.std.proofs.lemmas.Option.{same_Some, none-some, slice_get-get_or}
use Rattle.ticket_clock.specs.Seats.{SeatView, times}
use Rattle.ticket_clock.proofs.Totals.{times_append}
use Rattle.post_box.specs.Boxes.{letters_of}
use Rattle.post_box.proofs.Letters.{times_one}
use Rattle.stale_model.specs.declared.store.Reply.{Reply}
use Rattle.quorum_client.specs.declared.letters.Note.{Note}
use Rattle.quorum_client.specs.declared.letters.Route.{Route}
use Rattle.quorum_client.specs.declared.client.ClientEnd.{ClientEnd}
use Rattle.bench_run.specs.declared.boxes.NoteBox.{NoteBox}
use Rattle.bench_run.specs.declared.boxes.ReplyBox.{ReplyBox}
use Rattle.bench_run.specs.declared.job.ReplyRoute.{ReplyRoute}
use Rattle.bench_run.specs.Ends.{HasTickets, HasNotes, IsSameInbox, IsToldReplies, with_route, sent_on, sent_by, replier_of}

-- the next item of a list, after n of them, and its place
pub record IsNext {X : Type 0} (xs : List X) (n k : ℕ) (x : X) : Type 0 where
  pub inside : n < length xs
  pub place : k ≡ n
  pub is : x ≡ slice_index_or xs n x

-- the next of the items with their places
pub next_of : {X : Type 0} (xs : List X) (n k : ℕ) (x : X) → (n < length (enumerate_from 0 xs)) × ((k, x) ≡ slice_index_or (enumerate_from 0 xs) n (k, x)) → IsNext xs n k x
next_of {X} xs n k x turn =
    let many = length-enumerate_from 0 xs in
    let inside : n < length xs = omega (arith, turn.0, many) in
    let pair = turn.1 ∙ get_or-enumerate_from 0 xs n (k, x) inside in
    let place : k ≡ 0 + n = ap (λ (p : ℕ × X). p.0) pair in
    record {
      inside = inside;
      place = omega (arith, place);
      is = ap (λ (p : ℕ × X). p.1) pair;
    }

-- one place of a list was written: what holds of it and of each place before it
pub each_more : {X : Type 0} (P : ℕ → X → Type 0) (xs : List X) (n k : ℕ) (x b : X) → k ≡ n → n < length xs
    → ((j : ℕ) → j < n → P j (slice_index_or xs j b)) → P n x → (j : ℕ) → j < n + 1 → P j (slice_index_or (slice_set xs k x) j b)
each_more P xs n k x b at inside before here j less = dite (ℕ_discrete j n)
    (λ (e : j ≡ n).
    let set : slice_index_or (slice_set xs k x) j b ≡ x = get_or-set_at xs k j x b (omega (arith, e, at)) (omega (arith, at, inside)) in
    subst (P j) (sym set) (subst (λ (m : ℕ). P m x) (sym e) here))
    (λ ne.
    let other : j ≢ k = λ (e : j ≡ k). ne (e ∙ at) in
    subst (P j) (sym (get_or-set_other xs k j x b other)) (before j (omega (arith, ne, less))))

-- the places after it are as before
pub rest_more : {X : Type 0} (xs ys : List X) (n k : ℕ) (x b : X) → k ≡ n → ((j : ℕ) → n ≤ j → slice_index_or xs j b ≡ slice_index_or ys j b)
    → (j : ℕ) → n + 1 ≤ j → slice_index_or (slice_set xs k x) j b ≡ slice_index_or ys j b
rest_more xs ys n k x b at before j less =
    let other : j ≢ k = omega (arith, at, less) in
    get_or-set_other xs k j x b other ∙ before j (omega (arith, less))

-- a seat to which none came
pub tickets_none : (s : SeatView) → HasTickets [] 0 s s
tickets_none s = record {
  clock = refl;
  drawn = sym (append-nil s.drawn);
  left = omega arith;
}

-- the tickets of some seats, and then of others
pub tickets_push : (xs ys : List ℕ) (m n : ℕ) (a b c : SeatView) → HasTickets xs m a b → HasTickets ys n b c → HasTickets (xs ++ ys) (m + n) a c
tickets_push xs ys m n a b c first second = record {
  clock = second.clock ∙ first.clock;
  drawn = second.drawn ∙ (ap (λ (l : List ℕ). l ++ ys) first.drawn ∙ append_assoc a.drawn xs ys);
  left = omega (arith, first.left, second.left);
}

flat_map_push : {X A : Type 0} (f : X → List A) (xs : List X) (x : X) → flat_map f (xs ++ x ∷ []) ≡ flat_map f xs ++ f x
flat_map_push f xs x = flat_map-append f xs (x ∷ []) ∙ ap (λ l. flat_map f xs ++ l) (append-nil (f x))

-- the tickets of the seats so far, and of the next one
pub tickets_more : {X : Type 0} (f : X → List ℕ) (g : X → ℕ) (ends : List X) (k : ℕ) (e : X) (a b c : SeatView) → k < length ends → e ≡ slice_index_or ends k e
    → HasTickets (flat_map f (take k ends)) (sum_by g (take k ends)) a b → HasTickets (f e) (g e) b c
    → HasTickets (flat_map f (take (k + 1) ends)) (sum_by g (take (k + 1) ends)) a c
tickets_more f g ends k e a b c inside is first second =
    let here : take (k + 1) ends ≡ take k ends ++ e ∷ [] = take_more ends k e inside ∙ ap (λ x. take k ends ++ x ∷ []) (sym is) in
    let drawn : flat_map f (take (k + 1) ends) ≡ flat_map f (take k ends) ++ f e = ap (flat_map f) here ∙ flat_map_push f (take k ends) e in
    let left : sum_by g (take (k + 1) ends) ≡ sum_by g (take k ends) + g e = ap (sum_by g) here ∙ sum_by_push g (take k ends) e in
    rw (drawn, left) (tickets_push (flat_map f (take k ends)) (f e) (sum_by g (take k ends)) (g e) a b c first second)

-- a box to which none came
pub notes_none : (replica : ℕ) (b : NoteBox) → HasNotes replica [] b b
notes_none replica b = record {
  post = refl;
  numbers = refl;
  box = refl;
  sent = sym (append-nil b.whole.sent);
  gathered = λ k e r at there. absurd (none-some e at);
}

-- what stands at a place stood there, or is the last
last_or_before : {X : Type 0} (xs : List X) (e x : X) (k : ℕ) → slice_get (xs ++ e ∷ []) k ≡ Some x → (slice_get xs k ≡ Some x) ⊎ (e ≡ x)
last_or_before [] e x zero at = inr (same_Some e x at)
last_or_before [] e x (suc k) at = absurd (none-some x at)
last_or_before (y ∷ xs) e x zero at = inl at
last_or_before (y ∷ xs) e x (suc k) at = last_or_before xs e x k at

times_last : (n : ℕ) (xs : List ℕ) → 0 < times n (xs ++ n ∷ [])
times_last n xs =
    let both = times_append n xs (n ∷ []) in
    let one : times n (n ∷ []) ≡ 1 = grind (arith, times_one n n) in
    omega (arith, both, one)

times_kept : (n m : ℕ) (xs : List ℕ) → 0 < times n xs → 0 < times n (xs ++ m ∷ [])
times_kept n m xs some = let both = times_append n xs (m ∷ []) in omega (arith, both)

-- the passes of the clients so far, and of one more
notes_push : (replica : ℕ) (ends : List ClientEnd) (e : ClientEnd) (r : Route) (a b c : NoteBox) → replica < length e.routes
    → HasNotes replica ends a b → c ≡ with_route (slice_index_or e.routes replica r) b → HasNotes replica (ends ++ e ∷ []) a c
notes_push replica ends e r a b c inside before is =
    let route = slice_index_or e.routes replica r in
    let here : slice_get e.routes replica ≡ Some route = slice_get-get_or e.routes replica r inside in
    let sent : c.whole.sent ≡ b.whole.sent ++ sent_by replica e =
    ap (λ (x : NoteBox). x.whole.sent) is ∙ ap (λ o. b.whole.sent ++ sent_on o) (sym here)
    in
    let gathered : c.whole.gathered ≡ b.whole.gathered ++ route.pass.number ∷ [] = ap (λ (x : NoteBox). x.whole.gathered) is in
    record {
      post = ap (λ (x : NoteBox). x.post) is ∙ before.post;
      numbers = ap (λ (x : NoteBox). x.whole.numbers) is ∙ before.numbers;
      box = ap (λ (x : NoteBox). x.whole.box) is ∙ before.box;
      sent = sent
          ∙ (ap (λ (l : List Note). l ++ sent_by replica e) before.sent
          ∙ (append_assoc a.whole.sent (flat_map (sent_by replica) ends) (sent_by replica e)
          ∙ ap (λ (l : List Note). a.whole.sent ++ l) (sym (flat_map_push (sent_by replica) ends e))));
      gathered = λ k x s at there. rw gathered (elim (last_or_before ends e x k at) [
        | inl stood ↦ times_kept s.pass.number route.pass.number b.whole.gathered (before.gathered k x s stood there)
        | inr last ↦
            let same : route ≡ s = same_Some route s (sym here ∙ (ap (λ (y : ClientEnd). slice_get y.routes replica) last ∙ there)) in
            subst (λ (y : Route). 0 < times y.pass.number (b.whole.gathered ++ route.pass.number ∷ [])) same (times_last route.pass.number b.whole.gathered)
      ]);
    }

-- some item of a list that has one
some_item : {X : Type 0} (xs : List X) (k : ℕ) → k < length xs → X
some_item [] k inside = absurd (omega arith)
some_item (x ∷ xs) k inside = x

-- the same of the next of all clients
pub notes_more : (replica : ℕ) (ends : List ClientEnd) (k : ℕ) (e : ClientEnd) (a b c : NoteBox) → k < length ends → e ≡ slice_index_or ends k e
    → replica < length e.routes → HasNotes replica (take k ends) a b → ((r : Route) → c ≡ with_route (slice_index_or e.routes replica r) b)
    → HasNotes replica (take (k + 1) ends) a c
notes_more replica ends k e a b c inside is there before step =
    let here : take (k + 1) ends ≡ take k ends ++ e ∷ [] = take_more ends k e inside ∙ ap (λ x. take k ends ++ x ∷ []) (sym is) in
    let r = some_item e.routes replica there in
    rw here (notes_push replica (take k ends) e r a b c there before (step r))

-- an inbox that stayed the same twice
pub same_then : (a b c : ReplyBox) → IsSameInbox a b → IsSameInbox b c → IsSameInbox a c
same_then a b c first second = record {
  post = second.post ∙ first.post;
  box = second.box ∙ first.box;
  takes = second.takes ∙ first.takes;
  taken = second.taken ∙ first.taken;
}

-- what is told of an inbox is so of what it was before
pub told_before : (a b : ReplyBox) (r : ReplyRoute) → IsSameInbox a b → IsToldReplies b r → IsToldReplies a r
told_before a b r same told = subst (λ (taken : List Reply). IsPrefix (letters_of replier_of r.pass.number taken) r.pass.sent) same.taken told

-- one item more, each as it is read
pub items_more : {X A : Type 0} (f : X → A) (xs : List X) (n : ℕ) (x : X) (before so_far now : List A) → n < length xs → x ≡ slice_index_or xs n x
    → so_far ≡ before ++ map f (take n xs) → now ≡ so_far ++ f x ∷ [] → now ≡ before ++ map f (take (n + 1) xs)
items_more {X} {A} f xs n x before so_far now inside is read more =
    let here : take (n + 1) xs ≡ take n xs ++ x ∷ [] = take_more xs n x inside ∙ ap (λ y. take n xs ++ y ∷ []) (sym is) in
    more
    ∙ (ap (λ (l : List A). l ++ f x ∷ []) read
    ∙ (append_assoc before (map f (take n xs)) (f x ∷ [])
    ∙ ap (λ (l : List A). before ++ l) (sym (ap (map f) here ∙ map-append f (take n xs) (x ∷ [])))))
