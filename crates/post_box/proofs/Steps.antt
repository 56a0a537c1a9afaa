-- Each step keeps the rule of a box.
use Rattle.std.proofs.Common.{◌≡◌, ◌≢◌, ℕ, zero, suc, ◌+◌, ◌-◌, ◌<◌, ◌≤◌, cond, eqb, Bool, true, false, true≢false, List, [], ◌∷◌, ◌++◌, length, set, sum_by, sym, refl, ap, ◌∙◌, subst, inr, ⊎_elim, append_assoc, arith, length-append}
use Rattle.std.proofs.lemmas.List.{append-nil}
use Rattle.std.proofs.lemmas.Bool.Decides.{nat_tests}
use mathlib.Core.Logic.{dite}
use mathlib.Core.Option.{some, some-injective, some-ne-none}
use native.Mathlib.Decide.{ℕ_discrete}
use lib.ListN.{get_elem?}
use Rattle.crossbeam_queue.specs.Fifo.{Pushes, Pops, Forks, Merges, Learns}
use Rattle.crossbeam_queue.proofs.Lists.{at_set}
use Rattle.ticket_clock.specs.Seats.{times}
use Rattle.ticket_clock.proofs.Totals.{total_set, part_le, each_set, each_set_else, each_push, times_push, times_append}
use Rattle.post_box.specs.declared.view.View.{View}
use Rattle.post_box.specs.Boxes.{letters_of}
use Rattle.post_box.specs.Views.{unopened, spent, first_whole, without_sender, new_sender, without_taker, new_taker, one_more_empty, with_sender, with_taker, Sends, HasRoom, Takes}
use Rattle.post_box.specs.Rule.{given_by, held_by, whole_part, taker_part, budget_part, Fits, IsOpen, Keeps}
use Rattle.post_box.proofs.Totals.{total_split, total_join, two_le, total_alone}
use Rattle.post_box.proofs.Letters.{times_one, none_there, letters_append, letters_else}

is_one : (b : Bool) → b ≡ true → ◌≡◌ {A = ℕ} (cond b 1 0) 1
is_one true e = refl
is_one false e = absurd (true≢false (sym e))

not_one : (b : Bool) → (let n : ℕ = cond b 1 0 in n < 1) → b ≡ false
not_one true less = absurd (omega arith)
not_one false less = refl

module _ {M : Type 0} (from : M → ℕ) where
  spent_fits : (log gone : List M) (capacity : ℕ) → Fits from log gone capacity spent
  spent_fits log gone capacity = record {
    made = refl;
    sized = λ e. absurd (true≢false (sym e));
    sent = λ s some_held. absurd (omega arith);
    sent_none = λ s none. refl;
    given = λ e. refl;
    taken = λ e. absurd (true≢false (sym e));
    taken_none = λ e. refl;
  }

  -- the only pass of a queue that was just made
  at_unopened : (views : List (View M)) (id : ℕ) (v : View M) → views ≡ unopened ∷ [] → get_elem? views id ≡ some v → (id ≡ 0) × (unopened ≡ v)
  at_unopened views zero v e at = (refl, some-injective unopened v (subst (λ (l : List (View M)). get_elem? l 0 ≡ some v) e at))
  at_unopened views (suc id) v e at = absurd (some-ne-none v (sym (subst (λ (l : List (View M)). get_elem? l (suc id) ≡ some v) e at)))

  -- a live pass is of an open box
  pub is_open : (items : List M) (views : List (View M)) (id : ℕ) (v : View M) → v.live ≡ true → get_elem? views id ≡ some v → Keeps from items views
      → (gone : List M) × (capacity : ℕ) × IsOpen from items views gone capacity
  is_open items views id v live at kept =
      ⊎_elim (λ (t : (items ≡ []) × (views ≡ unopened ∷ [])). absurd (true≢false (sym live ∙ ap (λ (u : View M). u.live) (sym (at_unopened views id v t.1 at).1)))) (λ t. t) kept

  -- what a pass knows stays so where more was sent, of none of its senders
  fits_longer : (log longer gone : List M) (capacity : ℕ) (u : View M) → ((s : ℕ) → 0 < held_by s u → letters_of from s log ≡ letters_of from s longer)
      → Fits from log gone capacity u → Fits from longer gone capacity u
  fits_longer log longer gone capacity u same f = record {
    made = f.made;
    sized = f.sized;
    sent = λ s some_held. f.sent s some_held ∙ same s some_held;
    sent_none = f.sent_none;
    given = f.given;
    taken = f.taken;
    taken_none = f.taken_none;
  }

  -- one pass is split in two: numbers may be given out, and all else is shared between the two
  split_open : (items : List M) (views : List (View M)) (id : ℕ) (v w new : View M) (gone : List M) (capacity : ℕ) (more : ℕ → ℕ) → get_elem? views id ≡ some v → IsOpen from items views gone capacity
      → Fits from (gone ++ items) gone capacity w → Fits from (gone ++ items) gone capacity new
      → ((s : ℕ) → given_by s w + given_by s new ≡ given_by s v + more s) → ((s : ℕ) → held_by s w + held_by s new ≡ held_by s v + more s) → ((s : ℕ) → sum_by (given_by s) views + more s ≤ 1)
      → whole_part w + whole_part new ≡ whole_part v → taker_part w + taker_part new ≡ taker_part v → budget_part w + budget_part new ≡ budget_part v
      → IsOpen from items (set views id w ++ new ∷ []) gone capacity
  split_open items views id v w new gone capacity more at k fits_w fits_new given held once whole taker budget = record {
    fits = each_push (Fits from (gone ++ items) gone capacity) (set views id w) new fits_new (each_set (Fits from (gone ++ items) gone capacity) views id w fits_w k.fits);
    known = λ s there. omega (arith, total_split (given_by s) views id v w new at, given s, k.known s there);
    held = λ s. omega (arith, total_split (given_by s) views id v w new at, given s, total_split (held_by s) views id v w new at, held s, k.held s);
    once = λ s. omega (arith, total_split (given_by s) views id v w new at, given s, once s);
    one_whole = omega (arith, total_split whole_part views id v w new at, whole, k.one_whole);
    one_taker = omega (arith, total_split taker_part views id v w new at, taker, k.one_taker);
    room = omega (arith, total_split budget_part views id v w new at, budget, k.room);
  }

  -- one pass takes in another, which is spent
  join_open : (items : List M) (views : List (View M)) (id : ℕ) (v : View M) (other : ℕ) (u both : View M) (gone : List M) (capacity : ℕ) → get_elem? views id ≡ some v → get_elem? (set views id both) other ≡ some u → IsOpen from items views gone capacity
      → Fits from (gone ++ items) gone capacity both
      → ((s : ℕ) → given_by s both ≡ given_by s v + given_by s u) → ((s : ℕ) → held_by s both ≡ held_by s v + held_by s u)
      → whole_part both ≡ whole_part v + whole_part u → taker_part both ≡ taker_part v + taker_part u → budget_part both ≡ budget_part v + budget_part u
      → IsOpen from items (set (set views id both) other spent) gone capacity
  join_open items views id v other u both gone capacity at at_rest k fits_both given held whole taker budget = record {
    fits = each_set (Fits from (gone ++ items) gone capacity) (set views id both) other spent (spent_fits (gone ++ items) gone capacity) (each_set (Fits from (gone ++ items) gone capacity) views id both fits_both k.fits);
    known = λ s there. omega (arith, total_join (given_by s) views id v other u both spent at at_rest, given s, k.known s there);
    held = λ s. omega (arith, total_join (given_by s) views id v other u both spent at at_rest, given s, total_join (held_by s) views id v other u both spent at at_rest, held s, k.held s);
    once = λ s. omega (arith, total_join (given_by s) views id v other u both spent at at_rest, given s, k.once s);
    one_whole = omega (arith, total_join whole_part views id v other u both spent at at_rest, whole, k.one_whole);
    one_taker = omega (arith, total_join taker_part views id v other u both spent at at_rest, taker, k.one_taker);
    room = omega (arith, total_join budget_part views id v other u both spent at at_rest, budget, k.room);
  }

  first_fits : (capacity : ℕ) → Fits from [] [] capacity (first_whole capacity)
  first_fits capacity = record {
    made = refl;
    sized = λ e. refl;
    sent = λ s some_held. refl;
    sent_none = λ s none. refl;
    given = λ e. absurd (true≢false e);
    taken = λ e. refl;
    taken_none = λ e. refl;
  }

  both_fit : (capacity id : ℕ) (u : View M) → get_elem? (spent ∷ first_whole capacity ∷ []) id ≡ some u → Fits from [] [] capacity u
  both_fit capacity zero u at = subst (Fits from [] [] capacity) (some-injective spent u at) (spent_fits [] [] capacity)
  both_fit capacity (suc zero) u at = subst (Fits from [] [] capacity) (some-injective (first_whole capacity) u at) (first_fits capacity)
  both_fit capacity (suc (suc id)) u at = absurd (some-ne-none u (sym at))

  -- the queue becomes an open box
  pub opens : (id : ℕ) (v : View M) (capacity : ℕ) → v ≡ unopened → Forks (Keeps from) id v spent (first_whole capacity)
  opens id v capacity is items views kept at = ⊎_elim
      (λ (t : (items ≡ []) × (views ≡ unopened ∷ [])).
      subst (λ (y : ℕ × List M × List (View M)). Keeps from y.1 (set y.2 y.0 spent ++ first_whole capacity ∷ [])) (λ i. (sym (at_unopened views id v t.1 at).0 i, sym t.0 i, sym t.1 i))
      (inr (
        [],
        capacity,
        record {
          fits = both_fit capacity;
          known = λ s there. absurd (omega arith);
          held = λ s. refl;
          once = λ s. omega arith;
          one_whole = refl;
          one_taker = refl;
          room = omega arith;
        },
      )))
      (λ t. absurd (true≢false (ap (λ (u : View M). u.unopened) (sym is) ∙ (t.2.fits id v at).made))) kept

  -- a letter of a sender is pushed
  module _ (items : List M) (views : List (View M)) (id : ℕ) (v : View M) (x : M) (gone : List M) (capacity : ℕ) (mine : v.held ≡ from x ∷ []) (at : get_elem? views id ≡ some v) (k : IsOpen from items views gone capacity) where
    held_once : times (from x) v.held ≡ 1
    held_once = rw mine (grind (arith, nat_tests))

    longer : (s : ℕ) → letters_of from s (gone ++ (items ++ x ∷ [])) ≡ letters_of from s (gone ++ items) ++ letters_of from s (x ∷ [])
    longer s = ap (letters_of from s) (sym (append_assoc gone items (x ∷ []))) ∙ letters_append from s (gone ++ items) (x ∷ [])

    same_letters : (s : ℕ) → from x ≢ s → letters_of from s (gone ++ items) ≡ letters_of from s (gone ++ (items ++ x ∷ []))
    same_letters s ne = sym (longer s ∙ ap (λ l. letters_of from s (gone ++ items) ++ l) (letters_else from s x ne) ∙ append-nil (letters_of from s (gone ++ items)))

    -- no other pass has this sender
    not_theirs : (j : ℕ) (u : View M) → j ≢ id → get_elem? views j ≡ some u → (s : ℕ) → 0 < held_by s u → from x ≢ s
    not_theirs j u ne there s some_held e =
        let theirs : 0 < times (from x) u.held = subst (λ (y : ℕ). 0 < times y u.held) (sym e) some_held in
        omega (arith, theirs, two_le (held_by (from x)) views j id u v ne there at, k.once (from x), k.held (from x), held_once)

    sent_fits : Fits from (gone ++ (items ++ x ∷ [])) gone capacity (record v { budget = v.budget - 1; sent = v.sent ++ x ∷ [] })
    sent_fits = let f = k.fits id v at in record {
      made = f.made;
      sized = f.sized;
      sent = λ s some_held. letters_append from s v.sent (x ∷ []) ∙ ap (λ l. l ++ letters_of from s (x ∷ [])) (f.sent s some_held) ∙ sym (longer s);
      sent_none = λ s none. letters_append from s v.sent (x ∷ []) ∙ ap (λ l. l ++ letters_of from s (x ∷ [])) (f.sent_none s none)
          ∙ letters_else from s x (λ e. let here : times (from x) v.held ≡ 0 = subst (λ (y : ℕ). times y v.held ≡ 0) (sym e) none in absurd (omega (arith, here, held_once)));
      given = f.given;
      taken = f.taken;
      taken_none = f.taken_none;
    }

    known_sent : (s : ℕ) → 0 < length (letters_of from s (gone ++ (items ++ x ∷ []))) → 0 < sum_by (given_by s) views
    known_sent s there = dite (ℕ_discrete (from x) s)
        (λ e. subst (λ (y : ℕ). 0 < sum_by (given_by y) views) e (omega (arith, part_le (held_by (from x)) views id v at, k.held (from x), held_once)))
        (λ ne. k.known s (subst (λ (l : List M). 0 < length l) (sym (same_letters s ne)) there))

    sent_open : 0 < v.budget → IsOpen from (items ++ x ∷ []) (set views id (record v { budget = v.budget - 1; sent = v.sent ++ x ∷ [] })) gone capacity
    sent_open some_left =
        let w : View M = record v { budget = v.budget - 1; sent = v.sent ++ x ∷ [] } in record {
          fits = each_set_else (Fits from (gone ++ (items ++ x ∷ [])) gone capacity) views id w sent_fits
              (λ j u ne there. fits_longer (gone ++ items) (gone ++ (items ++ x ∷ [])) gone capacity u (λ s some_held. same_letters s (not_theirs j u ne there s some_held)) (k.fits j u there));
          known = λ s there. omega (arith, total_set (given_by s) views id v w at, known_sent s there);
          held = λ s. omega (arith, total_set (held_by s) views id v w at, total_set (given_by s) views id v w at, k.held s);
          once = λ s. omega (arith, total_set (given_by s) views id v w at, k.once s);
          one_whole = omega (arith, total_set whole_part views id v w at, k.one_whole);
          one_taker = omega (arith, total_set taker_part views id v w at, k.one_taker);
          room = omega (arith, total_set budget_part views id v w at, k.room, length-append items (x ∷ []));
        }

  pub sends : (n id : ℕ) (v : View M) (x : M) → v.live ≡ true → v.held ≡ from x ∷ [] → 0 < v.budget → Pushes (Keeps from) n id v x (Sends v x)
  sends n id v x live mine some_left items views short kept at =
      let t = is_open items views id v live at kept in
      (record v { budget = v.budget - 1; sent = v.sent ++ x ∷ [] }, inr (t.0, t.1, sent_open items views id v x t.0 t.1 mine at t.2 some_left), refl)

  -- a budget has room
  pub has_room : (id : ℕ) (v : View M) → Learns (Keeps from) id v (HasRoom v)
  has_room id v items views kept at live some_left =
      let t = is_open items views id v live at kept in let k = t.2 in
      omega (arith, some_left, part_le budget_part views id v at, k.room, (k.fits id v at).sized live)

  -- a letter is popped by the pass that takes
  taken_open : (items : List M) (views : List (View M)) (id : ℕ) (v : View M) (x : M) (gone : List M) (capacity : ℕ) → v.takes ≡ true → get_elem? views id ≡ some v → IsOpen from (x ∷ items) views gone capacity
      → IsOpen from items (set views id (record v { taken = v.taken ++ x ∷ [] })) (gone ++ x ∷ []) capacity
  taken_open items views id v x gone capacity takes at k =
      let w : View M = record v { taken = v.taken ++ x ∷ [] } in let f = k.fits id v at in
      let same : (gone ++ x ∷ []) ++ items ≡ gone ++ (x ∷ items) = append_assoc gone (x ∷ []) items in record {
        fits = each_set_else (Fits from ((gone ++ x ∷ []) ++ items) (gone ++ x ∷ []) capacity) views id w
            record {
              made = f.made;
              sized = f.sized;
              sent = λ s some_held. f.sent s some_held ∙ ap (letters_of from s) (sym same);
              sent_none = f.sent_none;
              given = f.given;
              taken = λ e. ap (λ l. l ++ x ∷ []) (f.taken takes);
              taken_none = λ e. absurd (true≢false (sym takes ∙ e));
            }
            (λ j u ne there. let g = k.fits j u there in record {
              made = g.made;
              sized = g.sized;
              sent = λ s some_held. g.sent s some_held ∙ ap (letters_of from s) (sym same);
              sent_none = g.sent_none;
              given = g.given;
              taken = λ e. absurd (omega (arith, two_le taker_part views j id u v ne there at, k.one_taker, is_one u.takes e, is_one v.takes takes));
              taken_none = g.taken_none;
            });
        known = λ s there. omega (arith, total_set (given_by s) views id v w at, k.known s (subst (λ (l : List M). 0 < length (letters_of from s l)) same there));
        held = λ s. omega (arith, total_set (held_by s) views id v w at, total_set (given_by s) views id v w at, k.held s);
        once = λ s. omega (arith, total_set (given_by s) views id v w at, k.once s);
        one_whole = omega (arith, total_set whole_part views id v w at, k.one_whole);
        one_taker = omega (arith, total_set taker_part views id v w at, k.one_taker);
        room = omega (arith, total_set budget_part views id v w at, k.room, length-append gone (x ∷ []));
      }

  pub takes : (id : ℕ) (v : View M) → v.live ≡ true → v.takes ≡ true → Pops (Keeps from) id v (Takes v)
  takes id v live may x items views kept at =
      let t = is_open (x ∷ items) views id v live at kept in let k = t.2 in let f = k.fits id v at in (
        record v { taken = v.taken ++ x ∷ [] },
        inr (t.0 ++ x ∷ [], t.1, taken_open items views id v x t.0 t.1 may at k),
        (refl, omega (arith, k.room, f.sized live, ap (λ (y : List M). length y) (f.taken may), length-append v.taken (x ∷ []))),
      )

  -- a pass counts that it found none
  pub empties : (id : ℕ) (v : View M) → v.live ≡ true → Forks (Keeps from) id v (one_more_empty v) spent
  empties id v live items views kept at =
      let t = is_open items views id v live at kept in let k = t.2 in let f = k.fits id v at in
      inr (
        t.0,
        t.1,
        split_open items views id v (one_more_empty v) spent t.0 t.1 (λ s. 0) at k
            record { made = f.made; sized = f.sized; sent = f.sent; sent_none = f.sent_none; given = f.given; taken = f.taken; taken_none = f.taken_none } (spent_fits (t.0 ++ items) t.0 t.1)
            (λ s. omega arith) (λ s. omega arith) (λ s. omega (arith, k.once s)) (omega arith) (omega arith) (omega arith),
      )

  only_whole : (items : List M) (views : List (View M)) (id : ℕ) (v : View M) (gone : List M) (capacity : ℕ) → get_elem? views id ≡ some v → IsOpen from items views gone capacity → v.is_whole ≡ true
      → (j : ℕ) (u : View M) → j ≢ id → get_elem? views j ≡ some u → u.is_whole ≡ false
  only_whole items views id v gone capacity at k is_whole j u ne there =
      not_one u.is_whole (omega (arith, two_le whole_part views j id u v ne there at, k.one_whole, is_one v.is_whole is_whole))

  -- the whole knows all numbers that were given out
  pub given_by_whole : (items : List M) (views : List (View M)) (id : ℕ) (v : View M) (gone : List M) (capacity s : ℕ) → get_elem? views id ≡ some v → IsOpen from items views gone capacity → v.is_whole ≡ true
      → sum_by (given_by s) views ≡ times s v.given
  given_by_whole items views id v gone capacity s at k is_whole =
      total_alone (given_by s) views id v at (λ j u ne there. ap (times s) ((k.fits j u there).given (only_whole items views id v gone capacity at k is_whole j u ne there)))

  new_fits : (n s : ℕ) (log : List M) → letters_of from n log ≡ [] → 0 < times s (n ∷ []) → letters_of from s [] ≡ letters_of from s log
  new_fits n s log none some_held = dite (ℕ_discrete n s) (λ e. subst (λ (y : ℕ). [] ≡ letters_of from y log) e (sym none)) (λ ne. absurd (let t = times_one s n in grind (arith, nat_tests)))

  -- the whole gives out a number
  pub cuts_sender : (n budget id : ℕ) (v : View M) → v.live ≡ true → v.is_whole ≡ true → times n v.given ≡ 0 → budget ≤ v.budget → Forks (Keeps from) id v (without_sender n budget v) (new_sender n budget v)
  cuts_sender n budget id v live is_whole new enough items views kept at =
      let t = is_open items views id v live at kept in let k = t.2 in let f = k.fits id v at in
      let none : sum_by (given_by n) views ≡ 0 = given_by_whole items views id v t.0 t.1 n at k is_whole ∙ new in
      let unheard : letters_of from n (t.0 ++ items) ≡ [] = none_there (letters_of from n (t.0 ++ items)) (λ there. absurd (omega (arith, none, k.known n there))) in
      inr (
        t.0,
        t.1,
        split_open items views id v (without_sender n budget v) (new_sender n budget v) t.0 t.1 (λ s. cond (eqb n s) 1 0) at k
            record { made = f.made; sized = f.sized; sent = f.sent; sent_none = f.sent_none; given = λ e. absurd (true≢false (sym is_whole ∙ e)); taken = f.taken; taken_none = f.taken_none }
            record {
              made = refl;
              sized = λ e. f.sized live;
              sent = λ s some_held. new_fits n s (t.0 ++ items) unheard some_held;
              sent_none = λ s none_held. refl;
              given = λ e. refl;
              taken = λ e. absurd (true≢false (sym e));
              taken_none = λ e. refl;
            }
            (λ s. omega (arith, times_push s v.given n)) (λ s. omega (arith, times_one s n))
            (λ s. dite (ℕ_discrete n s) (λ e. let g : sum_by (given_by s) views ≡ 0 = subst (λ (y : ℕ). sum_by (given_by y) views ≡ 0) e none in grind (arith, nat_tests)) (λ ne. let o = k.once s in grind (arith, nat_tests)))
            (omega arith) (omega arith) (omega (arith, enough)),
      )

  -- the whole gives out the taker
  pub cuts_taker : (id : ℕ) (v : View M) → v.live ≡ true → v.takes ≡ true → Forks (Keeps from) id v (without_taker v) (new_taker v)
  cuts_taker id v live may items views kept at =
      let t = is_open items views id v live at kept in let k = t.2 in let f = k.fits id v at in let one_here = is_one v.takes may in
      inr (
        t.0,
        t.1,
        split_open items views id v (without_taker v) (new_taker v) t.0 t.1 (λ s. 0) at k
            record { made = f.made; sized = f.sized; sent = f.sent; sent_none = f.sent_none; given = f.given; taken = λ e. absurd (true≢false (sym e)); taken_none = λ e. refl }
            record {
              made = refl;
              sized = λ e. f.sized live;
              sent = λ s some_held. absurd (omega arith);
              sent_none = λ s none. refl;
              given = λ e. refl;
              taken = λ e. f.taken may;
              taken_none = λ e. absurd (true≢false e);
            }
            (λ s. omega arith) (λ s. omega arith) (λ s. omega (arith, k.once s)) (omega arith) (omega arith) (omega arith),
      )

  -- the other pass was there before the whole changed
  was_there : (views : List (View M)) (id other : ℕ) (both u : View M) → other ≢ id → get_elem? (set views id both) other ≡ some u → get_elem? views other ≡ some u
  was_there views id other both u two at_rest = ⊎_elim (λ t. absurd (two t.0)) (λ t. t.1) (at_set views id other both u at_rest)

  -- the whole takes in a sender
  pub gathers_sender : (id : ℕ) (v : View M) (other : ℕ) (u : View M) → v.live ≡ true → u.is_whole ≡ false → u.takes ≡ false → Merges (Keeps from) id v other u (with_sender v u) spent
  gathers_sender id v other u live part none_here items views kept at two at_rest =
      let t = is_open items views id v live at kept in let k = t.2 in let f = k.fits id v at in let both : View M = with_sender v u in
      let was = was_there views id other both u two at_rest in let g = k.fits other u was in
      inr (
        t.0,
        t.1,
        join_open items views id v other u both t.0 t.1 at at_rest k
            record {
              made = f.made;
              sized = f.sized;
              sent = λ s some_held. letters_append from s v.sent u.sent ∙ dite (ℕ_discrete (times s v.held) 0)
                  (λ none. ap (λ l. l ++ letters_of from s u.sent) (f.sent_none s none) ∙ g.sent s (omega (arith, some_held, none, times_append s v.held u.held)))
                  (λ some_here. let le = two_le (held_by s) views other id u v two was at in let o = k.once s in let h = k.held s in
                  ap (λ l. letters_of from s v.sent ++ l) (g.sent_none s (omega arith)) ∙ append-nil (letters_of from s v.sent) ∙ f.sent s (omega arith));
              sent_none = λ s none. let a = times_append s v.held u.held in
                  letters_append from s v.sent u.sent ∙ ap (λ l. l ++ letters_of from s u.sent) (f.sent_none s (omega arith)) ∙ g.sent_none s (omega arith);
              given = f.given;
              taken = f.taken;
              taken_none = f.taken_none;
            }
            (λ s. rw (g.given part) (omega arith)) (λ s. times_append s v.held u.held) (rw part (omega arith)) (rw none_here (omega arith)) refl,
      )

  -- the whole takes in the taker
  pub gathers_taker : (id : ℕ) (v : View M) (other : ℕ) (u : View M) → v.live ≡ true → u.is_whole ≡ false → u.takes ≡ true → u.held ≡ [] → u.budget ≡ 0 → Merges (Keeps from) id v other u (with_taker v u) spent
  gathers_taker id v other u live part may none no_budget items views kept at two at_rest =
      let t = is_open items views id v live at kept in let k = t.2 in let f = k.fits id v at in let both : View M = with_taker v u in
      let was = was_there views id other both u two at_rest in let g = k.fits other u was in
      let not_here : v.takes ≡ false = not_one v.takes (omega (arith, two_le taker_part views other id u v two was at, k.one_taker, is_one u.takes may)) in
      inr (
        t.0,
        t.1,
        join_open items views id v other u both t.0 t.1 at at_rest k
            record { made = f.made; sized = f.sized; sent = f.sent; sent_none = f.sent_none; given = f.given; taken = λ e. g.taken may; taken_none = λ e. absurd (true≢false e) }
            (λ s. rw (g.given part) (omega arith)) (λ s. rw none (omega arith)) (rw part (omega arith)) (rw (not_here, may) (omega arith)) (rw no_budget (omega arith)),
      )
