-- What a pass of a box learns from the rule.
use Rattle.std.proofs.Common.{◌≡◌, ℕ, ◌+◌, ◌<◌, ◌≤◌, true, List, [], ◌∷◌, ◌++◌, length, sym, refl, ap, ◌∙◌, subst, arith, length-append}
use Rattle.std.proofs.lemmas.List.{append-nil}
use Rattle.std.proofs.lemmas.Bool.Decides.{nat_tests}
use mathlib.Core.List.{IsPrefix}
use mathlib.Core.Logic.{dite}
use native.Mathlib.Decide.{ℕ_discrete}
use Rattle.crossbeam_queue.specs.Fifo.{Learns, Held}
use Rattle.ticket_clock.specs.Seats.{times}
use Rattle.ticket_clock.proofs.Totals.{part_le, times_append}
use Rattle.post_box.specs.declared.view.View.{View}
use Rattle.post_box.specs.Boxes.{letters_of}
use Rattle.post_box.specs.Views.{with_sender, with_taker}
use Rattle.post_box.specs.Rule.{held_by, Keeps, Tells}
use Rattle.post_box.proofs.Letters.{none_there, letters_append}
use Rattle.post_box.proofs.Steps.{is_open, given_by_whole}

module _ {M : Type 0} (from : M → ℕ) where
  pub tells : (id : ℕ) (v : View M) → v.live ≡ true → Learns (Keeps from) id v (Tells from v)
  tells id v live items views kept at =
      let t = is_open from items views id v live at kept in let k = t.2 in let f = k.fits id v at in (
        (λ l may. omega (arith, k.room, f.sized l, ap (λ (y : List M). length y) (f.taken may))),
        (λ may s some_held. f.sent s some_held ∙ letters_append from s t.0 items ∙ ap (λ l. letters_of from s l ++ letters_of from s items) (sym (f.taken may))),
        (λ may is_whole s there. omega (
          arith,
          there,
          given_by_whole from items views id v t.0 t.1 s at k is_whole,
          k.known s (omega (arith, there, ap (λ l. length (letters_of from s l)) (f.taken may), ap (λ (l : List M). length l) (letters_append from s t.0 items), length-append (letters_of from s t.0) (letters_of from s items))),
        )),
        f.sent_none,
        (λ s. omega (arith, part_le (held_by s) views id v at, k.once s, k.held s)),
      )

  -- what was taken of a sender is a beginning of what it sent
  pub prefix_of : (v u : View M) (items : List M) → u.held ≡ u.number ∷ [] → letters_of from u.number u.sent ≡ u.sent → ((s : ℕ) → times s v.held ≡ 0 → letters_of from s v.sent ≡ []) → v.takes ≡ true
      → Tells from (with_sender v u) items → IsPrefix (letters_of from u.number v.taken) u.sent
  prefix_of v u items mine all own may told =
      let n : ℕ = u.number in let a = times_append n v.held u.held in let m : times n u.held ≡ 1 = rw mine (grind (arith, nat_tests)) in let once = told.4 n in
      let e : letters_of from n (v.sent ++ u.sent) ≡ letters_of from n v.taken ++ letters_of from n items = told.1 may n (omega arith) in
      (letters_of from n items, sym e ∙ letters_append from n v.sent u.sent ∙ ap (λ l. l ++ letters_of from n u.sent) (own n (omega arith)) ∙ all)

  -- and so of each sender that is here then
  pub each_prefix_of : (v u : View M) (items : List M) → u.held ≡ u.number ∷ [] → v.takes ≡ true → Tells from (with_sender v u) items
      → (s : ℕ) → 0 < times s (v.held ++ u.number ∷ []) → IsPrefix (letters_of from s v.taken) (letters_of from s (v.sent ++ u.sent))
  each_prefix_of v u items mine may told s here = (letters_of from s items, sym (told.1 may s (subst (λ (l : List ℕ). 0 < times s (v.held ++ l)) (sym mine) here)))

  -- the same of each sender that was gathered before the taker
  pub prefixes_of : (v u : View M) (items : List M) → Tells from (with_taker v u) items → (s : ℕ) → 0 < times s v.held → IsPrefix (letters_of from s u.taken) (letters_of from s v.sent)
  prefixes_of v u items told s some_held = (letters_of from s items, sym (told.1 refl s some_held))

  -- where the box is empty, no more was taken than it has room for
  pub within_room : (v : View M) → v.live ≡ true → v.takes ≡ true → Held 0 (Tells from v) → Held 0 (λ (items : List M). length v.taken + length items ≤ v.capacity)
  within_room v live may told = (told.0, told.1, told.2.0 live may)

  -- and where all passes were gathered too, all that was sent was taken
  pub all_taken : (v : View M) → v.is_whole ≡ true → v.takes ≡ true → ((s : ℕ) → times s v.held ≡ times s v.given) → Held 0 (Tells from v) → (s : ℕ) → letters_of from s v.taken ≡ letters_of from s v.sent
  all_taken v is_whole may gathered held s =
      let told = held.2 in let none = none_there held.0 (λ some_items. absurd (omega (arith, some_items, held.1))) in dite (ℕ_discrete (times s v.held) 0)
      (λ z. none_there (letters_of from s v.taken) (λ there. absurd (omega (arith, z, gathered s, told.2 may is_whole s there))) ∙ sym (told.3 s z))
      (λ nz. sym (told.1 may s (omega arith) ∙ ap (λ l. letters_of from s v.taken ++ letters_of from s l) none ∙ append-nil (letters_of from s v.taken)))
