-- Each step keeps the rule, and tells what it says.
use Rattle.std.proofs.Common.{◌≡◌, ◌≢◌, ℕ, ◌+◌, ◌-◌, ◌%◌, ◌^◌, ◌<◌, ◌≤◌, max, List, [], ◌∷◌, ◌++◌, set, slice_index, sym, refl, ap, subst, ⊎_elim, arith}
use Rattle.std.proofs.lemmas.List.Sums.{sum_by_push}
use Rattle.std.proofs.lemmas.Bool.Decides.{nat_tests}
use mathlib.Core.Option.{some, none}
use lib.ListN.{get_elem?}
use Rattle.atomic_table.specs.Table.{State, Me, keeps, step, Allows, Splits, Joins}
use Rattle.atomic_table.proofs.Lists.{at_set, set_again}
use Rattle.ticket_clock.specs.declared.rule.Known.{Known}
use Rattle.ticket_clock.specs.Seats.{times, HasNoneTwice}
use Rattle.ticket_clock.specs.Rule.{known, times_drawn, IsKept, Keeps, Draws, Looks, Tells}
use Rattle.ticket_clock.proofs.Totals.{total_set, part_le, total_zero, each_set, each_push, times_push, times_append}
use Rattle.ticket_clock.proofs.OneToLength.{one_to_length}

-- each ticket that the seat has drawn is at least 1 and below the word
abbrev DrewBelow : ℕ → Known → Type 0
DrewBelow word v = (x : ℕ) → 0 < times x v.drawn → (1 ≤ x) × (x < word)

-- the seat has not seen past the word
abbrev HasSeen : ℕ → Known → Type 0
HasSeen word v = v.seen ≤ word

-- the tickets of one seat differ
seat_once : (budget word : ℕ) (seats : List Known) (id : ℕ) (v : Known) → get_elem? seats id ≡ some v → IsKept budget word seats → HasNoneTwice v.drawn
seat_once budget word seats id v at k x = omega (arith, k.once x, part_le (λ (u : Known). times x u.drawn) seats id v at)

-- the word itself was never drawn
word_is_new : (budget word : ℕ) (seats : List Known) → IsKept budget word seats → times_drawn word seats ≡ 0
word_is_new budget word seats k = total_zero (λ (v : Known). times word v.drawn) seats (λ id v at. let below = k.drawn id v at word in grind arith)

kept_draw : (budget word : ℕ) (seats : List Known) (id : ℕ) (v : Known) → 1 ≤ v.left → get_elem? seats id ≡ some v → IsKept budget word seats
    → IsKept budget (word + 1) (set seats id (known (v.drawn ++ word ∷ []) (v.left - 1) (word + 1)))
kept_draw budget word seats id v some_left at k =
    let w : Known = known (v.drawn ++ word ∷ []) (v.left - 1) (word + 1) in record {
      begun = omega arith;
      drawn = each_set (DrewBelow (word + 1)) seats id w
          (λ x there. let t = times_push x v.drawn word in let below = k.drawn id v at x in let b = k.begun in grind (arith, nat_tests))
          (λ j u at_u x there. let below = k.drawn j u at_u x there in (below.0, omega arith));
      once = λ x.
          let total = total_set (λ (u : Known). times x u.drawn) seats id v w at in
          let t = times_push x v.drawn word in
          let most = k.once x in
          let new = word_is_new budget word seats k in
          grind (arith, nat_tests);
      seen = each_set (HasSeen (word + 1)) seats id w (omega arith) (λ j u at_u. omega (arith, k.seen j u at_u));
      counted = omega (arith, total_set (λ (u : Known). u.left) seats id v w at, k.counted, k.begun);
    }

kept_look : (budget word : ℕ) (seats : List Known) (id : ℕ) (v : Known) → get_elem? seats id ≡ some v → IsKept budget word seats
    → IsKept budget word (set seats id (known v.drawn v.left word))
kept_look budget word seats id v at k =
    let w : Known = known v.drawn v.left word in record {
      begun = k.begun;
      drawn = each_set (DrewBelow word) seats id w (k.drawn id v at) k.drawn;
      once = λ x. omega (arith, total_set (λ (u : Known). times x u.drawn) seats id v w at, k.once x);
      seen = each_set (HasSeen word) seats id w (omega arith) k.seen;
      counted = omega (arith, total_set (λ (u : Known). u.left) seats id v w at, k.counted);
    }

kept_split : (n budget word : ℕ) (seats : List Known) (id : ℕ) (v : Known) → n ≤ v.left → get_elem? seats id ≡ some v → IsKept budget word seats
    → IsKept budget word (set seats id (known v.drawn (v.left - n) v.seen) ++ known [] n v.seen ∷ [])
kept_split n budget word seats id v some_left at k =
    let old : Known = known v.drawn (v.left - n) v.seen in
    let new : Known = known [] n v.seen in
    let rest : List Known = set seats id old in record {
      begun = k.begun;
      drawn = each_push (DrewBelow word) rest new (λ x there. absurd (omega arith)) (each_set (DrewBelow word) seats id old (k.drawn id v at) k.drawn);
      once = λ x. omega (arith, total_set (λ (u : Known). times x u.drawn) seats id v old at, sum_by_push (λ (u : Known). times x u.drawn) rest new, k.once x);
      seen = each_push (HasSeen word) rest new (k.seen id v at) (each_set (HasSeen word) seats id old (k.seen id v at) k.seen);
      counted = omega (arith, total_set (λ (u : Known). u.left) seats id v old at, sum_by_push (λ (u : Known). u.left) rest new, k.counted);
    }

-- what the seat knows that took in another
abbrev joined : Known → Known → Known
joined v w = known (v.drawn ++ w.drawn) (v.left + w.left) (max v.seen w.seen)

kept_join : (budget word : ℕ) (seats : List Known) (id : ℕ) (v : Known) (other : ℕ) (w : Known) → get_elem? seats id ≡ some v → other ≢ id
    → get_elem? (set seats id (joined v w)) other ≡ some w → IsKept budget word seats → IsKept budget word (set (set seats id (joined v w)) other (known [] 0 0))
kept_join budget word seats id v other w at two at_rest k =
    let both : Known = joined v w in
    let spent : Known = known [] 0 0 in
    let rest : List Known = set seats id both in
    let at_other : get_elem? seats other ≡ some w = ⊎_elim (λ t. absurd (two t.0)) (λ t. t.1) (at_set seats id other both w at_rest) in record {
      begun = k.begun;
      drawn = each_set (DrewBelow word) rest other spent (λ x there. absurd (omega arith))
          (each_set (DrewBelow word) seats id both
          (λ x there. let t = times_append x v.drawn w.drawn in let a = k.drawn id v at x in let b = k.drawn other w at_other x in grind arith) k.drawn);
      once = λ x. omega (
        arith,
        total_set (λ (u : Known). times x u.drawn) seats id v both at,
        total_set (λ (u : Known). times x u.drawn) rest other w spent at_rest,
        times_append x v.drawn w.drawn,
        k.once x,
      );
      seen = each_set (HasSeen word) rest other spent (omega arith) (each_set (HasSeen word) seats id both (let a = k.seen id v at in let b = k.seen other w at_other in omega arith) k.seen);
      counted = omega (arith, total_set (λ (u : Known). u.left) seats id v both at, total_set (λ (u : Known). u.left) rest other w spent at_rest, k.counted);
    }

-- the one word is the number that a step finds
found_is : (s : State Unit Known) (word : ℕ) → s.words ≡ word ∷ [] → slice_index s.words 0 ≡ word
found_is s word words = ap (λ ws. slice_index ws 0) words

pub draws : (budget slots id : ℕ) (me : Me Unit Known) → budget < 2 ^ 62 → 1 ≤ me.0.left
    → Allows (Keeps budget) slots id me 0 (λ n. (n + 1) % 2 ^ 64) (Draws (step slots 0 1 0 none) me)
draws budget slots id me short some_left s (word, words, k) len at fits =
    let found = found_is s word words in
    let more = part_le (λ (v : Known). v.left) s.views id me.0 at in
    let counted = k.counted in
    let begun = k.begun in
    let next : (slice_index s.words 0 + 1) % 2 ^ 64 ≡ word + 1 = omega arith in (
      known (me.0.drawn ++ slice_index s.words 0 ∷ []) (me.0.left - 1) (slice_index s.words 0 + 1),
      keeps,
      tt,
      (word + 1, rw next (ap (λ ws. set ws 0 (word + 1)) words), rw found (kept_draw budget word s.views id me.0 some_left at k)),
      (omega arith, omega (arith, k.seen id me.0 at), refl),
    )

pub looks : (budget slots id : ℕ) (me : Me Unit Known) → Allows (Keeps budget) slots id me 0 (λ n. n) (Looks budget (step slots 0 0 0 none) me)
looks budget slots id me s (word, words, k) len at fits =
    let found = found_is s word words in
    let once = seat_once budget word s.views id me.0 at k in
    let more = part_le (λ (v : Known). v.left) s.views id me.0 at in
    let counted = k.counted in (
      known me.0.drawn me.0.left (slice_index s.words 0),
      keeps,
      tt,
      (word, rw found (ap (λ ws. set ws 0 word) words), rw found (kept_look budget word s.views id me.0 at k)),
      (
        omega (arith, k.seen id me.0 at),
        refl,
        once,
        λ all. rw found (one_to_length word me.0.drawn once (k.drawn id me.0 at) (omega arith) k.begun),
      ),
    )

pub tells : (budget slots id : ℕ) (me : Me Unit Known) → Allows (Keeps budget) slots id me 0 (λ n. n) (Tells (step slots 0 0 0 none) me)
tells budget slots id me s (word, words, k) len at fits =
    let found = found_is s word words in (
      me.0,
      keeps,
      tt,
      (word, rw found (ap (λ ws. set ws 0 word) words), subst (IsKept budget word) (sym (set_again s.views id me.0 at)) k),
      (refl, seat_once budget word s.views id me.0 at k),
    )

pub splits : (n budget id : ℕ) (v : Known) → n ≤ v.left → Splits (Keeps budget) id v (known v.drawn (v.left - n) v.seen) (known [] n v.seen)
splits n budget id v some_left s (word, words, k) at = (word, words, kept_split n budget word s.views id v some_left at k)

pub joins : (budget id : ℕ) (v : Known) (other : ℕ) (w : Known) → Joins (Keeps budget) id v other w (joined v w) (known [] 0 0)
joins budget id v other w s (word, words, k) at two at_rest = (word, words, kept_join budget word s.views id v other w at two at_rest k)
