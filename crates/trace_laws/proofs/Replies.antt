-- The replies that a call took, found by their tickets.
use Rattle.std.proofs.Common.{◌≡◌, ◌<◌, ◌+◌, ◌-◌, ◌==◌, ℕ, Bool, true, false, cond, List, [], ◌∷◌, ◌++◌, map, length, drop, replicate, Option, Some, None, refl, sym, ◌∙◌, ap, ap₂, inl, inr, arith, eq-eqb}
use Rattle.std.specs.Prelude.{All, Contains, find, unwrap_or, option_map}
use Rattle.std.proofs.lemmas.Bool.{both_ways, ne_eqb, eqb-true}
use Rattle.std.proofs.lemmas.List.{map-append, length-map, length-drop, length-replicate, get_or-drop, get_or-replicate, take-append-drop, ext_get_or}
use Rattle.std.proofs.lemmas.List.Elements.{All-head, All-tail, All-drop, All-replicate}
use Rattle.std.proofs.lemmas.List.Folds.{map_fixed}
use Rattle.stale_model.specs.declared.store.JournalEntry.{JournalEntry}
use Rattle.stale_model.specs.declared.store.Took.{Took}
use Rattle.stale_model.specs.declared.store.Entry.{Entry}
use Rattle.stale_model.specs.Calls.{no_took, took_of, taken_by}
use Rattle.stale_model.specs.Orders.{IsWithoutRepeats}
use Rattle.stale_model.proofs.Members.{empty_has_none, contains_first}
use Rattle.stale_model.proofs.Sorted.{first_or_later, contains_later, one_by_number}
use Rattle.trace_check.specs.Lines.{most_taken, alone, took_at}
use Rattle.trace_check.specs.Reading.{reply_at, with_replies}
use Rattle.trace_laws.proofs.CallLines.{with_tickets}

module _ {X : Type 0} (f : X → ℕ) where
  found_by : (b : Bool) (y x : X) (ys : List X) → (f y == f x) ≡ b → Contains (y ∷ ys) x → (b ≡ true → y ≡ x) → (Contains ys x → find (λ z. f z == f x) ys ≡ Some x)
      → cond b (Some y) (find (λ z. f z == f x) ys) ≡ Some x
  found_by true y x ys t c same rest = ap Some (same refl)
  found_by false y x ys t c same rest = elim (first_or_later y x ys c) [
    | inl is ↦ absurd (both_ways (f y == f x) t (eq-eqb (f y) (f x) (ap f is)))
    | inr later ↦ rest later
  ]

  -- what has the number alone is found by it
  find_alone : (ys : List X) (x : X) → Contains ys x → ((y : X) → Contains ys y → f y ≡ f x → y ≡ x) → find (λ z. f z == f x) ys ≡ Some x
  find_alone [] x c same = absurd (empty_has_none x c)
  find_alone (y ∷ ys) x c same =
      found_by (f y == f x) y x ys refl c (λ t. same y (contains_first y ys) (eqb-true (f y) (f x) t)) (λ later. find_alone ys x later (λ z there e. same z (contains_later y z ys there) e))

  -- where the numbers differ, each is found by its own
  pub find_by_number : (ys : List X) (x : X) → IsWithoutRepeats (map f ys) → Contains ys x → find (λ z. f z == f x) ys ≡ Some x
  find_by_number ys x once c = find_alone ys x c (λ y there e. one_by_number f ys y x once there c e)

  -- a number that none has finds none
  pub find_none : (ys : List X) (n : ℕ) → All (λ y. n < f y) ys → find (λ z. f z == n) ys ≡ None
  find_none [] n above = refl
  find_none (y ∷ ys) n above =
      let low = All-head (λ z. n < f z) y ys above in
      rw (ne_eqb (f y) n (λ e. omega arith)) (find_none ys n (All-tail (λ z. n < f z) y ys above))

module _ (lines : List JournalEntry) where
  -- the reply at a ticket that one line alone has
  pub reply_found : (j : JournalEntry) (t : Took) → IsWithoutRepeats (map (λ i. i.reply.serve) lines) → Contains lines j → t ≡ took_of j.reply → reply_at lines t.serve ≡ Some t
  reply_found j t once c same =
      ap (λ (x : Took). option_map (λ (i : JournalEntry). took_of i.reply) (find (λ (i : JournalEntry). i.reply.serve == x.serve) lines)) same
      ∙ ap (option_map (λ (i : JournalEntry). took_of i.reply)) (find_by_number (λ (i : JournalEntry). i.reply.serve) lines j once c)
      ∙ ap Some (sym same)

  -- there is none at 0
  none_at_zero : All (λ j. 0 < j.reply.serve) lines → reply_at lines 0 ≡ None
  none_at_zero above = ap (option_map (λ (i : JournalEntry). took_of i.reply)) (find_none (λ (i : JournalEntry). i.reply.serve) lines 0 above)

  taken_found : (ts : List Took) → All (λ t. reply_at lines t.serve ≡ Some t) ts → map (λ t. unwrap_or (reply_at lines t.serve) t) (map alone (map (λ t. t.serve) ts)) ≡ ts
  taken_found [] each = refl
  taken_found (t ∷ ts) each =
      let Found : Took → Type 0 = λ x. reply_at lines x.serve ≡ Some x in
      ap₂ (λ (u : Took) (us : List Took). u ∷ us) (ap (λ (o : Option Took). unwrap_or o (alone t.serve)) (All-head Found t ts each)) (taken_found ts (All-tail Found t ts each))

  others_stay : (zeros : List Took) → reply_at lines 0 ≡ None → All (λ t. t ≡ no_took) zeros → map (λ t. unwrap_or (reply_at lines t.serve) t) zeros ≡ zeros
  others_stay zeros none each =
      let again : Took → Took = λ t. unwrap_or (reply_at lines t.serve) t in
      let at_none : again no_took ≡ no_took = ap (λ (o : Option Took). unwrap_or o no_took) none in
      map_fixed again zeros (λ k d low. let is = each k d low in ap again is ∙ at_none ∙ sym is)

-- the places after those that count
others_are : (most count : ℕ) (took : List Took) → length took ≡ most → All (λ t. t ≡ no_took) (drop count took) → drop count (replicate most no_took) ≡ drop count took
others_are most count took long others =
    let zeros = replicate most no_took in
    let size : length zeros ≡ most = length-replicate most no_took in
    let first : length (drop count zeros) ≡ length zeros - count = length-drop count zeros in
    let second : length (drop count took) ≡ length took - count = length-drop count took in
    ext_get_or no_took (drop count zeros) (drop count took) (omega arith)
    (λ i low. get_or-drop count zeros i no_took ∙ get_or-replicate most (count + i) no_took no_took (omega arith) ∙ sym (others i no_took (omega arith)))

-- a call is found again from its tickets
pub call_found : (lines : List JournalEntry) (e : Entry) → All (λ j. 0 < j.reply.serve) lines → All (λ t. reply_at lines t.serve ≡ Some t) (taken_by e)
    → length (taken_by e) ≡ e.took_count → length e.took ≡ most_taken → All (λ t. t ≡ no_took) (drop e.took_count e.took) → with_replies lines (with_tickets e) ≡ e
call_found lines e above each many places others =
    let ts = taken_by e in
    let tickets = map (λ (t : Took). t.serve) ts in
    let zeros = replicate most_taken no_took in
    let again : Took → Took = λ t. unwrap_or (reply_at lines t.serve) t in
    let count : length tickets ≡ e.took_count = length-map ts (λ (t : Took). t.serve) ∙ many in
    let same : Took → Type 0 = λ t. t ≡ no_took in
    let rest : drop (length tickets) zeros ≡ drop e.took_count e.took = ap (λ n. drop n zeros) count ∙ others_are most_taken e.took_count e.took places others in
    let stay = others_stay lines (drop (length tickets) zeros) (none_at_zero lines above) (All-drop same (length tickets) zeros (All-replicate same most_taken no_took refl)) in
    let took : map again (took_at tickets) ≡ e.took =
    map-append again (map alone tickets) (drop (length tickets) zeros)
    ∙ ap₂ (λ (xs ys : List Took). xs ++ ys) (taken_found lines ts each) (stay ∙ rest)
    ∙ take-append-drop e.took_count e.took in
    λ i. record e { took = took i; took_count = count i }

-- and so are all calls
pub calls_found : (lines : List JournalEntry) (es : List Entry) → All (λ e. with_replies lines (with_tickets e) ≡ e) es → map (with_replies lines) (map with_tickets es) ≡ es
calls_found lines [] each = refl
calls_found lines (e ∷ es) each =
    let Found : Entry → Type 0 = λ x. with_replies lines (with_tickets x) ≡ x in
    ap₂ (λ (x : Entry) (xs : List Entry). x ∷ xs) (All-head Found e es each) (calls_found lines es (All-tail Found e es each))
