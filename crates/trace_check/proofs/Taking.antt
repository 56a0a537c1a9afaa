-- Replies that stand in the journals.
use Rattle.std.proofs.Common.{◌≡◌, ◌⊎◌, ℕ, zero, suc, ◌+◌, ◌<◌, Bool, true, false, cond, ◌||◌, List, [], ◌∷◌, ◌++◌, length, map, take, get_or, refl, sym, ◌∙◌, ap, ap₂, inl, inr, subst, eq-eqb, eqb, arith}
use Rattle.std.specs.List.{list_any, IsDistinct}
use Rattle.std.specs.Cmp.{nat_eq_equiv}
use Rattle.std.proofs.lemmas.Map.Keys.{IsDistinct-push}
use Rattle.std.proofs.lemmas.List.{map_more, length-take, get_or-take}
use Rattle.std.proofs.lemmas.List.Folds.{Any-from_list_any}
use Rattle.std.specs.Prelude.{◌==◌, Contains, Some, find, flat_map}
use Rattle.std.proofs.lemmas.Bool.{both_ways, eqb-true}
use Rattle.std.proofs.lemmas.Option.{same_Some, slice_get-get_or}
use Rattle.stale_model.specs.declared.store.JournalEntry.{JournalEntry}
use Rattle.stale_model.specs.declared.store.Took.{Took}
use Rattle.stale_model.specs.declared.store.Entry.{Entry}
use Rattle.stale_model.specs.Orders.{StandsAt, IsWithoutRepeats}
use Rattle.stale_model.specs.RecordedRuns.{journal_of, tickets_of, IsReplyTo}
use Rattle.stale_model.proofs.Sorted.{first_or_later, contains_later, no_repeats_tail, one_by_number, flips}
use Rattle.stale_model.proofs.Places.{stands_mapped}
use Rattle.stale_model.proofs.Members.{empty_has_none, contains_first}
use Rattle.trace_check.specs.TakingSteps.{AreServedOnce, IsAnswer}

-- a list without repeats is so in its front
stands_in_front : {X : Type 0} (xs ys : List X) (i : ℕ) (x : X) → StandsAt xs i x → StandsAt (xs ++ ys) i x
stands_in_front [] ys i x at = absurd (cc at)
stands_in_front (y ∷ xs) ys zero x at = at
stands_in_front (y ∷ xs) ys (suc i) x at = stands_in_front xs ys i x at

front_once : {X : Type 0} (xs ys : List X) → IsWithoutRepeats (xs ++ ys) → IsWithoutRepeats xs
front_once xs ys once i j x p q = once i j x (stands_in_front xs ys i x p) (stands_in_front xs ys j x q)

-- and behind it
rest_once : {X : Type 0} (xs ys : List X) → IsWithoutRepeats (xs ++ ys) → IsWithoutRepeats ys
rest_once [] ys once = once
rest_once (x ∷ xs) ys once = rest_once xs ys (no_repeats_tail x (xs ++ ys) once)

serves_once : (journals : List (List JournalEntry)) → IsWithoutRepeats (flat_map (λ js. map (λ j. j.reply.serve) js) journals) → AreServedOnce journals
serves_once [] once replica = λ i j x p q. absurd (cc p)
serves_once (js ∷ journals) once zero = front_once (map (λ j. j.reply.serve) js) (flat_map (λ js. map (λ j. j.reply.serve) js) journals) once
serves_once (js ∷ journals) once (suc replica) =
    serves_once journals (rest_once (map (λ j. j.reply.serve) js) (flat_map (λ js. map (λ j. j.reply.serve) js) journals) once) replica

-- where no ticket stands twice, none is served twice in a journal
pub served_once : (entries : List Entry) (journals : List (List JournalEntry)) → IsWithoutRepeats (tickets_of entries journals) → AreServedOnce journals
served_once entries journals once =
    serves_once journals (rest_once (flat_map (λ e. e.start ∷ e.finish ∷ []) entries) (flat_map (λ js. map (λ j. j.reply.serve) js) journals) once)

module _ (ticket : ℕ) where
  found_by : (b : Bool) (i : JournalEntry) (js : List JournalEntry) (j : JournalEntry) → (i.reply.serve == ticket) ≡ b
      → (find (λ x. x.reply.serve == ticket) js ≡ Some j → Contains js j × (j.reply.serve ≡ ticket))
      → cond b (Some i) (find (λ x. x.reply.serve == ticket) js) ≡ Some j → Contains (i ∷ js) j × (j.reply.serve ≡ ticket)
  found_by true i js j is rest found =
      subst (λ (x : JournalEntry). Contains (i ∷ js) x × (x.reply.serve ≡ ticket)) (same_Some i j found) (contains_first i js, eqb-true i.reply.serve ticket is)
  found_by false i js j is rest found = let (there, serve) = rest found in (contains_later i j js there, serve)

  -- what is found at a ticket is of the journal, and was served there
  pub found_there : (js : List JournalEntry) (j : JournalEntry) → find (λ x. x.reply.serve == ticket) js ≡ Some j → Contains js j × (j.reply.serve ≡ ticket)
  found_there [] j found = absurd (cc found)
  found_there (i ∷ js) j found = found_by (i.reply.serve == ticket) i js j refl (found_there js j) found

  first_by : (b : Bool) (i : JournalEntry) (js : List JournalEntry) (j : JournalEntry) → (i.reply.serve == ticket) ≡ b → j.reply.serve ≡ ticket → (b ≡ true → i ≡ j)
      → (i ≡ j) ⊎ (find (λ x. x.reply.serve == ticket) js ≡ Some j) → cond b (Some i) (find (λ x. x.reply.serve == ticket) js) ≡ Some j
  first_by true i js j is serve same where_it_is = ap Some (same refl)
  first_by false i js j is serve same (inl here) = absurd (both_ways (i.reply.serve == ticket) is (eq-eqb i.reply.serve ticket (ap (λ (x : JournalEntry). x.reply.serve) here ∙ serve)))
  first_by false i js j is serve same (inr later) = later

  -- where no ticket stands twice, what was served at a ticket is found there
  pub found_once : (js : List JournalEntry) (j : JournalEntry) → IsWithoutRepeats (map (λ x. x.reply.serve) js) → Contains js j → j.reply.serve ≡ ticket
      → find (λ x. x.reply.serve == ticket) js ≡ Some j
  found_once [] j once c serve = absurd (empty_has_none j c)
  found_once (i ∷ js) j once c serve =
      first_by (i.reply.serve == ticket) i js j refl serve
      (λ same. one_by_number (λ (x : JournalEntry). x.reply.serve) (i ∷ js) i j once (contains_first i js) c (eqb-true i.reply.serve ticket same ∙ sym serve))
      (elim (first_or_later i j js c) [
        | inl here ↦ inl here
        | inr later ↦ inr (found_once js j (no_repeats_tail i.reply.serve (map (λ (x : JournalEntry). x.reply.serve) js) once) later serve)
      ])

module _ (journals : List (List JournalEntry)) (e : Entry) (t : Took) where
  -- the entry that is found answers the call: it is the reply
  pub reply_found : (j : JournalEntry) → find (λ x. x.reply.serve == t.serve) (journal_of journals t.replica) ≡ Some j → IsAnswer e t j → IsReplyTo journals e t
  reply_found j found answer = record {
    entry = j;
    there = (found_there t.serve (journal_of journals t.replica) j found).0;
    plain = answer.plain;
    client = answer.client;
    seq = answer.seq;
    same = answer.same;
    after_start = answer.after_start;
    before_finish = answer.before_finish;
  }

  -- and the reply is what is found
  pub reply_is_found : AreServedOnce journals → (r : IsReplyTo journals e t) → find (λ x. x.reply.serve == t.serve) (journal_of journals t.replica) ≡ Some r.entry
  reply_is_found once r = found_once t.serve (journal_of journals t.replica) r.entry (once t.replica) r.there (ap (λ (x : Took). x.serve) (sym r.same))

  pub reply_answers : (r : IsReplyTo journals e t) → IsAnswer e t r.entry
  reply_answers r = record {
    plain = r.plain;
    client = r.client;
    seq = r.seq;
    same = r.same;
    after_start = r.after_start;
    before_finish = r.before_finish;
  }

any_flipped : (replica : ℕ) (ts : List Took) → list_any (eqb replica) (map (λ t. t.replica) ts) ≡ list_any (λ t. t.replica == replica) ts
any_flipped replica [] = refl
any_flipped replica (t ∷ ts) = ap₂ (λ (a b : Bool). a || b) (flips replica t.replica) (any_flipped replica ts)

module _ (ts : List Took) (n : ℕ) (t : Took) (within : n < length ts) (at : get_or ts n t ≡ t) where
  -- a reply of a replica of which none stands before it
  pub apart_more : IsDistinct eqb (map (λ t. t.replica) (take n ts)) → list_any (λ x. x.replica == t.replica) (take n ts) ≡ false → IsDistinct eqb (map (λ t. t.replica) (take (n + 1) ts))
  apart_more once new =
      let more : map (λ x. x.replica) (take (n + 1) ts) ≡ map (λ x. x.replica) (take n ts) ++ t.replica ∷ [] =
      map_more (λ (x : Took). x.replica) ts n t within ∙ ap (λ (x : Took). map (λ x. x.replica) (take n ts) ++ x.replica ∷ []) at
      in
      subst (λ (rs : List ℕ). IsDistinct eqb rs) (sym more)
      (IsDistinct-push nat_eq_equiv (map (λ x. x.replica) (take n ts)) t.replica once (any_flipped t.replica (take n ts) ∙ new))

  -- a reply of a replica of which one stands before it
  pub not_apart : list_any (λ x. x.replica == t.replica) (take n ts) ≡ true → IsWithoutRepeats (map (λ t. t.replica) ts) → ⊥
  not_apart there once =
      let (k, x, low, is, same) = Any-from_list_any (λ (y : Took). y.replica == t.replica) (take n ts) there in
      let long = length-take n ts in
      let before : k < n = omega arith in
      let earlier : get_or ts k x ≡ x = sym (get_or-take n ts k x before) ∙ is in
      let first : StandsAt ts k x = slice_get-get_or ts k x (omega arith) ∙ ap Some earlier in
      let second : StandsAt ts n t = slice_get-get_or ts n t within ∙ ap Some at in
      let one : k ≡ n =
      once k n t.replica (stands_mapped (λ (y : Took). y.replica) ts k x first ∙ ap Some (eqb-true x.replica t.replica same)) (stands_mapped (λ (y : Took). y.replica) ts n t second) in
      omega arith
