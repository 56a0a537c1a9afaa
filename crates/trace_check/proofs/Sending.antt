-- What clients have yet to send to a replica, and what its journal has of them.
use Rattle.std.proofs.Common.{◌≡◌, ℕ, ◌+◌, ◌<◌, List, [], ◌∷◌, ◌++◌, length, get_or, map, take, drop, replicate, refl, sym, ◌∙◌, ap, inl, inr, subst, arith, append_assoc, eq-eqb, get_or-set_same, get_or-set_other, take-append-drop}
use Rattle.std.specs.Prelude.{◌==◌, flat_map, true, false, slice_set}
use Rattle.std.specs.List.{range_with_len}
use Rattle.std.proofs.lemmas.Bool.{cases_eq, ne_eqb}
use Rattle.std.proofs.lemmas.List.{map-append, append-nil, append_cancel_left, drop_more, get_or-replicate, take_more}
use Rattle.std.proofs.lemmas.List.Elements.{filter-append}
use Rattle.std.proofs.lemmas.List.FromFn.{get_or-map-range_with_len}
use Rattle.stale_model.specs.declared.store.Request.{Request}
use Rattle.stale_model.specs.declared.store.JournalEntry.{JournalEntry}
use Rattle.stale_model.specs.declared.store.Entry.{Entry}
use Rattle.stale_model.specs.Calls.{sent_to}
use Rattle.stale_model.specs.RecordedRuns.{entries_of, served_for, requests_of}
use Rattle.trace_check.specs.declared.judging.sent.Due.{Due}
use Rattle.trace_check.specs.SendingSteps.{due_requests, calls_in, all_due, due_of, asked_by, IsTakenFrom, IsNextOf, AreFirstOf, HasAllSent}

-- what two journals have of a client, one after the other
asked-append : (client : ℕ) (xs ys : List JournalEntry) → asked_by client (xs ++ ys) ≡ asked_by client xs ++ asked_by client ys
asked-append client xs ys =
    ap requests_of (filter-append (λ (j : JournalEntry). j.request.client == client) xs ys)
    ∙ map-append (λ (j : JournalEntry). j.request) (served_for client xs) (served_for client ys)

-- an entry is of its client
asked_here : (j : JournalEntry) (js : List JournalEntry) → asked_by j.request.client (j ∷ js) ≡ j.request ∷ asked_by j.request.client js
asked_here j js = rw (eq-eqb j.request.client j.request.client refl) refl

asked_elsewhere : (client : ℕ) (j : JournalEntry) → (client ≡ j.request.client → ⊥) → asked_by client (j ∷ []) ≡ []
asked_elsewhere client j apart = rw (ne_eqb j.request.client client (λ e. apart (sym e))) refl

module _ (js : List JournalEntry) (n : ℕ) (j : JournalEntry) (within : n < length js) (at : get_or js n j ≡ j) where
  here : drop n js ≡ j ∷ drop (n + 1) js
  here = drop_more js n j within ∙ ap (λ (i : JournalEntry). i ∷ drop (n + 1) js) at

  one_more : take (n + 1) js ≡ take n js ++ j ∷ []
  one_more = take_more js n j within ∙ ap (λ (i : JournalEntry). take n js ++ i ∷ []) at

  asked_through : asked_by j.request.client js ≡ asked_by j.request.client (take n js) ++ (j.request ∷ asked_by j.request.client (drop (n + 1) js))
  asked_through =
      ap (asked_by j.request.client) (sym (take-append-drop n js))
      ∙ (asked-append j.request.client (take n js) (drop n js)
      ∙ ap (λ (qs : List Request). asked_by j.request.client (take n js) ++ qs) (ap (asked_by j.request.client) here ∙ asked_here j (drop (n + 1) js)))

  module _ (replica : ℕ) (calls : List (List Entry)) (before now : List Due) (so_far : AreFirstOf replica calls before now (take n js) true) where
    -- one more entry, whose request is the next of its client
    pub first_more : (after : List Due) → IsTakenFrom replica calls now after j.request → AreFirstOf replica calls before after (take (n + 1) js) true
    first_more after taken client less = elim (cases_eq client j.request.client) [
      | inl same ↦
          let more : asked_by client (take (n + 1) js) ≡ asked_by client (take n js) ++ (j.request ∷ []) =
          ap (asked_by client) one_more
          ∙ (asked-append client (take n js) (j ∷ [])
          ∙ ap (λ (qs : List Request). asked_by client (take n js) ++ qs) (subst (λ (k : ℕ). asked_by k (j ∷ []) ≡ j.request ∷ []) (sym same) (asked_here j [])))
          in
          let next : due_of replica calls now client ≡ j.request ∷ due_of replica calls after client = subst (λ (k : ℕ). due_of replica calls now k ≡ j.request ∷ due_of replica calls after k) (sym same) taken.next in
          so_far client less
          ∙ (ap (λ (qs : List Request). asked_by client (take n js) ++ qs) next
          ∙ (sym (append_assoc (asked_by client (take n js)) (j.request ∷ []) (due_of replica calls after client))
          ∙ ap (λ (qs : List Request). qs ++ due_of replica calls after client) (sym more)))
      | inr apart ↦
          let more : asked_by client (take (n + 1) js) ≡ asked_by client (take n js) =
          ap (asked_by client) one_more
          ∙ (asked-append client (take n js) (j ∷ [])
          ∙ (ap (λ (qs : List Request). asked_by client (take n js) ++ qs) (asked_elsewhere client j apart) ∙ append-nil (asked_by client (take n js))))
          in
          so_far client less
          ∙ (ap (λ (qs : List Request). asked_by client (take n js) ++ qs) (sym (taken.others client apart))
          ∙ ap (λ (qs : List Request). qs ++ due_of replica calls after client) (sym more))
    ]

    -- one more entry, whose request is not the next of its client
    pub first_fails : (after later : List Due) → j.request.client < length calls → IsNextOf replica calls now after j.request false → AreFirstOf replica calls before later js false
    first_fails after later less fails all =
        let client = j.request.client in
        fails (asked_by client (drop (n + 1) js))
        (append_cancel_left (asked_by client (take n js)) (due_of replica calls now client) (j.request ∷ asked_by client (drop (n + 1) js))
        (sym (so_far client less) ∙ (sym (all client less) ∙ asked_through)))

module _ (replica : ℕ) (calls : List (List Entry)) (due : List Due) where
  -- the next request of a client, which then is due no longer
  pub next_taken : (q : Request) (after : Due) → q.client < length due → due_of replica calls due q.client ≡ q ∷ due_requests replica (calls_in calls q.client) after
      → IsTakenFrom replica calls due (slice_set due q.client after) q
  next_taken q after less next = record {
    next = next ∙ ap (λ (d : Due). q ∷ due_requests replica (calls_in calls q.client) d) (sym (get_or-set_same due q.client after all_due less));
    others = λ client apart. ap (λ (d : Due). due_requests replica (calls_in calls client) d) (get_or-set_other due q.client client after all_due apart);
  }

  -- where all calls were due, and nothing is any more, all was sent
  pub all_sent : (before : List Due) (js : List JournalEntry) → ((client : ℕ) → client < length calls → due_of replica calls before client ≡ flat_map (sent_to replica) (calls_in calls client))
      → AreFirstOf replica calls before due js true → ((client : ℕ) → client < length calls → due_of replica calls due client ≡ []) → HasAllSent replica calls js
  all_sent before js all first none client less =
      sym (sym (all client less) ∙ (first client less ∙ (ap (λ (qs : List Request). asked_by client js ++ qs) (none client less) ∙ append-nil (asked_by client js))))

  -- and where all was sent, nothing is
  pub none_due : (before : List Due) (js : List JournalEntry) → ((client : ℕ) → client < length calls → due_of replica calls before client ≡ flat_map (sent_to replica) (calls_in calls client))
      → AreFirstOf replica calls before due js true → HasAllSent replica calls js → (client : ℕ) → client < length calls → due_of replica calls due client ≡ []
  none_due before js all first sent client less =
      append_cancel_left (asked_by client js) (due_of replica calls due client) []
      (sym (first client less) ∙ (all client less ∙ (sym (sent client less) ∙ sym (append-nil (asked_by client js)))))

-- before anything is sent, all calls are due
pub all_due_at_first : (replica : ℕ) (calls : List (List Entry)) (due : List Due) → due ≡ replicate (length calls) all_due → (client : ℕ) → client < length calls
    → due_of replica calls due client ≡ flat_map (sent_to replica) (calls_in calls client)
all_due_at_first replica calls due is client less =
    ap (λ (d : Due). due_requests replica (calls_in calls client) d) (ap (λ (ds : List Due). get_or ds client all_due) is ∙ get_or-replicate (length calls) client all_due all_due less)

-- the calls by client are those of each client
pub calls_are : (clients : ℕ) (entries : List Entry) (calls : List (List Entry)) → calls ≡ map (λ c. entries_of c entries) (range_with_len 0 clients) → (client : ℕ) → client < clients
    → calls_in calls client ≡ entries_of client entries
calls_are clients entries calls is client less =
    ap (λ (cs : List (List Entry)). calls_in cs client) is ∙ get_or-map-range_with_len (λ c. entries_of c entries) 0 clients client client [] less (omega arith)
