-- A journal with one more entry, and what is held after it.
use Rattle.std.proofs.Common.{◌≡◌, ℕ, cond, ◌&&◌, List, [], ◌∷◌, ◌++◌, length, get_or, refl, sym, ◌∙◌, ap, inl, inr, subst, arith}
use Rattle.std.specs.Prelude.{◌==◌, Some}
use Rattle.std.proofs.lemmas.Bool.{cases_lt}
use Rattle.std.proofs.lemmas.List.{get_or_append_left, get_or_push, length_push, take-append-le, take_at}
use Rattle.std.proofs.lemmas.Option.{slice_get_within, slice_get-get_or, get_or_from_slice_get}
use Rattle.stale_model.specs.declared.store.JournalEntry.{JournalEntry}
use Rattle.stale_model.specs.Journals.{Pair, nothing, changes, pair_of, newer, held_after, held, IsServed, IsJournal}

-- an entry that may be kept after a journal makes it a longer one
pub journal_grows : (replica : ℕ) (js : List JournalEntry) (j : JournalEntry) → IsJournal replica js → IsServed replica js j → IsJournal replica (js ++ j ∷ [])
journal_grows replica js j journal served k i at = elim (cases_lt k (length js)) [
  | inl low ↦
      let is : get_or js k i ≡ i = sym (get_or_append_left js (j ∷ []) i k low) ∙ get_or_from_slice_get (js ++ j ∷ []) k i i at in
      subst (λ (earlier : List JournalEntry). IsServed replica earlier i) (sym (take-append-le k js (j ∷ []) (omega arith)))
      (journal k i (slice_get-get_or js k i low ∙ ap Some is))
  | inr high ↦
      let within = slice_get_within (js ++ j ∷ []) k i at in
      let long = length_push js j in
      let last : length js ≡ k = omega arith in
      let is : j ≡ i = sym (get_or_push js j i k last) ∙ get_or_from_slice_get (js ++ j ∷ []) k i i at in
      subst (λ (earlier : List JournalEntry). IsServed replica earlier i) (sym (take_at js (j ∷ []) k last)) (subst (λ (e : JournalEntry). IsServed replica js e) is served)
]

-- no entries are a journal
pub empty_journal : (replica : ℕ) → IsJournal replica []
empty_journal replica k j at = absurd (let within = slice_get_within [] k j at in omega arith)

-- what is held after one more entry, from what was held before it
held_after-push : (pair : Pair) (key : ℕ) (js : List JournalEntry) (j : JournalEntry) → held_after pair key (js ++ j ∷ []) ≡ held_after (held_after pair key js) key (j ∷ [])
held_after-push pair key [] j = refl
held_after-push pair key (i ∷ js) j = held_after-push (cond ((i.request.key == key) && changes i.request.ask) (newer pair (pair_of i)) pair) key js j

-- where this is held after the entries, and that after one more, it is held after them all
pub held_grows : (key : ℕ) (js : List JournalEntry) (j : JournalEntry) (before after : Pair) → before ≡ held key js → after ≡ held_after before key (j ∷ []) → after ≡ held key (js ++ j ∷ [])
held_grows key js j before after is next = next ∙ (ap (λ (p : Pair). held_after p key (j ∷ [])) is ∙ sym (held_after-push nothing key js j))
