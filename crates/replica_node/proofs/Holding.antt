-- What a replica holds of each key, after one more entry.
use Rattle.std.proofs.Common.{◌≡◌, ℕ, replicate, ◌<◌, ◌≤◌, true, false, List, [], ◌∷◌, length, refl, sym, ◌∙◌, ap, inl, inr, get_or, arith, get_or-set_same, get_or-set_other, eq-eqb}
use Rattle.std.specs.Prelude.{slice_set}
use Rattle.std.proofs.lemmas.Bool.{cases_eq, ne_eqb, lt-ltb, le-ltb}
use Rattle.std.proofs.lemmas.List.{get_or_default, get_or-replicate}
use Rattle.stale_model.specs.declared.store.JournalEntry.{JournalEntry}
use Rattle.stale_model.specs.Journals.{Pair, changes, pair_of, held_after, held}
use Rattle.replica_node.specs.declared.HeldPair.{HeldPair}
use Rattle.replica_node.specs.Pairs.{as_pair}

-- an entry on another key
other_key : (pair : Pair) (key : ℕ) (j : JournalEntry) → (j.request.key ≡ key → ⊥) → pair ≡ held_after pair key (j ∷ [])
other_key pair key j apart = rw (ne_eqb j.request.key key apart) refl

-- an entry that changes nothing
unchanged : (pair : Pair) (key : ℕ) (j : JournalEntry) → j.request.key ≡ key → changes j.request.ask ≡ false → pair ≡ held_after pair key (j ∷ [])
unchanged pair key j same reads = rw (eq-eqb j.request.key key same, reads) refl

-- a stamp that is no greater
no_newer : (pair : Pair) (key : ℕ) (j : JournalEntry) → j.request.key ≡ key → changes j.request.ask ≡ true → j.reply.stamp ≤ pair.stamp → pair ≡ held_after pair key (j ∷ [])
no_newer pair key j same writes old = rw (eq-eqb j.request.key key same, writes, le-ltb pair.stamp j.reply.stamp old) refl

-- a greater stamp
newer_held : (pair : Pair) (key : ℕ) (j : JournalEntry) → j.request.key ≡ key → changes j.request.ask ≡ true → pair.stamp < j.reply.stamp → pair_of j ≡ held_after pair key (j ∷ [])
newer_held pair key j same writes new = rw (eq-eqb j.request.key key same, writes, lt-ltb pair.stamp j.reply.stamp new) refl

module _ (pairs : List HeldPair) (j : JournalEntry) (key : ℕ) (past : HeldPair) (within : key < length pairs) where
  same_stamp : (here : HeldPair) → j.request.key ≡ key → (get_or pairs key past).stamp ≡ (get_or pairs j.request.key here).stamp
  same_stamp here same = ap (λ (h : HeldPair). h.stamp) (get_or_default pairs key past here within ∙ ap (λ (k : ℕ). get_or pairs k here) (sym same))

  -- an entry that changes nothing leaves each key as it is
  pub held_unchanged : changes j.request.ask ≡ false → as_pair (get_or pairs key past) ≡ held_after (as_pair (get_or pairs key past)) key (j ∷ [])
  held_unchanged reads = elim (cases_eq j.request.key key) [
    | inl same ↦ unchanged (as_pair (get_or pairs key past)) key j same reads
    | inr apart ↦ other_key (as_pair (get_or pairs key past)) key j apart
  ]

  -- and so does a stamp that is no greater than that of its key
  pub held_older : (here : HeldPair) → changes j.request.ask ≡ true → j.reply.stamp ≤ (get_or pairs j.request.key here).stamp
      → as_pair (get_or pairs key past) ≡ held_after (as_pair (get_or pairs key past)) key (j ∷ [])
  held_older here writes old = elim (cases_eq j.request.key key) [
    | inl same ↦
        let is = same_stamp here same in
        no_newer (as_pair (get_or pairs key past)) key j same writes (omega arith)
    | inr apart ↦ other_key (as_pair (get_or pairs key past)) key j apart
  ]

  -- a greater stamp is held of its key, and the other keys stay as they are
  pub held_newer : (here : HeldPair) → changes j.request.ask ≡ true → (get_or pairs j.request.key here).stamp < j.reply.stamp
      → as_pair (get_or (slice_set pairs j.request.key (record { stamp = j.reply.stamp; value = j.reply.value })) key past) ≡ held_after (as_pair (get_or pairs key past)) key (j ∷ [])
  held_newer here writes new = elim (cases_eq j.request.key key) [
    | inl same ↦
        let is = same_stamp here same in
        let entry : HeldPair = record { stamp = j.reply.stamp; value = j.reply.value } in
        ap as_pair (ap (λ (k : ℕ). get_or (slice_set pairs k entry) key past) same ∙ get_or-set_same pairs key entry past within)
        ∙ newer_held (as_pair (get_or pairs key past)) key j same writes (omega arith)
    | inr apart ↦
        let entry : HeldPair = record { stamp = j.reply.stamp; value = j.reply.value } in
        ap as_pair (get_or-set_other pairs j.request.key key entry past (λ same. apart (sym same))) ∙ other_key (as_pair (get_or pairs key past)) key j apart
  ]

-- where nothing is held of each key, that is what no entries say
pub nothing_held : (keys : ℕ) (pairs : List HeldPair) (key : ℕ) (past : HeldPair) → pairs ≡ replicate keys (record { stamp = 0; value = 0 }) → key < keys → as_pair (get_or pairs key past) ≡ held key []
nothing_held keys pairs key past are within = ap as_pair (ap (λ (l : List HeldPair). get_or l key past) are ∙ get_or-replicate keys key (record { stamp = 0; value = 0 }) past within)
