-- No key of the history of matched calls has a fault.
use Rattle.std.proofs.Common.{◌≡◌, ◌⊎◌, ℕ, ◌+◌, ◌-◌, ◌<◌, max, List, ◌∷◌, get_or, map, refl, sym, ◌∙◌, ap, subst, inl, inr, arith}
use Rattle.std.specs.Prelude.{All, Contains}
use Rattle.std.proofs.lemmas.Bool.{ne_eqb}
use Rattle.std.proofs.lemmas.List.Elements.{All-contains, All-map}
use Rattle.stale_model.specs.declared.Kind.TheVariants.{Read, Write}
use Rattle.stale_model.specs.declared.Op.{Op}
use Rattle.stale_model.specs.declared.KeyOps.{KeyOps}
use Rattle.stale_model.specs.declared.store.Entry.{Entry}
use Rattle.stale_model.specs.Operations.{initial_write, operations, earliest_start, latest_finish}
use Rattle.stale_model.specs.Faults.{IsClearKey, IsDuplicate, IsEarly, IsUnmatched, IsWriteOf}
use Rattle.stale_model.specs.Orders.{StandsAt}
use Rattle.stale_model.specs.Texts.{key_text, line_of}
use Rattle.stale_model.proofs.Members.{contains_first}
use Rattle.stale_model.proofs.Places.{contains_at, place_of, same_at}
use Rattle.stale_model.proofs.Sorted.{contains_later, first_or_later}
use Rattle.run_laws.specs.Laws.{IsInitialOrWritten}
use Rattle.history_csv.specs.Entries.{Entry as Recorded}
use Rattle.history_csv.specs.Numbering.{distinct, history_of, kept, key_ops, ops_of}
use Rattle.history_csv.specs.Written.{IsReadable}
use Rattle.history_csv.proofs.HistoryFacts.{history-keys}
use Rattle.recorded_laws.proofs.Numbered.{records_from, on_key, op_at, IsOpOf, has_op, op_is, absent_call, same_call_value, op_value}
use Rattle.recorded_laws.proofs.Matched.{AreMatched}

-- an operation after the initial write may have started at its start, and no earlier than tick 1
later_start : (a : Op) (n : ℕ) → a.rec ≡ 1 + n → earliest_start a ≡ max 1 (a.start - a.slack)
later_start a n e = rw (ne_eqb a.rec 0 (λ none. omega arith)) refl

module _ (entries : List Entry) (name : List ℕ) (matched : AreMatched entries) where
  abbrev ops : List Op
  ops = ops_of (on_key entries name)

  -- an operation is the initial write, or of a call
  initial_or_call : (a : Op) → Contains (initial_write ∷ ops) a → (initial_write ≡ a) ⊎ IsOpOf entries name a
  initial_or_call a c = elim (first_or_later initial_write a ops c) [ inl is ↦ inl is | inr later ↦ inr (op_is entries name a later) ]

  -- what is known of the line of an operation's call
  line_is : (a : Op) (o : IsOpOf entries name a) → IsReadable (line_of o.call)
  line_is a o = All-contains (λ (e : Entry). IsReadable (line_of e)) entries o.call matched.readable (contains_at entries o.place o.call o.at)

  kind_is : (a : Op) (o : IsOpOf entries name a) → a.kind ≡ o.call.kind
  kind_is a o = ap (λ (x : Op). x.kind) o.is

  record_is : (a : Op) (o : IsOpOf entries name a) → a.rec ≡ 1 + o.place
  record_is a o = ap (λ (x : Op). x.rec) o.is

  -- a write of a call writes a value
  writes_some : (a : Op) (o : IsOpOf entries name a) → a.kind ≡ Write → (a.value ≡ 0) → ⊥
  writes_some a o w none =
      let some = (line_is a o).filled (sym (kind_is a o) ∙ w) in
      let absent = absent_call entries name a o none in
      omega arith

  -- writes of one value are of one call
  one_write : (a b : Op) (o : IsOpOf entries name a) (p : IsOpOf entries name b) → a.kind ≡ Write → b.kind ≡ Write → a.value ≡ b.value → o.place ≡ p.place
  one_write a b o p wa wb e =
      matched.apart o.place p.place o.call p.call o.at p.at (sym (kind_is a o) ∙ wa) (sym (kind_is b p) ∙ wb)
      (same_call_value entries name a b o p (line_is a o).value (line_is b p).value e)

  not_twice : (a w : Op) → IsOpOf entries name a → a.kind ≡ Write → IsWriteOf (initial_write ∷ ops) a.value w → w.rec < a.rec → ⊥
  not_twice a w o wa is before = elim (initial_or_call w is.there) [
    | inl initial ↦ writes_some a o wa (sym is.value_is ∙ sym (ap (λ (x : Op). x.value) initial))
    | inr p ↦
        let same = one_write a w o p wa is.kind (sym is.value_is) in
        let first = record_is a o in
        let second = record_is w p in
        omega arith
  ]

  no_duplicate : (a : Op) → IsDuplicate (initial_write ∷ ops) a → ⊥
  no_duplicate a d = let (w, is, before) = d.earlier in elim (initial_or_call a d.there) [
    | inl initial ↦ let first = ap (λ (x : Op). x.rec) initial in omega arith
    | inr o ↦ not_twice a w o d.kind is before
  ]

  -- what a read returns was written: by the initial write, or by a call on its key
  write_there : (a : Op) (o : IsOpOf entries name a) (stamp : ℕ) → IsInitialOrWritten entries o.call.key stamp o.call.value o.call.finish
      → (w : Op) × IsWriteOf (initial_write ∷ ops) a.value w
  write_there a o stamp (inl initial) =
      let absent : a.value ≡ 0 = op_value entries name a o 0 initial.value_is in
      (initial_write, record { there = contains_first initial_write ops; kind = refl; value_is = sym absent })
  write_there a o stamp (inr h) =
      let (place, at) = place_of entries h.write h.there in
      let w = op_at entries name place h.write in
      let there = has_op entries name place h.write at (o.key ∙ ap key_text (sym h.key_is)) in
      let value : a.value ≡ w.value = op_value entries name a o h.write.value (sym h.value_is) in
      (w, record { there = contains_later initial_write w ops there; kind = h.kind; value_is = sym value })

  no_read : (a : Op) → a.kind ≡ Read → initial_write ≡ a → ⊥
  no_read a r initial = let other : Write ≡ Read = ap (λ (x : Op). x.kind) initial ∙ r in cc other

  no_unmatched : (a : Op) → IsUnmatched (initial_write ∷ ops) a → ⊥
  no_unmatched a u = elim (initial_or_call a u.read.there) [
    | inl initial ↦ no_read a u.read.kind initial
    | inr o ↦
        let (stamp, from) = matched.returned o.call (contains_at entries o.place o.call o.at) (sym (kind_is a o) ∙ u.read.kind) in
        let (w, is) = write_there a o stamp from in
        u.unwritten w is
  ]

  -- the write of what a read returns started before the read finished
  started : (a w : Op) (o : IsOpOf entries name a) (p : IsOpOf entries name w) (stamp : ℕ) → w.kind ≡ Write → w.value ≡ a.value
      → IsInitialOrWritten entries o.call.key stamp o.call.value o.call.finish → p.call.start < o.call.finish
  started a w o p stamp kind value (inl initial) = absurd (writes_some w p kind (value ∙ op_value entries name a o 0 initial.value_is))
  started a w o p stamp kind value (inr h) =
      let (place, at) = place_of entries h.write h.there in
      let values = same_call_value entries name w a p o (line_is w p).value (line_is a o).value value in
      let places = matched.apart p.place place p.call h.write p.at at (sym (kind_is w p) ∙ kind) h.kind (values ∙ sym h.value_is) in
      let same : p.call ≡ h.write = same_at entries place p.call h.write (subst (λ (i : ℕ). StandsAt entries i p.call) places p.at) at in
      let starts = ap (λ (e : Entry). e.start) same in
      let before = h.before in
      omega arith

  not_before : (a w : Op) (o : IsOpOf entries name a) → a.kind ≡ Read → IsWriteOf (initial_write ∷ ops) a.value w → latest_finish a < earliest_start w → ⊥
  not_before a w o read is early = elim (initial_or_call w is.there) [
    | inl initial ↦ let at_zero = ap earliest_start initial in omega arith
    | inr p ↦
        let (stamp, from) = matched.returned o.call (contains_at entries o.place o.call o.at) (sym (kind_is a o) ∙ read) in
        let before = started a w o p stamp is.kind is.value_is from in
        let finish = ap (λ (x : Op). x.finish) o.is in
        let start = ap (λ (x : Op). x.start) p.is in
        let least = later_start w p.place (record_is w p) in
        omega arith
  ]

  no_early : (a : Op) → IsEarly (initial_write ∷ ops) a → ⊥
  no_early a h = let (w, is, early) = h.before in elim (initial_or_call a h.read.there) [
    | inl initial ↦ no_read a h.read.kind initial
    | inr o ↦ not_before a w o h.read.kind is early
  ]

  clear : IsClearKey (initial_write ∷ ops)
  clear = record { matched = record { no_duplicate = no_duplicate; no_unmatched = no_unmatched }; no_early = no_early }

-- no key of the history of matched calls has a fault
pub keys_are_clear : (entries : List Entry) → AreMatched entries → All (λ key. IsClearKey (operations key)) (history_of (records_from 1 entries)).keys
keys_are_clear entries matched =
    let rows = kept (records_from 1 entries) in
    let names = distinct (map (λ (x : Recorded). x.key) rows) in
    rw (history-keys (records_from 1 entries))
    (All-map (λ (key : KeyOps). IsClearKey (operations key)) (key_ops rows) names (λ k d low. clear entries (get_or names k d) matched))
