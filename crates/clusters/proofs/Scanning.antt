-- Scans of the operations for the first one with a fault.
use Rattle.std.proofs.Common.{◌≡◌, ℕ, zero, suc, ◌+◌, ◌≤◌, List, [], ◌∷◌, Option, Some, None, MatchOption, length, take, refl, sym, ap, inl, inr, subst, arith}
use Rattle.std.specs.Prelude.{slice_get, Contains}
use Rattle.std.proofs.lemmas.List.{take_all}
use Rattle.std.proofs.lemmas.List.Elements.{Contains-push_cases}
use Rattle.stale_model.specs.declared.Op.{Op}
use Rattle.stale_model.specs.declared.Cluster.{Cluster}
use Rattle.stale_model.specs.Operations.{IsRead, IsWrite, earliest_start}
use Rattle.stale_model.specs.Faults.{IsReadIn, IsUnmatched, IsEarly, IsLeastRecord, HasNone}
use Rattle.stale_model.proofs.ReadsAndWrites.{reads_or_writes}
use Rattle.clusters.specs.Tables.{IsTable}
use Rattle.clusters.specs.Gathering.{IsEarlyIn, IsEarlyWith}
use Rattle.clusters.proofs.Growing.{take_next}
use Rattle.clusters.proofs.Gathering.{IsSeen}
use Rattle.clusters.proofs.Records.{IsRising, least_at}

-- none of these operations has the fault
abbrev pub IsNoneAmong : (Op → Type 0) → List Op → Type 0
IsNoneAmong Fault ops = (b : Op) → Contains ops b → Fault b → ⊥

-- a fault of reads alone
abbrev IsOfReads : (Op → Type 0) → List Op → Type 0
IsOfReads Fault ops = (b : Op) → Fault b → IsReadIn ops b

module _ (Fault : Op → Type 0) (first : Op) (ops : List Op) (reads : IsOfReads Fault (first ∷ ops)) where
  -- a write has no such fault
  pub no_write : (a : Op) → IsWrite a → Fault a → ⊥
  no_write a write f = let read = (reads a f).kind in cc

  pub none_start : IsWrite first → IsNoneAmong Fault (first ∷ [])
  none_start write b (zero, within, is) f = no_write first write (subst Fault (sym is) f)
  none_start write b (suc k, within, is) f = absurd (omega arith)

  module _ (i : ℕ) (none : IsNoneAmong Fault (first ∷ take i ops)) where
    pub none_next : (a : Op) → slice_get ops i ≡ Some a → (Fault a → ⊥) → IsNoneAmong Fault (first ∷ take (i + 1) ops)
    none_next a at free = subst (λ (xs : List Op). IsNoneAmong Fault (first ∷ xs)) (sym (take_next ops i a at))
        (λ b there f. elim (Contains-push_cases (first ∷ take i ops) a b there) [
          | inl before ↦ none b before f
          | inr same ↦ free (subst Fault (sym same) f)
        ])

    pub none_all : length ops ≤ i → HasNone Fault
    none_all le b f = subst (λ (xs : List Op). IsNoneAmong Fault (first ∷ xs)) (take_all i ops le) none b (reads b f).there f

    pub least_here : (a : Op) → IsRising (first ∷ ops) → slice_get ops i ≡ Some a → Fault a → IsLeastRecord Fault a.rec
    least_here a rising at f = least_at (first ∷ ops) rising Fault (suc i) a at f none (λ b g. (reads b g).there)

-- the faults of reads are reads
pub unmatched_reads : (ops : List Op) (b : Op) → IsUnmatched ops b → IsReadIn ops b
unmatched_reads ops b f = f.read

pub early_reads : (ops : List Op) (b : Op) → IsEarly ops b → IsReadIn ops b
early_reads ops b f = f.read

module _ (ops seen : List Op) (values : ℕ) (table : List (Option Cluster)) (h : IsTable (IsSeen seen) ops values table) (a : Op) where
  -- an operation whose slot is empty is a read
  stray_reads : Contains ops a → slice_get table a.value ≡ Some None → IsRead a
  stray_reads there empty = elim (reads_or_writes a) [
    | inl read ↦ read
    | inr write ↦ absurd (h.slots a.value None empty a (record { there = there; kind = write; value_is = refl }))
  ]

  -- and unmatched
  pub unmatched_here : Contains ops a → slice_get table a.value ≡ Some None → IsUnmatched ops a
  unmatched_here there empty = record { read = record { there = there; kind = stray_reads there empty }; unwritten = h.slots a.value None empty }

  -- one whose slot is full is not
  pub matched_here : (c : Cluster) → slice_get table a.value ≡ Some (Some c) → IsUnmatched ops a → ⊥
  matched_here c full f = let (w, only, is) = h.slots a.value (Some c) full in f.unwritten w only.write

  -- a read that has finished before its cluster's write starts is early
  early_here : (c : Cluster) → Contains ops a → slice_get table a.value ≡ Some (Some c) → IsEarlyIn c a → IsEarly ops a
  early_here c there full early =
      let (w, only, is) = h.slots a.value (Some c) full in
      let e = is.start_is in
      let less = early.before in
      record { read = record { there = there; kind = early.kind }; before = (w, only.write, omega arith) }

  -- any other operation is not
  timely_here : (c : Cluster) → slice_get table a.value ≡ Some (Some c) → (IsEarlyIn c a → ⊥) → IsEarly ops a → ⊥
  timely_here c full timely f =
      let (w, only, is) = h.slots a.value (Some c) full in
      let (x, write, less) = f.before in
      let e = is.start_is in
      let g = ap earliest_start (only.only x write) in
      timely (record { kind = f.read.kind; before = omega arith })

-- the least record of the early reads, where one of these operations is one
abbrev pub IsFirstEarly : List Op → List Op → Option ℕ → Type 0
IsFirstEarly ops seen early = MatchOption early (IsNoneAmong (IsEarly ops) seen) (IsLeastRecord (IsEarly ops))

module _ (first : Op) (ops : List Op) (values i : ℕ) (table : List (Option Cluster)) (h : IsTable (IsSeen (take i ops)) (first ∷ ops) values table)
    (a : Op) (at : slice_get ops i ≡ Some a) (there : Contains (first ∷ ops) a) (rising : IsRising (first ∷ ops)) (c : Cluster) (full : slice_get table a.value ≡ Some (Some c)) where
  -- with one operation more of a cluster
  pub early_next : (early next : Option ℕ) → IsEarlyWith early c a next → IsFirstEarly (first ∷ ops) (first ∷ take i ops) early → IsFirstEarly (first ∷ ops) (first ∷ take (i + 1) ops) next
  early_next (Some rec) next same least = subst (IsFirstEarly (first ∷ ops) (first ∷ take (i + 1) ops)) (sym same) least
  early_next None None timely none =
      none_next (IsEarly (first ∷ ops)) first ops (early_reads (first ∷ ops)) i none a at (timely_here (first ∷ ops) (take i ops) values table h a c full timely)
  early_next None (Some rec) (early, is) none =
      subst (IsLeastRecord (IsEarly (first ∷ ops))) (sym is)
      (least_here (IsEarly (first ∷ ops)) first ops (early_reads (first ∷ ops)) i none a rising at (early_here (first ∷ ops) (take i ops) values table h a c there full early))

-- once all operations are seen
pub early_all : (first : Op) (ops : List Op) (i : ℕ) (early : Option ℕ) → length ops ≤ i → IsFirstEarly (first ∷ ops) (first ∷ take i ops) early
    → MatchOption early (HasNone (IsEarly (first ∷ ops))) (IsLeastRecord (IsEarly (first ∷ ops)))
early_all first ops i None le none = none_all (IsEarly (first ∷ ops)) first ops (early_reads (first ∷ ops)) i none le
early_all first ops i (Some rec) le least = least
