-- The operations of a valid key are sorted in some way, and their clusters are few.
use Rattle.std.proofs.Common.{eqb, get_or, false, ◌⊎◌, ◌≡◌, ℕ, ◌+◌, ◌<◌, ◌≤◌, List, Option, Some, None, length, refl, sym, ◌∙◌, ap, inl, inr, subst, arith}
use Rattle.std.specs.Prelude.{Contains}
use Rattle.std.specs.List.{filter_map}
use Rattle.std.specs.Cmp.{nat_eq_equiv}
use Rattle.std.proofs.lemmas.Bool.Decides.{Decides-eqb}
use Rattle.std.proofs.lemmas.List.{get_or-map, length-map}
use Rattle.std.proofs.lemmas.List.Kept.{AllPairs-from_increasing}
use Rattle.std.proofs.lemmas.Map.Keys.{IsDistinct-from_apart}
use Rattle.std.proofs.lemmas.Map.Made.{length-le_from_is_member, is_member-Decides}
use Rattle.std.proofs.lemmas.Option.{get_or_from_slice_get, slice_get_within}
use Rattle.std.proofs.lemmas.Bool.{both_ways, cases_eq, cases_lt, cases_order, ne_eqb}
use Rattle.stale_model.specs.declared.Op.{Op}
use Rattle.stale_model.specs.declared.Kind.{Kind}
use Rattle.stale_model.specs.declared.Kind.TheVariants.{Read, Write}
use Rattle.stale_model.specs.declared.KeyOps.{KeyOps}
use Rattle.stale_model.specs.declared.Cluster.{Cluster}
use Rattle.stale_model.specs.Orders.{StandsAt}
use Rattle.stale_model.specs.Operations.{IsRead, IsWrite, operations, records_of, earliest_start, latest_finish, is_write_kind}
use Rattle.stale_model.specs.Valid.{IsValidKey}
use Rattle.stale_model.specs.Faults.{IsWriteOf, IsDuplicate, IsUnmatched, IsEarly, HasNone, IsLeastRecord, IsMatchedKey}
use Rattle.stale_model.specs.Clusters.{IsLeastFinish, AreReadsOf, IsClusterOf, AreClusters, writes_of}
use Rattle.stale_model.proofs.ReadsAndWrites.{kinds}
use Rattle.stale_model.proofs.Places.{something_at, contains_at, place_of, same_at}
use Rattle.clusters.specs.declared.Sorted.{Sorted}
use Rattle.clusters.specs.declared.Sorted.TheVariants.{Duplicate, Unmatched, Early, Clear}
use Rattle.clusters.specs.Tables.{IsSlot, cluster_in}
use Rattle.clusters.specs.Sorting.{IsSorting}
use Rattle.clusters.specs.Laws.{SortingsExist, ClustersAreFew}
use Rattle.clusters.proofs.Choosing.{best_of_them, any_of_them, list_of}
use Rattle.clusters.proofs.Records.{IsRising, rising_operations, values_of}
use Rattle.clusters.proofs.Ordering.{AreClusters-from_table}

read_is_no_write : {k : Kind} → k ≡ Read → k ≡ Write → ⊥
read_is_no_write r w = both_ways false refl (ap is_write_kind (sym r ∙ w))

-- a is of this kind and has what can be decided
decide_write : (a : Op) (More : Type 0) → More ⊎ (More → ⊥) → (IsWrite a × More) ⊎ (IsWrite a × More → ⊥)
decide_write a More (inl more) = elim (kinds a.kind) [ inl r ↦ inr (λ h. read_is_no_write r h.0) | inr w ↦ inl (w, more) ]
decide_write a More (inr not) = inr (λ h. not h.1)

decide_read : (a : Op) (More : Type 0) → More ⊎ (More → ⊥) → (IsRead a × More) ⊎ (IsRead a × More → ⊥)
decide_read a More (inl more) = elim (kinds a.kind) [ inl r ↦ inl (r, more) | inr w ↦ inr (λ h. read_is_no_write h.0 w) ]
decide_read a More (inr not) = inr (λ h. not h.1)

decide_both : (A B : Type 0) → A ⊎ (A → ⊥) → B ⊎ (B → ⊥) → (A × B) ⊎ (A × B → ⊥)
decide_both A B (inl a) (inl b) = inl (a, b)
decide_both A B (inl a) (inr b) = inr (λ h. b h.1)
decide_both A B (inr a) b = inr (λ h. a h.0)

decide_less : (m n : ℕ) → (m < n) ⊎ (m < n → ⊥)
decide_less m n = elim (cases_lt m n) [ inl l ↦ inl l | inr g ↦ inr (λ l. omega arith) ]

cases_le : (m n : ℕ) → (m ≤ n) ⊎ (n ≤ m)
cases_le m n = elim (cases_lt m n) [ inl l ↦ inl (omega arith) | inr g ↦ inr g ]

module _ (ops : List Op) where
  -- some write of this value is so
  decide_written : (value : ℕ) (So : Op → Type 0) → ((w : Op) → So w ⊎ (So w → ⊥))
      → ((w : Op) × IsWriteOf ops value w × So w) ⊎ ((w : Op) × IsWriteOf ops value w × So w → ⊥)
  decide_written value So decide =
      elim (any_of_them (λ (w : Op). IsWrite w × ((w.value ≡ value) × So w)) (λ w. decide_write w ((w.value ≡ value) × So w) (decide_both (w.value ≡ value) (So w) (cases_eq w.value value) (decide w))) ops) [
        | inl none ↦ inr (λ h. none h.0 h.1.there (h.1.kind, (h.1.value_is, h.2)))
        | inr (w, there, has) ↦ inl (w, record { there = there; kind = has.0; value_is = has.1.0 }, has.1.1)
      ]

  -- no operation has a fault that can be decided, or a least record has it
  least_record_of : (Fault Has : Op → Type 0) → ((a : Op) → Has a ⊎ (Has a → ⊥)) → ((a : Op) → Contains ops a → Has a → Fault a) → ((a : Op) → Fault a → Contains ops a × Has a)
      → HasNone Fault ⊎ ((rec : ℕ) × IsLeastRecord Fault rec)
  least_record_of Fault Has decide to from = elim (best_of_them Has decide (λ a b. a.rec ≤ b.rec) (λ a b. cases_le a.rec b.rec) (λ a b c p q. omega arith) ops) [
    | inl none ↦ inl (λ a fault. let (there, has) = from a fault in none a there has)
    | inr (a, b) ↦ inr (a.rec, record { at = (a, to a b.there b.has, refl); least = λ c fault. let (there, has) = from c fault in b.best c there has })
  ]

  duplicate_or_not : HasNone (IsDuplicate ops) ⊎ ((rec : ℕ) × IsLeastRecord (IsDuplicate ops) rec)
  duplicate_or_not =
      least_record_of (IsDuplicate ops) (λ a. IsWrite a × ((w : Op) × IsWriteOf ops a.value w × (w.rec < a.rec)))
      (λ a. decide_write a ((w : Op) × IsWriteOf ops a.value w × (w.rec < a.rec)) (decide_written a.value (λ w. w.rec < a.rec) (λ w. decide_less w.rec a.rec)))
      (λ a there has. record { there = there; kind = has.0; earlier = has.1 })
      (λ a fault. (fault.there, (fault.kind, fault.earlier)))

  unmatched_or_not : HasNone (IsUnmatched ops) ⊎ ((rec : ℕ) × IsLeastRecord (IsUnmatched ops) rec)
  unmatched_or_not =
      least_record_of (IsUnmatched ops) (λ a. IsRead a × ((w : Op) → IsWriteOf ops a.value w → ⊥))
      (λ a. decide_read a ((w : Op) → IsWriteOf ops a.value w → ⊥) (elim (decide_written a.value (λ w. Unit {0}) (λ w. inl tt)) [
        | inl h ↦ inr (λ none. none h.0 h.1)
        | inr h ↦ inl (λ w is. h (w, is, tt))
      ]))
      (λ a there has. record { read = record { there = there; kind = has.0 }; unwritten = has.1 })
      (λ a fault. (fault.read.there, (fault.read.kind, fault.unwritten)))

  early_or_not : HasNone (IsEarly ops) ⊎ ((rec : ℕ) × IsLeastRecord (IsEarly ops) rec)
  early_or_not =
      least_record_of (IsEarly ops) (λ a. IsRead a × ((w : Op) × IsWriteOf ops a.value w × (latest_finish a < earliest_start w)))
      (λ a. decide_read a ((w : Op) × IsWriteOf ops a.value w × (latest_finish a < earliest_start w)) (decide_written a.value (λ w. latest_finish a < earliest_start w) (λ w. decide_less (latest_finish a) (earliest_start w))))
      (λ a there has. record { read = record { there = there; kind = has.0 }; before = has.1 })
      (λ a fault. (fault.read.there, (fault.read.kind, fault.before)))

-- the one number is less, or they tie and the record is no greater
abbrev Before : ℕ → ℕ → ℕ → ℕ → Type 0
Before m n rec other = (m < n) ⊎ ((m ≡ n) × (rec ≤ other))

before_total : (m n r s : ℕ) → Before m n r s ⊎ Before n m s r
before_total m n r s = elim (cases_order m n) [
  | inl e ↦ elim (cases_le r s) [ inl l ↦ inl (inr (e, l)) | inr g ↦ inr (inr (sym e, g)) ]
  | inr less ↦ elim less [ inl l ↦ inl (inl l) | inr g ↦ inr (inl g) ]
]

before_trans : (l m n r s t : ℕ) → Before l m r s → Before m n s t → Before l n r t
before_trans l m n r s t (inl p) (inl q) = inl (omega arith)
before_trans l m n r s t (inl p) (inr q) = let e = q.0 in inl (omega arith)
before_trans l m n r s t (inr p) (inl q) = let e = p.0 in inl (omega arith)
before_trans l m n r s t (inr p) (inr q) = let e = p.0 in let f = q.0 in let g = p.1 in let h = q.1 in inr (e ∙ f, omega arith)

-- the same where the greater number is the better one
starts_total : (m n r s : ℕ) → Before n m r s ⊎ Before m n s r
starts_total m n r s = before_total n m r s

starts_trans : (l m n r s t : ℕ) → Before m l r s → Before n m s t → Before n l r t
starts_trans l m n r s t (inl p) (inl q) = inl (omega arith)
starts_trans l m n r s t (inl p) (inr q) = let e = q.0 in inl (omega arith)
starts_trans l m n r s t (inr p) (inl q) = let e = p.0 in inl (omega arith)
starts_trans l m n r s t (inr p) (inr q) = let e = p.0 in let f = q.0 in let g = p.1 in let h = q.1 in inr (f ∙ e, omega arith)

before_le : (m n r s : ℕ) → Before m n r s → m ≤ n
before_le m n r s (inl l) = omega arith
before_le m n r s (inr h) = let e = h.0 in omega arith

before_tie : (m n r s : ℕ) → Before m n r s → n ≡ m → r ≤ s
before_tie m n r s (inl l) e = absurd (omega arith)
before_tie m n r s (inr h) e = h.1

module _ (ops : List Op) (w : Op) (there : Contains ops w) where
  least_finish_exists : (f : ℕ) × (first : ℕ) × IsLeastFinish ops w.value f first
  least_finish_exists = elim (best_of_them (λ (a : Op). a.value ≡ w.value) (λ a. cases_eq a.value w.value)
      (λ (a b : Op). Before (latest_finish a) (latest_finish b) a.rec b.rec) (λ a b. before_total (latest_finish a) (latest_finish b) a.rec b.rec)
      (λ a b c. before_trans (latest_finish a) (latest_finish b) (latest_finish c) a.rec b.rec c.rec) ops) [
        | inl none ↦ absurd (none w there refl)
        | inr (a, b) ↦ (
          latest_finish a,
          a.rec,
          record {
            op = a;
            member = record { there = b.there; value_is = b.has };
            finish_is = refl;
            first_is = refl;
            least = λ c m. before_le (latest_finish a) (latest_finish c) a.rec c.rec (b.best c m.there m.value_is);
            least_record = λ c m e. before_tie (latest_finish a) (latest_finish c) a.rec c.rec (b.best c m.there m.value_is) e;
          },
        )
      ]

  reads_exist : (s : Option ℕ) × (last : ℕ) × AreReadsOf ops w s last
  reads_exist = elim (best_of_them (λ (a : Op). IsRead a × (a.value ≡ w.value)) (λ a. decide_read a (a.value ≡ w.value) (cases_eq a.value w.value))
      (λ (a b : Op). Before (earliest_start b) (earliest_start a) a.rec b.rec) (λ a b. starts_total (earliest_start a) (earliest_start b) a.rec b.rec)
      (λ a b c. starts_trans (earliest_start a) (earliest_start b) (earliest_start c) a.rec b.rec c.rec) ops) [
        | inl none ↦ (None, w.rec, record { none = λ r m. none r m.read.there (m.read.kind, m.value_is); last_is = refl })
        | inr (a, b) ↦ (
          Some (earliest_start a),
          a.rec,
          record {
            op = a;
            member = record { read = record { there = b.there; kind = b.has.0 }; value_is = b.has.1 };
            start_is = refl;
            last_is = refl;
            greatest = λ c m. before_le (earliest_start c) (earliest_start a) a.rec c.rec (b.best c m.read.there (m.read.kind, m.value_is));
            least_record = λ c m e. before_tie (earliest_start c) (earliest_start a) a.rec c.rec (b.best c m.read.there (m.read.kind, m.value_is)) (sym e);
          },
        )
      ]

  cluster_exists : IsWrite w → (c : Cluster) × IsClusterOf ops w c
  cluster_exists kind =
      let (f, first, finishes) = least_finish_exists in
      let (s, last, reads) = reads_exist in (
        record { write = w.rec; f = f; w = earliest_start w; s = s; first = first; last = last },
        record { there = there; kind = kind; record_is = refl; start_is = refl; finishes = finishes; reads = reads },
      )

-- a table of the clusters of operations without duplicate writes
slot_exists : (ops : List Op) → ((value : ℕ) (v w : Op) → IsWriteOf ops value v → IsWriteOf ops value w → v ≡ w) → (value : ℕ) → (slot : Option Cluster) × IsSlot (IsClusterOf ops) ops value slot
slot_exists ops once value = elim (any_of_them (λ (w : Op). IsWrite w × (w.value ≡ value)) (λ w. decide_write w (w.value ≡ value) (cases_eq w.value value)) ops) [
  | inl none ↦ (None, λ w is. none w is.there (is.kind, is.value_is))
  | inr (w, there, has) ↦
      let write : IsWriteOf ops value w = record { there = there; kind = has.0; value_is = has.1 } in
      let (c, is) = cluster_exists ops w there has.0 in
      (Some c, (w, record { write = write; only = λ x other. once value x w other write }, is))
]

-- operations whose records rise are one where their records are
one_record : (ops : List Op) → IsRising ops → (a b : Op) → Contains ops a → Contains ops b → a.rec ≡ b.rec → a ≡ b
one_record ops rising a b ca cb e =
    let (i, at) = place_of ops a ca in
    let (j, bt) = place_of ops b cb in
    let ra = ap (λ (x : Op). x.rec) (get_or_from_slice_get ops i a a at) in
    let rb = ap (λ (x : Op). x.rec) (get_or_from_slice_get ops j b a bt) in
    elim (cases_order i j) [
      | inl same ↦ same_at ops j a b (subst (λ (k : ℕ). StandsAt ops k a) same at) bt
      | inr less ↦ elim less [
        | inl l ↦ absurd (let r = rising i j a l (slice_get_within ops j b bt) in omega arith)
        | inr g ↦ absurd (let r = rising j i a g (slice_get_within ops i a at) in omega arith)
      ]
    ]

-- without duplicates no value has two writes
written_once : (ops : List Op) → IsRising ops → HasNone (IsDuplicate ops) → (value : ℕ) (v w : Op) → IsWriteOf ops value v → IsWriteOf ops value w → v ≡ w
written_once ops rising none value v w pv pw = elim (cases_order v.rec w.rec) [
  | inl same ↦ one_record ops rising v w pv.there pw.there same
  | inr less ↦ elim less [
    | inl l ↦ absurd (none w (record { there = pw.there; kind = pw.kind; earlier = (v, record { there = pv.there; kind = pv.kind; value_is = pv.value_is ∙ sym pw.value_is }, l) }))
    | inr g ↦ absurd (none v (record { there = pv.there; kind = pv.kind; earlier = (w, record { there = pw.there; kind = pw.kind; value_is = pw.value_is ∙ sym pv.value_is }, g) }))
  ]
]

-- a valid key without duplicates has clusters
clusters_exist : (key : KeyOps) → IsValidKey key → HasNone (IsDuplicate (operations key)) → (clusters : List Cluster) × AreClusters (operations key) clusters
clusters_exist key valid none =
    let ops = operations key in
    let rising = rising_operations key valid in
    let (table, long, slots) = list_of (length key.values + 1) (IsSlot (IsClusterOf ops) ops) (λ value within. slot_exists ops (written_once ops rising none) value) in
    (filter_map (cluster_in table) ops, AreClusters-from_table ops (length key.values) table (record { size = long; slots = slots }) rising (values_of key valid))

sorted_matched : (key : KeyOps) → IsValidKey key → IsMatchedKey (operations key) → (sorted : Sorted) × IsSorting (operations key) sorted
sorted_matched key valid matched =
    let (clusters, are) = clusters_exist key valid matched.no_duplicate in
    elim (early_or_not (operations key)) [
      | inl none ↦ (Clear clusters, (record { matched = matched; no_early = none }, are))
      | inr (rec, least) ↦ (Early rec clusters, (record { matched = matched; early = least }, are))
    ]

pub sortings_exist : SortingsExist
sortings_exist key valid = elim (duplicate_or_not (operations key)) [
  | inr (rec, least) ↦ (Duplicate rec, least)
  | inl no_duplicate ↦ elim (unmatched_or_not (operations key)) [
    | inr (rec, least) ↦ (Unmatched rec, record { no_duplicate = no_duplicate; unmatched = least })
    | inl no_unmatched ↦ sorted_matched key valid (record { no_duplicate = no_duplicate; no_unmatched = no_unmatched })
  ]
]

-- the write of each cluster is an operation
write_is_record : (ops : List Op) (clusters : List Cluster) → AreClusters ops clusters → (rec : ℕ) → Contains (writes_of clusters) rec → Contains (records_of ops) rec
write_is_record ops clusters are rec (i, within, is) =
    let n = length-map clusters (λ (c : Cluster). c.write) in
    let (c, at) = something_at clusters i (omega arith) in
    let (w, of_w) = are.each c (contains_at clusters i c at) in
    let (j, low, same) = of_w.there in
    let first : get_or (writes_of clusters) i rec ≡ c.write = get_or-map (λ (x : Cluster). x.write) clusters i c rec (omega arith) ∙ ap (λ (x : Cluster). x.write) (get_or_from_slice_get clusters i c c at) in
    let second : get_or (records_of ops) j rec ≡ w.rec = get_or-map (λ (x : Op). x.rec) ops j w rec low ∙ ap (λ (x : Op). x.rec) same in
    (j, simp length-map low, second ∙ of_w.record_is ∙ sym first ∙ is)

-- the clusters are no more than the operations
pub clusters_are_few : ClustersAreFew
clusters_are_few key clusters valid are =
    let ops = operations key in
    let distinct = IsDistinct-from_apart eqb (writes_of clusters) (λ i j d less within.
    let r = AllPairs-from_increasing (writes_of clusters) are.rising i j d less within in
    ne_eqb (get_or (writes_of clusters) i d) (get_or (writes_of clusters) j d) (λ e. omega arith)) in
    let few = length-le_from_is_member nat_eq_equiv (writes_of clusters) (records_of ops) distinct (λ q t.
    (is_member-Decides Decides-eqb (records_of ops) q).1 (write_is_record ops clusters are q ((is_member-Decides Decides-eqb (writes_of clusters) q).0 t))) in
    let n = length-map clusters (λ (c : Cluster). c.write) in
    let m = length-map ops (λ (a : Op). a.rec) in
    let bound = valid.few in
    omega arith
