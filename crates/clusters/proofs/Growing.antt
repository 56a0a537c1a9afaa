-- Tables of writes that grow by one operation.
use Rattle.std.proofs.Common.{◌≡◌, ◌≢◌, ◌⊎◌, ℕ, ◌+◌, ◌<◌, ◌≤◌, List, [], ◌∷◌, ◌++◌, Option, Some, None, length, take, set, replicate, get_or, refl, sym, ◌∙◌, ap, inl, inr, subst, arith, add-one}
use Rattle.std.specs.Prelude.{slice_get, Contains, All}
use Rattle.std.proofs.lemmas.Bool.{cases_eq}
use Rattle.std.proofs.lemmas.Option.{slice_get_within, get_or_from_slice_get, slice_get_read, slice_get-get_or}
use Rattle.std.proofs.lemmas.List.{get_or-set_same, get_or-set_other, length-set, length-replicate, get_or-replicate, get_or-take, length-take, take_more}
use Rattle.std.proofs.lemmas.List.Elements.{Contains-push, Contains-push_cases, Contains-append_left, All-contains, All-take}
use Rattle.stale_model.specs.declared.Op.{Op}
use Rattle.stale_model.specs.declared.Cluster.{Cluster}
use Rattle.stale_model.specs.declared.KeyOps.{KeyOps}
use Rattle.stale_model.specs.Operations.{IsWrite, initial_write}
use Rattle.stale_model.specs.Faults.{IsWriteOf, IsDuplicate, IsDuplicateKey, HasNone}
use Rattle.clusters.specs.Tables.{IsSlot, IsTable, IsLone, lone_cluster}
use Rattle.clusters.proofs.Records.{IsRising, IsAt, in_front, front_below, least_at}

-- a value that was read at a place of a list
pub read_at : {X : Type 0} (xs : List X) (i : ℕ) (x : X) → i < length xs → x ≡ get_or xs i x → slice_get xs i ≡ Some x
read_at xs i x l e = slice_get_read xs (length xs) i x refl l e

module _ {Is : Op → Cluster → Type 0} {ops : List Op} {table : List (Option Cluster)} (key : KeyOps) (h : IsTable Is ops (length key.values) table) {i : ℕ} {a : Op} (here : IsAt key i a) where
  -- what the slot of an operation was read as
  pub slot_is : (s : Option Cluster) → get_or table a.value None ≡ s → slice_get table a.value ≡ Some s
  slot_is s is = let n = h.size in let le = here.valid.value in slice_get-get_or table a.value None (omega arith) ∙ ap Some is

  -- the same of a slot that lies on the heap
  pub item_is : (r s : Option Cluster) → r ≡ get_or table a.value r → r ≡ s → slice_get table a.value ≡ Some s
  item_is r s read is = let n = h.size in let le = here.valid.value in read_at table a.value r (omega arith) read ∙ ap Some is

-- a slot that is not full is empty
pub slot_empty : (s : Option Cluster) → ((c : Cluster) → s ≡ Some c → ⊥) → s ≡ None
slot_empty None h = refl
slot_empty (Some c) h = absurd (h c refl)

-- what stands at a place after one was written
pub after_set : {X : Type 0} (xs : List X) (i k : ℕ) (x y : X) → i < length xs → slice_get (set xs i y) k ≡ Some x → ((k ≡ i) × (x ≡ y)) ⊎ ((k ≢ i) × (slice_get xs k ≡ Some x))
after_set xs i k x y l at =
    let w : k < length (set xs i y) = slice_get_within (set xs i y) k x at in
    let e = get_or_from_slice_get (set xs i y) k x x at in
    let n = length-set xs i y in
    elim (cases_eq k i) [
      | inl same ↦ inl (same, sym e ∙ ap (λ (m : ℕ). get_or (set xs i y) m x) same ∙ get_or-set_same xs i y x l)
      | inr other ↦ inr (other, read_at xs k x (omega arith) (sym e ∙ get_or-set_other xs i k y x other))
    ]

-- a write among some operations is one among more
pub WriteOf-more : (ops : List Op) (a w : Op) (value : ℕ) → IsWriteOf ops value w → IsWriteOf (ops ++ a ∷ []) value w
WriteOf-more ops a w value h = record { there = Contains-append_left ops (a ∷ []) w h.there; kind = h.kind; value_is = h.value_is }

-- a write among one operation more is that one, or was there before
pub WriteOf-cases : (ops : List Op) (a w : Op) (value : ℕ) → IsWriteOf (ops ++ a ∷ []) value w → IsWriteOf ops value w ⊎ (a ≡ w)
WriteOf-cases ops a w value h = elim (Contains-push_cases ops a w h.there) [
  | inl before ↦ inl (record { there = before; kind = h.kind; value_is = h.value_is })
  | inr same ↦ inr same
]

-- an operation that does not write this value leaves its slot as it is
pub IsSlot-other : (Is : Op → Cluster → Type 0) (ops : List Op) (a : Op) (value : ℕ) (slot : Option Cluster) → (IsWrite a → a.value ≢ value) → IsSlot Is ops value slot → IsSlot Is (ops ++ a ∷ []) value slot
IsSlot-other Is ops a value None other h = λ w g. elim (WriteOf-cases ops a w value g) [
  | inl before ↦ h w before
  | inr same ↦ other (ap (λ (x : Op). x.kind) same ∙ g.kind) (ap (λ (x : Op). x.value) same ∙ g.value_is)
]
IsSlot-other Is ops a value (Some c) other (w, h, is) = (
  w,
  record {
    write = WriteOf-more ops a w value h.write;
    only = λ x g. elim (WriteOf-cases ops a x value g) [
      | inl before ↦ h.only x before
      | inr same ↦ absurd (other (ap (λ (x : Op). x.kind) same ∙ g.kind) (ap (λ (x : Op). x.value) same ∙ g.value_is))
    ];
  },
  is,
)

-- a read changes no slot
pub IsTable-read : (Is : Op → Cluster → Type 0) (ops : List Op) (values : ℕ) (table : List (Option Cluster)) (a : Op) → (IsWrite a → ⊥) → IsTable Is ops values table → IsTable Is (ops ++ a ∷ []) values table
IsTable-read Is ops values table a read h = record {
  size = h.size;
  slots = λ value slot at. IsSlot-other Is ops a value slot (λ w _. read w) (h.slots value slot at);
}

-- the first write of a value fills its slot
pub IsTable-write : (ops : List Op) (values : ℕ) (table : List (Option Cluster)) (a : Op) → IsWrite a → slice_get table a.value ≡ Some None → IsTable IsLone ops values table → IsTable IsLone (ops ++ a ∷ []) values (set table a.value (Some (lone_cluster a)))
IsTable-write ops values table a write empty h = record {
  size = length-set table a.value (Some (lone_cluster a)) ∙ h.size;
  slots = λ value slot at. elim (after_set table a.value value slot (Some (lone_cluster a)) (slice_get_within table a.value None empty) at) [
    | inl here ↦ subst (λ s. IsSlot IsLone (ops ++ a ∷ []) value s) (sym here.1) (
      a,
      record {
        write = record { there = Contains-push ops a; kind = write; value_is = sym here.0 };
        only = λ x g. elim (WriteOf-cases ops a x value g) [
          | inl before ↦ absurd (h.slots a.value None empty x (subst (λ v. IsWriteOf ops v x) here.0 before))
          | inr same ↦ sym same
        ];
      },
      refl,
    )
    | inr (other, before) ↦ IsSlot-other IsLone ops a value slot (λ _ e. other (sym e)) (h.slots value slot before)
  ];
}

-- with no operations every slot is empty
pub IsTable-none : (Is : Op → Cluster → Type 0) (values : ℕ) → IsTable Is [] values (replicate (values + 1) None)
IsTable-none Is values = record {
  size = length-replicate (values + 1) None;
  slots = λ value slot at.
      let l = slice_get_within (replicate (values + 1) None) value slot at in
      let e : slot ≡ None = sym (get_or_from_slice_get (replicate (values + 1) None) value slot slot at) ∙ get_or-replicate (values + 1) value None slot (let n = length-replicate {A = Option Cluster} (values + 1) None in omega arith) in
      subst (λ s. IsSlot Is [] value s) (sym e) (λ w h. let (k, within, is) = h.there in absurd (omega arith));
}

-- the slot of a value that a table has
pub slot_of : (Is : Op → Cluster → Type 0) (ops : List Op) (values : ℕ) (table : List (Option Cluster)) (value : ℕ) → IsTable Is ops values table → value ≤ values → (slot : Option Cluster) × (slice_get table value ≡ Some slot) × IsSlot Is ops value slot
slot_of Is ops values table value h le =
    let n = h.size in
    let slot = get_or table value None in
    let at : slice_get table value ≡ Some slot = slice_get-get_or table value None (omega arith) in
    (slot, at, h.slots value slot at)

-- two writes of one slot are one
one_write : (Is : Op → Cluster → Type 0) (ops : List Op) (value : ℕ) (slot : Option Cluster) (a b : Op) → IsSlot Is ops value slot → IsWriteOf ops value a → IsWriteOf ops value b → a.rec ≡ b.rec
one_write Is ops value None a b h p q = absurd (h a p)
one_write Is ops value (Some c) a b (w, h, is) p q = ap (λ (x : Op). x.rec) (h.only a p ∙ sym (h.only b q))

-- where a table stands, no write is a duplicate
pub none_duplicate : (Is : Op → Cluster → Type 0) (ops : List Op) (values : ℕ) (table : List (Option Cluster)) → IsTable Is ops values table → All (λ a. a.value ≤ values) ops → HasNone (IsDuplicate ops)
none_duplicate Is ops values table h few a d =
    let (slot, _, is) = slot_of Is ops values table a.value h (All-contains (λ (x : Op). x.value ≤ values) ops a few d.there) in
    let (w, earlier, less) = d.earlier in
    let e = one_write Is ops a.value slot w a is earlier (record { there = d.there; kind = d.kind; value_is = refl }) in
    omega arith

-- what stands before a place stands in the list
Contains-from_take : (ops : List Op) (i : ℕ) (a : Op) → Contains (take i ops) a → Contains ops a
Contains-from_take ops i a (k, within, is) =
    let n = length-take i ops in
    (k, omega arith, sym (get_or-take i ops k a (omega arith)) ∙ is)

-- a write whose slot is full is the duplicate of the least record
pub duplicate_at : (Is : Op → Cluster → Type 0) (ops : List Op) (values i : ℕ) (table : List (Option Cluster)) (a : Op) (c : Cluster) → IsRising ops → All (λ a. a.value ≤ values) ops → slice_get ops i ≡ Some a → IsWrite a → IsTable Is (take i ops) values table → slice_get table a.value ≡ Some (Some c)
    → IsDuplicateKey ops a.rec
duplicate_at Is ops values i table a c rising few at write h full =
    let (w, found, _) = h.slots a.value (Some c) full in
    let there : Contains (take i ops) w = found.write.there in
    least_at ops rising (IsDuplicate ops) i a at
    (record {
      there = (i, slice_get_within ops i a at, get_or_from_slice_get ops i a a at);
      kind = write;
      earlier = (
        w,
        record { there = Contains-from_take ops i w there; kind = found.write.kind; value_is = found.write.value_is },
        front_below ops rising i a w at there,
      );
    })
    (λ b before d.
    let (x, y, less) = d.earlier in
    let below = front_below ops rising i a b at before in
    none_duplicate Is (take i ops) values table h (All-take (λ (x : Op). x.value ≤ values) i ops few) b (record {
      there = before;
      kind = d.kind;
      earlier = (
        x,
        record { there = in_front ops rising i a x at y.there (omega arith); kind = y.kind; value_is = y.value_is },
        less,
      );
    }))
    (λ b d. d.there)

-- one operation more of a list
pub take_next : (ops : List Op) (i : ℕ) (a : Op) → slice_get ops i ≡ Some a → take (i + 1) ops ≡ take i ops ++ a ∷ []
take_next ops i a at =
    take_more ops i a (slice_get_within ops i a at) ∙ ap (λ (x : Op). take i ops ++ x ∷ []) (get_or_from_slice_get ops i a a at)

module _ (ops : List Op) (values i : ℕ) (table : List (Option Cluster)) (first a : Op) (at : slice_get ops i ≡ Some a) where
  pub next_read : (Is : Op → Cluster → Type 0) → (IsWrite a → ⊥) → IsTable Is (first ∷ take i ops) values table → IsTable Is (first ∷ take (i + 1) ops) values table
  next_read Is read h =
      subst (λ (xs : List Op). IsTable Is (first ∷ xs) values table) (sym (take_next ops i a at)) (IsTable-read Is (first ∷ take i ops) values table a read h)

  pub next_write : IsWrite a → slice_get table a.value ≡ Some None → IsTable IsLone (first ∷ take i ops) values table → IsTable IsLone (first ∷ take (i + 1) ops) values (set table a.value (Some (lone_cluster a)))
  next_write write empty h =
      subst (λ (xs : List Op). IsTable IsLone (first ∷ xs) values (set table a.value (Some (lone_cluster a)))) (sym (take_next ops i a at)) (IsTable-write (first ∷ take i ops) values table a write empty h)

-- the initial write fills the slot of value 0 in an empty table
pub IsTable-start : (values : ℕ) (table : List (Option Cluster)) (c : Cluster) → table ≡ replicate (values + 1) None → c ≡ lone_cluster initial_write → IsTable IsLone (initial_write ∷ []) values (set table 0 (Some c))
IsTable-start values table c empty is =
    subst (λ (x : Cluster). IsTable IsLone (initial_write ∷ []) values (set table 0 (Some x))) (sym is)
    (IsTable-write [] values table initial_write refl
    (ap (λ (t : List (Option Cluster)). slice_get t 0) empty ∙ ap (λ (n : ℕ). slice_get (replicate {A = Option Cluster} n None) 0) (add-one values))
    (subst (λ (t : List (Option Cluster)). IsTable IsLone [] values t) (sym empty) (IsTable-none IsLone values)))
