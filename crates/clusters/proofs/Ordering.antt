-- The clusters of a table in the order of their writes.
use Rattle.std.proofs.Common.{◌≡◌, ◌⊎◌, ℕ, zero, suc, ◌+◌, ◌<◌, ◌≤◌, List, [], ◌∷◌, Option, Some, None, map, get_or, refl, sym, ◌∙◌, ap, inl, inr, subst, arith}
use Rattle.std.specs.Prelude.{slice_get, Contains, All, unwrap_or}
use Rattle.std.specs.List.{AllPairs, filter_map, cons_option}
use Rattle.std.specs.List.Sorted.{IsStrictlyIncreasing}
use Rattle.std.proofs.lemmas.List.{get_or-map, length-map}
use Rattle.std.proofs.lemmas.List.Elements.{All-contains, Contains-get_or}
use Rattle.std.proofs.lemmas.List.Kept.{AllPairs-cons}
use Rattle.stale_model.specs.declared.Op.{Op}
use Rattle.stale_model.specs.declared.Kind.{Kind}
use Rattle.stale_model.specs.declared.Kind.TheVariants.{Read, Write}
use Rattle.stale_model.specs.declared.Cluster.{Cluster}
use Rattle.stale_model.specs.Operations.{IsWrite}
use Rattle.stale_model.specs.Faults.{IsWriteOf}
use Rattle.stale_model.specs.Clusters.{IsClusterOf, AreClusters}
use Rattle.clusters.specs.Tables.{IsSlot, IsTable, cluster_in, if_write}
use Rattle.clusters.proofs.Growing.{slot_of}
use Rattle.clusters.proofs.Records.{IsRising}

-- an item of a list is one of a longer list
pub Contains-later : {X : Type 0} (x : X) (xs : List X) (z : X) → Contains xs z → Contains (x ∷ xs) z
Contains-later x xs z (k, within, is) = (suc k, omega arith, is)

-- an item of a list is the first one, or one of the others
pub Contains-cases : {X : Type 0} (x : X) (xs : List X) (z : X) → Contains (x ∷ xs) z → (x ≡ z) ⊎ Contains xs z
Contains-cases x xs z (zero, within, is) = inl is
Contains-cases x xs z (suc k, within, is) = inr (k, omega arith, is)

module _ {X Y : Type 0} (f : X → Option Y) where
  -- what a filter gives comes from an item
  filter_map_from : (xs : List X) (y : Y) → Contains (filter_map f xs) y → (x : X) × Contains xs x × (f x ≡ Some y)
  filter_map_from [] y (k, within, is) = absurd (omega arith)
  filter_map_from (x ∷ xs) y there = elim (f x) as (λ o. f x ≡ o → Contains (cons_option o (filter_map f xs)) y → (z : X) × Contains (x ∷ xs) z × (f z ≡ Some y)) [
    | None ↦ λ e h. let (z, c, is) = filter_map_from xs y h in (z, Contains-later x xs z c, is)
    | Some v ↦ λ e h. elim (Contains-cases v (filter_map f xs) y h) [
      | inl same ↦ (x, (0, omega arith, refl), e ∙ ap Some same)
      | inr more ↦ let (z, c, is) = filter_map_from xs y more in (z, Contains-later x xs z c, is)
    ]
  ] refl there

  -- what an item gives is there
  filter_map_to : (xs : List X) (x : X) (y : Y) → Contains xs x → f x ≡ Some y → Contains (filter_map f xs) y
  filter_map_to [] x y (k, within, is) e = absurd (omega arith)
  filter_map_to (v ∷ xs) x y there e = elim (Contains-cases v xs x there) [
    | inl same ↦ rw (ap f same ∙ e) (0, omega arith, refl)
    | inr more ↦ elim (f v) as (λ o. Contains (cons_option o (filter_map f xs)) y) [
      | None ↦ filter_map_to xs x y more e
      | Some u ↦ Contains-later u (filter_map f xs) y (filter_map_to xs x y more e)
    ]
  ]

-- what holds of each item that a list contains holds of all
All-from_contains : {X : Type 0} (P : X → Type 0) (xs : List X) → ((x : X) → Contains xs x → P x) → All P xs
All-from_contains P xs h k d within = h (get_or xs k d) (Contains-get_or xs k d within)

-- the clusters have the records of their writes
abbrev IsNamed : (Op → Option Cluster) → List Op → Type 0
IsNamed f ops = (a : Op) (c : Cluster) → Contains ops a → f a ≡ Some c → c.write ≡ a.rec

-- so they rise with them
rising_clusters : (f : Op → Option Cluster) (ops : List Op) → IsRising ops → IsNamed f ops → AllPairs (λ c d. c.write < d.write) (filter_map f ops)
rising_clusters f [] rising named = λ i j d less within. absurd (omega arith)
rising_clusters f (a ∷ ops) rising named =
    let rest = rising_clusters f ops (λ i j d less within. rising (suc i) (suc j) d (omega arith) (omega arith)) (λ b c there e. named b c (Contains-later a ops b there) e) in
    elim (f a) as (λ o. f a ≡ o → AllPairs (λ c d. c.write < d.write) (cons_option o (filter_map f ops))) [
      | None ↦ λ e. rest
      | Some c ↦ λ e. AllPairs-cons (λ c d. c.write < d.write) c (filter_map f ops)
          (All-from_contains (λ d. c.write < d.write) (filter_map f ops) (λ d there.
          let (b, (k, within, is), g) = filter_map_from f ops d there in
          let low = named a c (0, omega arith, refl) e in
          let high = named b d (suc k, omega arith, is) g in
          let less = rising 0 (suc k) b (omega arith) (omega arith) in
          let same = ap (λ (x : Op). x.rec) is in
          omega arith))
          rest
    ] refl

-- the records of rising clusters
increasing_writes : (cs : List Cluster) → AllPairs (λ c d. c.write < d.write) cs → IsStrictlyIncreasing (map (λ c. c.write) cs)
increasing_writes cs pairs k within =
    let none : Cluster = record { write = 0; f = 0; w = 0; s = None; first = 0; last = 0 } in
    let n = length-map cs (λ (c : Cluster). c.write) in
    let low = get_or-map (λ (c : Cluster). c.write) cs k none 0 (omega arith) in
    let high = get_or-map (λ (c : Cluster). c.write) cs (k + 1) none 0 (omega arith) in
    let less = pairs k (k + 1) none (omega arith) (omega arith) in
    omega arith

full_write : (k : Kind) (slot : Option Cluster) (c : Cluster) → if_write k slot ≡ Some c → (k ≡ Write) × (slot ≡ Some c)
full_write Read slot c e = cc
full_write Write slot c e = (refl, e)

full_slot : (o : Option (Option Cluster)) (c : Cluster) → unwrap_or o None ≡ Some c → o ≡ Some (Some c)
full_slot None c e = cc
full_slot (Some s) c e = ap Some e

module _ (ops : List Op) (values : ℕ) (table : List (Option Cluster)) (h : IsTable (IsClusterOf ops) ops values table) where
  -- what stands in the slot of a write is its cluster
  cluster_from : (a : Op) (c : Cluster) → Contains ops a → cluster_in table a ≡ Some c → IsClusterOf ops a c
  cluster_from a c there e =
      let (write, slot) = full_write a.kind (unwrap_or (slice_get table a.value) None) c e in
      let (w, only, is) = h.slots a.value (Some c) (full_slot (slice_get table a.value) c slot) in
      subst (λ (x : Op). IsClusterOf ops x c) (sym (only.only a (record { there = there; kind = write; value_is = refl }))) is

  full_here : (a : Op) (slot : Option Cluster) → IsWriteOf ops a.value a → slice_get table a.value ≡ Some slot → IsSlot (IsClusterOf ops) ops a.value slot → (c : Cluster) × (cluster_in table a ≡ Some c)
  full_here a None write at is = absurd (is a write)
  full_here a (Some c) write at is = (c, rw (write.kind, at) refl)

  -- each write has a cluster
  cluster_to : (a : Op) → Contains ops a → IsWrite a → a.value ≤ values → (c : Cluster) × (cluster_in table a ≡ Some c)
  cluster_to a there write le =
      let (slot, at, is) = slot_of (IsClusterOf ops) ops values table a.value h le in
      full_here a slot (record { there = there; kind = write; value_is = refl }) at is

  -- all clusters, in the order of their writes
  pub AreClusters-from_table : IsRising ops → All (λ a. a.value ≤ values) ops → AreClusters ops (filter_map (cluster_in table) ops)
  AreClusters-from_table rising few = record {
    each = λ c there. let (a, at, e) = filter_map_from (cluster_in table) ops c there in (a, cluster_from a c at e);
    whole = λ w there write.
        let (c, e) = cluster_to w there write (All-contains (λ (a : Op). a.value ≤ values) ops w few there) in
        (c, filter_map_to (cluster_in table) ops w c there e, cluster_from w c there e);
    rising = increasing_writes (filter_map (cluster_in table) ops) (rising_clusters (cluster_in table) ops rising (λ a c there e. sym (cluster_from a c there e).record_is));
  }
