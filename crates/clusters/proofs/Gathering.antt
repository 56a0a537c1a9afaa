-- Tables of clusters that take in one operation after another.
use Rattle.std.proofs.Common.{◌≡◌, ◌≢◌, ℕ, zero, suc, ◌+◌, ◌≤◌, List, [], ◌∷◌, ◌++◌, Option, Some, None, length, take, set, refl, sym, ◌∙◌, ap, inl, inr, subst, arith}
use Rattle.std.specs.Prelude.{slice_get, Contains}
use Rattle.std.proofs.lemmas.Option.{slice_get_within}
use Rattle.std.proofs.lemmas.List.{length-set, take_all}
use Rattle.std.proofs.lemmas.List.Elements.{Contains-push_cases, Contains-append_left}
use Rattle.stale_model.specs.declared.Op.{Op}
use Rattle.stale_model.specs.declared.Cluster.{Cluster}
use Rattle.stale_model.specs.Operations.{IsWrite, latest_finish}
use Rattle.stale_model.specs.Clusters.{IsReadOf, IsLeastFinish, IsGreatestStart, AreReadsOf, IsClusterOf}
use Rattle.clusters.specs.Tables.{IsOnlyWriteOf, IsSlot, IsTable, IsLone, lone_cluster}
use Rattle.clusters.proofs.Growing.{after_set, take_next}

-- two lists have the same operations of this value
record HaveSame (xs ys : List Op) (value : ℕ) : Type 0 where
  to : (a : Op) → a.value ≡ value → Contains xs a → Contains ys a
  back : (a : Op) → a.value ≡ value → Contains ys a → Contains xs a

module _ (xs ys : List Op) (value : ℕ) (same : HaveSame xs ys value) where
  LeastFinish-same : (f first : ℕ) → IsLeastFinish xs value f first → IsLeastFinish ys value f first
  LeastFinish-same f first h = record {
    op = h.op;
    member = record { there = same.to h.op h.member.value_is h.member.there; value_is = h.member.value_is };
    finish_is = h.finish_is;
    first_is = h.first_is;
    least = λ a m. h.least a (record { there = same.back a m.value_is m.there; value_is = m.value_is });
    least_record = λ a m. h.least_record a (record { there = same.back a m.value_is m.there; value_is = m.value_is });
  }

  ReadOf-back : (a : Op) → IsReadOf ys value a → IsReadOf xs value a
  ReadOf-back a m = record { read = record { there = same.back a m.value_is m.read.there; kind = m.read.kind }; value_is = m.value_is }

  GreatestStart-same : (s last : ℕ) → IsGreatestStart xs value s last → IsGreatestStart ys value s last
  GreatestStart-same s last h = record {
    op = h.op;
    member = record { read = record { there = same.to h.op h.member.value_is h.member.read.there; kind = h.member.read.kind }; value_is = h.member.value_is };
    start_is = h.start_is;
    last_is = h.last_is;
    greatest = λ a m. h.greatest a (ReadOf-back a m);
    least_record = λ a m. h.least_record a (ReadOf-back a m);
  }

ReadsOf-same : (xs ys : List Op) (w : Op) (s : Option ℕ) (last : ℕ) → HaveSame xs ys w.value → AreReadsOf xs w s last → AreReadsOf ys w s last
ReadsOf-same xs ys w None last same h = record { none = λ r m. h.none r (ReadOf-back xs ys w.value same r m); last_is = h.last_is }
ReadsOf-same xs ys w (Some s) last same h = GreatestStart-same xs ys w.value same s last h

-- a cluster depends on the operations of its value alone
ClusterOf-same : (xs ys : List Op) (w : Op) (c : Cluster) → HaveSame xs ys w.value → IsClusterOf xs w c → IsClusterOf ys w c
ClusterOf-same xs ys w c same h = record {
  there = same.to w refl h.there;
  kind = h.kind;
  record_is = h.record_is;
  start_is = h.start_is;
  finishes = LeastFinish-same xs ys w.value same c.f c.first h.finishes;
  reads = ReadsOf-same xs ys w c.s c.last same h.reads;
}

in_one : (w a : Op) → Contains (w ∷ []) a → w ≡ a
in_one w a (zero, within, is) = is
in_one w a (suc k, within, is) = absurd (omega arith)

-- a write alone has its lone cluster
ClusterOf-lone : (w : Op) → IsWrite w → IsClusterOf (w ∷ []) w (lone_cluster w)
ClusterOf-lone w write = record {
  there = (0, omega arith, refl);
  kind = write;
  record_is = refl;
  start_is = refl;
  finishes = record {
    op = w;
    member = record { there = (0, omega arith, refl); value_is = refl };
    finish_is = refl;
    first_is = refl;
    least = λ a m. let e = ap latest_finish (in_one w a m.there) in omega arith;
    least_record = λ a m _. let e = ap (λ (x : Op). x.rec) (in_one w a m.there) in omega arith;
  };
  reads = record { none = λ r m. let e = sym write ∙ ap (λ (x : Op). x.kind) (in_one w r m.read.there) ∙ m.read.kind in cc; last_is = refl };
}

-- an operation of another value changes no cluster
ClusterOf-other : (xs : List Op) (a w : Op) (c : Cluster) → a.value ≢ w.value → IsClusterOf xs w c → IsClusterOf (xs ++ a ∷ []) w c
ClusterOf-other xs a w c other h = ClusterOf-same xs (xs ++ a ∷ []) w c (record {
  to = λ x _ there. Contains-append_left xs (a ∷ []) x there;
  back = λ x e there. elim (Contains-push_cases xs a x there) [
    | inl before ↦ before
    | inr same ↦ absurd (other (ap (λ (y : Op). y.value) same ∙ e))
  ];
}) h

-- the cluster of a write among all operations, from what was seen after the write itself
ClusterOf-whole : (first : Op) (ops : List Op) (w : Op) (c : Cluster) → IsWrite first → IsOnlyWriteOf (first ∷ ops) w.value w → IsClusterOf (w ∷ ops) w c → IsClusterOf (first ∷ ops) w c
ClusterOf-whole first ops w c write h is = ClusterOf-same (w ∷ ops) (first ∷ ops) w c (record {
  to = to;
  back = back;
}) is
  where
    to : (a : Op) → a.value ≡ w.value → Contains (w ∷ ops) a → Contains (first ∷ ops) a
    to a e (zero, within, same) = subst (λ (x : Op). Contains (first ∷ ops) x) same h.write.there
    to a e (suc k, within, same) = (suc k, within, same)

    back : (a : Op) → a.value ≡ w.value → Contains (first ∷ ops) a → Contains (w ∷ ops) a
    back a e (zero, within, same) = (0, omega arith, sym (h.only a (record { there = (0, omega arith, same); kind = ap (λ (x : Op). x.kind) (sym same) ∙ write; value_is = e })))
    back a e (suc k, within, same) = (suc k, within, same)

-- what is said of each write of a slot may be replaced by what follows from it
IsSlot-follows : (Is Then : Op → Cluster → Type 0) (ops : List Op) (value : ℕ) (slot : Option Cluster) → ((w : Op) (c : Cluster) → IsOnlyWriteOf ops value w → Is w c → Then w c) → IsSlot Is ops value slot → IsSlot Then ops value slot
IsSlot-follows Is Then ops value None f h = h
IsSlot-follows Is Then ops value (Some c) f (w, only, is) = (w, only, f w c only is)

-- w has this cluster among the operations seen so far, itself taken as seen
abbrev pub IsSeen : List Op → Op → Cluster → Type 0
IsSeen seen w c = IsClusterOf (w ∷ seen) w c

module _ (all : List Op) (values : ℕ) where
  -- before any operation is seen
  pub seen_none : (table : List (Option Cluster)) → IsTable IsLone all values table → IsTable (IsSeen []) all values table
  seen_none table h = record {
    size = h.size;
    slots = λ value slot at. IsSlot-follows IsLone (IsSeen []) all value slot (λ w c only is. subst (λ (x : Cluster). IsSeen [] w x) (sym is) (ClusterOf-lone w only.write.kind)) (h.slots value slot at);
  }

  module _ (ops : List Op) (i : ℕ) (a : Op) (table : List (Option Cluster)) (at : slice_get ops i ≡ Some a) (h : IsTable (IsSeen (take i ops)) all values table) where
    seen_next : (w : Op) (c : Cluster) → IsClusterOf ((w ∷ take i ops) ++ a ∷ []) w c → IsSeen (take (i + 1) ops) w c
    seen_next w c is = subst (λ (xs : List Op). IsClusterOf (w ∷ xs) w c) (sym (take_next ops i a at)) is

    seen_other : (value : ℕ) (slot : Option Cluster) → value ≢ a.value → slice_get table value ≡ Some slot → IsSlot (IsSeen (take (i + 1) ops)) all value slot
    seen_other value slot other there =
        IsSlot-follows (IsSeen (take i ops)) (IsSeen (take (i + 1) ops)) all value slot
        (λ w c only is. seen_next w c (ClusterOf-other (w ∷ take i ops) a w c (λ e. other (sym only.write.value_is ∙ sym e)) is))
        (h.slots value slot there)

    -- an operation that its cluster takes in
    pub seen_more : (c grown : Cluster) → slice_get table a.value ≡ Some (Some c)
        → ((xs : List Op) (w : Op) → a.value ≡ w.value → IsClusterOf xs w c → IsClusterOf (xs ++ a ∷ []) w grown)
        → IsTable (IsSeen (take (i + 1) ops)) all values (set table a.value (Some grown))
    seen_more c grown full grows =
        let (w, only, is) = h.slots a.value (Some c) full in
        record {
          size = length-set table a.value (Some grown) ∙ h.size;
          slots = λ value slot there. elim (after_set table a.value value slot (Some grown) (slice_get_within table a.value (Some c) full) there) [
            | inl (here, new) ↦
                subst (λ (s : Option Cluster). IsSlot (IsSeen (take (i + 1) ops)) all value s) (sym new)
                (subst (λ (v : ℕ). IsSlot (IsSeen (take (i + 1) ops)) all v (Some grown)) (sym here)
                (w, only, seen_next w grown (grows (w ∷ take i ops) w (sym only.write.value_is) is)))
            | inr (other, before) ↦ seen_other value slot other before
          ];
        }

-- once all operations are seen
pub seen_all : (first : Op) (ops : List Op) (values : ℕ) (table : List (Option Cluster)) (i : ℕ) → IsWrite first → length ops ≤ i → IsTable (IsSeen (take i ops)) (first ∷ ops) values table → IsTable (IsClusterOf (first ∷ ops)) (first ∷ ops) values table
seen_all first ops values table i write le h = record {
  size = h.size;
  slots = λ value slot at. IsSlot-follows (IsSeen (take i ops)) (IsClusterOf (first ∷ ops)) (first ∷ ops) value slot
      (λ w c only is. ClusterOf-whole first ops w c write (subst (λ v. IsOnlyWriteOf (first ∷ ops) v w) (sym only.write.value_is) only)
      (subst (λ (xs : List Op). IsClusterOf (w ∷ xs) w c) (take_all i ops le) is))
      (h.slots value slot at);
}
