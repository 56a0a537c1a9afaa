-- Which writes stand between a read and its write, in a list that is sorted by the operation order.
use Rattle.std.proofs.Common.{◌≡◌, ℕ, ◌+◌, ◌<◌, ◌≤◌, Bool, true, false, cond, List, refl, sym, ◌∙◌, ap, inl, inr, arith}
use Rattle.std.specs.Prelude.{◌==◌, ◌&&◌, Option, Some, None, slice_get, Contains}
use Rattle.std.specs.List.{position_or_len}
use Rattle.std.specs.List.Sorted.{IsPermutation, IsSorted}
use Rattle.std.proofs.lemmas.Bool.{cases_lt, cases_eq}
use Rattle.stale_model.specs.declared.Op.{Op}
use Rattle.stale_model.specs.declared.Cluster.{Cluster}
use Rattle.stale_model.specs.Operations.{IsWrite, records_of}
use Rattle.stale_model.specs.Faults.{IsWriteOf, IsReadIn}
use Rattle.stale_model.specs.Clusters.{writes_of, AreClusters}
use Rattle.stale_model.specs.NamedWrites.{NamesItsWrites}
use Rattle.stale_model.specs.Orders.{StandsAt, IsWithoutRepeats, is_write_record}
use Rattle.stale_model.specs.OperationOrders.{is_write_of, is_late, write_place, segment, operation_order}
use Rattle.delta_score.proofs.Segments.{AreSameClusters, write_with_record, one_value}
use Rattle.delta_score.proofs.SortedPlaces.{less_by_segment, not_less_later, operation_at}

-- operations of one value have their write at one place
pub same_place : (ops : List Op) (writes : List ℕ) (a b : Op) → a.value ≡ b.value → write_place ops writes a ≡ write_place ops writes b
same_place ops writes a b same = ap (λ (value : ℕ). position_or_len (is_write_of ops value) writes) same

-- a write is never late
write_is_not_late : (ops : List Op) (d : ℕ) (a : Op) (next : Option ℕ) → IsWrite a → is_late ops d a next ≡ false
write_is_not_late ops d a None write = refl
write_is_not_late ops d a (Some next) write = rw write refl

adds_nothing : (b late : Bool) (n : ℕ) → late ≡ false → n + cond (b && late) 1 0 ≡ n
adds_nothing true late n none = rw none (omega arith)
adds_nothing false late n none = omega arith

-- so a write stands in its own segment
pub write_segment_is : (ops : List Op) (d k : ℕ) (writes : List ℕ) (a : Op) → IsWrite a → segment ops d k writes a ≡ write_place ops writes a
write_segment_is ops d k writes a write =
    let place = write_place ops writes a in
    adds_nothing (k == 2) (is_late ops d a (slice_get writes (place + 1))) place (write_is_not_late ops d a (slice_get writes (place + 1)) write)

-- a write with this record, whose place is later than that of w, and at most the segment of r
pub record IsWriteBetween (ops : List Op) (d k : ℕ) (writes : List ℕ) (w r : Op) (rec : ℕ) : Type 0 where
  pub u : Op
  pub there : Contains ops u
  pub kind : IsWrite u
  pub record_is : u.rec ≡ rec
  pub after : write_place ops writes w < write_place ops writes u
  pub within : write_place ops writes u ≤ segment ops d k writes r

module _ (ops : List Op) (d k : ℕ) (clusters zones : List Cluster) (names : NamesItsWrites ops) (are : AreClusters ops clusters) (same : AreSameClusters clusters zones) where
  -- writes at one place are one
  pub one_write : (u v : Op) → Contains ops u → IsWrite u → Contains ops v → IsWrite v → write_place ops (writes_of zones) u ≡ write_place ops (writes_of zones) v → u ≡ v
  one_write u v cu ku cv kv at_one =
      names.once v.value u v (record { there = cu; kind = ku; value_is = one_value ops clusters zones names are same u v cu cv at_one }) (record { there = cv; kind = kv; value_is = refl })

  module _ (sorted : List Op) (sorts : IsPermutation ops sorted) (up : IsSorted (operation_order ops d k (writes_of zones)) sorted) (once : IsWithoutRepeats (records_of sorted)) where
    -- what stands between a read and its write, if it is a write
    pub write_between : (w r : Op) (i j l rec : ℕ) → IsWriteOf ops r.value w → IsReadIn ops r → StandsAt (records_of sorted) i w.rec → StandsAt (records_of sorted) j r.rec
        → i < l → l < j → StandsAt (records_of sorted) l rec → is_write_record ops rec ≡ true → IsWriteBetween ops d k (writes_of zones) w r rec
    write_between w r i j l rec ww rr ati atj low high atl t =
        let writes = writes_of zones in
        let u = write_with_record ops rec t in
        let w_at = operation_at ops d k writes sorted sorts up names.records i w.rec w ww.there refl ati in
        let r_at = operation_at ops d k writes sorted sorts up names.records j r.rec r rr.there refl atj in
        let u_at = operation_at ops d k writes sorted sorts up names.records l rec u.w u.there u.record_is atl in
        let own = write_segment_is ops d k writes w ww.kind in
        let its = write_segment_is ops d k writes u.w u.kind in
        let not_before : segment ops d k writes u.w < segment ops d k writes w → ⊥ =
        λ before. not_less_later ops d k writes sorted sorts up i l w u.w w_at u_at (omega arith) (less_by_segment ops d k writes u.w w before) in
        let not_after : segment ops d k writes r < segment ops d k writes u.w → ⊥ =
        λ after. not_less_later ops d k writes sorted sorts up l j u.w r u_at r_at (omega arith) (less_by_segment ops d k writes r u.w after) in
        let apart : write_place ops writes u.w ≡ write_place ops writes w → ⊥ = λ e.
        let f : u.w ≡ w = one_write u.w w u.there u.kind ww.there ww.kind e in
        let g : rec ≡ w.rec = sym u.record_is ∙ ap (λ (x : Op). x.rec) f in
        let same_place = once i l w.rec ati (rw g at atl) in
        absurd (omega arith) in
        record {
          u = u.w;
          there = u.there;
          kind = u.kind;
          record_is = u.record_is;
          after = elim (cases_lt (write_place ops writes w) (write_place ops writes u.w)) [
            | inl less ↦ less
            | inr more ↦ elim (cases_eq (write_place ops writes u.w) (write_place ops writes w)) [
              | inl e ↦ absurd (apart e)
              | inr differ ↦ absurd (not_before (omega arith))
            ]
          ];
          within = elim (cases_lt (segment ops d k writes r) (write_place ops writes u.w)) [
            | inl less ↦ absurd (not_after (omega arith))
            | inr more ↦ more
          ];
        }
