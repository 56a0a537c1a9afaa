-- Where no zone crosses an earlier one, the order of operations that the zones give is an order.
use Rattle.std.proofs.Common.{◌≡◌, ℕ, zero, suc, ◌≤◌, List, length, refl, sym, ◌∙◌, ap, subst, inl, inr, arith}
use Rattle.std.specs.Prelude.{◌==◌, ◌-◌, max, Contains}
use Rattle.std.specs.declared.cmp.Ordering.TheVariants.{Less}
use Rattle.std.specs.List.Sorted.{IsPermutation, IsSorted}
use Rattle.std.proofs.lemmas.Bool.{cases_order, cond_both, false_from_ne_true}
use Rattle.std.proofs.lemmas.List.Elements.{All-contains}
use Rattle.stale_model.specs.declared.Op.{Op}
use Rattle.stale_model.specs.declared.KeyOps.{KeyOps}
use Rattle.stale_model.specs.declared.Cluster.{Cluster}
use Rattle.stale_model.specs.Operations.{initial_write, operations, records_of, earliest_start, latest_finish}
use Rattle.stale_model.specs.Valid.{IsValidOp, IsValidKey}
use Rattle.stale_model.specs.Faults.{IsWriteOf, IsReadIn, HasNone, IsEarly}
use Rattle.stale_model.specs.Clusters.{AreClusters, writes_of}
use Rattle.stale_model.specs.NamedWrites.{NamesItsWrites}
use Rattle.stale_model.specs.Precedence.{Precedes}
use Rattle.stale_model.specs.Orders.{is_write_record, IsAmongLast, IsOrder, ListsEachOnce}
use Rattle.stale_model.specs.OperationOrders.{write_place, segment, operation_order}
use Rattle.stale_model.specs.Zones.{HasNoCrossing}
use Rattle.model_laws.proofs.Named.{matched_keys_name_their_writes}
use Rattle.stale_model.proofs.ReadsAndWrites.{reads_or_writes}
use Rattle.delta_score.specs.ZoneLaws.{ZoneOrdersAreOrders, FinishFromStart, MatchedKeysAreOrderable, ZoneOrdersOfAnyAreOrders}
use Rattle.model_laws.proofs.Between.{starts_by}
use Rattle.model_laws.proofs.ClustersOne.{valid_records_differ}
use Rattle.delta_score.proofs.Once.{each_once_in_order}
use Rattle.delta_score.proofs.Segments.{AreSameClusters, same_in_order, segment_is, zone_of, one_value, finishes_from}
use Rattle.delta_score.proofs.Returned.{same_place, write_between}
use Rattle.delta_score.proofs.SortedPlaces.{none_counts_between, less_by_segment, write_is_less, earlier_is_less, less_stands_before}

-- an operation of a valid key starts no later than it finishes
pub starts_before_finish : (key : KeyOps) (a : Op) → IsValidKey key → Contains (operations key) a → earliest_start a ≤ latest_finish a
starts_before_finish key a valid (zero, within, is) =
    let e : initial_write ≡ a = is in
    subst (λ (x : Op). earliest_start x ≤ latest_finish x) e (omega arith)
starts_before_finish key a valid (suc i, within, is) =
    let v = All-contains (IsValidOp (length key.values)) key.ops a valid.ops (i, omega arith, is) in
    let starts = v.starts in
    let ordered = v.ordered in
    cond_both (a.rec == 0) 0 (max 1 (a.start - a.slack)) (λ n. n ≤ latest_finish a) (λ _. omega arith) (λ _. omega arith)

pub matched_keys_are_orderable : MatchedKeysAreOrderable
matched_keys_are_orderable key valid matched = record {
  records = valid_records_differ key valid;
  names = matched_keys_name_their_writes key valid matched;
  finish = λ a there. starts_before_finish key a valid there;
}

module _ (ops : List Op) (d : ℕ) (clusters zones : List Cluster) (names : NamesItsWrites ops) (no_early : HasNone (IsEarly ops)) (finish : FinishFromStart ops) (are : AreClusters ops clusters)
    (each : IsPermutation clusters zones) (free : HasNoCrossing d zones) where
  same : AreSameClusters clusters zones
  same = same_in_order clusters zones each

  -- operations of one place have one segment
  one_segment : (a b : Op) → write_place ops (writes_of zones) a ≡ write_place ops (writes_of zones) b
      → segment ops d 1 (writes_of zones) a ≡ segment ops d 1 (writes_of zones) b
  one_segment a b at_one = segment_is ops d (writes_of zones) a ∙ at_one ∙ sym (segment_is ops d (writes_of zones) b)

  -- in a cluster, what precedes is less
  less_in_cluster : (a b : Op) → Contains ops a → Contains ops b → write_place ops (writes_of zones) a ≡ write_place ops (writes_of zones) b
      → Precedes d a b → operation_order ops d 1 (writes_of zones) a b ≡ Less
  less_in_cluster a b ca cb at_one precedes =
      let value = one_value ops clusters zones names are same a b ca cb at_one in
      let segments = one_segment a b at_one in
      let begins = finish a ca in
      elim (reads_or_writes b) [
        | inl read ↦ elim (reads_or_writes a) [
          | inl reads ↦ earlier_is_less ops d 1 (writes_of zones) a b segments reads read (let low = rw read at precedes in omega arith)
          | inr write ↦ write_is_less ops d 1 (writes_of zones) a b segments write read
        ]
        | inr write ↦
            let low = rw write at precedes in
            let of_a : IsWriteOf ops a.value b = record { there = cb; kind = write; value_is = sym value } in
            elim (reads_or_writes a) [
              | inl read ↦ absurd (no_early a (record { read = record { there = ca; kind = read }; before = (b, of_a, omega arith) }))
              | inr writes ↦
                  let e : a ≡ b = names.once a.value a b (record { there = ca; kind = writes; value_is = refl }) of_a in
                  let f : earliest_start a ≡ earliest_start b = ap earliest_start e in
                  absurd (omega arith)
            ]
      ]

  -- what precedes is less
  precedes_less : (a b : Op) → Contains ops a → Contains ops b → Precedes d a b → operation_order ops d 1 (writes_of zones) a b ≡ Less
  precedes_less a b ca cb precedes =
      let place = write_place ops (writes_of zones) in
      let za = zone_of ops clusters zones names are same a ca in
      let zb = zone_of ops clusters zones names are same b cb in
      let low = finishes_from ops za.w a za.zone za.is ca za.value_is in
      let high = starts_by ops d zb.w b zb.zone names zb.is (record { there = cb; value_is = zb.value_is }) (latest_finish a) precedes in
      let first = segment_is ops d (writes_of zones) a in
      let second = segment_is ops d (writes_of zones) b in
      elim (cases_order (place a) (place b)) [
        | inl at_one ↦ less_in_cluster a b ca cb at_one precedes
        | inr apart ↦ elim apart [
          | inl before ↦ less_by_segment ops d 1 (writes_of zones) a b (omega arith)
          | inr after ↦ absurd (free (place b) (place a) zb.zone za.zone (record { first = zb.at; second = za.at; rises = after; crosses = omega (arith, low, high) }))
        ]
      ]

  module _ (sorted : List Op) (sorts : IsPermutation ops sorted) (up : IsSorted (operation_order ops d 1 (writes_of zones)) sorted)
      (each_once : ListsEachOnce (records_of ops) (records_of sorted)) where
    -- no write stands between a read and its write: it is the last write before the read
    last_write_before : (w r : Op) → IsWriteOf ops r.value w → IsReadIn ops r → IsAmongLast ops 1 (records_of sorted) w r
    last_write_before w r ww rr =
        let writes = writes_of zones in
        let at_one = same_place ops writes w r ww.value_is in
        let own = segment_is ops d writes r in
        let s = less_stands_before ops d 1 writes sorted sorts up w r ww.there rr.there (write_is_less ops d 1 writes w r (one_segment w r at_one) ww.kind rr.kind) in
        record {
          before = s;
          few = none_counts_between (is_write_record ops) (records_of sorted) s.place s.later
              (λ l x low high at. false_from_ne_true _
              (λ t.
              let between = write_between ops d 1 clusters zones names are same sorted sorts up each_once.once w r s.place s.later l x ww rr s.first s.second low high at t in
              let after = between.after in
              let within = between.within in
              absurd (omega arith)));
        }

    pub is_order : IsOrder ops d 1 (records_of sorted)
    is_order = record {
      each_once = each_once;
      extends = λ a b ca cb precedes. less_stands_before ops d 1 (writes_of zones) sorted sorts up a b ca cb (precedes_less a b ca cb precedes);
      returns = λ r rr.
          let (w, ww) = names.written r rr.there in
          (w, ww, last_write_before w r ww rr);
    }

pub zone_orders_of_any_are_orders : ZoneOrdersOfAnyAreOrders
zone_orders_of_any_are_orders ops d clusters zones order able no_early are each free is =
    rw is.records
    (is_order ops d clusters zones able.names no_early able.finish are each free is.sorted is.each_once is.in_order
    (each_once_in_order (λ (a : Op). a.rec) ops is.sorted able.records is.each_once))

pub zone_orders_are_orders : ZoneOrdersAreOrders
zone_orders_are_orders key d clusters zones order valid clear are each free is =
    zone_orders_of_any_are_orders (operations key) d clusters zones order (matched_keys_are_orderable key valid clear.matched) clear.no_early are each free is
