-- There is a side order at g exactly where the clusters are free with f later by 2g.
use Rattle.std.proofs.Common.{◌≡◌, ℕ, Bool, not, ◌+◌, ◌≤◌, List, get_or, sym, ◌∙◌, ap, inl, inr, subst, arith}
use Rattle.std.specs.Prelude.{◌↔◌, All, Contains}
use Rattle.std.specs.List.{position_or_len}
use Rattle.std.specs.List.Sorted.{IsSorted}
use Rattle.std.specs.declared.cmp.Ordering.{Ordering}
use Rattle.std.specs.Ordering.{is_lt, nat_cmp, bool_cmp, ordering_then}
use Rattle.std.proofs.lemmas.Bool.{cases_lt}
use Rattle.std.proofs.lemmas.List.{length-map, get_or-map}
use Rattle.std.proofs.lemmas.List.Elements.{All-contains, Contains-get_or}
use Rattle.std.proofs.lemmas.List.Sorted.{IsPermutation-map}
use Rattle.stale_model.specs.declared.Op.{Op}
use Rattle.stale_model.specs.declared.KeyOps.{KeyOps}
use Rattle.stale_model.specs.declared.Cluster.{Cluster}
use Rattle.stale_model.specs.declared.Four.{Four}
use Rattle.stale_model.specs.Operations.{operations, is_write, earliest_start}
use Rattle.stale_model.specs.Valid.{IsValidKey}
use Rattle.stale_model.specs.Faults.{HasNone, IsEarly, IsMatchedKey}
use Rattle.stale_model.specs.Clusters.{AreClusters, writes_of}
use Rattle.stale_model.specs.LeastDelta.{HasOrder}
use Rattle.stale_model.specs.Refutations.{IsOfRecord}
use Rattle.stale_model.specs.Shown.{FourHold}
use Rattle.stale_model.specs.Precedence.{Precedes}
use Rattle.stale_model.specs.Sides.{IsBeforeOnBothSides, IsSideOrder}
use Rattle.stale_model.specs.OperationOrders.{segment, operation_order, IsOperationOrder}
use Rattle.stale_model.proofs.ClustersOne.{cluster_writes_differ}
use Rattle.stale_model.proofs.Members.{before_mapped}
use Rattle.zones.proofs.Crossings.{no_crossing-from_no_conflict}
use Rattle.delta_score.specs.ZoneLaws.{AreOrderable, IsConflictFree}
use Rattle.delta_score.proofs.Ordered.{matched_keys_are_orderable, zone_orders_of_any_are_orders}
use Rattle.delta_score.proofs.Theorem.{zone_theorem_of_any}
use Rattle.delta_score.proofs.Segments.{segment_is}
use Rattle.delta_score.proofs.Pairs.{pairs_show_four}
use Rattle.both_sides.specs.Raised.{raised, raised_ops, raised_clusters, IsFreeAt}
use Rattle.both_sides.specs.LeastSides.{HalfGapsAreLeast, PrintedSideOrdersAreSideOrders, PairsHoldOnBothSides, FourHoldOnBothSides}
use Rattle.both_sides.proofs.Kept.{records_kept, writes_of_value_kept}
use Rattle.both_sides.proofs.LaterFinishes.{InitialIsFirst, initial_is_first, raised_keeps, before_is_later_finish, side_orders_are_orders_of_later_finishes, raised_are_orderable, clusters_raised}
use Rattle.both_sides.proofs.EarlyClusters.{early_read_of_cluster, early_cluster_of_read}

-- no read is early exactly where no write of a cluster starts after its f
in_turn_without_early : (ops : List Op) (clusters : List Cluster) → AreOrderable ops → AreClusters ops clusters → HasNone (IsEarly ops) → All (λ (c : Cluster). c.w ≤ c.f) clusters
in_turn_without_early ops clusters able are none k d within = elim (cases_lt (get_or clusters k d).f (get_or clusters k d).w) [
  | inl early ↦
      let (a, is) = early_read_of_cluster ops clusters able are (get_or clusters k d, Contains-get_or clusters k d within, early) in
      absurd (none a is)
  | inr in_turn ↦ in_turn
]

none_early_in_turn : (ops : List Op) (clusters : List Cluster) → AreOrderable ops → AreClusters ops clusters → All (λ (c : Cluster). c.w ≤ c.f) clusters → HasNone (IsEarly ops)
none_early_in_turn ops clusters able are in_turn a early =
    let (c, there, less) = early_cluster_of_read ops clusters able are a early in
    let turn = All-contains (λ (x : Cluster). x.w ≤ x.f) clusters c in_turn there in
    omega arith

-- the order of two operations of these segments
by_segments : (a b : Op) (m n : ℕ) → Ordering
by_segments a b m n =
    ordering_then (ordering_then (ordering_then (nat_cmp m n) (bool_cmp (not (is_write a)) (not (is_write b)))) (nat_cmp (earliest_start a) (earliest_start b))) (nat_cmp a.rec b.rec)

-- with k = 1 the order of operations by its writes reads no finish
segment_raised : (ops : List Op) (t : ℕ) (writes : List ℕ) (a : Op) → segment (raised_ops t ops) 0 1 writes (raised t a) ≡ segment ops 0 1 writes a
segment_raised ops t writes a =
    segment_is (raised_ops t ops) 0 writes (raised t a)
    ∙ ap (λ (passes : ℕ → Bool). position_or_len passes writes) (writes_of_value_kept (raised t) (raised_keeps t) ops a.value)
    ∙ sym (segment_is ops 0 writes a)

order_raised : (ops : List Op) (t : ℕ) (writes : List ℕ) (a b : Op) → operation_order (raised_ops t ops) 0 1 writes (raised t a) (raised t b) ≡ operation_order ops 0 1 writes a b
unfolding by_segments
order_raised ops t writes a b =
    ap (λ (m : ℕ). by_segments a b m (segment (raised_ops t ops) 0 1 writes (raised t b))) (segment_raised ops t writes a)
    ∙ ap (λ (n : ℕ). by_segments a b (segment ops 0 1 writes a) n) (segment_raised ops t writes b)

in_order_raised : (ops : List Op) (t : ℕ) (writes : List ℕ) (xs : List Op) → IsSorted (operation_order ops 0 1 writes) xs → IsSorted (operation_order (raised_ops t ops) 0 1 writes) (raised_ops t xs)
in_order_raised ops t writes xs sorted k d low high =
    let n = length-map xs (raised t) in
    let later = get_or-map (raised t) xs (k + 1) d d (omega arith) in
    let here = get_or-map (raised t) xs k d d (omega arith) in
    rw (later, here) (ap is_lt (order_raised ops t writes (get_or xs (k + 1) d) (get_or xs k d)) ∙ sorted k d low (omega arith))

operation_order_raised : (ops : List Op) (t : ℕ) (writes order : List ℕ) → IsOperationOrder ops 0 1 writes order → IsOperationOrder (raised_ops t ops) 0 1 writes order
operation_order_raised ops t writes order is = record {
  sorted = raised_ops t is.sorted;
  each_once = IsPermutation-map (raised t) ops is.sorted is.each_once;
  in_order = in_order_raised ops t writes is.sorted is.in_order;
  records = is.records ∙ sym (records_kept (raised t) (raised_keeps t) is.sorted);
}

module _ (key : KeyOps) (clusters : List Cluster) (valid : IsValidKey key) (matched : IsMatchedKey (operations key)) (are : AreClusters (operations key) clusters) where
  first : InitialIsFirst (operations key)
  first = initial_is_first key valid

  able : (t : ℕ) → AreOrderable (raised_ops t (operations key))
  able t = raised_are_orderable (operations key) t first (matched_keys_are_orderable key valid matched)

  are_then : (t : ℕ) → AreClusters (raised_ops t (operations key)) (raised_clusters t clusters)
  are_then t = clusters_raised (operations key) t first (matched_keys_are_orderable key valid matched) clusters are

  conflict_free : (t : ℕ) → IsFreeAt t clusters → IsConflictFree (raised_ops t (operations key)) 0 (raised_clusters t clusters)
  conflict_free t free = record {
    no_early = none_early_in_turn (raised_ops t (operations key)) (raised_clusters t clusters) (able t) (are_then t) free.in_turn;
    no_conflict = free.no_conflict;
  }

  free_from : (t : ℕ) → HasOrder (raised_ops t (operations key)) 0 1 → IsFreeAt t clusters
  free_from t has =
      let free = (zone_theorem_of_any (raised_ops t (operations key)) 0 (raised_clusters t clusters) (able t) (are_then t)).0 has in
      record {
        in_turn = in_turn_without_early (raised_ops t (operations key)) (raised_clusters t clusters) (able t) (are_then t) free.no_early;
        no_conflict = free.no_conflict;
      }

  pub side_orders_where_free : (g : ℕ) → ((order : List ℕ) × IsSideOrder (operations key) g order) ↔ IsFreeAt (g + g) clusters
  side_orders_where_free g = (
    λ has.
        let (order, is) = has in
        free_from (g + g) (order, (side_orders_are_orders_of_later_finishes key g order valid).0 is),
    λ free.
        let (order, is) = (zone_theorem_of_any (raised_ops (g + g) (operations key)) 0 (raised_clusters (g + g) clusters) (able (g + g)) (are_then (g + g))).1 (conflict_free (g + g) free) in
        (order, (side_orders_are_orders_of_later_finishes key g order valid).1 is),
  )

pub half_gaps_are_least : HalfGapsAreLeast
half_gaps_are_least key clusters gap g valid matched are is half = record {
  there = (side_orders_where_free key clusters valid matched are g).1 (is.free (g + g) half.enough);
  least = λ e less order side. elim (cases_lt (e + e) gap) [
    | inl below ↦ is.least (e + e) below ((side_orders_where_free key clusters valid matched are e).0 (order, side))
    | inr above ↦ let low = half.least e above in absurd (omega arith)
  ];
}

pub printed_side_orders_are_side_orders : PrintedSideOrdersAreSideOrders
printed_side_orders_are_side_orders key clusters gap g order valid matched are is enough printed =
    let ops = operations key in
    let t = g + g in
    let able = able key clusters valid matched are t in
    let are_then = are_then key clusters valid matched are t in
    let free = conflict_free key clusters valid matched are t (is.free t enough) in
    let uncrossed = no_crossing-from_no_conflict 0 (raised_clusters t clusters) printed.zones (cluster_writes_differ (raised_ops t ops) (raised_clusters t clusters) are_then) printed.zone_order free.no_conflict in
    (side_orders_are_orders_of_later_finishes key g order valid).1
    (zone_orders_of_any_are_orders (raised_ops t ops) 0 (raised_clusters t clusters) printed.zones order able free.no_early are_then printed.zone_order.each_once uncrossed
    (operation_order_raised ops t (writes_of printed.zones) order printed.operation_order))

-- an operation of the raised ones, with its record, was one
of_record_before : (ops : List Op) (t rec : ℕ) (b : Op) → IsOfRecord (raised_ops t ops) rec b → (a : Op) × IsOfRecord ops rec a × (raised t a ≡ b)
of_record_before ops t rec b is =
    let (a, there, e) = before_mapped (raised t) ops b is.there in
    (a, record { there = there; record_is = ap (λ (x : Op). x.rec) e ∙ is.record_is }, e)

module _ (ops : List Op) (g : ℕ) (first : InitialIsFirst ops) where
  before_raised : (x y a b : Op) → Contains ops x → Contains ops y → raised (g + g) x ≡ a → raised (g + g) y ≡ b → Precedes 0 a b → IsBeforeOnBothSides g x y
  before_raised x y a b cx cy ea eb precedes = (before_is_later_finish ops g x y first cx cy).1 (subst (λ (z : Op). Precedes 0 z (raised (g + g) y)) (sym ea) (subst (λ (z : Op). Precedes 0 a z) (sym eb) precedes))

  -- four records that hold at 0 of the raised operations are before each other on both sides
  pub four_on_both_sides : (four : Four) → FourHold (raised_ops (g + g) ops) 0 four → FourHoldOnBothSides ops g four
  four_on_both_sides four hold =
      let (p, p_is, ep) = of_record_before ops (g + g) four.p hold.p hold.p_is in
      let (q, q_is, eq) = of_record_before ops (g + g) four.q hold.q hold.q_is in
      let (q2, q2_is, eq2) = of_record_before ops (g + g) four.q2 hold.q2 hold.q2_is in
      let (p2, p2_is, ep2) = of_record_before ops (g + g) four.p2 hold.p2 hold.p2_is in
      let value_of = λ (x : Op). x.value in
      record {
        p = p;
        q = q;
        q2 = q2;
        p2 = p2;
        p_is = p_is;
        q_is = q_is;
        q2_is = q2_is;
        p2_is = p2_is;
        one = ap value_of ep ∙ hold.one ∙ sym (ap value_of ep2);
        other = ap value_of eq ∙ hold.other ∙ sym (ap value_of eq2);
        apart = λ e. hold.apart (sym (ap value_of ep) ∙ e ∙ ap value_of eq);
        there = before_raised p q hold.p hold.q p_is.there q_is.there ep eq hold.there;
        back = before_raised q2 p2 hold.q2 hold.p2 q2_is.there p2_is.there eq2 ep2 hold.back;
      }

pub pairs_hold_on_both_sides : PairsHoldOnBothSides
pairs_hold_on_both_sides key clusters g four valid matched are is =
    let ops = raised_ops (g + g) (operations key) in
    let names = (able key clusters valid matched are (g + g)).names in
    let hold = pairs_show_four ops 0 (raised_clusters (g + g) clusters) is.i is.j names (are_then key clusters valid matched are (g + g)) is.pair in
    four_on_both_sides (operations key) g (initial_is_first key valid) four (subst (λ (x : Four). FourHold ops 0 x) (sym is.four_is) hold)
