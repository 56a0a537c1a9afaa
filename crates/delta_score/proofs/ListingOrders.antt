-- The order of operations that a listing gives is an order with k = 2.
use Rattle.std.proofs.Common.{◌≡◌, ◌⊎◌, ℕ, ◌+◌, ◌<◌, ◌≤◌, true, List, refl, sym, ◌∙◌, ap, subst, inl, inr, arith}
use Rattle.std.specs.Prelude.{Contains}
use Rattle.std.specs.declared.cmp.Ordering.TheVariants.{Less}
use Rattle.std.specs.List.Sorted.{IsPermutation, IsSorted}
use Rattle.std.proofs.lemmas.Bool.{cases_lt, cases_order}
use Rattle.stale_model.specs.declared.Op.{Op}
use Rattle.stale_model.specs.declared.KeyOps.{KeyOps}
use Rattle.stale_model.specs.declared.Cluster.{Cluster}
use Rattle.stale_model.specs.Operations.{IsRead, IsWrite, operations, records_of, earliest_start, latest_finish}
use Rattle.stale_model.specs.Valid.{IsValidKey}
use Rattle.stale_model.specs.Faults.{IsWriteOf, IsReadIn, IsClearKey}
use Rattle.stale_model.specs.Clusters.{writes_of, IsClusterOf, AreClusters}
use Rattle.stale_model.specs.Listings.{IsListing}
use Rattle.stale_model.specs.NamedWrites.{NamesItsWrites}
use Rattle.stale_model.specs.Precedence.{Precedes}
use Rattle.stale_model.specs.Zones.{reads_start, HasNoCrossing}
use Rattle.stale_model.specs.Orders.{StandsAt, ListsEachOnce, is_write_record, IsAmongLast, IsOrder}
use Rattle.stale_model.specs.OperationOrders.{write_place, segment, operation_order, IsOperationOrder}
use Rattle.model_laws.proofs.Named.{matched_keys_name_their_writes}
use Rattle.stale_model.proofs.ReadsAndWrites.{reads_or_writes}
use Rattle.stale_model.proofs.Places.{same_at}
use Rattle.stale_model.proofs.Sorted.{no_repeats_from_map, permuted_no_repeats}
use Rattle.stale_model.proofs.ClustersOne.{cluster_writes_differ}
use Rattle.delta_score.specs.WriteLists.{AreUncrossedWrites, AreListedWrites}
use Rattle.delta_score.specs.ListingLaws.{ListingsAreOrders}
use Rattle.model_laws.proofs.Between.{read_start}
use Rattle.model_laws.proofs.ClustersOne.{valid_records_differ}
use Rattle.delta_score.proofs.Once.{each_once_in_order}
use Rattle.delta_score.specs.ZoneLaws.{FinishFromStart}
use Rattle.delta_score.proofs.Ordered.{starts_before_finish, zone_orders_are_orders}
use Rattle.delta_score.proofs.Segments.{AreSameClusters, same_in_order, zone_of, one_value, finishes_from}
use Rattle.delta_score.proofs.Late.{late_or_in_time, late_starts_after, in_time_starts_by}
use Rattle.delta_score.proofs.Returned.{same_place, write_segment_is, one_write, write_between}
use Rattle.delta_score.proofs.SortedPlaces.{one_counts_between, less_by_segment, write_is_less, earlier_is_less, less_stands_before}

-- an operation stands in the segment of its own write or in the next one
record StandsNear (ops : List Op) (d : ℕ) (writes : List ℕ) (a : Op) : Type 0 where
  pub low : write_place ops writes a ≤ segment ops d 2 writes a
  pub high : segment ops d 2 writes a ≤ write_place ops writes a + 1

stands_near : (ops : List Op) (d : ℕ) (writes : List ℕ) (a : Op) → StandsNear ops d writes a
stands_near ops d writes a = elim (late_or_in_time ops d writes a) [
  | inl late ↦ let is = late.segment_is in record { low = omega arith; high = omega arith }
  | inr in_time ↦ let is = in_time.segment_is in record { low = omega arith; high = omega arith }
]

module _ (ops : List Op) (d : ℕ) (clusters listing : List Cluster) (names : NamesItsWrites ops) (clear : IsClearKey ops) (finish : FinishFromStart ops)
    (are : AreClusters ops clusters) (is : IsListing d clusters listing) where
  same : AreSameClusters clusters listing
  same = record { known = is.each_once.known; whole = is.each_once.whole }

  -- the write of an operation's value starts no later than the operation finishes
  write_starts_by : (w a : Op) → IsWriteOf ops a.value w → Contains ops a → earliest_start w ≤ latest_finish a
  write_starts_by w a of there = elim (reads_or_writes a) [
    | inl read ↦ elim (cases_lt (latest_finish a) (earliest_start w)) [
      | inl early ↦ absurd (clear.no_early a (record { read = record { there = there; kind = read }; before = (w, of, early) }))
      | inr high ↦ high
    ]
    | inr write ↦
        let e : w ≡ a = names.once a.value w a of (record { there = there; kind = write; value_is = refl }) in
        subst (λ (x : Op). earliest_start x ≤ latest_finish a) (sym e) (finish a there)
  ]

  -- so the write of a cluster starts no later than the first operation finishes
  starts_by_finish : (w : Op) (c : Cluster) → IsClusterOf ops w c → c.w ≤ c.f
  starts_by_finish w c of =
      let least = of.finishes in
      let own : IsWriteOf ops least.op.value w = record { there = of.there; kind = of.kind; value_is = sym least.member.value_is } in
      let low = write_starts_by w least.op own least.member.there in
      let start_is = of.start_is in
      let finish_is = least.finish_is in
      omega arith

  -- what precedes a write stands in an earlier segment
  before_write : (a b : Op) → Contains ops a → Contains ops b → IsWrite b → latest_finish a < earliest_start b
      → segment ops d 2 (writes_of listing) a < segment ops d 2 (writes_of listing) b
  before_write a b ca cb write low =
      let writes = writes_of listing in
      let place = write_place ops writes in
      let za = zone_of ops clusters listing names are same a ca in
      let zb = zone_of ops clusters listing names are same b cb in
      let ends = finishes_from ops za.w a za.zone za.is ca za.value_is in
      let one : zb.w ≡ b = names.once b.value zb.w b (record { there = zb.is.there; kind = zb.is.kind; value_is = sym zb.value_is }) (record { there = cb; kind = write; value_is = refl }) in
      let starts : earliest_start b ≡ zb.zone.w = ap earliest_start (sym one) ∙ zb.is.start_is in
      let own = write_segment_is ops d 2 writes b write in
      let begins = finish a ca in
      let after = starts_by_finish zb.w zb.zone zb.is in
      let not_later : place b < place a → ⊥ = λ less.
      let hard = is.hard (place b) (place a) zb.zone za.zone zb.at za.at less in
      absurd (omega arith) in
      let not_same : place a ≡ place b → ⊥ = λ e.
      let of_a : IsWriteOf ops a.value b = record { there = cb; kind = write; value_is = sym (one_value ops clusters listing names are same a b ca cb e) } in
      let by = write_starts_by b a of_a ca in
      absurd (omega arith) in
      let before : place a < place b = elim (cases_order (place a) (place b)) [
        | inl e ↦ absurd (not_same e)
        | inr apart ↦ elim apart [ inl less ↦ less | inr less ↦ absurd (not_later less) ]
      ] in
      elim (late_or_in_time ops d writes a) [
        | inr in_time ↦ let at_place = in_time.segment_is in omega arith
        | inl late ↦
            let at_next = late.segment_is in
            let next = late_starts_after ops d clusters listing names are same a late in
            elim (cases_lt (place a + 1) (place b)) [
              | inl less ↦ omega arith
              | inr more ↦
                  let here : StandsAt listing (place b) next.zone = subst (λ (i : ℕ). StandsAt listing i next.zone) (let e : place a + 1 ≡ place b = omega arith in e) next.at in
                  let e : next.zone ≡ zb.zone = same_at listing (place b) next.zone zb.zone here zb.at in
                  let f : next.zone.f ≡ zb.zone.f = ap (λ (c : Cluster). c.f) e in
                  let late_after = next.after in
                  absurd (omega arith)
            ]
      ]

  -- what precedes a read at d stands in no later segment
  before_read : (a b : Op) → Contains ops a → Contains ops b → IsRead b → latest_finish a + d < earliest_start b
      → segment ops d 2 (writes_of listing) a ≤ segment ops d 2 (writes_of listing) b
  before_read a b ca cb read low =
      let writes = writes_of listing in
      let place = write_place ops writes in
      let za = zone_of ops clusters listing names are same a ca in
      let zb = zone_of ops clusters listing names are same b cb in
      let ends = finishes_from ops za.w a za.zone za.is ca za.value_is in
      let starts : earliest_start b ≤ reads_start zb.zone =
      read_start ops zb.w zb.zone.s zb.zone.last b zb.is.reads (record { read = record { there = cb; kind = read }; value_is = zb.value_is }) in
      let begins = finish a ca in
      let near = stands_near ops d writes b in
      let from = near.low in
      let soft : (i : ℕ) (c : Cluster) → StandsAt listing i c → place b + 1 < i → reads_start zb.zone ≤ c.f + d = λ i c at less. is.soft (place b) i zb.zone c zb.at at less in
      let close : place a ≤ place b + 1 = elim (cases_lt (place b + 1) (place a)) [
        | inl less ↦ let by = soft (place a) za.zone za.at less in absurd (omega arith)
        | inr more ↦ more
      ] in
      let by_next : (c : Cluster) → StandsAt listing (place b + 1) c → c.f + d < earliest_start b → place b + 1 ≤ segment ops d 2 writes b = λ c at after.
      elim (late_or_in_time ops d writes b) [
        | inl late ↦ let is_next = late.segment_is in omega arith
        | inr in_time ↦ let by = in_time_starts_by ops d clusters listing names are same b c read in_time at in absurd (omega arith)
      ] in
      elim (late_or_in_time ops d writes a) [
        | inr in_time ↦
            let at_place = in_time.segment_is in
            elim (cases_lt (place b) (place a)) [
              | inr more ↦ omega arith
              | inl less ↦
                  let here : StandsAt listing (place b + 1) za.zone = subst (λ (i : ℕ). StandsAt listing i za.zone) (let e : place a ≡ place b + 1 = omega arith in e) za.at in
                  let by = by_next za.zone here (omega arith) in
                  omega arith
            ]
        | inl late ↦
            let at_next = late.segment_is in
            let next = late_starts_after ops d clusters listing names are same a late in
            let after = next.after in
            elim (cases_lt (place b + 1) (place a + 1)) [
              | inl less ↦
                  let by = soft (place a + 1) next.zone next.at less in
                  absurd (omega arith)
              | inr more ↦ elim (cases_lt (place a) (place b)) [
                | inl less ↦ omega arith
                | inr high ↦
                    let here : StandsAt listing (place b + 1) next.zone = subst (λ (i : ℕ). StandsAt listing i next.zone) (let e : place a + 1 ≡ place b + 1 = omega arith in e) next.at in
                    let by = by_next next.zone here (omega arith) in
                    omega arith
              ]
            ]
      ]

  -- so what precedes at d is less
  precedes_less : (a b : Op) → Contains ops a → Contains ops b → Precedes d a b → operation_order ops d 2 (writes_of listing) a b ≡ Less
  precedes_less a b ca cb precedes = elim (reads_or_writes b) [
    | inr write ↦ less_by_segment ops d 2 (writes_of listing) a b (before_write a b ca cb write (let low = rw write at precedes in omega arith))
    | inl read ↦
        let low = rw read at precedes in
        let le = before_read a b ca cb read low in
        let begins = finish a ca in
        elim (cases_order (segment ops d 2 (writes_of listing) a) (segment ops d 2 (writes_of listing) b)) [
          | inl one ↦ elim (reads_or_writes a) [
            | inl reads ↦ earlier_is_less ops d 2 (writes_of listing) a b one reads read (omega arith)
            | inr write ↦ write_is_less ops d 2 (writes_of listing) a b one write read
          ]
          | inr apart ↦ elim apart [ inl before ↦ less_by_segment ops d 2 (writes_of listing) a b before | inr after ↦ absurd (omega arith) ]
        ]
  ]

  -- a write is less than the reads of its value
  write_less : (w r : Op) → IsWriteOf ops r.value w → IsRead r → operation_order ops d 2 (writes_of listing) w r ≡ Less
  write_less w r of read =
      let writes = writes_of listing in
      let at_one = same_place ops writes w r of.value_is in
      let own = write_segment_is ops d 2 writes w of.kind in
      let near = stands_near ops d writes r in
      let low = near.low in
      elim (cases_lt (segment ops d 2 writes w) (segment ops d 2 writes r)) [
        | inl less ↦ less_by_segment ops d 2 writes w r less
        | inr more ↦ write_is_less ops d 2 writes w r (omega arith) of.kind read
      ]

  module _ (sorted : List Op) (sorts : IsPermutation ops sorted) (up : IsSorted (operation_order ops d 2 (writes_of listing)) sorted)
      (each_once : ListsEachOnce (records_of ops) (records_of sorted)) where
    -- the only write that may stand between a read and its write is that of the next place
    one_between : (w r : Op) (i j l m x y : ℕ) → IsWriteOf ops r.value w → IsReadIn ops r → StandsAt (records_of sorted) i w.rec → StandsAt (records_of sorted) j r.rec
        → i < l → l < j → i < m → m < j → StandsAt (records_of sorted) l x → StandsAt (records_of sorted) m y → is_write_record ops x ≡ true → is_write_record ops y ≡ true → l ≡ m
    one_between w r i j l m x y ww rr ati atj low_l high_l low_m high_m atl atm tx ty =
        let writes = writes_of listing in
        let u = write_between ops d 2 clusters listing names are same sorted sorts up each_once.once w r i j l x ww rr ati atj low_l high_l atl tx in
        let v = write_between ops d 2 clusters listing names are same sorted sorts up each_once.once w r i j m y ww rr ati atj low_m high_m atm ty in
        let at_one = same_place ops writes w r ww.value_is in
        let near = stands_near ops d writes r in
        let last = near.high in
        let from_u = u.after in
        let to_u = u.within in
        let from_v = v.after in
        let to_v = v.within in
        let e : u.u ≡ v.u = one_write ops d 2 clusters listing names are same u.u v.u u.there u.kind v.there v.kind (omega arith) in
        let f : x ≡ y = sym u.record_is ∙ ap (λ (o : Op). o.rec) e ∙ v.record_is in
        each_once.once l m y (rw f at atl) atm

    -- so the write of a read is one of the last two before it
    among_last_two : (w r : Op) → IsWriteOf ops r.value w → IsReadIn ops r → IsAmongLast ops 2 (records_of sorted) w r
    among_last_two w r ww rr =
        let s = less_stands_before ops d 2 (writes_of listing) sorted sorts up w r ww.there rr.there (write_less w r ww rr.kind) in
        record {
          before = s;
          few = one_counts_between (is_write_record ops) (records_of sorted) s.place s.later
              (λ l m x y low_l high_l low_m high_m atl atm. one_between w r s.place s.later l m x y ww rr s.first s.second low_l high_l low_m high_m atl atm);
        }

    pub is_order : IsOrder ops d 2 (records_of sorted)
    is_order = record {
      each_once = each_once;
      extends = λ a b ca cb precedes. less_stands_before ops d 2 (writes_of listing) sorted sorts up a b ca cb (precedes_less a b ca cb precedes);
      returns = λ r rr.
          let (w, ww) = names.written r rr.there in
          (w, ww, among_last_two w r ww rr);
    }

pub listings_are_orders : ListingsAreOrders
listings_are_orders key d clusters listing order valid clear are is by =
    let names = matched_keys_name_their_writes key valid clear.matched in
    rw by.records
    (is_order (operations key) d clusters listing names clear (λ a there. starts_before_finish key a valid there) are is by.sorted by.each_once by.in_order
    (each_once_in_order (λ (a : Op). a.rec) (operations key) by.sorted (valid_records_differ key valid) by.each_once))

-- so listed writes give an order
pub listed_writes_give_order : (key : KeyOps) (d : ℕ) (writes order : List ℕ) → IsValidKey key → IsClearKey (operations key) → AreListedWrites (operations key) d writes
    → IsOperationOrder (operations key) d 2 writes order → IsOrder (operations key) d 2 order
listed_writes_give_order key d writes order valid clear listed is =
    listings_are_orders key d listed.clusters listed.listing order valid clear listed.are listed.is_listing (rw listed.writes_are at is)

-- an order of the clusters in which none crosses an earlier one at d is a listing at d
uncrossed_are_listed : (ops : List Op) (d : ℕ) (clusters zones : List Cluster) → AreClusters ops clusters → IsPermutation clusters zones → HasNoCrossing d zones → IsListing d clusters zones
uncrossed_are_listed ops d clusters zones are each free = record {
  each_once = record {
    known = (same_in_order clusters zones each).known;
    whole = (same_in_order clusters zones each).whole;
    once = no_repeats_from_map (λ (c : Cluster). c.write) zones (permuted_no_repeats (λ (c : Cluster). c.write) clusters zones each (cluster_writes_differ ops clusters are));
  };
  hard = λ a b i j ati atj less. elim (cases_lt j.f i.w) [
    | inl low ↦ absurd (free a b i j (record { first = ati; second = atj; rises = less; crosses = omega arith }))
    | inr high ↦ high
  ];
  soft = λ a b i j ati atj less. elim (cases_lt (j.f + d) (reads_start i)) [
    | inl low ↦ absurd (free a b i j (record { first = ati; second = atj; rises = omega arith; crosses = omega arith }))
    | inr high ↦ high
  ];
}

-- so uncrossed writes give an order
pub uncrossed_writes_give_order : (key : KeyOps) (d k : ℕ) (writes order : List ℕ) → (k ≡ 1) ⊎ (k ≡ 2) → IsValidKey key → IsClearKey (operations key)
    → AreUncrossedWrites (operations key) d writes → IsOperationOrder (operations key) d k writes order → IsOrder (operations key) d k order
uncrossed_writes_give_order key d k writes order (inl one) valid clear uncrossed is =
    rw one
    (zone_orders_are_orders key d uncrossed.clusters uncrossed.zones order valid clear uncrossed.are uncrossed.each_once uncrossed.no_crossing (rw (one, uncrossed.writes_are) at is))
uncrossed_writes_give_order key d k writes order (inr two) valid clear uncrossed is =
    let listing = uncrossed_are_listed (operations key) d uncrossed.clusters uncrossed.zones uncrossed.are uncrossed.each_once uncrossed.no_crossing in
    rw two (listings_are_orders key d uncrossed.clusters uncrossed.zones order valid clear uncrossed.are listing (rw (two, uncrossed.writes_are) at is))
