-- The score of the places is the score of what was fed.
use Rattle.std.proofs.Common.{◌≡◌, ◌≢◌, ◌⊎◌, ℕ, ◌+◌, ◌-◌, ◌<◌, ◌≤◌, ◌==◌, max, true, ◌||◌, List, ◌∷◌, Option, Some, None, length, get_or, refl, sym, ◌∙◌, ap, inl, inr, subst, arith}
use Rattle.std.specs.Prelude.{Contains, All, unwrap_or}
use Rattle.std.specs.List.{AllPairs, filter}
use Rattle.std.proofs.lemmas.Bool.{cases_lt, cases_order, cond_both, eqb-true, or_cases, or_left}
use Rattle.std.proofs.lemmas.List.{length-map}
use Rattle.std.proofs.lemmas.List.Elements.{All-contains, All-from_get_or, Contains-get_or}
use Rattle.std.proofs.lemmas.List.Kept.{AllPairs-cons, AllPairs-filter}
use Rattle.std.proofs.lemmas.Option.{same_Some, slice_get_within, get_or_from_slice_get}
use Rattle.stale_model.specs.declared.Op.{Op}
use Rattle.stale_model.specs.declared.Cluster.{Cluster}
use Rattle.stale_model.specs.Operations.{IsWrite, is_write, is_write_kind, initial_write, records_of, earliest_start, latest_finish}
use Rattle.stale_model.specs.Valid.{IsValidOp}
use Rattle.stale_model.specs.Faults.{IsWriteOf}
use Rattle.stale_model.specs.Clusters.{IsOfValue, IsReadOf, AreReadsOf, IsClusterOf, AreClusters}
use Rattle.stale_model.specs.NamedWrites.{RecordsDiffer, ValuesAreWritten}
use Rattle.stale_model.specs.Orders.{StandsAt, IsWithoutRepeats}
use Rattle.stale_model.specs.Counted.{is_written, counts, counted, IsScore}
use Rattle.stale_model.proofs.Members.{contains_first, kept_is_there, kept_passes, kept_from}
use Rattle.stale_model.proofs.Places.{something_at, same_at, stands_mapped}
use Rattle.stale_model.proofs.ReadsAndWrites.{kind_is_write}
use Rattle.stale_model.proofs.Sorted.{first_or_later, contains_later, one_by_number}
use Rattle.delta_score.specs.ZoneLaws.{AreOrderable}
use Rattle.live_score.specs.declared.places.Place.{Place}
use Rattle.live_score.specs.declared.rows.Row.{Row}
use Rattle.live_score.specs.Places.{score, unbounded}
use Rattle.live_score.specs.Scores.{place_of, IsTimely, AreWithin}
use Rattle.live_score.specs.Rows.{IsWriteKept, IsFinishOf, IsFinishKept, IsStartKept, IsRowOf, AreRows, shown}
use Rattle.live_score.specs.Placing.{IsVacant, ArePlaced, IsScoreOfPlaces}
use Rattle.live_score.specs.Invariant.{AreFed}
use Rattle.live_score.proofs.Counting.{writer_of, counted_is_fed, starts_by_finish, counts_written}
use Rattle.live_score.proofs.Existence.{clusters_exist}
use Rattle.live_score.proofs.PlacesGrow.{shown_at, shown_counted, shown_vacant, finish_of}
use Rattle.live_score.proofs.Raising.{score_flips, score_vacant}
use Rattle.live_score.proofs.Scores.{early_has_no_delta, greatest_is_least}

-- places of the same numbers are one
same_place : (a b : Place) → a.f ≡ b.f → a.w ≡ b.w → a.s ≡ b.s → a ≡ b
same_place a b ef ew es =
    let with_f : ℕ → Place = λ x. record { f = x; w = a.w; s = a.s } in
    let with_w : ℕ → Place = λ x. record { f = b.f; w = x; s = a.s } in
    let with_s : ℕ → Place = λ x. record { f = b.f; w = b.w; s = x } in
    ap with_f ef ∙ (ap with_w ew ∙ ap with_s es)

-- where records differ, none stands twice in their list
without_repeats : (ops : List Op) → AllPairs (λ a b. a.rec ≢ b.rec) ops → IsWithoutRepeats (records_of ops)
without_repeats ops differ i j x ati atj =
    let n = length-map ops (λ (a : Op). a.rec) in
    let (a, a_at) = something_at ops i (let l = slice_get_within (records_of ops) i x ati in omega arith) in
    let (b, b_at) = something_at ops j (let l = slice_get_within (records_of ops) j x atj in omega arith) in
    let a_is = same_at (records_of ops) i a.rec x (stands_mapped (λ (o : Op). o.rec) ops i a a_at) ati in
    let b_is = same_at (records_of ops) j b.rec x (stands_mapped (λ (o : Op). o.rec) ops j b b_at) atj in
    elim (cases_order i j) [
      | inl e ↦ e
      | inr less ↦ elim less [
        | inl l ↦
            let d = differ i j a l (slice_get_within ops j b b_at) in
            let e = ap (λ (o : Op). o.rec) (get_or_from_slice_get ops i a a a_at) in
            let f = ap (λ (o : Op). o.rec) (get_or_from_slice_get ops j b a b_at) in
            absurd (d (e ∙ (a_is ∙ sym (f ∙ b_is))))
        | inr l ↦
            let d = differ j i a l (slice_get_within ops i a a_at) in
            let e = ap (λ (o : Op). o.rec) (get_or_from_slice_get ops i a a a_at) in
            let f = ap (λ (o : Op). o.rec) (get_or_from_slice_get ops j b a b_at) in
            absurd (d (f ∙ (b_is ∙ sym (e ∙ a_is))))
      ]
    ]

-- a valid operation starts before all ticks end
starts_low : (values : ℕ) (a : Op) → IsValidOp values a → earliest_start a ≤ unbounded
starts_low values a v =
    let tick = v.tick in
    cond_both (a.rec == 0) 0 (max 1 (a.start - a.slack)) (λ n. n ≤ unbounded) (λ _. omega arith) (λ _. omega arith)

module _ (values : ℕ) (fed : List Op) (are : AreFed values fed) where
  -- what was fed and counts
  counted_of_fed : (a : Op) → Contains (initial_write ∷ fed) a → counts fed a ≡ true → Contains (counted fed) a
  counted_of_fed a c t = elim (first_or_later initial_write a fed c) [
    | inl same ↦ subst (λ (x : Op). Contains (counted fed) x) same (contains_first initial_write (filter (counts fed) fed))
    | inr there ↦ contains_later initial_write a (filter (counts fed) fed) (kept_from (counts fed) fed a there t)
  ]

  write_counts : (w : Op) → IsWrite w → counts fed w ≡ true
  write_counts w kind = or_left (is_write w || (w.value == 0)) (is_written fed w.value) (or_left (is_write w) (w.value == 0) (ap is_write_kind kind))

  -- what counts is the initial write, or valid
  initial_or_valid : (a : Op) → Contains (initial_write ∷ fed) a → (initial_write ≡ a) ⊎ IsValidOp values a
  initial_or_valid a c = elim (first_or_later initial_write a fed c) [ inl same ↦ inl same | inr there ↦ inr (All-contains (IsValidOp values) fed a are.valid there) ]

  start_fits : (a : Op) → Contains (initial_write ∷ fed) a → earliest_start a ≤ unbounded
  start_fits a c = elim (initial_or_valid a c) [
    | inl same ↦ subst (λ (x : Op). earliest_start x ≤ unbounded) same (omega arith)
    | inr valid ↦ starts_low values a valid
  ]

  value_within : (a : Op) → Contains (initial_write ∷ fed) a → a.value ≤ values
  value_within a c = elim (initial_or_valid a c) [
    | inl same ↦ subst (λ (x : Op). x.value ≤ values) same (omega arith)
    | inr valid ↦ valid.value
  ]

  counted_once : IsWithoutRepeats (records_of (counted fed))
  counted_once =
      let rest = AllPairs-filter (λ a b. a.rec ≢ b.rec) (counts fed) fed are.records in
      let initial : All (λ (b : Op). initial_write.rec ≢ b.rec) (filter (counts fed) fed) =
      All-from_get_or (λ (b : Op). initial_write.rec ≢ b.rec) (filter (counts fed) fed) initial_write (λ i l e.
      let b = get_or (filter (counts fed) fed) i initial_write in
      let valid = All-contains (IsValidOp values) fed b are.valid (kept_is_there (counts fed) fed b (Contains-get_or (filter (counts fed) fed) i initial_write l)) in
      let n = valid.numbered in
      omega arith) in
      without_repeats (counted fed) (AllPairs-cons (λ a b. a.rec ≢ b.rec) initial_write (filter (counts fed) fed) initial rest)

  counted_differ : RecordsDiffer (counted fed)
  counted_differ a b ca cb e = one_by_number (λ (o : Op). o.rec) (counted fed) a b counted_once ca cb e

  initial_writes : IsWriteOf (counted fed) 0 initial_write
  initial_writes = record { there = contains_first initial_write (filter (counts fed) fed); kind = refl; value_is = refl }

  counted_written : ValuesAreWritten (counted fed)
  counted_written a c = elim (first_or_later initial_write a (filter (counts fed) fed) c) [
    | inl same ↦ (initial_write, subst (λ (x : Op). IsWriteOf (counted fed) x.value initial_write) same initial_writes)
    | inr there ↦ elim (or_cases (is_write a || (a.value == 0)) (is_written fed a.value) (kept_passes (counts fed) fed a there)) [
      | inl first ↦ elim (or_cases (is_write a) (a.value == 0) first) [
        | inl writes ↦ (a, record { there = c; kind = kind_is_write a.kind writes; value_is = refl })
        | inr absent ↦ (initial_write, subst (λ (v : ℕ). IsWriteOf (counted fed) v initial_write) (sym (eqb-true a.value 0 absent)) initial_writes)
      ]
      | inr written ↦
          let (w, w_there, kind, value_is) = writer_of fed a.value written in
          (w, record { there = counted_of_fed w (contains_later initial_write w fed w_there) (write_counts w kind); kind = kind; value_is = value_is })
    ]
  ]

  write_fed : (value : ℕ) (w : Op) → IsWriteOf (counted fed) value w → IsWriteOf (initial_write ∷ fed) value w
  write_fed value w h = record { there = counted_is_fed fed w h.there; kind = h.kind; value_is = h.value_is }

  write_counted : (value : ℕ) (w : Op) → IsWriteOf (initial_write ∷ fed) value w → IsWriteOf (counted fed) value w
  write_counted value w h = record { there = counted_of_fed w h.there (write_counts w h.kind); kind = h.kind; value_is = h.value_is }

  -- the zone theorem holds of what counts
  pub counted_orderable : AreOrderable (counted fed)
  counted_orderable = record {
    records = counted_once;
    names = record {
      records = counted_differ;
      written = counted_written;
      once = λ value v w hv hw. are.once value v w (write_fed value v hv) (write_fed value w hw);
    };
    finish = λ a c. elim (initial_or_valid a (counted_is_fed fed a c)) [
      | inl same ↦ subst (λ (x : Op). earliest_start x ≤ latest_finish x) same (omega arith)
      | inr valid ↦ starts_by_finish values a valid
    ];
  }

  -- the cluster of a written value has the numbers of its row
  module _ (w : Op) (c : Cluster) (cluster : IsClusterOf (counted fed) w c) where
    w_fed : IsWriteOf (initial_write ∷ fed) w.value w
    w_fed = record { there = counted_is_fed fed w cluster.there; kind = cluster.kind; value_is = refl }

    member : (a : Op) → IsOfValue (initial_write ∷ fed) w.value a → IsOfValue (counted fed) w.value a
    member a h = record {
      there = counted_of_fed a h.there (counts_written fed a w (record { there = w_fed.there; kind = w_fed.kind; value_is = sym h.value_is }));
      value_is = h.value_is;
    }

    finish_is : (f : ℕ) → IsFinishOf (initial_write ∷ fed) w.value f → c.f ≡ f
    finish_is f h =
        let least = cluster.finishes in
        let one = least.least h.there.0 (member h.there.0 h.there.1) in
        let is = h.there.2 in
        let two = h.least least.op (record { there = counted_is_fed fed least.op least.member.there; value_is = least.member.value_is }) in
        let op_is = least.finish_is in
        omega arith

    read_counted : (r : Op) → IsReadOf (initial_write ∷ fed) w.value r → IsReadOf (counted fed) w.value r
    read_counted r h =
        let m = member r (record { there = h.read.there; value_is = h.value_is }) in
        record { read = record { there = m.there; kind = h.read.kind }; value_is = h.value_is }

    read_fed : (r : Op) → IsReadOf (counted fed) w.value r → IsReadOf (initial_write ∷ fed) w.value r
    read_fed r h = record { read = record { there = counted_is_fed fed r h.read.there; kind = h.read.kind }; value_is = h.value_is }

    start_is_by : (s : ℕ) (kept : Option ℕ) (last : ℕ) → AreReadsOf (counted fed) w kept last → IsStartKept (initial_write ∷ fed) w.value s → unwrap_or kept 0 ≡ s
    start_is_by s None last reads h = elim h.there [ inl zero_is ↦ sym zero_is | inr some ↦ absurd (reads.none some.0 (read_counted some.0 some.1)) ]
    start_is_by s (Some t) last reads h =
        let le = h.greatest reads.op (read_fed reads.op reads.member) in
        let t_is = reads.start_is in
        elim h.there [
          | inl zero_is ↦ omega arith
          | inr some ↦ let ge = reads.greatest some.0 (read_counted some.0 some.1) in let is = some.2 in omega arith
        ]

    write_is_by : (start : ℕ) (kept : Option ℕ) → IsWriteKept (initial_write ∷ fed) w.value start kept → ((rec : ℕ) × (kept ≡ Some rec)) × (c.w ≡ start)
    write_is_by start None h = absurd (h w w_fed)
    write_is_by start (Some rec) (x, writes, rec_is, start_is) =
        let same = are.once w.value w x w_fed writes in
        ((rec, refl), sym cluster.start_is ∙ (ap (λ (o : Op). earliest_start o) same ∙ start_is))

    at_is_by : (f : ℕ) (kept : Option ℕ) → IsFinishKept (initial_write ∷ fed) w.value f kept → (at : ℕ) × (kept ≡ Some at)
    at_is_by f None h = absurd (h w (record { there = w_fed.there; value_is = refl }))
    at_is_by f (Some at) h = (at, refl)

    place_is : (row : Row) (at : ℕ) → row.at ≡ Some at → IsRowOf (initial_write ∷ fed) w.value row → place_of c ≡ row.place
    place_is row at at_is h =
        let f_is = finish_is row.place.f (finish_of (initial_write ∷ fed) w.value row.place.f row.at at at_is h.finish) in
        let w_is = (write_is_by row.place.w row.write h.write).1 in
        let s_is = start_is_by row.place.s c.s c.last cluster.reads h.start in
        same_place (place_of c) row.place f_is w_is s_is

-- where a cluster stands among the places
pub record IsPlacedCluster (fed : List Op) (rows : List Row) (c : Cluster) (at : ℕ) : Type 0 where
  pub w : Op
  pub cluster : IsClusterOf (counted fed) w c
  pub row : Row
  pub stands : StandsAt rows w.value row
  pub at_is : row.at ≡ Some at

module _ (values : ℕ) (fed : List Op) (are : AreFed values fed) (rows : List Row) (taken : ℕ) (places : List Place) (size : length rows ≡ values + 1)
    (says : AreRows (initial_write ∷ fed) rows) (placed : ArePlaced rows taken places) (clusters : List Cluster) (of : AreClusters (counted fed) clusters) where
  -- each cluster stands at a place
  cluster_stands : (c : Cluster) → Contains clusters c → (at : ℕ) × IsPlacedCluster fed rows c at × StandsAt places at (place_of c)
  cluster_stands c there =
      let (w, cluster) = of.each c there in
      let in_fed = w_fed values fed are w c cluster in
      let le = value_within values fed are w in_fed.there in
      let (row, stands) = something_at rows w.value (omega arith) in
      let h = says w.value row stands in
      let (at, at_is) = at_is_by values fed are w c cluster row.place.f row.at h.finish in
      let kept = (write_is_by values fed are w c cluster row.place.w row.write h.write).0 in
      let is = place_is values fed are w c cluster row at at_is h in
      let shows = (shown_at rows taken places placed w.value row at stands at_is).1 in
      let e : shown row.write row.place ≡ place_of c = shown_counted row.write row.place kept.0 kept.1 ∙ sym is in
      (at, record { w = w; cluster = cluster; row = row; stands = stands; at_is = at_is }, subst (λ (p : Place). StandsAt places at p) e shows)

  -- two clusters of different writes stand at different places
  clusters_apart : (i j : Cluster) (at : ℕ) → IsPlacedCluster fed rows i at → IsPlacedCluster fed rows j at → i.write ≡ j.write
  clusters_apart i j at p q =
      let value_is = placed.apart p.w.value q.w.value at p.row q.row p.stands q.stands p.at_is q.at_is in
      let pw = w_fed values fed are p.w i p.cluster in
      let qw = w_fed values fed are q.w j q.cluster in
      let same : p.w ≡ q.w = are.once q.w.value p.w q.w (record { there = pw.there; kind = pw.kind; value_is = value_is }) qw in
      sym p.cluster.record_is ∙ (ap (λ (o : Op). o.rec) same ∙ q.cluster.record_is)

  -- clusters of one write stand at one place
  places_apart : (i j : Cluster) (k l : ℕ) → IsPlacedCluster fed rows i k → IsPlacedCluster fed rows j l → i.write ≡ j.write → k ≡ l
  places_apart i j k l p q e =
      let same : p.w ≡ q.w = counted_differ values fed are p.w q.w p.cluster.there q.cluster.there (p.cluster.record_is ∙ (e ∙ sym q.cluster.record_is)) in
      let row_is : p.row ≡ q.row = same_at rows q.w.value p.row q.row (subst (λ (o : Op). StandsAt rows o.value p.row) same p.stands) q.stands in
      same_Some k l (sym p.at_is ∙ (ap (λ (r : Row). r.at) row_is ∙ q.at_is))

  -- what stands at a place of a row
  place_says_by : (row : Row) (value at : ℕ) (place : Place) (kept : Option ℕ) → row.write ≡ kept → StandsAt rows value row → row.at ≡ Some at → IsWriteKept (initial_write ∷ fed) value row.place.w kept → place ≡ shown row.write row.place
      → IsVacant place ⊎ ((c : Cluster) × Contains clusters c × IsPlacedCluster fed rows c at × (place_of c ≡ place))
  place_says_by row value at place None kept_is stands at_is h e = inl (subst IsVacant (sym e) (shown_vacant row.write row.place kept_is))
  place_says_by row value at place (Some rec) kept_is stands at_is (w, writes, rec_is, start_is) e =
      let counts = write_counted values fed are value w writes in
      let (c, there, cluster) = of.whole w counts.there counts.kind in
      let stands_w : StandsAt rows w.value row = subst (λ (v : ℕ). StandsAt rows v row) (sym writes.value_is) stands in
      let is = place_is values fed are w c cluster row at at_is (says w.value row stands_w) in
      inr (c, there, record { w = w; cluster = cluster; row = row; stands = stands_w; at_is = at_is }, is ∙ (sym (shown_counted row.write row.place rec kept_is) ∙ sym e))

  -- what stands at a place
  place_says : (at : ℕ) (place : Place) → StandsAt places at place → IsVacant place ⊎ ((c : Cluster) × Contains clusters c × IsPlacedCluster fed rows c at × (place_of c ≡ place))
  place_says at place stands = elim (cases_lt at taken) [
    | inl l ↦
        let own = placed.owned at l in
        let shows = (shown_at rows taken places placed own.value own.row at own.stands own.at_is).1 in
        let e = same_at places at place (shown own.row.write own.row.place) stands shows in
        place_says_by own.row own.value at place own.row.write refl own.stands own.at_is (says own.value own.row own.stands).write e
    | inr le ↦
        let e = placed.rest at place le stands in
        inl (record { write = ap (λ (p : Place). p.w) e; reads = ap (λ (p : Place). p.s) e })
  ]

  -- reads that count start before all ticks end
  reads_fit : (w : Op) (kept : Option ℕ) (last : ℕ) → AreReadsOf (counted fed) w kept last → unwrap_or kept 0 ≤ unbounded
  reads_fit w None last reads = omega arith
  reads_fit w (Some s) last reads =
      let fits = start_fits values fed are reads.op (counted_is_fed fed reads.op reads.member.read.there) in
      let is = reads.start_is in
      omega arith

  timely : ((at : ℕ) (place : Place) → StandsAt places at place → place.w ≤ place.f) → (c : Cluster) → Contains clusters c → IsTimely c
  timely no_early c there =
      let (at, placed_at, stands) = cluster_stands c there in
      record { begins = no_early at (place_of c) stands; fits = reads_fit placed_at.w c.s c.last placed_at.cluster.reads }

  within_clusters : (bound : ℕ) → ((i j : ℕ) (a b : Place) → StandsAt places i a → StandsAt places j b → i ≢ j → score a b ≤ bound) → AreWithin bound clusters
  within_clusters bound each i j ci cj apart =
      let (k, p, pk) = cluster_stands i ci in
      let (l, q, ql) = cluster_stands j cj in
      each k l (place_of i) (place_of j) pk ql (λ e. apart (clusters_apart i j l (subst (λ (n : ℕ). IsPlacedCluster fed rows i n) e p) q))

  within_places : (bound : ℕ) → AreWithin bound clusters → (i j : ℕ) (a b : Place) → StandsAt places i a → StandsAt places j b → i ≢ j → score a b ≤ bound
  within_places bound within i j a b ati atj apart = elim (place_says i a ati) [
    | inl vacant ↦ let e = score_flips a b ∙ score_vacant b a vacant in omega arith
    | inr (c, c_there, p, a_is) ↦ elim (place_says j b atj) [
      | inl vacant ↦ let e = score_vacant a b vacant in omega arith
      | inr (d, d_there, q, b_is) ↦
          let le = within c d c_there d_there (λ e. apart (places_apart c d i j p q e)) in
          subst (λ (x : Place). score x b ≤ bound) a_is (subst (λ (y : Place). score (place_of c) y ≤ bound) b_is le)
    ]
  ]

  score_by : (score_now : Option ℕ) → IsScoreOfPlaces places score_now → IsScore fed score_now
  score_by None early = elim (place_says early.at early.place early.stands) [
    | inl vacant ↦ let z = vacant.write in let less = early.early in absurd (omega arith)
    | inr (c, there, p, is) ↦
        let less = early.early in
        let less_c : c.f < c.w = (let e = ap (λ (x : Place). x.f) is in let g = ap (λ (x : Place). x.w) is in omega arith) in
        early_has_no_delta (counted fed) clusters c (counted_orderable values fed are) of there less_c
  ]
  score_by (Some d) h =
      greatest_is_least (counted fed) clusters d (counted_orderable values fed are) of (timely h.no_early)
      (λ bound. (λ le. within_clusters bound ((h.greatest bound).0 le), λ within. (h.greatest bound).1 (within_places bound within)))

-- the score of the places is that of what was fed
pub score_is_of_places : (values : ℕ) (fed : List Op) (rows : List Row) (taken : ℕ) (places : List Place) (score_now : Option ℕ) → AreFed values fed → length rows ≡ values + 1 → AreRows (initial_write ∷ fed) rows
    → ArePlaced rows taken places → IsScoreOfPlaces places score_now → IsScore fed score_now
score_is_of_places values fed rows taken places score_now are size says placed h =
    let (clusters, of) = clusters_exist (counted fed) (counted_orderable values fed are).records in
    score_by values fed are rows taken places size says placed clusters of score_now h
