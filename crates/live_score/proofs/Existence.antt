-- Operations have clusters.
use Rattle.std.proofs.Common.{◌≡◌, ◌⊎◌, ℕ, ◌+◌, ◌<◌, ◌≤◌, ◌==◌, Bool, not, ltb, false, List, [], ◌∷◌, get_or, refl, sym, ◌∙◌, ap, inl, inr, subst, arith, eq-eqb, eqb-true, ltb-false}
use Rattle.std.specs.Prelude.{Contains, Option, Some, None}
use Rattle.std.specs.Cmp.{IsStrictWeakOrder, nat_cmp_total}
use Rattle.std.specs.List.{filter, AllPairs}
use Rattle.std.specs.List.Sorted.{IsNonDecreasingBy, IsStrictlyIncreasing}
use Rattle.std.specs.Ordering.{nat_cmp, on}
use Rattle.std.proofs.lemmas.Bool.{cases_order}
use Rattle.std.proofs.lemmas.Cmp.{on_total}
use Rattle.std.proofs.lemmas.List.{get_or-map, length-map, get_or_default}
use Rattle.std.proofs.lemmas.List.Elements.{Contains-get_or}
use Rattle.std.proofs.lemmas.List.Kept.{AllPairs-filter}
use Rattle.std.proofs.lemmas.List.MinMax.{IsFirstBest-from_best_of, IsStrictWeakOrder-by_number, IsStrictWeakOrder-flip}
use Rattle.std.proofs.lemmas.List.Sorted.{IsNonDecreasingBy-from_sort, IsPermutation-sym, Contains-permutation}
use Rattle.std.proofs.lemmas.Option.{slice_get-get_or}
use Rattle.stale_model.specs.declared.Op.{Op}
use Rattle.stale_model.specs.declared.Cluster.{Cluster}
use Rattle.stale_model.specs.Operations.{IsRead, IsWrite, is_write, is_write_kind, initial_write, records_of, earliest_start, latest_finish}
use Rattle.stale_model.specs.Orders.{IsWithoutRepeats}
use Rattle.stale_model.specs.Clusters.{IsLeastFinish, IsGreatestStart, AreReadsOf, IsClusterOf, AreClusters, writes_of}
use Rattle.stale_model.proofs.Members.{empty_has_none, contains_first, kept_is_there, kept_passes, kept_from}
use Rattle.stale_model.proofs.Places.{record_stands}
use Rattle.stale_model.proofs.ReadsAndWrites.{kind_is_write, kind_is_read}
use Rattle.stale_model.proofs.Sorted.{first_or_later, contains_later, permuted_no_repeats}
use Rattle.stale_model.proofs.Sorting.{sorted_there}

-- where a list contains something, an item of it is beaten by none
best_there : {X : Type 0} (beats : X → X → Bool) → IsStrictWeakOrder beats → (xs : List X) (x : X) → Contains xs x
    → (a : X) × Contains xs a × ((b : X) → Contains xs b → beats b a ≡ false)
best_there beats o [] x c = absurd (empty_has_none x c)
best_there {X = X} beats o (y ∷ ys) x c =
    let (i, first, at) = IsFirstBest-from_best_of o y ys in
    let (low, none, earlier) = first in (
      get_or (y ∷ ys) i y,
      Contains-get_or (y ∷ ys) i y low,
      λ b (k, within, e).
          let default = get_or_default (y ∷ ys) i b y low in
          rw (e, default) at (none k b within),
    )

least_there : {X : Type 0} (n : X → ℕ) (xs : List X) (x : X) → Contains xs x → (a : X) × Contains xs a × ((b : X) → Contains xs b → n a ≤ n b)
least_there n xs x c =
    let (a, there, best) = best_there (λ x y. ltb (n x) (n y)) (IsStrictWeakOrder-by_number n) xs x c in
    (a, there, λ b d. ltb-false (n b) (n a) (best b d))

greatest_there : {X : Type 0} (n : X → ℕ) (xs : List X) (x : X) → Contains xs x → (a : X) × Contains xs a × ((b : X) → Contains xs b → n b ≤ n a)
greatest_there n xs x c =
    let (a, there, best) = best_there (λ x y. ltb (n y) (n x)) (IsStrictWeakOrder-flip (λ x y. ltb (n x) (n y)) (IsStrictWeakOrder-by_number n)) xs x c in
    (a, there, λ b d. ltb-false (n a) (n b) (best b d))

-- of the operations with the number of a, the one with the least record
first_of_ties : (n : Op → ℕ) (xs : List Op) (a : Op) → Contains xs a
    → (first : Op) × Contains xs first × (n first ≡ n a) × ((b : Op) → Contains xs b → n b ≡ n a → first.rec ≤ b.rec)
first_of_ties n xs a there =
    let ties : Op → Bool = λ b. n b == n a in
    let (first, among, least) = least_there (λ (b : Op). b.rec) (filter ties xs) a (kept_from ties xs a there (eq-eqb (n a) (n a) refl)) in (
      first,
      kept_is_there ties xs first among,
      eqb-true (n first) (n a) (kept_passes ties xs first among),
      λ b c e. least b (kept_from ties xs b c (eq-eqb (n b) (n a) e)),
    )

none_or_some : {X : Type 0} (xs : List X) → ((x : X) → Contains xs x → ⊥) ⊎ ((x : X) × Contains xs x)
none_or_some [] = inl (λ x c. empty_has_none x c)
none_or_some (x ∷ xs) = inr (x, contains_first x xs)

module _ (ops : List Op) (w : Op) (there : Contains ops w) where
  abbrev of_value : List Op
  of_value = filter (λ a. a.value == w.value) ops

  is_of_value : (a : Op) → Contains ops a → a.value ≡ w.value → Contains of_value a
  is_of_value a c e = kept_from (λ a. a.value == w.value) ops a c (eq-eqb a.value w.value e)

  value_is : (a : Op) → Contains of_value a → a.value ≡ w.value
  value_is a c = eqb-true a.value w.value (kept_passes (λ a. a.value == w.value) ops a c)

  is_there : (a : Op) → Contains of_value a → Contains ops a
  is_there a c = kept_is_there (λ a. a.value == w.value) ops a c

  least_finish_of : (f : ℕ) × (first : ℕ) × IsLeastFinish ops w.value f first
  least_finish_of =
      let (a, among, least) = least_there latest_finish of_value w (is_of_value w there refl) in
      let (first, has, ties, least_record) = first_of_ties latest_finish of_value a among in (
        latest_finish a,
        first.rec,
        record {
          op = first;
          member = record { there = is_there first has; value_is = value_is first has };
          finish_is = ties;
          first_is = refl;
          least = λ b m. least b (is_of_value b m.there m.value_is);
          least_record = λ b m e. least_record b (is_of_value b m.there m.value_is) e;
        },
      )

  abbrev reads : List Op
  reads = filter (λ a. not (is_write a)) of_value

  is_among_reads : (a : Op) → Contains ops a → IsRead a → a.value ≡ w.value → Contains reads a
  is_among_reads a c kind e = kept_from (λ a. not (is_write a)) of_value a (is_of_value a c e) (ap (λ k. not (is_write_kind k)) kind)

  greatest_start_of : (r : Op) → Contains reads r → (s : ℕ) × (last : ℕ) × IsGreatestStart ops w.value s last
  greatest_start_of r c =
      let (a, among, most) = greatest_there earliest_start reads r c in
      let (last, has, ties, least_record) = first_of_ties earliest_start reads a among in
      let of = kept_is_there (λ a. not (is_write a)) of_value last has in (
        earliest_start a,
        last.rec,
        record {
          op = last;
          member = record {
            read = record { there = is_there last of; kind = kind_is_read last.kind (kept_passes (λ a. not (is_write a)) of_value last has) };
            value_is = value_is last of;
          };
          start_is = ties;
          last_is = refl;
          greatest = λ b m. most b (is_among_reads b m.read.there m.read.kind m.value_is);
          least_record = λ b m e. least_record b (is_among_reads b m.read.there m.read.kind m.value_is) e;
        },
      )

  reads_of : (s : Option ℕ) × (last : ℕ) × AreReadsOf ops w s last
  reads_of = elim (none_or_some reads) [
    | inl none ↦ (None, w.rec, record { none = λ r m. none r (is_among_reads r m.read.there m.read.kind m.value_is); last_is = refl })
    | inr (r, c) ↦ let (s, last, is) = greatest_start_of r c in (Some s, last, is)
  ]

  cluster_of : IsWrite w → (c : Cluster) × IsClusterOf ops w c
  cluster_of kind =
      let (f, first, finishes) = least_finish_of in
      let (s, last, reads) = reads_of in (
        record { write = w.rec; f = f; w = earliest_start w; s = s; first = first; last = last },
        record { there = there; kind = kind; record_is = refl; start_is = refl; finishes = finishes; reads = reads },
      )

-- the clusters are those of the writes, in their order
abbrev AreAlong : List Op → List Op → List Cluster → Type 0
AreAlong ops [] [] = Unit {0}
AreAlong ops [] (c ∷ cs) = ⊥
AreAlong ops (w ∷ ws) [] = ⊥
AreAlong ops (w ∷ ws) (c ∷ cs) = IsClusterOf ops w c × AreAlong ops ws cs

module _ (ops : List Op) where
  clusters_along : (ws : List Op) → ((w : Op) → Contains ws w → Contains ops w × IsWrite w) → (cs : List Cluster) × AreAlong ops ws cs
  clusters_along [] each = ([], tt {0})
  clusters_along (w ∷ ws) each =
      let (there, kind) = each w (contains_first w ws) in
      let (c, is) = cluster_of ops w there kind in
      let (cs, are) = clusters_along ws (λ x d. each x (contains_later w x ws d)) in
      (c ∷ cs, (is, are))

  writes_along : (ws : List Op) (cs : List Cluster) → AreAlong ops ws cs → writes_of cs ≡ records_of ws
  writes_along [] [] are = refl
  writes_along [] (c ∷ cs) are = absurd are
  writes_along (w ∷ ws) [] are = absurd are
  writes_along (w ∷ ws) (c ∷ cs) (is, are) =
      let e = is.record_is in
      let r = writes_along ws cs are in
      cc

  each_along : (ws : List Op) (cs : List Cluster) (c : Cluster) → AreAlong ops ws cs → Contains cs c → (w : Op) × IsClusterOf ops w c
  each_along [] [] c are there = absurd (empty_has_none c there)
  each_along [] (d ∷ cs) c are there = absurd are
  each_along (w ∷ ws) [] c are there = absurd are
  each_along (w ∷ ws) (d ∷ cs) c (is, are) there = elim (first_or_later d c cs there) [
    | inl e ↦ (w, subst (IsClusterOf ops w) e is)
    | inr later ↦ each_along ws cs c are later
  ]

  whole_along : (ws : List Op) (cs : List Cluster) (w : Op) → AreAlong ops ws cs → Contains ws w → (c : Cluster) × Contains cs c × IsClusterOf ops w c
  whole_along [] cs w are there = absurd (empty_has_none w there)
  whole_along (v ∷ ws) [] w are there = absurd are
  whole_along (v ∷ ws) (d ∷ cs) w (is, are) there = elim (first_or_later v w ws there) [
    | inl e ↦ (d, contains_first d cs, subst (λ (x : Op). IsClusterOf ops x d) e is)
    | inr later ↦ let (c, among, of) = whole_along ws cs w are later in (c, contains_later d c cs among, of)
  ]

-- records that do not fall, and of which no two are one, rise
records_rise : (xs : List Op) → IsNonDecreasingBy (λ a. a.rec) xs → IsWithoutRepeats (records_of xs) → AllPairs (λ a b. a.rec < b.rec) xs
records_rise xs up once i j d low high =
    let le = up i j d (omega arith) high in
    elim (cases_order (get_or xs i d).rec (get_or xs j d).rec) [
      | inl e ↦
          let at_i = record_stands xs i (get_or xs i d) (slice_get-get_or xs i d (omega arith)) in
          let at_j = record_stands xs j (get_or xs j d) (slice_get-get_or xs j d high) in
          let same : i ≡ j = once i j (get_or xs j d).rec (at_i ∙ ap Some e) at_j in
          absurd (omega arith)
      | inr less ↦ elim less [ inl l ↦ l | inr g ↦ absurd (omega arith) ]
    ]

rising_records : (xs : List Op) → AllPairs (λ a b. a.rec < b.rec) xs → IsStrictlyIncreasing (records_of xs)
rising_records xs each k high =
    let long = length-map xs (λ (a : Op). a.rec) in
    let first = get_or-map (λ (a : Op). a.rec) xs k initial_write 0 (omega arith) in
    let second = get_or-map (λ (a : Op). a.rec) xs (k + 1) initial_write 0 (omega arith) in
    let less = each k (k + 1) initial_write (omega arith) (omega arith) in
    omega arith

-- operations of which no two have one record have clusters
pub clusters_exist : (ops : List Op) → IsWithoutRepeats (records_of ops) → (clusters : List Cluster) × AreClusters ops clusters
clusters_exist ops differ =
    let by_record = λ (a : Op). a.rec in
    let (sorted, each_once, up) = sorted_there (on by_record nat_cmp) (on_total by_record nat_cmp_total) ops in
    let ws = filter is_write sorted in
    let rising = AllPairs-filter (λ (a : Op) (b : Op). a.rec < b.rec) is_write sorted (records_rise sorted (IsNonDecreasingBy-from_sort by_record sorted up) (permuted_no_repeats by_record ops sorted each_once differ)) in
    let back = IsPermutation-sym ops sorted each_once in
    let (cs, are) = clusters_along ops ws (λ w c. (Contains-permutation sorted ops w back (kept_is_there is_write sorted w c), kind_is_write w.kind (kept_passes is_write sorted w c))) in (
      cs,
      record {
        each = λ c there. each_along ops ws cs c are there;
        whole = λ w there kind. whole_along ops ws cs w are (kept_from is_write sorted w (Contains-permutation ops sorted w each_once there) (ap is_write_kind kind));
        rising = subst IsStrictlyIncreasing (sym (writes_along ops ws cs are)) (rising_records ws rising);
      },
    )
