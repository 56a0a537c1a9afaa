-- What later finishes leave as it is: the raised operations of a key name their writes, and their clusters are the raised clusters.
use Rattle.std.proofs.Common.{◌≡◌, ℕ, ◌+◌, ◌<◌, ◌≤◌, List, [], ◌∷◌, length, refl, sym, ◌∙◌, ap, inl, inr, subst, arith}
use Rattle.std.specs.Prelude.{◌==◌, if◌then◌else◌, ◌-◌, max, ◌↔◌, Option, Some, None, Contains}
use Rattle.std.proofs.lemmas.Bool.Decides.{nat_tests}
use Rattle.std.proofs.lemmas.Bool.{cases_lt}
use Rattle.std.proofs.lemmas.List.Elements.{All-contains}
use Rattle.std.specs.List.Sorted.{IsStrictlyIncreasing}
use Rattle.stale_model.specs.declared.Op.{Op}
use Rattle.stale_model.specs.declared.KeyOps.{KeyOps}
use Rattle.stale_model.specs.declared.Cluster.{Cluster}
use Rattle.stale_model.specs.Operations.{IsWrite, initial_write, operations, earliest_start, latest_finish}
use Rattle.stale_model.specs.Valid.{IsValidOp, IsValidKey}
use Rattle.stale_model.specs.Orders.{IsWithoutRepeats}
use Rattle.stale_model.specs.Precedence.{Precedes}
use Rattle.stale_model.specs.Clusters.{IsOfValue, IsReadOf, IsLeastFinish, AreReadsOf, IsClusterOf, writes_of, AreClusters}
use Rattle.stale_model.specs.Sides.{IsBeforeOnBothSides}
use Rattle.stale_model.proofs.Sorted.{first_or_later}
use Rattle.stale_model.proofs.Members.{mapped_from, before_mapped}
use Rattle.stale_model.proofs.ReadsAndWrites.{kinds}
use Rattle.delta_score.specs.ZoneLaws.{AreOrderable}
use Rattle.both_sides.specs.Raised.{raised, raised_ops, raised_cluster, raised_clusters}
use Rattle.both_sides.specs.SideLaws.{SidesAreLaterFinishes, SideOrdersAreOrdersOfLaterFinishes}
use Rattle.both_sides.proofs.Kept.{side_orders_are_orders, KeepsNames, records_kept, names_kept, each_changed, read_changed, read_unchanged}

-- an operation of record 0 is a write that has finished at 0
pub record InitialIsFirst (ops : List Op) : Type 0 where
  pub write : (a : Op) → Contains ops a → a.rec ≡ 0 → IsWrite a
  pub finish : (a : Op) → Contains ops a → a.rec ≡ 0 → latest_finish a ≡ 0

is_initial : (key : KeyOps) (a : Op) → IsValidKey key → Contains (operations key) a → a.rec ≡ 0 → initial_write ≡ a
is_initial key a valid there zeroth = elim (first_or_later initial_write a key.ops there) [
  | inl e ↦ e
  | inr later ↦
      let numbered = (All-contains (IsValidOp (length key.values)) key.ops a valid.ops later).numbered in
      absurd (omega arith)
]

pub initial_is_first : (key : KeyOps) → IsValidKey key → InitialIsFirst (operations key)
initial_is_first key valid = record {
  write = λ a there zeroth. subst IsWrite (is_initial key a valid there zeroth) refl;
  finish = λ a there zeroth. subst (λ (x : Op). latest_finish x ≡ 0) (is_initial key a valid there zeroth) refl;
}

-- a choice by whether a record is that of the initial write
pub choice_at_zero : (rec own other : ℕ) → rec ≡ 0 → (if rec == 0 then own else other) ≡ own
choice_at_zero rec own other e = rw e refl

pub choice_above_zero : (rec own other : ℕ) → 0 < rec → (if rec == 0 then own else other) ≡ other
choice_above_zero rec own other above = grind (arith, nat_tests)

pub initial_start : (a : Op) → a.rec ≡ 0 → earliest_start a ≡ 0
initial_start a e = choice_at_zero a.rec 0 (max 1 (a.start - a.slack)) e

pub recorded_start : (a : Op) → 0 < a.rec → earliest_start a ≡ max 1 (a.start - a.slack)
recorded_start a above = choice_above_zero a.rec 0 (max 1 (a.start - a.slack)) above

pub initial_finish : (t : ℕ) (a : Op) → a.rec ≡ 0 → latest_finish (raised t a) ≡ latest_finish a
initial_finish t a e = ap (λ (n : ℕ). n + a.slack) (choice_at_zero a.rec a.finish (a.finish + t) e)

pub recorded_finish : (t : ℕ) (a : Op) → 0 < a.rec → latest_finish (raised t a) ≡ latest_finish a + t
recorded_finish t a above = let e = choice_above_zero a.rec a.finish (a.finish + t) above in omega arith

pub finish_rises : (t : ℕ) (a : Op) → latest_finish a ≤ latest_finish (raised t a)
finish_rises t a = elim (cases_lt 0 a.rec) [
  | inl above ↦ let e = recorded_finish t a above in omega arith
  | inr none ↦ let e = initial_finish t a (omega arith) in omega arith
]

-- at 0 what precedes finishes before the other starts
pub precedes_at_zero : (a b : Op) → latest_finish a < earliest_start b → Precedes 0 a b
precedes_at_zero a b less = elim (kinds b.kind) [
  | inl read ↦ rw read (omega arith)
  | inr write ↦ rw write (omega arith)
]

pub finishes_before : (a b : Op) → Precedes 0 a b → latest_finish a < earliest_start b
finishes_before a b precedes = omega arith

pub raised_keeps : (t : ℕ) → KeepsNames (raised t)
raised_keeps t = record { record_is = λ a. refl; kind_is = λ a. refl; value_is = λ a. refl }

-- before on both sides exactly where it precedes once finishes are later
pub before_is_later_finish : (ops : List Op) (g : ℕ) (a b : Op) → InitialIsFirst ops → Contains ops a → Contains ops b
    → IsBeforeOnBothSides g a b ↔ Precedes 0 (raised (g + g) a) (raised (g + g) b)
before_is_later_finish ops g a b first ca cb = (
  λ before.
      let start = recorded_start b before.recorded in
      precedes_at_zero (raised (g + g) a) (raised (g + g) b) (elim (cases_lt 0 a.rec) [
        | inl above ↦
            let finish = recorded_finish (g + g) a above in
            let apart = before.apart above in
            omega arith
        | inr none ↦
            let finish = initial_finish (g + g) a (omega arith) in
            let zeroth = first.finish a ca (omega arith) in
            omega arith
      ]),
  λ precedes.
      let less = finishes_before (raised (g + g) a) (raised (g + g) b) precedes in
      record {
        recorded = elim (cases_lt 0 b.rec) [
          | inl above ↦ above
          | inr none ↦ let start = initial_start b (omega arith) in absurd (omega arith)
        ];
        apart = λ above. let finish = recorded_finish (g + g) a above in omega arith;
      },
)

-- raising leaves the write records
pub writes_raised : (t : ℕ) (clusters : List Cluster) → writes_of (raised_clusters t clusters) ≡ writes_of clusters
writes_raised t [] = refl
writes_raised t (c ∷ cs) = ap (λ (ws : List ℕ). c.write ∷ ws) (writes_raised t cs)

pub sides_are_later_finishes : SidesAreLaterFinishes
sides_are_later_finishes key g a b valid ca cb = before_is_later_finish (operations key) g a b (initial_is_first key valid) ca cb

pub side_orders_are_orders_of_later_finishes : SideOrdersAreOrdersOfLaterFinishes
side_orders_are_orders_of_later_finishes key g order valid =
    side_orders_are_orders (raised (g + g)) (raised_keeps (g + g)) (operations key) g (λ a b ca cb. sides_are_later_finishes key g a b valid ca cb) order

module _ (ops : List Op) (t : ℕ) (first : InitialIsFirst ops) (able : AreOrderable ops) where
  pub raised_are_orderable : AreOrderable (raised_ops t ops)
  raised_are_orderable = record {
    records = subst (λ (recs : List ℕ). IsWithoutRepeats recs) (sym (records_kept (raised t) (raised_keeps t) ops)) able.records;
    names = names_kept (raised t) (raised_keeps t) ops able.names;
    finish = each_changed (raised t) (raised_keeps t) ops (λ (b : Op). earliest_start b ≤ latest_finish b) (λ a there.
        let starts = able.finish a there in
        let rises = finish_rises t a in
        omega arith);
  }

  -- an operation that has finished at 0 is of record 0
  finished_at_zero : (a : Op) → Contains ops a → latest_finish a ≡ 0 → a.rec ≡ 0
  finished_at_zero a there zeroth = elim (cases_lt 0 a.rec) [
    | inl above ↦
        let start = recorded_start a above in
        let starts = able.finish a there in
        absurd (omega arith)
    | inr none ↦ omega arith
  ]

  -- in the cluster of a recorded write all are recorded
  all_recorded : (w a : Op) → Contains ops w → IsWrite w → 0 < w.rec → IsOfValue ops w.value a → 0 < a.rec
  all_recorded w a there kind above of = elim (cases_lt 0 a.rec) [
    | inl l ↦ l
    | inr none ↦
        let write = first.write a of.there (omega arith) in
        let same = able.names.once w.value a w (record { there = of.there; kind = write; value_is = of.value_is }) (record { there = there; kind = kind; value_is = refl }) in
        let e : a.rec ≡ w.rec = ap (λ (x : Op). x.rec) same in
        absurd (omega arith)
  ]

  -- what is of a value among the raised operations was so
  of_value_before : (value : ℕ) (b : Op) → IsOfValue (raised_ops t ops) value b → (a : Op) × IsOfValue ops value a × (raised t a ≡ b)
  of_value_before value b of =
      let (a, there, e) = before_mapped (raised t) ops b of.there in
      (a, record { there = there; value_is = ap (λ (x : Op). x.value) e ∙ of.value_is }, e)

  -- f and first of a cluster of record 0 are 0 at each t
  initial_finishes : (w : Op) (f least : ℕ) → Contains ops w → w.rec ≡ 0 → IsLeastFinish ops w.value f least → IsLeastFinish (raised_ops t ops) w.value f least
  initial_finishes w f least there zeroth is =
      let low = is.least w (record { there = there; value_is = refl }) in
      let own = first.finish w there zeroth in
      let f_is = is.finish_is in
      let rec = finished_at_zero is.op is.member.there (omega arith) in
      let same = initial_finish t is.op rec in
      let least_is = is.first_is in
      record {
        op = raised t is.op;
        member = record { there = mapped_from (raised t) ops is.op is.member.there; value_is = is.member.value_is };
        finish_is = omega arith;
        first_is = is.first_is;
        least = λ a of. omega arith;
        least_record = λ a of e. omega arith;
      }

  -- and those of any other are later by t
  recorded_finishes : (w : Op) (f least : ℕ) → Contains ops w → IsWrite w → 0 < w.rec → IsLeastFinish ops w.value f least
      → IsLeastFinish (raised_ops t ops) w.value (f + t) least
  recorded_finishes w f least there kind above is =
      let own = recorded_finish t is.op (all_recorded w is.op there kind above is.member) in
      let f_is = is.finish_is in
      record {
        op = raised t is.op;
        member = record { there = mapped_from (raised t) ops is.op is.member.there; value_is = is.member.value_is };
        finish_is = omega arith;
        first_is = is.first_is;
        least = λ b of.
            let (a, was, e) = of_value_before w.value b of in
            let finish = recorded_finish t a (all_recorded w a there kind above was) in
            let same : latest_finish (raised t a) ≡ latest_finish b = ap latest_finish e in
            let low = is.least a was in
            omega arith;
        least_record = λ b of f_is_b.
            let (a, was, e) = of_value_before w.value b of in
            let finish = recorded_finish t a (all_recorded w a there kind above was) in
            let same : latest_finish (raised t a) ≡ latest_finish b = ap latest_finish e in
            subst (λ (x : Op). least ≤ x.rec) e (is.least_record a was (omega arith));
      }

  finishes_raised : (w : Op) (c : Cluster) → IsClusterOf ops w c → IsLeastFinish (raised_ops t ops) w.value (raised_cluster t c).f c.first
  finishes_raised w c is =
      let rec = is.record_is in
      elim (cases_lt 0 w.rec) [
        | inl above ↦ rw (choice_above_zero c.write c.f (c.f + t) (omega arith)) (recorded_finishes w c.f c.first is.there is.kind above is.finishes)
        | inr none ↦ rw (choice_at_zero c.write c.f (c.f + t) (omega arith)) (initial_finishes w c.f c.first is.there (omega arith) is.finishes)
      ]

  read_before : (value : ℕ) (b : Op) → IsReadOf (raised_ops t ops) value b → (a : Op) × IsReadOf ops value a × (raised t a ≡ b)
  read_before value b of =
      let (a, read, e) = read_unchanged (raised t) (raised_keeps t) ops b of.read in
      (a, record { read = read; value_is = ap (λ (x : Op). x.value) e ∙ of.value_is }, e)

  reads_raised : (w : Op) (s : Option ℕ) (last : ℕ) → AreReadsOf ops w s last → AreReadsOf (raised_ops t ops) (raised t w) s last
  reads_raised w None last are = record {
    none = λ b of. let (a, was, e) = read_before w.value b of in are.none a was;
    last_is = are.last_is;
  }
  reads_raised w (Some s) last are = record {
    op = raised t are.op;
    member = record { read = read_changed (raised t) (raised_keeps t) ops are.op are.member.read; value_is = are.member.value_is };
    start_is = are.start_is;
    last_is = are.last_is;
    greatest = λ b of. let (a, was, e) = read_before w.value b of in subst (λ (x : Op). earliest_start x ≤ s) e (are.greatest a was);
    least_record = λ b of starts.
        let (a, was, e) = read_before w.value b of in
        subst (λ (x : Op). last ≤ x.rec) e (are.least_record a was (ap earliest_start e ∙ starts));
  }

  cluster_raised : (w : Op) (c : Cluster) → IsClusterOf ops w c → IsClusterOf (raised_ops t ops) (raised t w) (raised_cluster t c)
  cluster_raised w c is = record {
    there = mapped_from (raised t) ops w is.there;
    kind = is.kind;
    record_is = is.record_is;
    start_is = is.start_is;
    finishes = finishes_raised w c is;
    reads = reads_raised w c.s c.last is.reads;
  }

  -- the clusters of the raised operations are the raised clusters
  pub clusters_raised : (clusters : List Cluster) → AreClusters ops clusters → AreClusters (raised_ops t ops) (raised_clusters t clusters)
  clusters_raised clusters are = record {
    each = λ d there.
        let (c, was, e) = before_mapped (raised_cluster t) clusters d there in
        let (w, is) = are.each c was in
        (raised t w, subst (λ (x : Cluster). IsClusterOf (raised_ops t ops) (raised t w) x) e (cluster_raised w c is));
    whole = each_changed (raised t) (raised_keeps t) ops (λ (v : Op). IsWrite v → (c : Cluster) × Contains (raised_clusters t clusters) c × IsClusterOf (raised_ops t ops) v c) (λ w there kind.
        let (c, was, is) = are.whole w there kind in
        (raised_cluster t c, mapped_from (raised_cluster t) clusters c was, cluster_raised w c is));
    rising = subst (λ (ws : List ℕ). IsStrictlyIncreasing ws) (sym (writes_raised t clusters)) are.rising;
  }
