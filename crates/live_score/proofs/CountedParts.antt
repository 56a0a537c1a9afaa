-- The operations that counted still count when more come in.
use Rattle.std.proofs.Common.{◌≡◌, ℕ, ◌≤◌, Bool, true, false, List, ◌∷◌, ◌++◌, refl, sym, ap, subst, inl, inr, arith}
use Rattle.std.specs.Prelude.{Contains, ◌==◌, ◌&&◌, ◌||◌, filter}
use Rattle.std.proofs.lemmas.Bool.{cases_lt, and_parts, eqb-true, or_cases}
use Rattle.std.proofs.lemmas.Map.Keys.{any_passes_from_place}
use Rattle.std.proofs.lemmas.List.Elements.{Contains-append_left}
use Rattle.stale_model.specs.declared.Op.{Op}
use Rattle.stale_model.specs.Operations.{initial_write, is_write, is_write_kind, latest_finish, earliest_start, IsRead}
use Rattle.stale_model.specs.Faults.{IsWriteOf, IsReadIn}
use Rattle.stale_model.specs.NamedWrites.{WritesDiffer}
use Rattle.stale_model.specs.Valid.{IsValidOp}
use Rattle.stale_model.specs.Orders.{IsOrder}
use Rattle.stale_model.specs.Counted.{is_written, counts, counted}
use Rattle.stale_model.proofs.Places.{place_of}
use Rattle.stale_model.proofs.ReadsAndWrites.{kind_is_write}
use Rattle.stale_model.proofs.Sorted.{first_or_later, contains_later}
use Rattle.stale_model.proofs.Members.{contains_first, kept_is_there, kept_passes, kept_from}
use Rattle.model_laws.proofs.Tests.{some_passes}
use Rattle.live_score.specs.Laws.{ScoresNeverFall, NoScoreComesBack, ReadsAfterTheirWritesAreNotEarly}
use Rattle.live_score.proofs.Counting.{counted_is_fed, starts_by_finish}
use Rattle.live_score.proofs.Parts.{part_order, orders_of_part}

or_grows : (b x y : Bool) → (x ≡ true → y ≡ true) → (b || x) ≡ true → (b || y) ≡ true
or_grows true x y grows t = refl
or_grows false x y grows t = grows t

module _ (fed more : List Op) where
  written_more : (value : ℕ) → is_written fed value ≡ true → is_written (fed ++ more) value ≡ true
  written_more value t =
      let (w, there, test) = some_passes (λ (a : Op). is_write a && (a.value == value)) fed t in
      let (i, at) = place_of (fed ++ more) w (Contains-append_left fed more w there) in
      any_passes_from_place (λ (a : Op). is_write a && (a.value == value)) (fed ++ more) i w at test

  -- what counted counts
  pub counted_more : (a : Op) → Contains (counted fed) a → Contains (counted (fed ++ more)) a
  counted_more a c = elim (first_or_later initial_write a (filter (counts fed) fed) c) [
    | inl e ↦ subst (λ (x : Op). Contains (counted (fed ++ more)) x) e (contains_first initial_write (filter (counts (fed ++ more)) (fed ++ more)))
    | inr d ↦
        let there = Contains-append_left fed more a (kept_is_there (counts fed) fed a d) in
        let test = or_grows (is_write a || (a.value == 0)) (is_written fed a.value) (is_written (fed ++ more) a.value) (written_more a.value) (kept_passes (counts fed) fed a d) in
        contains_later initial_write a (filter (counts (fed ++ more)) (fed ++ more)) (kept_from (counts (fed ++ more)) (fed ++ more) a there test)
  ]

-- a fed write counts
write_counts : (fed : List Op) (w : Op) → Contains fed w → is_write w ≡ true → Contains (counted fed) w
write_counts fed w c t =
    let test : counts fed w ≡ true = rw t refl in
    contains_later initial_write w (filter (counts fed) fed) (kept_from (counts fed) fed w c test)

write_of_absent : (fed : List Op) (r : Op) → (r.value == 0) ≡ true → IsWriteOf (counted fed) r.value initial_write
write_of_absent fed r t = record { there = contains_first initial_write (filter (counts fed) fed); kind = refl; value_is = sym (eqb-true r.value 0 t) }

-- a read is no write
read_is_no_write : (r : Op) → IsRead r → is_write r ≡ false
read_is_no_write r k = ap is_write_kind k

-- the write of a read that counts counts
write_of_counted : (fed : List Op) (r : Op) → IsRead r → counts fed r ≡ true → (w : Op) × IsWriteOf (counted fed) r.value w
write_of_counted fed r k t =
    let none = read_is_no_write r k in
    let rest : (r.value == 0) || is_written fed r.value ≡ true = rw none at t in
    elim (or_cases (r.value == 0) (is_written fed r.value) rest) [
      | inl absent ↦ (initial_write, write_of_absent fed r absent)
      | inr written ↦
          let (w, there, test) = some_passes (λ (a : Op). is_write a && (a.value == r.value)) fed written in
          let (wk, wv) = and_parts (is_write w) (w.value == r.value) test in
          (w, record { there = write_counts fed w there wk; kind = kind_is_write w.kind wk; value_is = eqb-true w.value r.value wv })
    ]

initial_is_no_read : IsRead initial_write → ⊥
initial_is_no_read k = cc

pub counted_written : (fed : List Op) (r : Op) → IsReadIn (counted fed) r → (w : Op) × IsWriteOf (counted fed) r.value w
counted_written fed r rr = elim (first_or_later initial_write r (filter (counts fed) fed) rr.there) [
  | inl e ↦ absurd (initial_is_no_read (subst (λ (x : Op). IsRead x) (sym e) rr.kind))
  | inr d ↦ write_of_counted fed r rr.kind (kept_passes (counts fed) fed r d)
]

-- no value is written twice among what counts
counted_differ : (fed : List Op) → WritesDiffer (initial_write ∷ fed) → WritesDiffer (counted fed)
counted_differ fed differ value v w vv ww =
    differ value v w (record { there = counted_is_fed fed v vv.there; kind = vv.kind; value_is = vv.value_is })
    (record { there = counted_is_fed fed w ww.there; kind = ww.kind; value_is = ww.value_is })

-- an order of what counts later has one of what counted before
order_before : (fed more : List Op) (d : ℕ) (order : List ℕ) → WritesDiffer (initial_write ∷ (fed ++ more)) → IsOrder (counted (fed ++ more)) d 1 order
    → IsOrder (counted fed) d 1 (part_order (counted (fed ++ more)) (counted fed) (counted_more fed more) order)
order_before fed more d order differ o =
    orders_of_part (counted (fed ++ more)) (counted fed) (counted_more fed more) d order (counted_differ (fed ++ more) differ) (counted_written fed) o

pub scores_never_fall : ScoresNeverFall
scores_never_fall fed more d e differ before after = elim (cases_lt e d) [
  | inl low ↦
      let (order, o) = after.there in
      absurd (before.least e low (part_order (counted (fed ++ more)) (counted fed) (counted_more fed more) order) (order_before fed more e order differ o))
  | inr high ↦ high
]

pub no_score_comes_back : NoScoreComesBack
no_score_comes_back fed more differ none d order o = none d (part_order (counted (fed ++ more)) (counted fed) (counted_more fed more) order) (order_before fed more d order differ o)

pub reads_after_their_writes_are_not_early : ReadsAfterTheirWritesAreNotEarly
reads_after_their_writes_are_not_early live w r valid can k ww early = elim (first_or_later initial_write w live.fed ww.there) [
  | inl e ↦ absurd (let z : earliest_start w ≡ 0 = ap (λ (x : Op). earliest_start x) (sym e) in omega arith)
  | inr c ↦
      let (i, l, e) = c in
      let v = subst (λ (x : Op). IsValidOp live.values x) e (valid i w l) in
      let last = subst (λ (x : Op). latest_finish x ≤ latest_finish r) e (can.last i w l) in
      let starts = starts_by_finish live.values w v in
      omega arith
]
