-- A delta that is shown is at most the earliest start of an operation.
use Rattle.std.proofs.Common.{◌≡◌, ◌⊎◌, ◌≤◌, ◌<◌, ◌+◌, ℕ, List, refl, sym, ◌∙◌, inl, inr, subst, arith}
use Rattle.std.specs.Prelude.{Contains}
use Rattle.std.proofs.lemmas.Bool.{cases_order}
use Rattle.stale_model.specs.declared.Op.{Op}
use Rattle.stale_model.specs.declared.Four.{Four}
use Rattle.stale_model.specs.Operations.{IsRead, IsWrite, earliest_start, latest_finish}
use Rattle.stale_model.specs.Faults.{IsWriteOf, IsDuplicate, HasNone}
use Rattle.stale_model.specs.Precedence.{Precedes, moved}
use Rattle.stale_model.specs.Orders.{StandsAt, IsOrder}
use Rattle.stale_model.specs.Shown.{FourHold}
use Rattle.stale_model.proofs.ReadsAndWrites.{reads_or_writes}

-- what precedes a read at d does so by more than d
late_read : (d : ℕ) (a b : Op) → IsRead b → Precedes d a b → d < earliest_start b
late_read d a b read p = let q = subst (λ k. latest_finish a + moved d k < earliest_start b) read p in omega (arith, q)

-- a write is passed by what precedes it at any d
early_write : (d e : ℕ) (a b : Op) → IsWrite b → Precedes d a b → Precedes e a b
early_write d e a b write p = subst (λ k. latest_finish a + moved e k < earliest_start b) (sym write) (subst (λ k. latest_finish a + moved d k < earliest_start b) write p)

module _ (ops : List Op) (none : HasNone (IsDuplicate ops)) where
  -- two writes of a value are one
  one_record : (value : ℕ) (v w : Op) → IsWriteOf ops value v → IsWriteOf ops value w → v.rec ≡ w.rec
  one_record value v w vv ww = elim (cases_order v.rec w.rec) [
    | inl same ↦ same
    | inr less ↦ elim less [
      | inl l ↦ absurd (none w (record { there = ww.there; kind = ww.kind; earlier = (v, record { there = vv.there; kind = vv.kind; value_is = vv.value_is ∙ sym ww.value_is }, l) }))
      | inr l ↦ absurd (none v (record { there = vv.there; kind = vv.kind; earlier = (w, record { there = ww.there; kind = ww.kind; value_is = ww.value_is ∙ sym vv.value_is }, l) }))
    ]
  ]

  module _ (d k : ℕ) (order : List ℕ) (o : IsOrder ops d k order) where
    -- an operation stands at the write of its value or after it
    at_or_after : (w a : Op) (i j : ℕ) → IsWriteOf ops a.value w → Contains ops a → StandsAt order i w.rec → StandsAt order j a.rec → i ≤ j
    at_or_after w a i j ww ca at there = elim (reads_or_writes a) [
      | inl read ↦
          let (v, vv, among) = o.returns a (record { there = ca; kind = read }) in
          let b = among.before in
          let same : i ≡ b.place = o.each_once.once i b.place v.rec (subst (StandsAt order i) (one_record a.value w v ww vv) at) b.first in
          let later : j ≡ b.later = o.each_once.once j b.later a.rec there b.second in
          let rises = b.rises in
          omega arith
      | inr write ↦
          let one = one_record a.value w a ww (record { there = ca; kind = write; value_is = refl }) in
          let same : i ≡ j = o.each_once.once i j a.rec (subst (StandsAt order i) one at) there in
          omega arith
    ]

    -- of two clusters that are each before the other, where there is an order, one goes back by a read
    one_reads : (e : ℕ) (four : Four) (h : FourHold ops e four) → IsRead h.q ⊎ IsRead h.p2
    one_reads e four h = elim (reads_or_writes h.q) [
      | inl read ↦ inl read
      | inr write ↦ elim (reads_or_writes h.p2) [
        | inl read ↦ inr read
        | inr write2 ↦
            let there = o.extends h.p h.q h.p_is.there h.q_is.there (early_write e d h.p h.q write h.there) in
            let back = o.extends h.q2 h.p2 h.q2_is.there h.p2_is.there (early_write e d h.q2 h.p2 write2 h.back) in
            let first = at_or_after h.p2 h.p back.later there.place (record { there = h.p2_is.there; kind = write2; value_is = sym h.one }) h.p_is.there back.second there.first in
            let second = at_or_after h.q h.q2 there.later back.place (record { there = h.q_is.there; kind = write; value_is = h.other }) h.q2_is.there there.second back.first in
            let up = there.rises in
            let up2 = back.rises in
            absurd (omega arith)
      ]
    ]

    -- so the four records hold at less than the start of some operation
    pub four_below : (e : ℕ) (four : Four) → FourHold ops e four → (a : Op) × Contains ops a × (e < earliest_start a)
    four_below e four h = elim (one_reads e four h) [
      | inl read ↦ (h.q, h.q_is.there, late_read e h.p h.q read h.there)
      | inr read ↦ (h.p2, h.p2_is.there, late_read e h.q2 h.p2 read h.back)
    ]
