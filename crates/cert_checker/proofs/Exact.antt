-- A list with a fault is no order.
use Rattle.std.proofs.Common.{◌≡◌, ℕ, List, refl, inl, inr, subst, arith}
use Rattle.stale_model.specs.declared.Op.{Op}
use Rattle.stale_model.specs.Orders.{IsOrder}
use Rattle.stale_model.proofs.Places.{contains_at}
use Rattle.cert_checker.specs.declared.orders.OrderFault.{OrderFault}
use Rattle.cert_checker.specs.declared.orders.OrderFault.TheVariants.{Listing, Precedence, Returns}
use Rattle.cert_checker.specs.declared.Found.{Found}
use Rattle.cert_checker.specs.declared.Found.TheVariants.{Good, Bad}
use Rattle.cert_checker.specs.OrderFaults.{IsStray, IsBackwards, IsOrderFault, FindsOrder}
use Rattle.cert_checker.specs.Laws.{OrdersAreFoundGood}

module _ (ops : List Op) (d k : ℕ) (order : List ℕ) (o : IsOrder ops d k order) where
  no_stray : (place : ℕ) → IsStray ops order place → ⊥
  no_stray place s = elim s.why [
    | inl stranger ↦ stranger (o.each_once.known s.rec (contains_at order place s.rec s.there))
    | inr twice ↦
        let same : twice.earlier ≡ place = o.each_once.once twice.earlier place s.rec twice.there s.there in
        let less = twice.before in
        omega arith
  ]

  no_backwards : (place : ℕ) → IsBackwards ops d order place → ⊥
  no_backwards place w =
      let before = o.extends w.a w.b w.a_in w.b_in w.precedes in
      let first : before.place ≡ place = o.each_once.once before.place place w.a.rec before.first w.a_is in
      let second : before.later ≡ w.earlier = o.each_once.once before.later w.earlier w.b.rec before.second w.b_is in
      let low = before.rises in
      let high = w.rises in
      omega arith

  pub no_fault : (fault : OrderFault) → IsOrderFault ops d k order fault → ⊥
  no_fault (Listing rec) (inl first) = no_stray first.place first.wrong
  no_fault (Listing rec) (inr least) = least.missing (o.each_once.whole rec least.member)
  no_fault (Precedence rec) wrong = no_backwards wrong.backwards.place wrong.backwards.wrong
  no_fault (Returns rec) wrong =
      let read = wrong.unreturned.wrong in
      let (w, write, among) = o.returns read.r read.read in
      read.unreturned w write among

  found_good : (found : Found) → FindsOrder ops d k order found → found ≡ Good
  found_good Good finds = refl
  found_good (Bad rule rec) finds = let (fault, is, _, _) = finds in absurd (no_fault fault is)

pub orders_are_found_good : OrdersAreFoundGood
orders_are_found_good ops d k order found finds = (λ good. subst (FindsOrder ops d k order) good finds, λ o. found_good ops d k order o found finds)
