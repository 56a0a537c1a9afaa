-- What the three steps find is what is said of the list.
use Rattle.std.proofs.Common.{◌≡◌, ℕ, List, refl, sym, inl, inr, subst, arith}
use Rattle.std.specs.Prelude.{Contains, Option, None}
use Rattle.std.proofs.lemmas.Bool.{cases_order}
use Rattle.stale_model.specs.declared.Op.{Op}
use Rattle.stale_model.specs.declared.KeyOps.{KeyOps}
use Rattle.stale_model.specs.Operations.{operations, records_of}
use Rattle.stale_model.specs.Precedence.{Precedes}
use Rattle.stale_model.specs.Valid.{IsValidKey}
use Rattle.stale_model.specs.Orders.{StandsAt, StandsBefore, ListsEachOnce, IsOrder}
use Rattle.stale_model.proofs.Places.{same_at, at_its_place}
use Rattle.model_laws.proofs.Named.{key_differs}
use Rattle.model_laws.proofs.OrderPlaces.{record_is_known}
use Rattle.cert_checker.specs.OrderFaults.{IsNowhere, IsBackwards}
use Rattle.cert_checker.specs.Steps.{AreListed, FindsBackwards, FindsUnreturned}
use Rattle.cert_checker.proofs.Lookups.{starts_first}

-- the operations that are listed are those of their own records
pub own_records : (ops : List Op) (order : List ℕ) (listed : List Op) → AreListed ops order listed → AreListed ops (records_of listed) listed
own_records ops order listed are = record { records = refl; known = are.known }

module _ (key : KeyOps) (valid : IsValidKey key) (d k : ℕ) (order : List ℕ) (each_once : ListsEachOnce (records_of (operations key)) order)
    (none : IsNowhere (IsBackwards (operations key) d order)) where
  extends : (a b : Op) → Contains (operations key) a → Contains (operations key) b → Precedes d a b → StandsBefore order a.rec b.rec
  extends a b ca cb p =
      let there = each_once.whole a.rec (record_is_known (operations key) a ca) in
      let there_b = each_once.whole b.rec (record_is_known (operations key) b cb) in
      let a_at = at_its_place order a.rec there in
      let b_at = at_its_place order b.rec there_b in
      elim (cases_order there.0 there_b.0) [
        | inl e ↦
            let recs : a.rec ≡ b.rec = same_at order there_b.0 a.rec b.rec (subst (λ i. StandsAt order i a.rec) e a_at) b_at in
            let same : a ≡ b = key_differs key valid a b ca cb recs in
            let own : Precedes d a a = subst (Precedes d a) (sym same) p in
            let starts = starts_first key valid a ca in
            absurd (omega arith)
        | inr other ↦ elim other [
          | inl less ↦ record { place = there.0; later = there_b.0; rises = less; first = a_at; second = b_at }
          | inr more ↦ absurd (none there.0 (record { earlier = there_b.0; rises = more; a = a; b = b; a_in = ca; b_in = cb; a_is = a_at; b_is = b_at; precedes = p }))
        ]
      ]

  -- nothing is wrong
  pub order_from : FindsUnreturned (operations key) k order None → IsOrder (operations key) d k order
  order_from returned = record {
    each_once = each_once;
    extends = extends;
    returns = λ r read. returned r read (each_once.whole r.rec (record_is_known (operations key) r read.there));
  }

-- nothing precedes an earlier one, where the list has these operations
pub none_for : (ops : List Op) (d : ℕ) (order : List ℕ) (listed : List Op) (found : Option ℕ) → records_of listed ≡ order → found ≡ None → FindsBackwards ops d (records_of listed) found
    → IsNowhere (IsBackwards ops d order)
none_for ops d order listed found same none finds =
    subst (λ o. IsNowhere (IsBackwards ops d o)) same (subst (FindsBackwards ops d (records_of listed)) none finds)

-- what is found of the reads
pub returns_for : (ops : List Op) (k : ℕ) (order : List ℕ) (listed : List Op) (found is : Option ℕ) → records_of listed ≡ order → found ≡ is → FindsUnreturned ops k (records_of listed) found
    → FindsUnreturned ops k order is
returns_for ops k order listed found is same e finds = subst (λ o. FindsUnreturned ops k o is) same (subst (FindsUnreturned ops k (records_of listed)) e finds)
