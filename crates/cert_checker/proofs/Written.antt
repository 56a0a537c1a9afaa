-- Values by the records of their writes, and the marks that such records leave on them.
use Rattle.std.proofs.Common.{◌≡◌, inl, inr, ◌<◌, ◌+◌, ℕ, List, length, set, sym, ◌∙◌, ap, subst, arith}
use Rattle.std.specs.Prelude.{Contains}
use Rattle.std.proofs.lemmas.Bool.{cases_eq}
use Rattle.stale_model.specs.declared.Op.{Op}
use Rattle.stale_model.specs.Operations.{IsWrite}
use Rattle.stale_model.specs.Faults.{IsWriteOf}
use Rattle.stale_model.specs.NamedWrites.{NamesItsWrites}
use Rattle.stale_model.specs.Orders.{StandsAt}
use Rattle.stale_model.specs.Refutations.{IsOfRecord, IsOfCluster}
use Rattle.cert_checker.specs.OrderFaults.{StandsTo}
use Rattle.cert_checker.specs.RefutationSteps.{IsWrittenBy, HaveMark}
use Rattle.cert_checker.proofs.Starts.{below_or_at}
use Rattle.cert_checker.proofs.Marks.{entry, set_at, set_other, set_back}

-- a write with this record writes its value
pub written : (ops : List Op) (c : ℕ) (w : Op) → IsOfRecord ops c w → IsWrite w → IsWrittenBy ops w.value c
written ops c w is write = record { w = w; write = record { there = is.there; kind = write; value_is = λ i. w.value }; record_is = is.record_is }

-- an operation of the value of a write is of its cluster
pub of_cluster : (ops : List Op) (value c : ℕ) (a : Op) → IsWrittenBy ops value c → Contains ops a → a.value ≡ value → IsOfCluster ops c a
of_cluster ops value c a by there e = record { there = there; w = by.w; w_is = subst (λ v. IsWriteOf ops v by.w) (sym e) by.write; record_is = by.record_is }

-- before the first entry no value is marked
pub none_marked : {X : Type 0} (ops : List Op) (records : List ℕ) (marks : List X) (mark : X) → ((v : ℕ) → StandsAt marks v mark → ⊥) → HaveMark ops records 0 marks mark
none_marked ops records marks mark none = record { marked = λ v c by s. absurd (omega (arith, s.before)); only = λ v c by m. absurd (none v m) }

module _ (ops : List Op) (names : NamesItsWrites ops) where
  pub one_record : (value c e : ℕ) → IsWrittenBy ops value c → IsWrittenBy ops value e → c ≡ e
  one_record value c e p q = sym p.record_is ∙ ap (λ (x : Op). x.rec) (names.once value p.w q.w p.write q.write) ∙ q.record_is

  pub one_value : (value other c : ℕ) → IsWrittenBy ops value c → IsWrittenBy ops other c → value ≡ other
  one_value value other c p q =
      sym p.write.value_is
      ∙ ap (λ (x : Op). x.value) (names.records p.w q.w p.write.there q.write.there (p.record_is ∙ sym q.record_is))
      ∙ q.write.value_is

  -- the operations of the cluster of a write have its value
  pub cluster_value : (value c : ℕ) (a : Op) → IsWrittenBy ops value c → IsOfCluster ops c a → a.value ≡ value
  cluster_value value c a by is = one_value a.value value c (record { w = is.w; write = is.w_is; record_is = is.record_is }) by

  -- one more entry marks its value
  module _ {X : Type 0} (records : List ℕ) (n c value : ℕ) (marks : List X) (mark : X) (at : StandsAt records n c) (by : IsWrittenBy ops value c)
      (within : value < length marks) (are : HaveMark ops records n marks mark) where
    pub mark_more : HaveMark ops records (n + 1) (set marks value mark) mark
    mark_more = record {
      marked = λ v e is s. elim (cases_eq v value) [
        | inl same ↦ subst (λ u. StandsAt (set marks value mark) u mark) (sym same) (set_at marks value mark mark within)
        | inr apart ↦ elim (below_or_at s.earlier n s.before) [
          | inl low ↦ set_other marks value mark mark v mark apart (are.marked v e is (record { earlier = s.earlier; before = low; there = s.there }))
          | inr here ↦ absurd (apart (one_value v value c (subst (IsWrittenBy ops v) (entry records n c at s.earlier e here s.there) is) by))
        ]
      ];
      only = λ v e is m. elim (cases_eq v value) [
        | inl same ↦ record {
          earlier = n;
          before = omega arith;
          there = subst (StandsAt records n) (one_record value c e by (subst (λ u. IsWrittenBy ops u e) same is)) at;
        }
        | inr apart ↦
            let s : StandsTo records n e = are.only v e is (set_back marks value mark mark v mark apart m) in
            record { earlier = s.earlier; before = omega (arith, s.before); there = s.there }
      ];
    }
