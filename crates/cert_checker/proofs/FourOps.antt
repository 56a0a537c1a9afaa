-- Four records hold exactly where their operations do.
use Rattle.std.proofs.Common.{◌≡◌, ℕ, subst}
use Rattle.stale_model.specs.declared.Op.{Op}
use Rattle.stale_model.specs.declared.KeyOps.{KeyOps}
use Rattle.stale_model.specs.declared.Four.{Four}
use Rattle.stale_model.specs.Operations.{operations}
use Rattle.stale_model.specs.Valid.{IsValidKey}
use Rattle.stale_model.specs.Shown.{FourHold}
use Rattle.cert_checker.specs.declared.records.Placed.{Placed}
use Rattle.cert_checker.specs.Records.{IsPlaced}
use Rattle.cert_checker.specs.Fours.{OpsHold}
use Rattle.cert_checker.proofs.Lookups.{of_record, one_of_record}

module _ (key : KeyOps) (valid : IsValidKey key) (d : ℕ) (four : Four) (p q q2 p2 : Placed)
    (p_is : IsPlaced (operations key) four.p p) (q_is : IsPlaced (operations key) four.q q)
    (q2_is : IsPlaced (operations key) four.q2 q2) (p2_is : IsPlaced (operations key) four.p2 p2) where
  pub four_from_ops : OpsHold d p.op q.op q2.op p2.op → FourHold (operations key) d four
  four_from_ops h = record {
    p = p.op;
    q = q.op;
    q2 = q2.op;
    p2 = p2.op;
    p_is = of_record (operations key) four.p p p_is;
    q_is = of_record (operations key) four.q q q_is;
    q2_is = of_record (operations key) four.q2 q2 q2_is;
    p2_is = of_record (operations key) four.p2 p2 p2_is;
    one = h.one;
    other = h.other;
    apart = h.apart;
    there = h.there;
    back = h.back;
  }

  holds : (a b b2 a2 : Op) → a ≡ p.op → b ≡ q.op → b2 ≡ q2.op → a2 ≡ p2.op → OpsHold d a b b2 a2 → OpsHold d p.op q.op q2.op p2.op
  holds a b b2 a2 ea eb eb2 ea2 h =
      subst (λ (x : Op). OpsHold d x q.op q2.op p2.op) ea
      (subst (λ (x : Op). OpsHold d a x q2.op p2.op) eb (subst (λ (x : Op). OpsHold d a b x p2.op) eb2 (subst (λ (x : Op). OpsHold d a b b2 x) ea2 h)))

  pub ops_from_four : FourHold (operations key) d four → OpsHold d p.op q.op q2.op p2.op
  ops_from_four h =
      holds h.p h.q h.q2 h.p2 (one_of_record key valid four.p p h.p p_is h.p_is) (one_of_record key valid four.q q h.q q_is h.q_is)
      (one_of_record key valid four.q2 q2 h.q2 q2_is h.q2_is) (one_of_record key valid four.p2 p2 h.p2 p2_is h.p2_is)
      (record { one = h.one; other = h.other; apart = h.apart; there = h.there; back = h.back })
