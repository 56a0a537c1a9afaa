-- Operations that precede those of members that a chain doesn't place.
use Rattle.std.proofs.Common.{◌≡◌, ℕ, List, length, refl, sym, ◌∙◌, ap, subst}
use Rattle.stale_model.specs.declared.Op.{Op}
use Rattle.stale_model.specs.Operations.{IsRead, IsWrite}
use Rattle.stale_model.specs.Faults.{IsWriteOf}
use Rattle.stale_model.specs.Refutations.{IsOfRecord, HardHolds, SoftHolds}
use Rattle.stale_model.proofs.Places.{contains_at}
use Rattle.cert_checker.specs.OrderFaults.{StandsTo}
use Rattle.cert_checker.specs.declared.refutations.Case.{Case}
use Rattle.cert_checker.specs.RefutationSteps.{case_ops, case_stuck, IsCase, IsWrittenBy, IsUnplacedAfter, IsWalked, PrecedesUnmarked, AreReadsApart}
use Rattle.cert_checker.proofs.Cases.{case_names}
use Rattle.cert_checker.proofs.MemberMarks.{stands_in}
use Rattle.cert_checker.proofs.Written.{of_cluster, one_record, one_value, cluster_value}

module _ (case : Case) (is : IsCase case) (chain marks : List ℕ) (mark value c : ℕ) (walked : IsWalked case chain marks mark value c) (p x : ℕ) (a b : Op)
    (a_is : IsOfRecord (case_ops case) p a) (b_is : IsOfRecord (case_ops case) x b) where
  unplaced_from_marks : PrecedesUnmarked case marks mark value a b → IsUnplacedAfter case chain c p x
  unplaced_from_marks h =
      let (w, w_is) = (case_names case is).written b b_is.there in
      let by : IsWrittenBy (case_ops case) b.value w.rec = record { w = w; write = w_is; record_is = refl } in
      let member : StandsTo (case_stuck case) (length (case_stuck case)) w.rec = is.members.marked.only b.value w.rec by h.member in
      record {
        write = w.rec;
        unplaced = record {
          member = contains_at (case_stuck case) member.earlier w.rec member.there;
          unplaced = λ placed. h.unmarked (walked.marked.marked b.value w.rec by (stands_in chain w.rec placed));
        };
        a = a;
        b = b;
        a_is = a_is;
        b_is = b_is;
        of_c = of_cluster (case_ops case) value c a walked.value_is a_is.there h.of_value;
        of_write = of_cluster (case_ops case) b.value w.rec b by b_is.there refl;
        precedes = h.precedes;
      }

  -- an operation of a record is the one that was found
  same_a : (late : IsUnplacedAfter case chain c p x) → late.a ≡ a
  same_a late = (case_names case is).records late.a a late.a_is.there a_is.there (late.a_is.record_is ∙ sym a_is.record_is)

  same_b : (late : IsUnplacedAfter case chain c p x) → late.b ≡ b
  same_b late = (case_names case is).records late.b b late.b_is.there b_is.there (late.b_is.record_is ∙ sym b_is.record_is)

  pub found_unplaced : PrecedesUnmarked case marks mark value a b → (late : IsUnplacedAfter case chain c p x) × (late.b ≡ b)
  found_unplaced h = let late = unplaced_from_marks h in (late, same_b late)

  pub unmarked_from_late : IsUnplacedAfter case chain c p x → PrecedesUnmarked case marks mark value a b
  unmarked_from_late late =
      let by : IsWrittenBy (case_ops case) late.b.value late.write = record { w = late.of_write.w; write = late.of_write.w_is; record_is = late.of_write.record_is } in
      subst (λ (y : Op). PrecedesUnmarked case marks mark value y b) (same_a late)
      (subst (λ (y : Op). PrecedesUnmarked case marks mark value late.a y) (same_b late)
      (record {
        of_value = cluster_value (case_ops case) (case_names case is) value c late.a walked.value_is late.of_c;
        member = is.members.marked.marked late.b.value late.write by (stands_in (case_stuck case) late.write late.unplaced.member);
        unmarked = λ m. let s = walked.marked.only late.b.value late.write by m in late.unplaced.unplaced (contains_at chain s.earlier late.write s.there);
        precedes = late.precedes;
      }))

-- the ends of a chain, by the operations that were found
module _ (case : Case) (is : IsCase case) (chain : List ℕ) (c p : ℕ) where
  same_op : (x : ℕ) (a b : Op) → IsOfRecord (case_ops case) x a → IsOfRecord (case_ops case) x b → a ≡ b
  same_op x a b a_is b_is = (case_names case is).records a b a_is.there b_is.there (a_is.record_is ∙ sym b_is.record_is)

  by_late : (x : ℕ) (late : IsUnplacedAfter case chain c p x) → IsWrittenBy (case_ops case) late.b.value late.write
  by_late x late = record { w = late.of_write.w; write = late.of_write.w_is; record_is = late.of_write.record_is }

  pub hard_from_write : (u : ℕ) (b : Op) → (late : IsUnplacedAfter case chain c p u) × (late.b ≡ b) → IsWrite b → HardHolds (case_ops case) case.d (case_stuck case) chain c p u
  hard_from_write u b (late, same) write =
      let itself : IsWriteOf (case_ops case) late.b.value late.b = record { there = late.b_is.there; kind = subst IsWrite (sym same) write; value_is = refl } in
      record {
        late = late;
        itself = sym late.of_write.record_is ∙ ap (λ (x : Op). x.rec) ((case_names case is).once late.b.value late.of_write.w late.b late.of_write.w_is itself) ∙ late.b_is.record_is;
      }

  pub write_from_hard : (u : ℕ) (b : Op) → (late : IsUnplacedAfter case chain c p u) × (late.b ≡ b) → HardHolds (case_ops case) case.d (case_stuck case) chain c p u → IsWrite b
  write_from_hard u b (late, same) h =
      let w_is : IsOfRecord (case_ops case) u h.late.of_write.w = record { there = h.late.of_write.w_is.there; record_is = h.late.of_write.record_is ∙ h.itself } in
      subst IsWrite (same_op u h.late.of_write.w late.b w_is late.b_is ∙ same) h.late.of_write.w_is.kind

  module _ (q q2 : ℕ) (a b : Op) (first : (late : IsUnplacedAfter case chain c p q) × (late.b ≡ a)) (second : (late : IsUnplacedAfter case chain c p q2) × (late.b ≡ b)) where
    pub soft_from_reads : AreReadsApart a b → SoftHolds (case_ops case) case.d (case_stuck case) chain c p q q2
    soft_from_reads h = record {
      late = first.0;
      late2 = second.0;
      reads = (subst IsRead (sym first.1) h.first, subst IsRead (sym second.1) h.second);
      apart = λ e.
          h.apart
          (ap (λ (x : Op). x.value) (sym first.1)
          ∙ one_value (case_ops case) (case_names case is) first.0.b.value second.0.b.value second.0.write (subst (IsWrittenBy (case_ops case) first.0.b.value) e (by_late q first.0)) (by_late q2 second.0)
          ∙ ap (λ (x : Op). x.value) second.1);
    }

    pub reads_from_soft : SoftHolds (case_ops case) case.d (case_stuck case) chain c p q q2 → AreReadsApart a b
    reads_from_soft h =
        let one : h.late.b ≡ a = same_op q h.late.b first.0.b h.late.b_is first.0.b_is ∙ first.1 in
        let two : h.late2.b ≡ b = same_op q2 h.late2.b second.0.b h.late2.b_is second.0.b_is ∙ second.1 in
        record {
          first = subst IsRead one h.reads.0;
          second = subst IsRead two h.reads.1;
          apart = λ e.
              h.apart
              (one_record (case_ops case) (case_names case is) h.late2.b.value h.late.write h.late2.write
              (subst (λ v. IsWrittenBy (case_ops case) v h.late.write) (ap (λ (x : Op). x.value) one ∙ e ∙ ap (λ (x : Op). x.value) (sym two)) (by_late q h.late)) (by_late q2 h.late2));
        }
