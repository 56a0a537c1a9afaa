-- The verdicts of keys are one.
use Rattle.std.proofs.Common.{◌≡◌, ℕ, suc, List, [], ◌∷◌, Option, Some, None, refl, sym, ap, subst, arith}
use Rattle.stale_model.specs.declared.Cluster.{Cluster}
use Rattle.stale_model.specs.declared.Four.{Four}
use Rattle.stale_model.specs.declared.Judgement.{Judgement}
use Rattle.stale_model.specs.declared.KeyOps.{KeyOps}
use Rattle.stale_model.specs.declared.Verdict.{Verdict}
use Rattle.stale_model.specs.declared.Verdict.TheVariants.{Duplicate, Unmatched, Infinite, Judged}
use Rattle.stale_model.specs.Operations.{operations}
use Rattle.stale_model.specs.Valid.{IsValidKey}
use Rattle.stale_model.specs.Faults.{IsDuplicate, IsUnmatched, IsEarly}
use Rattle.stale_model.specs.PrintedVerdicts.{IsPrintedOrder, IsPrintedTwo, ArePrintedVerdicts, IsPrintedJudgement, IsPrintedFour}
use Rattle.stale_model.specs.Zones.{IsFourOfPair}
use Rattle.model_laws.proofs.One.{least_deltas_are_one, printed_orders_are_one, printed_fours_are_one, printed_twos_are_one}
use Rattle.stale_model.proofs.ClustersOne.{clusters_are_one, cluster_writes_differ}
use Rattle.model_laws.proofs.ClustersOne.{valid_records_differ}
use Rattle.stale_model.proofs.LeastRecords.{same_record, not_none}
use Rattle.audit_workers.specs.Laws.{VerdictIsOne, VerdictsAreOne}
use Rattle.audit_workers.proofs.Truth.{verdicts_are_true}

-- the records that are printed for one delta are one
four_is_one : (clusters : List Cluster) (delta : ℕ) (x y : Option Four) → ((d : ℕ) (four other : Four) → IsFourOfPair clusters d four → IsFourOfPair clusters d other → four ≡ other) → IsPrintedFour clusters delta x → IsPrintedFour clusters delta y → x ≡ y
four_is_one clusters delta None None one p q = refl
four_is_one clusters delta None (Some y) one p (above, q) = absurd (omega arith)
four_is_one clusters delta (Some x) None one (above, p) q = absurd (omega arith)
four_is_one clusters delta (Some x) (Some y) one (above, p) (more, q) = ap Some (one _ x y p q)

-- a judgement by its parts
same_judgement : (x y : Judgement) → x.delta ≡ y.delta → x.order ≡ y.order → x.four ≡ y.four → x.two ≡ y.two → x ≡ y
same_judgement x y p q r s = λ i. record { delta = p i; order = q i; four = r i; two = s i }

judgement_is_one : (key : KeyOps) (x y : Judgement) → IsValidKey key → IsPrintedJudgement (operations key) x → IsPrintedJudgement (operations key) y → x ≡ y
judgement_is_one key x y valid p q =
    let ops = operations key in
    let delta = least_deltas_are_one ops 1 x.delta y.delta (verdicts_are_true key (Judged x) valid p).least (verdicts_are_true key (Judged y) valid q).least in
    let clusters = clusters_are_one ops q.clusters p.clusters q.are p.are in
    let differ = cluster_writes_differ ops p.clusters p.are in
    let order = subst (λ (d : ℕ). IsPrintedOrder ops p.clusters d y.order) (sym delta) (subst (λ (cs : List Cluster). IsPrintedOrder ops cs y.delta y.order) clusters q.order) in
    let four = subst (λ (d : ℕ). IsPrintedFour p.clusters d y.four) (sym delta) (subst (λ (cs : List Cluster). IsPrintedFour cs y.delta y.four) clusters q.four) in
    let two = subst (λ (cs : List Cluster). IsPrintedTwo ops cs y.two) clusters q.two in
    same_judgement x y delta (printed_orders_are_one ops p.clusters x.delta x.order y.order (valid_records_differ key valid) differ p.order order)
    (four_is_one p.clusters x.delta x.four y.four (λ d a b. printed_fours_are_one p.clusters d a b differ) p.four four)
    (printed_twos_are_one ops p.clusters x.two y.two (valid_records_differ key valid) differ p.two two)

pub verdict_is_one : VerdictIsOne
verdict_is_one key (Duplicate x) (Duplicate y) valid p q = ap Duplicate (same_record (IsDuplicate (operations key)) x y p q)
verdict_is_one key (Duplicate x) (Unmatched y) valid p q = absurd (not_none (IsDuplicate (operations key)) x p q.no_duplicate)
verdict_is_one key (Duplicate x) (Infinite y) valid p q = absurd (not_none (IsDuplicate (operations key)) x p q.matched.no_duplicate)
verdict_is_one key (Duplicate x) (Judged y) valid p q = absurd (not_none (IsDuplicate (operations key)) x p q.clear.matched.no_duplicate)
verdict_is_one key (Unmatched x) (Duplicate y) valid p q = absurd (not_none (IsDuplicate (operations key)) y q p.no_duplicate)
verdict_is_one key (Unmatched x) (Unmatched y) valid p q = ap Unmatched (same_record (IsUnmatched (operations key)) x y p.unmatched q.unmatched)
verdict_is_one key (Unmatched x) (Infinite y) valid p q = absurd (not_none (IsUnmatched (operations key)) x p.unmatched q.matched.no_unmatched)
verdict_is_one key (Unmatched x) (Judged y) valid p q = absurd (not_none (IsUnmatched (operations key)) x p.unmatched q.clear.matched.no_unmatched)
verdict_is_one key (Infinite x) (Duplicate y) valid p q = absurd (not_none (IsDuplicate (operations key)) y q p.matched.no_duplicate)
verdict_is_one key (Infinite x) (Unmatched y) valid p q = absurd (not_none (IsUnmatched (operations key)) y q.unmatched p.matched.no_unmatched)
verdict_is_one key (Infinite x) (Infinite y) valid p q = ap Infinite (same_record (IsEarly (operations key)) x y p.early q.early)
verdict_is_one key (Infinite x) (Judged y) valid p q = absurd (not_none (IsEarly (operations key)) x p.early q.clear.no_early)
verdict_is_one key (Judged x) (Duplicate y) valid p q = absurd (not_none (IsDuplicate (operations key)) y q p.clear.matched.no_duplicate)
verdict_is_one key (Judged x) (Unmatched y) valid p q = absurd (not_none (IsUnmatched (operations key)) y q.unmatched p.clear.matched.no_unmatched)
verdict_is_one key (Judged x) (Infinite y) valid p q = absurd (not_none (IsEarly (operations key)) y q.early p.clear.no_early)
verdict_is_one key (Judged x) (Judged y) valid p q = ap Judged (judgement_is_one key x y valid p q)

-- the verdicts of the keys but the first
ArePrintedVerdicts-rest : (key : KeyOps) (keys : List KeyOps) (verdict : Verdict) (verdicts : List Verdict) → ArePrintedVerdicts (key ∷ keys) (verdict ∷ verdicts) → ArePrintedVerdicts keys verdicts
ArePrintedVerdicts-rest key keys verdict verdicts h = record { as_many = let n = h.as_many in omega arith; each = λ i k v at there. h.each (suc i) k v at there }

pub verdicts_are_one : VerdictsAreOne
verdicts_are_one [] [] [] valid p q = refl
verdicts_are_one [] [] (y ∷ ys) valid p q = let n = q.as_many in absurd (omega arith)
verdicts_are_one [] (x ∷ xs) ys valid p q = let n = p.as_many in absurd (omega arith)
verdicts_are_one (k ∷ ks) [] ys valid p q = let n = p.as_many in absurd (omega arith)
verdicts_are_one (k ∷ ks) (x ∷ xs) [] valid p q = let n = q.as_many in absurd (omega arith)
verdicts_are_one (k ∷ ks) (x ∷ xs) (y ∷ ys) valid p q =
    let e = verdict_is_one k x y (valid 0 k (omega arith)) (p.each 0 k x refl refl) (q.each 0 k y refl refl) in
    let f = verdicts_are_one ks xs ys (λ i d within. valid (suc i) d (omega arith)) (ArePrintedVerdicts-rest k ks x xs p) (ArePrintedVerdicts-rest k ks y ys q) in
    cc
