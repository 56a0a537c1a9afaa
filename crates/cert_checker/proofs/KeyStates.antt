-- The states of a key exclude one another.
use Rattle.std.proofs.Common.{◌≡◌, ℕ, List, refl, ap, inl, inr}
use Rattle.stale_model.specs.declared.Op.{Op}
use Rattle.stale_model.specs.declared.Judgement.{Judgement}
use Rattle.stale_model.specs.declared.Verdict.{Verdict}
use Rattle.stale_model.specs.declared.Verdict.TheVariants as verdict
use Rattle.stale_model.specs.Faults.{IsDuplicate, IsUnmatched, IsEarly, IsClearKey}
use Rattle.stale_model.specs.Shown.{IsShown}
use Rattle.stale_model.proofs.LeastRecords.{same_record, not_none}
use Rattle.cert_checker.specs.declared.faults.State.{State}
use Rattle.cert_checker.specs.declared.faults.State.TheVariants.{Duplicate, Unmatched, Early, Clear}
use Rattle.cert_checker.specs.KeyFaults.{KindHolds, IsFaultyKey, IsWrongKind, named_record}
use Rattle.cert_checker.specs.KeySteps.{named_state, FindsKind}
use Rattle.cert_checker.specs.States.{StateHolds}

-- operations are in one state
pub one_state : (ops : List Op) (a b : State) → StateHolds ops a → StateHolds ops b → a ≡ b
one_state ops (Duplicate r) (Duplicate s) p q = ap Duplicate (same_record (IsDuplicate ops) r s p q)
one_state ops (Duplicate r) (Unmatched s) p q = absurd (not_none (IsDuplicate ops) r p q.no_duplicate)
one_state ops (Duplicate r) (Early s) p q = absurd (not_none (IsDuplicate ops) r p q.matched.no_duplicate)
one_state ops (Duplicate r) Clear p q = absurd (not_none (IsDuplicate ops) r p q.matched.no_duplicate)
one_state ops (Unmatched r) (Duplicate s) p q = absurd (not_none (IsDuplicate ops) s q p.no_duplicate)
one_state ops (Unmatched r) (Unmatched s) p q = ap Unmatched (same_record (IsUnmatched ops) r s p.unmatched q.unmatched)
one_state ops (Unmatched r) (Early s) p q = absurd (not_none (IsUnmatched ops) r p.unmatched q.matched.no_unmatched)
one_state ops (Unmatched r) Clear p q = absurd (not_none (IsUnmatched ops) r p.unmatched q.matched.no_unmatched)
one_state ops (Early r) (Duplicate s) p q = absurd (not_none (IsDuplicate ops) s q p.matched.no_duplicate)
one_state ops (Early r) (Unmatched s) p q = absurd (not_none (IsUnmatched ops) s q.unmatched p.matched.no_unmatched)
one_state ops (Early r) (Early s) p q = ap Early (same_record (IsEarly ops) r s p.early q.early)
one_state ops (Early r) Clear p q = absurd (not_none (IsEarly ops) r p.early q.no_early)
one_state ops Clear (Duplicate s) p q = absurd (not_none (IsDuplicate ops) s q p.matched.no_duplicate)
one_state ops Clear (Unmatched s) p q = absurd (not_none (IsUnmatched ops) s q.unmatched p.matched.no_unmatched)
one_state ops Clear (Early s) p q = absurd (not_none (IsEarly ops) s q.early p.no_early)
one_state ops Clear Clear p q = refl

-- where the kind of a verdict holds the state does that it names
kind_is_state : (ops : List Op) (v : Verdict) → KindHolds ops v → StateHolds ops (named_state v)
kind_is_state ops (verdict.Duplicate rec) holds = holds
kind_is_state ops (verdict.Unmatched rec) holds = holds
kind_is_state ops (verdict.Infinite rec) holds = holds
kind_is_state ops (verdict.Judged judgement) holds = holds

-- a verdict that names another state is of another kind
other_kind : (ops : List Op) (v : Verdict) (s : State) → (named_state v ≡ s → ⊥) → StateHolds ops s → KindHolds ops v → ⊥
other_kind ops v s other holds kind = other (one_state ops (named_state v) s (kind_is_state ops v kind) holds)

-- the record of the key's fault is named
pub wrong_kind : (ops : List Op) (v : Verdict) (s : State) (rec : ℕ) → (named_state v ≡ s → ⊥) → StateHolds ops s → IsFaultyKey ops rec → IsWrongKind ops v rec
wrong_kind ops v s rec other holds faulty = record { wrong = other_kind ops v s other holds; named = inl faulty }

-- of a clear key that of the verdict
pub kind_of_clear : (ops : List Op) (v : Verdict) → (named_state v ≡ Clear → ⊥) → IsClearKey ops → FindsKind ops v (named_record v)
kind_of_clear ops (verdict.Duplicate rec) other clear = record { wrong = other_kind ops (verdict.Duplicate rec) Clear other clear; named = inr (clear, refl) }
kind_of_clear ops (verdict.Unmatched rec) other clear = record { wrong = other_kind ops (verdict.Unmatched rec) Clear other clear; named = inr (clear, refl) }
kind_of_clear ops (verdict.Infinite rec) other clear = record { wrong = other_kind ops (verdict.Infinite rec) Clear other clear; named = inr (clear, refl) }
kind_of_clear ops (verdict.Judged judgement) other clear = clear

-- where a verdict is no judgement its kind shows it
pub shown_by_kind : (ops : List Op) (v : Verdict) → ((judgement : Judgement) → v ≡ verdict.Judged judgement → ⊥) → KindHolds ops v → IsShown ops v
shown_by_kind ops (verdict.Duplicate rec) other holds = holds
shown_by_kind ops (verdict.Unmatched rec) other holds = holds
shown_by_kind ops (verdict.Infinite rec) other holds = holds
shown_by_kind ops (verdict.Judged judgement) other holds = absurd (other judgement refl)
