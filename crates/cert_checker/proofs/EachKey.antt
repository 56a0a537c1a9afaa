-- The verdicts of the keys so far.
use Rattle.std.proofs.Common.{inl, inr, ℕ, ◌+◌, ◌<◌, List, subst}
use Rattle.stale_model.specs.declared.KeyOps.{KeyOps}
use Rattle.stale_model.specs.declared.Verdict.{Verdict}
use Rattle.stale_model.specs.Operations.{operations}
use Rattle.stale_model.specs.Orders.{StandsAt}
use Rattle.stale_model.specs.Shown.{IsShown}
use Rattle.stale_model.proofs.Places.{same_at}
use Rattle.cert_checker.proofs.Starts.{below_or_at}

-- the verdicts of the keys before this place are shown
pub record AreShownTo (keys : List KeyOps) (verdicts : List Verdict) (place : ℕ) : Type 0 where
  pub each : (i : ℕ) (key : KeyOps) (verdict : Verdict) → i < place → StandsAt keys i key → StandsAt verdicts i verdict → IsShown (operations key) verdict

-- so is that of the key at this place
pub shown_more : (keys : List KeyOps) (verdicts : List Verdict) (place : ℕ) (key : KeyOps) (verdict : Verdict) → StandsAt keys place key → StandsAt verdicts place verdict
    → IsShown (operations key) verdict → AreShownTo keys verdicts place → AreShownTo keys verdicts (place + 1)
shown_more keys verdicts place key verdict key_is verdict_is shown to = record {
  each = λ i k v low at_key at_verdict. elim (below_or_at i place low) [
    | inl below ↦ to.each i k v below at_key at_verdict
    | inr e ↦
        subst (λ (x : KeyOps). IsShown (operations x) v) (same_at keys place key k key_is (subst (λ p. StandsAt keys p k) e at_key))
        (subst (IsShown (operations key)) (same_at verdicts place verdict v verdict_is (subst (λ p. StandsAt verdicts p v) e at_verdict)) shown)
  ];
}
