-- Four operations that show a conflict of two clusters.
use Rattle.std.specs.Prelude.{◌≡◌, ◌≢◌, ℕ}
use Rattle.stale_model.specs.declared.Op.{Op}
use Rattle.stale_model.specs.Precedence.{Precedes}

-- p and p2 are of one cluster, q and q2 of another, and each precedes the other at d
pub record OpsHold (d : ℕ) (p q q2 p2 : Op) : Type 0 where
  pub one : p.value ≡ p2.value
  pub other : q.value ≡ q2.value
  pub apart : p.value ≢ q.value
  pub there : Precedes d p q
  pub back : Precedes d q2 p2
