-- What a text gained where memory ran out.
use Rattle.std.specs.Prelude.{◌≡◌, ℕ, List, ◌++◌}

-- the new text is the old one and a front of what was to come, which may be nothing of it or all
pub record GainsFront (old new whole : List ℕ) : Type 0 where
  pub gained : List ℕ
  pub missing : List ℕ
  pub new_is : new ≡ old ++ gained
  pub whole_is : whole ≡ gained ++ missing
