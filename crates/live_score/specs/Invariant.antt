-- What is true of the fields of a score.
use Rattle.std.specs.Prelude.{◌≡◌, ◌≢◌, ℕ, ◌+◌, ◌≤◌, List, ◌∷◌, Option, length, All, vec_len, vec_capacity}
use Rattle.std.specs.List.{AllPairs}
use Rattle.stale_model.specs.declared.Op.{Op}
use Rattle.stale_model.specs.Operations.{initial_write}
use Rattle.stale_model.specs.Valid.{IsValidOp}
use Rattle.stale_model.specs.NamedWrites.{WritesDiffer}
use Rattle.stale_model.specs.Counted.{waiting}
use Rattle.live_score.specs.declared.live.Live.TheInside.{Inside}
use Rattle.live_score.specs.declared.places.Place.{Place}
use Rattle.live_score.specs.declared.rows.Row.{Row}
use Rattle.live_score.specs.Places.{AreRising}
use Rattle.live_score.specs.Rows.{AreRows, AreCounts}
use Rattle.live_score.specs.Placing.{ArePlaced, IsScoreOfPlaces}

-- the operations are valid, their records differ, and no value is written twice
pub record AreFed (values : ℕ) (fed : List Op) : Type 0 where
  pub valid : All (IsValidOp values) fed
  pub records : AllPairs (λ a b. a.rec ≢ b.rec) fed
  pub once : WritesDiffer (initial_write ∷ fed)

-- the rows say what was fed, the places show the rows, and the score is theirs
pub record IsKept (values : ℕ) (fed : List Op) (rows : List Row) (taken : ℕ) (places : List Place) (score : Option ℕ) (waits : ℕ) : Type 0 where
  pub operations : AreFed values fed
  pub size : length rows ≡ values + 1
  pub says : AreRows (initial_write ∷ fed) rows
  pub counts : AreCounts fed rows
  pub few : taken ≤ length fed + 1
  pub placed : ArePlaced rows taken places
  pub rising : AreRising places
  pub score_is : IsScoreOfPlaces places score
  pub waiting_is : waits ≡ waiting fed

-- all this is kept of the operations that were fed, and there is room for the others
pub record IsLive (l : Inside) : Type 0 where
  pub kept : IsKept l.values l.fed.items l.rows.items l.taken l.tree l.score l.waiting
  pub within : vec_len l.fed ≤ l.places
  pub room : l.places ≤ vec_capacity l.fed
  pub enough : length l.tree ≡ l.places + 1
