-- A candidate that was tried.
use Rattle.std.proofs.Common.{◌≡◌, ℕ, List, map, length, take, drop, refl, ◌∙◌, ap}
use Rattle.std.proofs.lemmas.List.{take_at, drop_at}
use Rattle.stale_model.specs.declared.Cluster.{Cluster}
use Rattle.stale_model.specs.declared.End.{End}
use Rattle.lbt_epochs.specs.Lists.{Lists, with_placed, cluster_at}
use Rattle.lbt_epochs.specs.Steps.{chain_at, IsRun, HasFailed, HasTry, IsCut}
use Rattle.lbt_epochs.specs.declared.chains.Ran.{Ran}
use Rattle.lbt_epochs.specs.declared.chains.Ran.TheVariants.{Fails, Cut}
use Rattle.lbt_epochs.proofs.WritesOfPlaces.{writes_of_places}

module _ (d : ℕ) (clusters : List Cluster) (room at : ℕ) (old ran new : Lists) where
  -- what was placed is undone
  undone : (how : Ran) → IsRun d clusters room at old ran how → new ≡ with_placed ran (take (length old.placed) ran.placed) → new ≡ old
  undone how run undo =
      let moved = ap (λ (l : Lists). with_placed l (take (length old.placed) l.placed)) run.placed in
      undo ∙ moved ∙ ap (with_placed old) (take_at old.placed run.places (length old.placed) refl)

  -- the chain failed
  pub failed_so : (end : End) → IsRun d clusters room at old ran (Fails end) → new ≡ with_placed ran (take (length old.placed) ran.placed)
      → HasFailed (chain_at d clusters room at old) old new end
  failed_so end run undo = record { kept = undone (Fails end) run undo; clusters = map (cluster_at clusters) run.places; fails_so = run.chain_is }

  -- and this is its try
  pub try_so : (end : End) (chain : List ℕ) → IsRun d clusters room at old ran (Fails end) → new ≡ with_placed ran (take (length old.placed) ran.placed)
      → chain ≡ map (λ at. (cluster_at clusters at).write) (drop (length old.placed) ran.placed) → HasTry (chain_at d clusters room at old) old new (record { chain = chain; end = end })
  try_so end chain run undo writes = record {
    kept = undone (Fails end) run undo;
    clusters = map (cluster_at clusters) run.places;
    fails_so = run.chain_is;
    writes_are =
        let p = ap (λ (l : Lists). drop (length old.placed) l.placed) run.placed ∙ drop_at old.placed run.places (length old.placed) refl in
        writes ∙ ap (map (λ at. (cluster_at clusters at).write)) p ∙ writes_of_places clusters run.places;
  }

  -- the chain was cut
  pub cut_so : IsRun d clusters room at old ran Cut → new ≡ with_placed ran (take (length old.placed) ran.placed) → IsCut (chain_at d clusters room at old) old new
  cut_so run undo = record { kept = undone Cut run undo; cut_so = run.chain_is }
