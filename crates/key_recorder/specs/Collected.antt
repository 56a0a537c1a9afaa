-- The entries of all logs, by their starts.
use Rattle.std.specs.Prelude.{List}
use Rattle.std.specs.Ordering.{nat_cmp}
use Rattle.std.specs.List.Sorted.{IsPermutation, IsNonDecreasingBy, IsStableByKey}
use Rattle.stale_model.specs.declared.store.Entry.{Entry}

-- the same entries by rising start, and those of one start in the order in which they stood
pub record IsCollected (entries collected : List Entry) : Type 0 where
  pub same : IsPermutation entries collected
  pub by_start : IsNonDecreasingBy (λ e. e.start) collected
  pub stable : IsStableByKey (λ e. e.start) nat_cmp entries collected
