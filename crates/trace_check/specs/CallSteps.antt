-- What serves the code of the judge alone: the calls of one client against their plan, and one after the other.
use Rattle.std.specs.Prelude.{◌≡◌, ℕ, ◌+◌, ◌<◌, List, length, Some, All, map, slice_get}
use Rattle.std.specs.List.Sorted.{IsStrictlyIncreasing}
use Rattle.stale_model.specs.declared.store.PlanCall.{PlanCall}
use Rattle.stale_model.specs.declared.store.Entry.{Entry}
use Rattle.stale_model.specs.RecordedRuns.{IsAsPlanned}

-- a client has made these planned calls, in order, and no others
pub record AreCalls (calls : List PlanCall) (own : List Entry) : Type 0 where
  pub as_many : length own ≡ length calls
  pub each : (k : ℕ) (e : Entry) (call : PlanCall) → slice_get own k ≡ Some e → slice_get calls k ≡ Some call → IsAsPlanned (k + 1) call e

-- each of these calls finished before the next started
abbrev pub AreOneByOne : List Entry → Type 0
AreOneByOne own = (k : ℕ) (a b : Entry) → slice_get own k ≡ Some a → slice_get own (k + 1) ≡ Some b → a.finish < b.start

-- entries stand by rising start, each finished after it started, and each client, whose own these are, made one call after the other
pub record AreInOrder (entries : List Entry) (groups : List (List Entry)) : Type 0 where
  pub rising : IsStrictlyIncreasing (map (λ e. e.start) entries)
  pub ordered : All (λ e. e.start < e.finish) entries
  pub one_by_one : All AreOneByOne groups
