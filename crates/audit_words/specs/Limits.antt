-- The limits of the numbers of a task.
use Rattle.std.specs.Prelude.{ℕ, ◌≤◌, ◌≢◌, ⊤}
use Rattle.stale_model.specs.Settings.{AreSettings}
use Rattle.audit_words.specs.declared.Task.{Task}
use Rattle.audit_words.specs.declared.Task.TheVariants.{Judge, Check, Gen, Trial, Trace}
use Rattle.audit_words.specs.declared.Measure.{Measure}
use Rattle.audit_words.specs.declared.Measure.TheVariants.{Audit, Two, Sides, Live}
use Rattle.audit_words.specs.declared.Workload.{Workload}
use Rattle.audit_words.specs.declared.bench.Bench.{Bench}

-- the numbers of a generated history are within their limits
pub record IsWorkload (workload : Workload) : Type 0 where
  pub some_operation : 1 ≤ workload.ops
  pub few_operations : workload.ops ≤ 1000000
  pub some_key : 1 ≤ workload.keys
  pub few_keys : workload.keys ≤ 100000

-- the number of workers is 1 to 64
pub record AreWorkers (workers : ℕ) : Type 0 where
  pub some : 1 ≤ workers
  pub few : workers ≤ 64

-- the numbers of a measure are within their limits
abbrev pub IsMeasure : Measure → Type 0
IsMeasure (Audit cert workers) = AreWorkers workers
IsMeasure Two = ⊤
IsMeasure Sides = ⊤
IsMeasure Live = ⊤

-- the numbers of a task are within their limits
abbrev pub IsWithin : Task → Type 0
IsWithin (Judge file measure) = IsMeasure measure
IsWithin (Check file cert) = ⊤
IsWithin (Gen workload) = IsWorkload workload
IsWithin (Trial workload workers) = IsWorkload workload × AreWorkers workers
IsWithin (Trace history journal settings) = AreSettings settings

-- a run of the store has settings within their limits, workers for its audit, and two files
pub record IsBench (bench : Bench) : Type 0 where
  pub settings : AreSettings bench.settings
  pub workers : AreWorkers bench.workers
  pub apart : bench.history ≢ bench.journal
