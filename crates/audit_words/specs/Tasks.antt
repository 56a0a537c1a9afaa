-- What the words of a command line ask for.
use Rattle.std.specs.Prelude.{ℕ, ◌&&◌, if◌then◌else◌, List, [], ◌∷◌, Option, Some, None, option_map, option_and_then, codes}
use Rattle.std.specs.Str.{bytes_eq}
use Rattle.clap.specs.Words.{Row, Text, all_of, first_of}
use Rattle.stale_model.specs.declared.store.Settings.{Settings}
use Rattle.audit_words.specs.declared.Task.{Task}
use Rattle.audit_words.specs.declared.Task.TheVariants.{Judge, Check, Gen, Trial, Trace}
use Rattle.audit_words.specs.declared.Measure.{Measure}
use Rattle.audit_words.specs.declared.Measure.TheVariants.{Audit, Two, Sides, Live}
use Rattle.audit_words.specs.declared.Workload.{Workload}
use Rattle.audit_words.specs.Line.{entries_of, gives_only, settings_options}
use Rattle.audit_words.specs.Numbers.{number_within, workers_of}
use Rattle.audit_words.specs.Files.{is_name, are_two_names}
use Rattle.audit_words.specs.Settings.{settings_of}

-- one file, beside it the certificate's where it is given, and a number of workers
abbrev pub audit_with : Option (List Text) → Option Text → Option ℕ → Option Task
audit_with (Some (file ∷ [])) None (Some workers) = if is_name file then Some (Judge file (Audit None workers)) else None
audit_with (Some (file ∷ [])) (Some cert) (Some workers) =
    if are_two_names file cert then Some (Judge file (Audit (Some cert) workers)) else None
audit_with _ _ _ = None

-- `audit FILE [--cert OUT] [--workers N]`
abbrev pub audit_of : List Row → Option Task
audit_of rows = audit_with (all_of (codes "args") rows) (first_of (codes "cert") rows) (workers_of (first_of (codes "workers") rows))

-- one file
abbrev pub judge_with : Measure → Option (List Text) → Option Task
judge_with measure (Some (file ∷ [])) = if is_name file then Some (Judge file measure) else None
judge_with measure _ = None

-- `two FILE`, `sides FILE` or `live FILE`, by the measure
abbrev pub judge_of : Measure → List Row → Option Task
judge_of measure rows = judge_with measure (all_of (codes "args") rows)

-- two files
abbrev pub check_with : Option (List Text) → Option Task
check_with (Some (file ∷ cert ∷ [])) = if are_two_names file cert then Some (Check file cert) else None
check_with _ = None

-- `check FILE CERT`
abbrev pub check_of : List Row → Option Task
check_of rows = check_with (all_of (codes "args") rows)

-- a seed, a number of operations and one of keys
abbrev pub workload_with : Option ℕ → Option ℕ → Option ℕ → Option Workload
workload_with (Some seed) (Some ops) (Some keys) = Some (record { seed = seed; ops = ops; keys = keys })
workload_with _ _ _ = None

-- three words: `SEED OPS KEYS`
abbrev pub workload_in : Option (List Text) → Option Workload
workload_in (Some (seed ∷ ops ∷ keys ∷ [])) =
    workload_with (number_within 0 18446744073709551615 seed) (number_within 1 1000000 ops) (number_within 1 100000 keys)
workload_in _ = None

-- the settings of a generated history
abbrev pub workload_of : List Row → Option Workload
workload_of rows = workload_in (all_of (codes "args") rows)

-- `gen SEED OPS KEYS`
abbrev pub gen_of : List Row → Option Task
gen_of rows = option_map Gen (workload_of rows)

-- such settings, and a number of workers
abbrev pub trial_with : Option Workload → Option ℕ → Option Task
trial_with (Some workload) (Some workers) = Some (Trial workload workers)
trial_with _ _ = None

-- `trial SEED OPS KEYS [--workers N]`
abbrev pub trial_of : List Row → Option Task
trial_of rows = trial_with (workload_of rows) (workers_of (first_of (codes "workers") rows))

-- two files, and settings
abbrev pub trace_with : Option (List Text) → Option Settings → Option Task
trace_with (Some (history ∷ journal ∷ [])) (Some settings) = if are_two_names history journal then Some (Trace history journal settings) else None
trace_with _ _ = None

-- `trace HISTORY JOURNAL [options]`
abbrev pub trace_of : List Row → Option Task
trace_of rows = trace_with (all_of (codes "args") rows) (settings_of rows)

-- by the mode, of those that take no option
abbrev pub plain_task_by : Text → List Row → Option Task
plain_task_by mode rows =
    if bytes_eq mode (codes "two") then judge_of Two rows
    else if bytes_eq mode (codes "sides") then judge_of Sides rows
    else if bytes_eq mode (codes "live") then judge_of Live rows
    else if bytes_eq mode (codes "check") then check_of rows
    else if bytes_eq mode (codes "gen") then gen_of rows
    else None

-- by the mode, which says the options that may be given
abbrev pub task_by : Option Text → List Row → Option Task
task_by None rows = None
task_by (Some mode) rows =
    if bytes_eq mode (codes "audit") && gives_only (codes "cert" ∷ codes "workers" ∷ []) rows then audit_of rows
    else if bytes_eq mode (codes "trial") && gives_only (codes "workers" ∷ []) rows then trial_of rows
    else if bytes_eq mode (codes "trace") && gives_only settings_options rows then trace_of rows
    else if gives_only [] rows then plain_task_by mode rows
    else None

-- what the entries of a command line ask for
abbrev pub task_in : List Row → Option Task
task_in rows = task_by (first_of (codes "mode") rows) rows

-- what the words ask for; nothing where the command line does not take them, or takes them in vain
abbrev pub task_of : List Text → Option Task
task_of words = option_and_then task_in (entries_of words)
