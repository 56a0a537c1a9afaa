-- Command lines that are written out.
use Rattle.std.specs.Prelude.{ℕ, ◌==◌, Option, codes}
use Rattle.std.specs.List.{slice_split}
use Rattle.clap.specs.Words.{Text}
use Rattle.stale_model.specs.declared.store.Settings.{Settings}
use Rattle.audit_words.specs.declared.Task.{Task}
use Rattle.audit_words.specs.declared.Task.TheVariants.{Judge, Trace}
use Rattle.audit_words.specs.declared.Measure.TheVariants.{Audit}
use Rattle.audit_words.specs.declared.Workload.{Workload}
use Rattle.audit_words.specs.declared.bench.Bench.{Bench}
use Rattle.audit_words.specs.Benches.{bench_of}
use Rattle.audit_words.specs.Tasks.{task_of}

-- what the words between the blanks of a line ask for
abbrev pub asked_by : Text → Option Task
asked_by line = task_of (slice_split (λ byte. byte == 32) line)

-- the audit of this file by so many workers, with the file for the certificate where it is given
abbrev pub audit : Text → Option Text → ℕ → Task
audit file cert workers = Judge file (Audit cert workers)

-- the settings with this seed and these numbers of operations and keys
abbrev pub workload : ℕ → ℕ → ℕ → Workload
workload seed ops keys = record { seed = seed; ops = ops; keys = keys }

-- the run of the store that the words between the blanks of a line ask for
abbrev pub run_asked_by : Text → Option Bench
run_asked_by line = bench_of (slice_split (λ byte. byte == 32) line)

-- the settings of these clients, replicas, calls, keys, read and write quorums, writes, seed and shards
abbrev pub settings : (clients replicas calls keys read_quorum write_quorum writes seed shards : ℕ) → Settings
settings clients replicas calls keys read_quorum write_quorum writes seed shards = record {
  clients = clients;
  replicas = replicas;
  calls = calls;
  keys = keys;
  read_quorum = read_quorum;
  write_quorum = write_quorum;
  writes = writes;
  seed = seed;
  shards = shards;
}

-- the settings where the words say none
abbrev pub default_settings : Settings
default_settings = settings 2 3 100 4 1 1 50 1 1

-- the run with these settings and this number of workers, into the files `h` and `j`
abbrev pub run : Settings → ℕ → Bench
run settings workers = record {
  history = codes "h";
  journal = codes "j";
  settings = settings;
  workers = workers;
}

-- the trace of the files `h` and `j`, by these settings
abbrev pub trace : Settings → Task
trace settings = Trace (codes "h") (codes "j") settings
