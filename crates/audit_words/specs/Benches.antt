-- What the words of a run of the store ask for.
use Rattle.std.specs.Prelude.{ℕ, ◌&&◌, if◌then◌else◌, List, [], ◌∷◌, Option, Some, None, option_and_then, codes}
use Rattle.std.specs.Str.{bytes_eq}
use Rattle.clap.specs.Words.{Row, Text, all_of, first_of}
use Rattle.stale_model.specs.declared.store.Settings.{Settings}
use Rattle.audit_words.specs.declared.bench.Bench.{Bench}
use Rattle.audit_words.specs.Line.{bench_options, entries_of, gives_only}
use Rattle.audit_words.specs.Numbers.{workers_of}
use Rattle.audit_words.specs.Files.{are_two_names}
use Rattle.audit_words.specs.Settings.{settings_of}

-- two files, settings and a number of workers
abbrev pub bench_with : Option (List Text) → Option Settings → Option ℕ → Option Bench
bench_with (Some (history ∷ journal ∷ [])) (Some settings) (Some workers) =
    if are_two_names history journal then Some (record {
      history = history;
      journal = journal;
      settings = settings;
      workers = workers;
    }) else None
bench_with _ _ _ = None

-- by the mode, which has to be `bench`, and the options, of which it does not take `--cert`
abbrev pub bench_by : Option Text → List Row → Option Bench
bench_by None rows = None
bench_by (Some mode) rows = if bytes_eq mode (codes "bench") && gives_only bench_options rows
    then bench_with (all_of (codes "args") rows) (settings_of rows) (workers_of (first_of (codes "workers") rows))
    else None

-- what the entries of a command line ask for
abbrev pub bench_in : List Row → Option Bench
bench_in rows = bench_by (first_of (codes "mode") rows) rows

-- `bench HISTORY JOURNAL [options]`; nothing where the words do not ask for a run of the store
abbrev pub bench_of : List Text → Option Bench
bench_of words = option_and_then bench_in (entries_of words)
