-- What holds of any words.
use Rattle.std.specs.Prelude.{◌≡◌, List, Some, None}
use Rattle.clap.specs.Words.{Text}
use Rattle.audit_words.specs.declared.bench.Bench.{Bench}
use Rattle.audit_words.specs.Benches.{bench_of}
use Rattle.audit_words.specs.Tasks.{task_of}

-- words that ask for a run of the store ask for no other task
abbrev pub OneTaskAtMost : Type 0
OneTaskAtMost = (words : List Text) (bench : Bench) → bench_of words ≡ Some bench → task_of words ≡ None
