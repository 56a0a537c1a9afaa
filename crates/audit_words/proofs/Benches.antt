-- What is asked of a run of the store is within its limits, and such words ask for no other task.
use Rattle.std.proofs.Common.{◌≡◌, ◌∙◌, ◌&&◌, ℕ, Bool, true, false, not, if◌then◌else◌, refl, sym, ap, subst, lit≤, List, [], ◌∷◌, Option, Some, None, IfSome, IfOk, Result, Ok, Err, option_and_then, codes, bytes_eq}
use Rattle.std.proofs.lemmas.Bool.{and_parts, false≢true}
use Rattle.std.proofs.lemmas.Slice.Eq.{bytes_eq-Decides}
use Rattle.clap.specs.Words.{Row, Text, all_of, first_of}
use Rattle.stale_model.specs.declared.Memory.{Memory}
use Rattle.stale_model.specs.declared.store.Settings.{Settings}
use Rattle.stale_model.specs.Settings.{AreSettings}
use Rattle.audit_words.specs.declared.bench.Bench.{Bench}
use Rattle.audit_words.specs.declared.Task.{Task}
use Rattle.audit_words.specs.Line.{bench_options, entries_of, gives_only}
use Rattle.audit_words.specs.Numbers.{workers_of}
use Rattle.audit_words.specs.Files.{are_two_names, is_name}
use Rattle.audit_words.specs.Limits.{AreWorkers, IsBench}
use Rattle.audit_words.specs.Settings.{settings_of}
use Rattle.audit_words.specs.Benches.{bench_by, bench_in, bench_with}
use Rattle.audit_words.specs.Tasks.{task_by, task_in}
use Rattle.audit_words.specs.Laws.{OneTaskAtMost}
use Rattle.audit_words.proofs.WithinLimits.{IsFromTo, number_or-within, settings_of-within}

-- a number of workers
are_workers : (number : Option ℕ) → IfSome number (IsFromTo 1 64) → IfSome number AreWorkers
are_workers None is = tt
are_workers (Some n) is = record { some = is.0; few = is.1 }

-- two names differ
names_differ : (one other : Text) → are_two_names one other ≡ true → one ≡ other → ⊥
names_differ one other two same =
    let differ = (and_parts (is_name one && is_name other) (not (bytes_eq one other)) two).1 in
    false≢true (sym (ap not ((bytes_eq-Decides one other).1 same)) ∙ differ)

-- a run whose files were found to be two
found_two : (two : Bool) (bench : Bench) → (two ≡ true → bench.history ≡ bench.journal → ⊥) → AreSettings bench.settings → AreWorkers bench.workers
    → IfSome (if two then Some bench else None) IsBench
found_two true bench apart settings workers = record { settings = settings; workers = workers; apart = apart refl }
found_two false bench apart settings workers = tt

-- a run of such parts
of_parts : (files : Option (List Text)) (settings : Option Settings) (workers : Option ℕ) → IfSome settings AreSettings → IfSome workers AreWorkers
    → IfSome (bench_with files settings workers) IsBench
of_parts None settings workers are some = tt
of_parts (Some []) settings workers are some = tt
of_parts (Some (history ∷ [])) settings workers are some = tt
of_parts (Some (history ∷ journal ∷ [])) None workers are some = tt
of_parts (Some (history ∷ journal ∷ [])) (Some settings) None are some = tt
of_parts (Some (history ∷ journal ∷ [])) (Some settings) (Some workers) are some =
    found_two (are_two_names history journal) _ (names_differ history journal) are some
of_parts (Some (history ∷ journal ∷ file ∷ files)) settings workers are some = tt

-- a value that is taken or not
where_taken : (taken : Bool) (bench : Option Bench) → IfSome bench IsBench → IfSome (if taken then bench else None) IsBench
where_taken true bench is = is
where_taken false bench is = tt

-- by the mode
by_mode : (mode : Option Text) (rows : List Row) → IfSome (bench_by mode rows) IsBench
by_mode None rows = tt
by_mode (Some mode) rows = where_taken (bytes_eq mode (codes "bench") && gives_only bench_options rows) _
    (of_parts (all_of (codes "args") rows) (settings_of rows) (workers_of (first_of (codes "workers") rows)) (settings_of-within rows)
    (are_workers _ (number_or-within 1 1 64 (first_of (codes "workers") rows) (lit≤ tt) (lit≤ tt))))

-- an answer is within the limits
pub told : (result : Result (Option Bench) Memory) (rows : List Row) → IfOk result (λ bench. bench ≡ bench_in rows)
    → IfOk result (λ bench. IfSome bench IsBench)
told (Ok bench) rows is = subst (λ bench. IfSome bench IsBench) (sym is) (by_mode (first_of (codes "mode") rows) rows)
told (Err memory) rows is = tt

-- a value that is there was taken
was_taken : (one other : Bool) (o : Option Bench) (bench : Bench) → (if one && other then o else None) ≡ Some bench → one ≡ true
was_taken true other o bench is = refl
was_taken false other o bench is = absurd (cc is)

-- a value that is none is none, whether it is taken or not
none_either_way : (taken : Bool) (task : Option Task) → task ≡ None → (if taken then task else None) ≡ None
none_either_way true task none = none
none_either_way false task none = refl

-- no mode is `bench` and another
no_other_mode : (mode : Option Text) (rows : List Row) (bench : Bench) → bench_by mode rows ≡ Some bench → task_by mode rows ≡ None
no_other_mode None rows bench is = refl
no_other_mode (Some mode) rows bench is =
    let same = (bytes_eq-Decides mode (codes "bench")).0 (was_taken (bytes_eq mode (codes "bench")) (gives_only bench_options rows) _ bench is) in
    let IsNone : Text → Type 0 = λ mode. task_by (Some mode) rows ≡ None in
    subst IsNone (sym same) (none_either_way (gives_only [] rows) None refl)

-- no entries ask for a run and for another task
no_other_task : (entries : Option (List Row)) (bench : Bench) → option_and_then bench_in entries ≡ Some bench → option_and_then task_in entries ≡ None
no_other_task None bench is = refl
no_other_task (Some rows) bench is = no_other_mode (first_of (codes "mode") rows) rows bench is

pub one_task_at_most : OneTaskAtMost
one_task_at_most words bench is = no_other_task (entries_of words) bench is
