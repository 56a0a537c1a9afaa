-- How a call ends where memory is wanting for the words, so that nothing was done.
use Rattle.std.proofs.Common.{◌≡◌, ℕ, List, Option, Some, None, refl, inl, inr}
use Rattle.std.specs.Prelude.{IfSome}
use Rattle.audit_ports.specs.Shelf.{Shown}
use Rattle.audit_ports.specs.Sink.{SinkShown}
use Rattle.audit_ports.specs.Crew.{CrewView}
use Rattle.audit_words.specs.declared.bench.Bench.{Bench}
use Rattle.command_outputs.specs.Lines.{SaysLine, memory_line}
use Rattle.audit_commands.specs.declared.status.Status.TheVariants as status
use Rattle.audit_commands.specs.Status.{number}
use Rattle.audit_commands.specs.Ends.{Outside, outside}
use Rattle.audit_commands.specs.Complete.{IsComplete}
use Rattle.audit_commands.proofs.Keeping.{keeps_outside}
use Rattle.bench_run.specs.Jobs.{JobView}
use Rattle.bench_commands.specs.declared.status.BenchStatus.TheVariants as bench_status
use Rattle.bench_commands.specs.declared.refusal.BenchRefusal.TheVariants as refusal
use Rattle.bench_commands.specs.Ends.{EndsBench}
use Rattle.bench_commands.specs.Offline.{EndsOffline}
use Rattle.bench_commands.proofs.Ending.{refused_ends}

-- what holds of everything holds of what is there
where_some : {A : Type 0} (found : Option A) (P : A → Type 0) → ((a : A) → P a) → IfSome found P
where_some None P each = tt
where_some (Some a) P each = each a

-- want of memory is complete
memory_complete : (words : List (List ℕ)) (old new : Outside) → IsComplete words old new (number status.OutOfMemory)
memory_complete words old new = record { told = where_some old.shelf.files _ (λ files nothing. inr refl); untold = λ no_history no_out. inr refl }

module _ (s : Shown) (quiet : s.writing ≡ None) (o e e' : SinkShown) (says : SaysLine memory_line e e') where
  -- as a call that asks for no bench
  pub offline_without_memory : (words : List (List ℕ)) → EndsOffline words (outside s o e) (outside s o e') (number status.OutOfMemory)
  offline_without_memory words = record {
    ends = record {
      status = status.OutOfMemory;
      number_is = refl;
      ends = record {
        counts = record { read_faults = refl; write_faults = refl; misses = refl };
        refuses = record { files = refl; out = refl; says = says };
      };
    };
    words_refused = λ none. inr refl;
    keeps = keeps_outside words s o e e' quiet says.keeps;
    complete = memory_complete words (outside s o e) (outside s o e');
  }

  -- as a bench, if the words ask for one
  pub bench_without_memory : (crew : CrewView JobView) (asked : Option Bench)
      → IfSome asked (λ b. EndsBench b (outside s o e) (outside s o e') crew crew (number status.OutOfMemory))
  bench_without_memory crew asked =
      where_some asked _ (λ b. refused_ends b s s quiet o o e e' crew crew refusal.Memory bench_status.OutOfMemory (record { unrefused = inl refl; shelf = refl; out_is = refl }) (record { status_is = refl; says = says }))
