-- How a bench ends, by its steps and the answer to them.
use Rattle.std.proofs.Common.{◌≡◌, ◌⊎◌, ◌≤◌, None, Ok, Err, Result, refl, inl, inr, subst, arith}
use Rattle.audit_ports.specs.Shelf.{Shown, Rose}
use Rattle.audit_ports.specs.Sink.{SinkShown}
use Rattle.audit_ports.specs.Crew.{CrewView}
use Rattle.audit_words.specs.declared.bench.Bench.{Bench}
use Rattle.audit_commands.specs.Ends.{outside}
use Rattle.bench_run.specs.Jobs.{JobView}
use Rattle.bench_commands.specs.declared.status.BenchStatus.{BenchStatus}
use Rattle.bench_commands.specs.declared.status.BenchStatus.TheVariants as status
use Rattle.bench_commands.specs.declared.refusal.BenchRefusal.{BenchRefusal}
use Rattle.bench_commands.specs.declared.refusal.BenchRefusal.TheVariants as refusal
use Rattle.bench_commands.specs.declared.texts.Texts.{Texts}
use Rattle.bench_commands.specs.Status.{number}
use Rattle.bench_commands.specs.Outputs.{texts_of, WritesSome}
use Rattle.bench_commands.specs.Ends.{EndsBench}
use Rattle.bench_commands.specs.Steps.{Performs, IsRefused, Answers, IsRefusedBy}
use Rattle.bench_commands.proofs.Keeping.{keeps_same, keeps_files, keeps_some}

-- the output keeps its count, or it rises
out_of_some : (b : Bench) (t : Texts) (s n : Shown) (out out' : SinkShown) → WritesSome b t s n out out' → out.faults ≤ out'.faults
out_of_some b t s n out out' (inl w) = rw w.1 (omega arith)
out_of_some b t s n out out' (inr (inl w)) = rw w.1 (omega arith)
out_of_some b t s n out out' (inr (inr w)) = w.1.keeps

-- where a call of writing failed, a count rose
count_rose : (b : Bench) (t : Texts) (s n : Shown) (out out' : SinkShown) → WritesSome b t s n out out'
    → (Rose s.write_faults n.write_faults) ⊎ (Rose out.faults out'.faults)
count_rose b t s n out out' (inl w) = inl w.0.fails.write_faults
count_rose b t s n out out' (inr (inl w)) =
    inl (subst (λ k. Rose k n.write_faults) w.0.history.counts.write_faults w.0.journal.fails.write_faults)
count_rose b t s n out out' (inr (inr w)) = inr w.1.faults

module _ (b : Bench) (s s' : Shown) (quiet : s.writing ≡ None) (o o' e e' : SinkShown) (crew crew' : CrewView JobView) where
  -- a refusal ends as its status means
  pub refused_ends : (r : BenchRefusal) (answer : BenchStatus) → IsRefused b s s' o o' crew crew' r → IsRefusedBy r answer e e'
      → EndsBench b (outside s o e) (outside s' o' e') crew crew' (number answer)
  refused_ends (refusal.NotStarted replica) answer h says = rw (says.status_is, h.shelf, h.out_is) (record {
    ends = record {
      status = status.NotStarted;
      number_is = refl;
      ends = record { replica = replica; stopped = h.stopped; refuses = record { shelf = refl; out = refl; says = says.says } };
    };
    keeps = record { shelf = keeps_same b s quiet; out = omega arith; err = says.says.keeps };
    complete = λ no_write no_out no_start. absurd (no_start h.stopped.count);
  })
  refused_ends refusal.WriteFailed answer h says = rw says.status_is (record {
    ends = record { status = status.WriteFailed; number_is = refl; ends = record { unwritten = h; says = says.says } };
    keeps = record {
      shelf = keeps_some b (texts_of h.made) s s' o o' h.written;
      out = out_of_some b (texts_of h.made) s s' o o' h.written;
      err = says.says.keeps;
    };
    complete = λ no_write no_out no_start. elim (count_rose b (texts_of h.made) s s' o o' h.written) [
      | inl rose ↦ absurd (no_write rose)
      | inr rose ↦ absurd (no_out rose)
    ];
  })
  refused_ends refusal.Memory answer h says = rw (says.status_is, h.shelf, h.out_is) (record {
    ends = record {
      status = status.OutOfMemory;
      number_is = refl;
      ends = record { unrefused = h.unrefused; refuses = record { shelf = refl; out = refl; says = says.says } };
    };
    keeps = record { shelf = keeps_same b s quiet; out = omega arith; err = says.says.keeps };
    complete = λ no_write no_out no_start. inr refl;
  })

  -- a bench ends as the answer to it means
  pub bench_ends : (result : Result Unit BenchRefusal) (answer : BenchStatus) → Performs b s s' o o' crew crew' result → Answers result answer e e'
      → EndsBench b (outside s o e) (outside s' o' e') crew crew' (number answer)
  bench_ends (Ok v) answer performs says =
      let done = performs.done in
      let more = done.written.report.faults in
      rw (says.0, says.1) (record {
        ends = record { status = status.Done; number_is = refl; ends = record { done = done; err = refl } };
        keeps = record { shelf = keeps_files b (texts_of done.made) s s' done.written.files; out = omega arith; err = omega arith };
        complete = λ no_write no_out no_start. inl refl;
      })
  bench_ends (Err r) answer performs says = refused_ends r answer performs.refused says
