-- How a trace ends: what its two files read as, and what is found of it.
use Rattle.std.proofs.Common.{◌≡◌, ◌⊎◌, ℕ, List, None, Result, Ok, Err, refl, sym, inl, inr, arith}
use Rattle.std.specs.Prelude.{IfOk, IfErr}
use Rattle.stale_model.specs.declared.store.Settings.{Settings}
use Rattle.stale_model.specs.RecordedRuns.{IsRecordedRun}
use Rattle.quorum_client.specs.Plans.{plan_for}
use Rattle.trace_check.specs.declared.trace.Trace.{Trace}
use Rattle.trace_check.specs.declared.judging.Part.{Part}
use Rattle.trace_check.specs.declared.judging.Part.TheVariants as part
use Rattle.trace_check.specs.declared.reading.TraceFault.{TraceFault}
use Rattle.trace_check.specs.declared.reading.TraceFault.TheVariants as trace_fault
use Rattle.trace_check.specs.Reading.{trace_of}
use Rattle.trace_check.specs.Parts.{IsFirstFailing}
use Rattle.audit_ports.specs.Shelf.{Shown}
use Rattle.audit_ports.specs.Sink.{SinkShown}
use Rattle.audit_words.specs.declared.Task.TheVariants.{Trace as TraceTask}
use Rattle.audit_commands.specs.declared.refusal.Refusal.{Refusal}
use Rattle.audit_commands.specs.declared.status.Status.{Status}
use Rattle.audit_commands.specs.Input.{TakesInput}
use Rattle.audit_commands.specs.Audit.{history_limit, journal_limit, TakesRun}
use Rattle.audit_commands.specs.Lines.{part_line}
use Rattle.command_outputs.specs.Output.{WritesWhole}
use Rattle.audit_commands.specs.Steps.{OnlyReads, FindsRun, Performs, status_of_part}
use Rattle.audit_commands.specs.Refusals.{Shows, TaskEnds, TraceReadsAs}
use Rattle.command_outputs.proofs.WritingFiles.{counts_kept}
use Rattle.audit_commands.proofs.Keeping.{keeps_reading}

-- where a part fails, it is no recorded run
pub a_part_fails : (settings : Settings) (trace : Trace) (number : ℕ) → IsFirstFailing settings (plan_for settings) trace number
    → IsRecordedRun settings (plan_for settings) trace.entries trace.journals → ⊥
a_part_fails settings trace number first run = first.fails (record {
  planned = λ e. run.planned;
  timed = λ e. run.timed;
  taken = λ e. run.taken;
  freshest = λ e. run.freshest;
  served = λ e. run.served;
  sent = λ e. run.sent;
})

module _ (history journal : List ℕ) (settings : Settings) (s m n : Shown) (calls lines : List ℕ) (first : TakesInput history_limit history s m calls)
    (second : TakesInput journal_limit journal m n lines) where
  -- the two files were taken, and read as this
  taken : (read : Result Trace TraceFault) → trace_of settings calls lines ≡ read → TakesRun history journal settings s n read
  taken read is = record { calls = calls; lines = lines; between = m; history_input = first; journal_input = second; reads = is }

  -- the trace that was read is that of the two files
  pub trace_read_ok : (read : Result Trace TraceFault) (result : Result Trace Refusal) → (read ≡ Err trace_fault.Memory) ⊎ (read ≡ trace_of settings calls lines)
      → TraceReadsAs read result → IfOk result (λ trace. TakesRun history journal settings s n (Ok trace))
  trace_read_ok (Ok trace) result (inl memory) is_read = absurd (cc)
  trace_read_ok (Ok trace) result (inr is) is_read = rw is_read (taken (Ok trace) (sym is))
  trace_read_ok (Err fault) result either is_read = rw is_read tt

  -- and the refusal of a fault is one of the trace
  pub trace_read_err : (read : Result Trace TraceFault) (result : Result Trace Refusal) → (read ≡ Err trace_fault.Memory) ⊎ (read ≡ trace_of settings calls lines)
      → TraceReadsAs read result → IfErr result (Shows (TraceTask history journal settings) s n)
  trace_read_err (Ok trace) result either is_read = rw is_read tt
  trace_read_err (Err trace_fault.Memory) result either is_read = rw is_read (counts_kept s m n first.counts second.counts)
  trace_read_err (Err (trace_fault.History line)) result (inl memory) is_read = absurd (cc)
  trace_read_err (Err (trace_fault.History line)) result (inr is) is_read = rw is_read (record {
    history = history;
    journal = journal;
    settings = settings;
    task_is = refl;
    fault_is = taken (Err (trace_fault.History line)) (sym is);
    no_memory = λ same. cc;
  })
  trace_read_err (Err (trace_fault.Journal line)) result (inl memory) is_read = absurd (cc)
  trace_read_err (Err (trace_fault.Journal line)) result (inr is) is_read = rw is_read (record {
    history = history;
    journal = journal;
    settings = settings;
    task_is = refl;
    fault_is = taken (Err (trace_fault.Journal line)) (sym is);
    no_memory = λ same. cc;
  })

module _ (history journal : List ℕ) (settings : Settings) (s m : Shown) (out : SinkShown) (reads : OnlyReads s m) (quiet : s.writing ≡ None) where
  performed : (found : Part) (out' : SinkShown) → FindsRun history journal settings s m found → WritesWhole (part_line found) out out'
      → Performs (TraceTask history journal settings) s m out out' (status_of_part found)
  performed part.Good out' f w = record { trace = f.trace; taken = f.taken; recorded = f.finds; line = w }
  performed (part.Bad number) out' f w = record { trace = f.trace; taken = f.taken; failing = number; first = f.finds; line = w }

  -- the line is written
  pub ends_traced : (found : Part) (out' : SinkShown) (answer : Status) → FindsRun history journal settings s m found → WritesWhole (part_line found) out out'
      → answer ≡ status_of_part found → TaskEnds (TraceTask history journal settings) s m out out' (Ok answer)
  ends_traced found out' answer f w is =
      let faults = w.faults in
      record {
        keeps = keeps_reading None s m reads quiet;
        untouched = λ none. cc;
        faults = omega arith;
        done = rw is (performed found out' f w);
        refused = tt;
      }
