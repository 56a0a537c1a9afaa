-- How generated histories end: their text has no fault, and their shelf is left alone.
use Rattle.std.proofs.Common.{◌≡◌, ◌≢◌, ◌⊎◌, ℕ, List, None, Ok, Err, Result, refl, sym, ◌∙◌, inl, inr, arith}
use Rattle.stale_model.specs.declared.History.{History}
use Rattle.stale_model.specs.declared.Verdict.{Verdict}
use Rattle.history_csv.specs.declared.HistoryFault.{HistoryFault}
use Rattle.history_csv.specs.declared.HistoryFault.TheVariants as history_fault
use Rattle.history_csv.specs.Reading.{read_of}
use Rattle.history_gen.proofs.ReadsBack.{lines_read_back}
use Rattle.staleness_report.specs.Report.{total_line}
use Rattle.audit_ports.specs.Shelf.{Shown}
use Rattle.audit_ports.specs.Sink.{SinkShown}
use Rattle.audit_words.specs.declared.Task.TheVariants.{Trial}
use Rattle.audit_words.specs.declared.Workload.{Workload}
use Rattle.audit_words.specs.Limits.{IsWorkload}
use Rattle.audit_commands.specs.declared.refusal.Refusal.TheVariants as refusal
use Rattle.audit_commands.specs.declared.status.Status.TheVariants as status
use Rattle.audit_commands.specs.Generated.{IsTrial, generated_text}
use Rattle.command_outputs.specs.Output.{WritesWhole, WritesPart}
use Rattle.audit_commands.specs.Refusals.{TaskEnds}
use Rattle.audit_commands.proofs.Keeping.{keeps_same}

-- where the text of a generated history is not read, memory is wanting
pub no_fault : (workload : Workload) (fault : HistoryFault) (result : Result History HistoryFault) → IsWorkload workload → result ≡ Err fault
    → (result ≡ Err history_fault.Memory) ⊎ (result ≡ read_of (generated_text workload)) → fault ≢ history_fault.Memory → ⊥
no_fault workload fault result within is (inl memory) other = let same : Err fault ≡ Err history_fault.Memory = sym is ∙ memory in other cc
no_fault workload fault result within is (inr read) other =
    let back = (lines_read_back workload.seed workload.keys workload.ops within.some_key within.few_keys within.few_operations).reading in
    let both = sym is ∙ read ∙ back in
    cc

module _ (s : Shown) (quiet : s.writing ≡ None) (out out' : SinkShown) (workload : Workload) (workers : ℕ) (h : History) (verdicts : List Verdict)
    (trial : IsTrial workload h verdicts) where
  -- the line of a trial was written
  pub trial_done : WritesWhole (total_line h verdicts) out out' → TaskEnds (Trial workload workers) s s out out' (Ok status.Done)
  trial_done w =
      let f = w.faults in
      record {
        keeps = keeps_same None s quiet;
        untouched = λ none. refl;
        faults = omega arith;
        done = record { shelf = refl; h = h; verdicts = verdicts; trial = trial; line = w };
        refused = tt;
      }

  -- it was not, or not wholly, written
  pub trial_unwritten : WritesPart (total_line h verdicts) out out' → TaskEnds (Trial workload workers) s s out out' (Err refusal.WriteFailed)
  trial_unwritten w = record {
    keeps = keeps_same None s quiet;
    untouched = λ none. refl;
    faults = w.keeps;
    done = tt;
    refused = record { shelf = refl; h = h; verdicts = verdicts; trial = trial; line = w };
  }
