-- What a bench made and wrote, from its steps.
use Rattle.std.proofs.Common.{◌≡◌, ℕ, List, Ok, Err, Result, ◌∙◌, ap, subst}
use Rattle.std.specs.Prelude.{IfOk}
use Rattle.stale_model.specs.declared.History.{History}
use Rattle.stale_model.specs.declared.Verdict.{Verdict}
use Rattle.stale_model.specs.Settings.{AreSettings}
use Rattle.history_csv.specs.Reading.{read_of}
use Rattle.staleness_report.specs.Report.{report_text}
use Rattle.audit_ports.specs.Shelf.{Shown}
use Rattle.audit_ports.specs.Sink.{SinkShown}
use Rattle.audit_ports.specs.Crew.{CrewView}
use Rattle.audit_words.specs.declared.bench.Bench.{Bench}
use Rattle.audit_commands.specs.Audit.{AreVerdicts}
use Rattle.bench_run.specs.Jobs.{JobView}
use Rattle.bench_commands.specs.declared.recording.Recording.{Recording}
use Rattle.bench_commands.specs.declared.texts.Texts.{Texts}
use Rattle.bench_commands.specs.Made.{Made, IsMade, IsRunOf}
use Rattle.bench_commands.specs.Outputs.{texts_of, WritesAll, WritesSome}
use Rattle.bench_commands.specs.Ends.{BenchDone, BenchUnwritten}
use Rattle.bench_commands.specs.Steps.{IsReportOn, AreTexts}
use Rattle.bench_commands.proofs.Runs.{has_no_faults}
use Rattle.bench_commands.proofs.Judging.{judged_all}

-- the report on a text, where it was made
pub report_made : {E : Type 0} (text : List ℕ) (h : History) (verdicts : List Verdict) (result : Result (List ℕ) E) → read_of text ≡ Ok h → AreVerdicts h verdicts
    → IfOk result (λ report. report ≡ report_text h verdicts) → IfOk result (IsReportOn text)
report_made text h verdicts (Ok report) reads are is = record { h = h; verdicts = verdicts; reads = reads; are_verdicts = are; report_is = is }
report_made text h verdicts (Err e) reads are is = tt

-- texts that are equal one by one
same_texts : (t u : Texts) → t.history ≡ u.history → t.journal ≡ u.journal → t.report ≡ u.report → t ≡ u
same_texts t u h j r =
    ap (λ x. record { history = x; journal = t.journal; report = t.report }) h
    ∙ ap (λ x. record { history = u.history; journal = x; report = t.report }) j
    ∙ ap (λ x. record { history = u.history; journal = u.journal; report = x }) r

module _ (b : Bench) (limits : AreSettings b.settings) (crew crew' : CrewView JobView) (r : Recording) (run : IsRunOf b.settings r.entries r.journals crew crew')
    (t : Texts) (are : AreTexts r t) where
  -- what was made
  made : Made
  made = record { entries = r.entries; journals = r.journals; h = are.report.h; verdicts = are.report.verdicts }

  is_made : IsMade b.settings made crew crew'
  unfolding made
  is_made =
      let clear = has_no_faults b.settings r.entries r.journals limits run.recorded run.once run.few are.report.h are.report.reads in
      record {
        run = run;
        audit = record {
          reads = are.report.reads;
          are_verdicts = are.report.are_verdicts;
          judged = judged_all are.report.h.keys are.report.verdicts clear are.report.are_verdicts.truth;
        };
      }

  texts_are : t ≡ texts_of made
  unfolding made
  texts_are = same_texts t (texts_of made) are.history are.journal are.report.report_is

  pub bench_done : (old new : Shown) (out out' : SinkShown) → WritesAll b t old new out out' → BenchDone b old new out out' crew crew'
  bench_done old new out out' writes = record { made = made; is_made = is_made; written = subst (λ x. WritesAll b x old new out out') texts_are writes }

  pub bench_unwritten : (old new : Shown) (out out' : SinkShown) → WritesSome b t old new out out' → BenchUnwritten b old new out out' crew crew'
  bench_unwritten old new out out' writes = record { made = made; is_made = is_made; written = subst (λ x. WritesSome b x old new out out') texts_are writes }
