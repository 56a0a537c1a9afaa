-- The two files of a recorded run are read back as the run, and judged good.
use Rattle.std.proofs.Common.{◌≡◌, ◌++◌, List, [], ◌∷◌, map, length, Option, Some, None, Result, Ok, refl, sym, ◌∙◌, ap, ap₂, subst, arith}
use Rattle.std.specs.Prelude.{All}
use Rattle.std.proofs.lemmas.List.Elements.{All-contains, All-head, All-tail}
use Rattle.std.proofs.lemmas.List.Folds.{map_fixed}
use Rattle.stale_model.specs.declared.store.Settings.{Settings}
use Rattle.stale_model.specs.declared.store.Plan.{Plan}
use Rattle.stale_model.specs.declared.store.JournalEntry.{JournalEntry}
use Rattle.stale_model.specs.declared.store.Entry.{Entry}
use Rattle.stale_model.specs.Settings.{AreSettings}
use Rattle.stale_model.specs.RecordedRuns.{tickets_of, IsRecordedRun}
use Rattle.stale_model.specs.Texts.{comma, call_fields, recorded_header, recorded_text, journal_header, journal_text}
use Rattle.run_laws.proofs.Counted.{all_there}
use Rattle.quorum_client.specs.Plans.{plan_for}
use Rattle.quorum_client.proofs.WholePlans.{whole-plan_for}
use Rattle.trace_check.specs.declared.trace.Trace.{Trace}
use Rattle.trace_check.specs.declared.reading.TraceFault.{TraceFault}
use Rattle.trace_check.specs.declared.reading.TraceFault.TheVariants as fault
use Rattle.trace_check.specs.declared.judging.Part.TheVariants.{Good}
use Rattle.trace_check.specs.Lines.{most_taken}
use Rattle.trace_check.specs.Parts.{IsPartOf}
use Rattle.trace_check.specs.Reading.{or_fault, read_call, read_entry, file_read, calls_read, entries_read, with_replies, trace_with, trace_of}
use Rattle.trace_laws.specs.Laws.{IsTick, traced, RunsAreTraced, RunsAreGood}
use Rattle.trace_laws.proofs.Parts.{joined_lacks}
use Rattle.trace_laws.proofs.FileLines.{EachReads, file_reads}
use Rattle.trace_laws.proofs.CallLines.{IsReadableCall, with_tickets, call_lacks, call_reads}
use Rattle.trace_laws.proofs.EntryLines.{entry_fields, entries_read as each_entry}
use Rattle.trace_laws.proofs.Journals.{all_entries, journals_text, all_ordered, journals_found}
use Rattle.trace_laws.proofs.Replies.{calls_found}
use Rattle.trace_laws.proofs.OfRun.{call_readable, call_again, entries_readable, journals_are_of}

-- the lines of calls read, each by itself
each_call : (s : Settings) → AreSettings s → (before : Option Entry) (es : List Entry) → All (IsReadableCall s) es → EachReads fault.History (read_call s) call_fields with_tickets before es
each_call s limits before [] each = tt
each_call s limits before (e ∷ es) each =
    let is = All-head (IsReadableCall s) e es each in (
      joined_lacks 10 comma (call_fields e) refl (call_lacks s limits e is 10 (omega arith)),
      call_reads s limits e is,
      each_call s limits (Some (with_tickets e)) es (All-tail (IsReadableCall s) e es each),
    )

-- a history of calls whose lines read
history_reads : (s : Settings) → AreSettings s → (es : List Entry) → All (IsReadableCall s) es → calls_read s (recorded_text es) ≡ Ok (map with_tickets es)
unfolding calls_read recorded_text
history_reads s limits es each = file_reads fault.History (read_call s) call_fields with_tickets recorded_header es (each_call s limits None es each)

two_read : {A B C : Type 0} (r : Result A TraceFault) (q : Result B TraceFault) (a : A) (b : B) (make : A → B → C) → r ≡ Ok a → q ≡ Ok b
    → or_fault r (λ x. or_fault q (λ y. Ok (make x y))) ≡ Ok (make a b)
two_read r q a b make first second = rw (first, second) refl

module _ (s : Settings) (plan : Plan) (entries : List Entry) (journals : List (List JournalEntry)) (limits : AreSettings s) where
  -- the two files, where their lines read
  files_read : All (IsReadableCall s) entries → entries_read s (journal_text journals) ≡ Ok (all_entries journals)
      → trace_of s (recorded_text entries) (journal_text journals) ≡ Ok (trace_with s (map with_tickets entries) (all_entries journals))
  unfolding trace_of
  files_read calls served =
      two_read (calls_read s (recorded_text entries)) (entries_read s (journal_text journals)) (map with_tickets entries) (all_entries journals) (trace_with s)
      (history_reads s limits entries calls) served

-- a run of a whole plan
module _ (s : Settings) (entries : List Entry) (journals : List (List JournalEntry)) (limits : AreSettings s) (run : IsRecordedRun s (plan_for s) entries journals)
    (ticks : All IsTick (tickets_of entries journals)) where
  journal_reads : entries_read s (journal_text journals) ≡ Ok (all_entries journals)
  unfolding entries_read journal_text
  journal_reads =
      let whole = whole-plan_for s limits in
      let of = journals_are_of s (plan_for s) entries journals limits whole run ticks in
      let lines = all_entries journals in
      ap (λ t. file_read fault.Journal journal_header (read_entry s) (journal_header ++ t)) (journals_text 0 journals of)
      ∙ file_reads fault.Journal (read_entry s) entry_fields (λ j. j) journal_header lines
      (each_entry s limits None lines (entries_readable s (plan_for s) entries journals limits whole run ticks) (all_ordered 0 0 journals of (omega arith)))
      ∙ ap Ok (map_fixed (λ (j : JournalEntry). j) lines (λ k d low. refl))

  run_traced : All (λ e. length e.took ≡ most_taken) entries → trace_of s (recorded_text entries) (journal_text journals) ≡ Ok (traced entries journals)
  run_traced places =
      let whole = whole-plan_for s limits in
      let of = journals_are_of s (plan_for s) entries journals limits whole run ticks in
      let lines = all_entries journals in
      let calls = calls_found lines entries
      (all_there (λ (e : Entry). with_replies lines (with_tickets e) ≡ e) entries
      (λ e c. call_again s (plan_for s) entries journals limits whole run ticks e c (All-contains (λ (x : Entry). length x.took ≡ most_taken) entries e places c))) in
      let again = journals_found s.replicas journals run.sent.as_many of in
      files_read s (plan_for s) entries journals limits
      (all_there (IsReadableCall s) entries (call_readable s (plan_for s) entries journals limits whole run ticks)) journal_reads
      ∙ ap₂ (λ es js. Ok (traced es js)) calls again

pub runs_are_traced : RunsAreTraced
runs_are_traced settings entries journals limits run ticks places = run_traced settings entries journals limits run ticks places

same_ok : (t u : Trace) → ◌≡◌ {A = Result Trace TraceFault} (Ok t) (Ok u) → t ≡ u
same_ok t u e = cc

pub runs_are_good : RunsAreGood
runs_are_good settings entries journals limits run ticks places trace reads =
    let is = same_ok (traced entries journals) trace (sym (run_traced settings entries journals limits run ticks places) ∙ reads) in
    subst (λ (t : Trace). IsPartOf settings (plan_for settings) t Good) is run
