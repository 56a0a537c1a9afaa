-- The run of a bench: its tickets are 1 to their number, and the text of its calls is a history of which no key has a fault.
use Rattle.std.proofs.Common.{◌≡◌, ℕ, ◌+◌, ◌*◌, ◌≤◌, cond, eqb, List, [], ◌∷◌, length, get_or, refl, sym, ◌∙◌, arith}
use Rattle.std.specs.Prelude.{Ok, All, sum_by}
use Rattle.std.specs.List.Sorted.{IsPermutation}
use Rattle.std.proofs.lemmas.List.Sums.{sum_by-cons}
use Rattle.std.proofs.lemmas.List.Sorted.{IsPermutation-refl, length_permutation, sum_by-IsPermutation}
use Rattle.std.proofs.lemmas.Nat.{mul-le}
use Rattle.ticket_clock.specs.Seats.{IsOneToLength, times}
use Rattle.ticket_clock.proofs.Totals.{times_cons}
use Rattle.stale_model.specs.declared.Kind.{Kind}
use Rattle.stale_model.specs.declared.Kind.TheVariants.{Read, Write}
use Rattle.stale_model.specs.declared.History.{History}
use Rattle.stale_model.specs.declared.store.Settings.{Settings}
use Rattle.stale_model.specs.declared.store.Entry.{Entry}
use Rattle.stale_model.specs.declared.store.JournalEntry.{JournalEntry}
use Rattle.stale_model.specs.Settings.{AreSettings, quorum}
use Rattle.stale_model.specs.Operations.{operations}
use Rattle.stale_model.specs.Faults.{IsClearKey}
use Rattle.stale_model.specs.RecordedRuns.{tickets_of, IsRecordedRun}
use Rattle.stale_model.specs.Texts.{recorded_text}
use Rattle.history_csv.specs.Entries.{greatest_tick}
use Rattle.history_csv.specs.Reading.{read_of}
use Rattle.recorded_laws.specs.Laws.{IsTick}
use Rattle.recorded_laws.proofs.Ticks.{drawn_are_ticks}
use Rattle.recorded_laws.proofs.ReadBack.{runs_read_back, runs_have_no_faults}
use Rattle.quorum_client.specs.Plans.{plan_for}
use Rattle.quorum_client.proofs.WholePlans.{whole-plan_for}
use Rattle.audit_ports.specs.Crew.{CrewView}
use Rattle.key_recorder.specs.Collected.{IsCollected}
use Rattle.bench_run.specs.declared.run.Run.{Run}
use Rattle.bench_run.specs.Jobs.{JobView}
use Rattle.bench_run.specs.Prepared.{PreparedView}
use Rattle.bench_run.specs.Ready.{tickets}
use Rattle.bench_run.specs.Drive.{logged_in, AreBegun, IsRecordedOut}
use Rattle.bench_commands.specs.Made.{IsRunOf}
use Rattle.bench_commands.specs.Steps.{IsHistoryText}

-- how often a number stands in a list is a sum
times_as_sum : (x : ℕ) (xs : List ℕ) → sum_by (λ y. cond (eqb y x) 1 0) xs ≡ times x xs
times_as_sum x [] = refl
times_as_sum x (y ∷ ys) =
    let rest = times_as_sum x ys in
    let one = times_cons x y ys in
    let more = sum_by-cons (λ y. cond (eqb y x) 1 0) y ys in
    omega arith

-- in another order a number stands as often
times_permutation : (x : ℕ) (xs ys : List ℕ) → IsPermutation xs ys → times x xs ≡ times x ys
times_permutation x xs ys same =
    sym (times_as_sum x xs) ∙ sym (sum_by-IsPermutation (λ y. cond (eqb y x) 1 0) xs ys same) ∙ times_as_sum x ys

-- what stands in another order than the numbers from 1 on is those numbers too
pub one_to_length_again : (xs ys : List ℕ) → IsPermutation xs ys → IsOneToLength ys → IsOneToLength xs
one_to_length_again xs ys same all =
    let as_many = length_permutation xs ys same in
    record {
      once = λ x low high. times_permutation x xs ys same ∙ all.once x low (omega arith);
      no_zero = times_permutation 0 xs ys same ∙ all.no_zero;
      none_above = λ x above. times_permutation x xs ys same ∙ all.none_above x (omega arith);
    }

-- what a run leaves, and its calls by their starts, are a run of the plan
pub run_of : (s : Settings) (p : PreparedView) (run : Run) (entries : List Entry) (old new : CrewView JobView) → p.settings ≡ s → p.plan ≡ plan_for s → IsRecordedOut p run
    → IsCollected (logged_in run.logs) entries → AreBegun p.settings.replicas old new → IsRunOf s entries run.journals old new
run_of s p run entries old new settings plan out collected begun =
    let recorded = out.recorded entries collected in
    let same = out.tickets entries collected in
    let as_many = length_permutation (tickets_of entries run.journals) run.seat.drawn same in
    let few = out.few in
    record {
      recorded = rw (settings, plan) at recorded;
      once = one_to_length_again (tickets_of entries run.journals) run.seat.drawn same out.once;
      few = rw (settings, as_many) at few;
      begun = rw settings at begun;
    }

-- no quorum is above 7
quorum_few : (s : Settings) (kind : Kind) → AreSettings s → quorum s kind ≤ 7
quorum_few s Read limits = let replicas = limits.replicas in let q = limits.read_quorum in omega arith
quorum_few s Write limits = let replicas = limits.replicas in let q = limits.write_quorum in omega arith

-- a run has fewer tickets than there are ticks
few_tickets : (s : Settings) → AreSettings s → tickets s ≤ greatest_tick
few_tickets s limits =
    let calls = limits.calls in
    let replicas = limits.replicas in
    let few = mul-le (s.clients * s.calls) (2 * s.replicas + 2) 100000 16 (omega arith) (omega arith) in
    omega arith

-- a call of a run took at most 7 replies
pub few_taken : (s : Settings) (entries : List Entry) (journals : List (List JournalEntry)) → AreSettings s → IsRecordedRun s (plan_for s) entries journals
    → All (λ e. e.took_count ≤ 7) entries
few_taken s entries journals limits run k d lt =
    let taken = (run.taken k d lt).count in
    let few = quorum_few s (get_or entries k d).kind limits in
    omega arith

module _ (s : Settings) (entries : List Entry) (journals : List (List JournalEntry)) (limits : AreSettings s) (run : IsRecordedRun s (plan_for s) entries journals)
    (once : IsOneToLength (tickets_of entries journals)) (few : length (tickets_of entries journals) ≤ tickets s) where
  -- each ticket may stand in a history
  ticks : All IsTick (tickets_of entries journals)
  ticks =
      let most = few_tickets s limits in
      drawn_are_ticks entries journals (tickets_of entries journals) (IsPermutation-refl (tickets_of entries journals)) once (omega arith)

  -- the text of the calls reads as a history
  pub is_history : IsHistoryText (recorded_text entries)
  is_history = (_, runs_read_back s (plan_for s) entries journals limits (whole-plan_for s limits) run ticks)

  -- no key of that history has a fault
  pub has_no_faults : (h : History) → read_of (recorded_text entries) ≡ Ok h → All (λ key. IsClearKey (operations key)) h.keys
  has_no_faults = runs_have_no_faults s (plan_for s) entries journals limits (whole-plan_for s limits) run ticks
