-- That a status is the one which the contents of the named files ask for, where files are told and nothing fails.
use Rattle.std.proofs.Common.{◌≡◌, ℕ, ◌<◌, true, false, List, Option, Some, None, Result, Ok, Err, length, refl, sym, ◌∙◌, ap, inl, inr, subst, arith}
use Rattle.std.specs.Prelude.{nat_lt, IfSome, IsSomeAnd, ◌⊎◌}
use Rattle.stale_model.specs.declared.History.{History}
use Rattle.stale_model.specs.declared.Verdict.{Verdict}
use Rattle.stale_model.specs.declared.store.Settings.{Settings}
use Rattle.trace_check.specs.declared.trace.Trace.{Trace}
use Rattle.trace_check.specs.declared.reading.TraceFault.{TraceFault}
use Rattle.trace_check.specs.Reading.{trace_of}
use Rattle.history_csv.specs.Reading as history
use Rattle.cert_text.specs.Reading as certificate
use Rattle.audit_ports.specs.Shelf.{Shown, Files, Rose, file_at}
use Rattle.audit_ports.specs.Sink.{SinkShown}
use Rattle.audit_words.specs.declared.Task.{Task}
use Rattle.audit_words.specs.declared.Task.TheVariants.{Judge, Check, Gen, Trial, Trace as TraceTask}
use Rattle.audit_words.specs.Tasks.{task_of}
use Rattle.audit_commands.specs.declared.refusal.Refusal.{Refusal}
use Rattle.audit_commands.specs.declared.refusal.Refusal.TheVariants as refusal
use Rattle.audit_commands.specs.declared.status.Status.{Status}
use Rattle.audit_commands.specs.declared.status.Status.TheVariants as status
use Rattle.audit_commands.specs.Status.{number}
use Rattle.audit_commands.specs.Input.{TakesInput, IsTooLong}
use Rattle.audit_commands.specs.Audit.{history_limit, cert_limit, journal_limit, TakesHistory, TakesCert, TakesBoth, TakesRun, Input, IsInput, cert_file, history_file, judged_file}
use Rattle.audit_commands.specs.Output.{WritesNamedPart}
use Rattle.audit_commands.specs.Ends.{outside, IsUnwritten}
use Rattle.audit_commands.specs.Steps.{Performs}
use Rattle.audit_commands.specs.Refusals.{IsRefused, Answers}
use Rattle.audit_commands.specs.Complete.{NothingFailed, input_in, history_in, verdicts_in_bytes, trace_or_status, trace_in, VerdictsAsk, Asks, WordsAsk, IsComplete}
use Rattle.audit_commands.proofs.Tracing.{a_part_fails}

told : (o : Option Files) (f : Files) (P : Files → Type 0) → o ≡ Some f → IfSome o P → P f
told o f P is h = rw is at h

from_told : (o : Option Files) (P : Files → Type 0) → ((f : Files) → o ≡ Some f → P f) → IfSome o P
from_told None P h = tt
from_told (Some f) P h = h f refl

module _ (f : Files) (limit : ℕ) (name : List ℕ) (m n : Shown) (is : m.files ≡ Some f) where
  -- an input that was taken
  input_told : (bytes : List ℕ) → TakesInput limit name m n bytes → input_in limit (file_at f name) ≡ Ok bytes
  input_told bytes input =
      let there : file_at f name ≡ Some bytes = told m.files f (λ files. file_at files name ≡ Some bytes) is input.told in
      let within = input.within in
      let short : nat_lt limit (length bytes) ≡ false = grind arith in
      rw (there, short) refl

  longer_than : (content : Option (List ℕ)) → IsSomeAnd content (λ bytes. limit < length bytes) → input_in limit content ≡ Err status.TooLong
  longer_than None h = absurd h
  longer_than (Some bytes) h = let long : nat_lt limit (length bytes) ≡ true = grind arith in rw long refl

  -- an input that is longer than its limit
  long_told : IsTooLong limit name m n → input_in limit (file_at f name) ≡ Err status.TooLong
  long_told long = longer_than (file_at f name) (told m.files f (λ files. IsSomeAnd (file_at files name) (λ bytes. limit < length bytes)) is long.longer)

  -- an input that is missing
  absent_told : n.files ≡ m.files → IfSome n.files (λ files. file_at files name ≡ None) → input_in limit (file_at f name) ≡ Err status.Missing
  absent_told same absent =
      let there : file_at f name ≡ None = told n.files f (λ files. file_at files name ≡ None) (same ∙ is) absent in
      rw there refl

history_told : (f : Files) (file : List ℕ) (s m : Shown) (h : History) → s.files ≡ Some f → TakesHistory file s m h → history_in f file ≡ Ok h
history_told f file s m h is taken =
    let input = input_told f history_limit file s m is taken.bytes taken.input in
    let reads : history.read_of taken.bytes ≡ Ok h = taken.reads in
    rw (input, reads) refl

verdicts_told : (f : Files) (cert : List ℕ) (keys : ℕ) (m n : Shown) (verdicts : List Verdict) → m.files ≡ Some f → TakesCert cert keys m n verdicts
    → verdicts_in_bytes keys (input_in cert_limit (file_at f cert)) ≡ Ok verdicts
verdicts_told f cert keys m n verdicts is taken =
    let input = input_told f cert_limit cert m n is taken.bytes taken.input in
    let reads : certificate.read_of keys taken.bytes ≡ Ok verdicts = taken.reads in
    rw (input, reads) refl

-- what the two files of a run read as
trace_told : (f : Files) (history journal : List ℕ) (settings : Settings) (s n : Shown) (read : Result Trace TraceFault) → s.files ≡ Some f
    → TakesRun history journal settings s n read → trace_in f history journal settings ≡ trace_or_status read
trace_told f history journal settings s n read is t =
    let first = input_told f history_limit history s t.between is t.calls t.history_input in
    let second = input_told f journal_limit journal t.between n (t.history_input.files ∙ is) t.lines t.journal_input in
    let reads : trace_of settings t.calls t.lines ≡ read = t.reads in
    rw (first, second, reads) refl

-- a history that is judged, and asks for a status
asks_by_history : (f : Files) (task : Task) (asked : Status) (name : List ℕ) → judged_file task ≡ Some name → history_in f name ≡ Err asked → Asks f task asked
asks_by_history f (Judge file measure) asked name is says = let same : file ≡ name = cc in rw (same, says) refl
asks_by_history f (Check file cert) asked name is says = let same : file ≡ name = cc in rw (same, says) refl
asks_by_history f (Gen workload) asked name is says = cc
asks_by_history f (Trial workload workers) asked name is says = cc
asks_by_history f (TraceTask history journal settings) asked name is says = cc

-- a file with a history that asks for a status, whatever its bytes are
asks_by_first : (f : Files) (task : Task) (asked : Status) (name : List ℕ) → history_file task ≡ Some name
    → input_in history_limit (file_at f name) ≡ Err asked → Asks f task asked
asks_by_first f (Judge file measure) asked name is says = let same : file ≡ name = cc in rw (same, says) refl
asks_by_first f (Check file cert) asked name is says = let same : file ≡ name = cc in rw (same, says) refl
asks_by_first f (Gen workload) asked name is says = cc
asks_by_first f (Trial workload workers) asked name is says = cc
asks_by_first f (TraceTask history journal settings) asked name is says = let same : history ≡ name = cc in rw (same, says) refl

-- a journal file that asks for a status
asks_by_journal : (f : Files) (history journal calls : List ℕ) (settings : Settings) (asked : Status) → input_in history_limit (file_at f history) ≡ Ok calls
    → input_in journal_limit (file_at f journal) ≡ Err asked → Asks f (TraceTask history journal settings) asked
asks_by_journal f history journal calls settings asked is says = rw (is, says) refl

-- a certificate's file that asks for a status
asks_by_cert : (f : Files) (file cert : List ℕ) (h : History) (asked : Status) → history_in f file ≡ Ok h
    → verdicts_in_bytes (length h.keys) (input_in cert_limit (file_at f cert)) ≡ Err asked → Asks f (Check file cert) asked
asks_by_cert f file cert h asked is cert_is = rw (is, cert_is) refl

asks_by_verdicts : (f : Files) (file cert : List ℕ) (s n : Shown) (h : History) (verdicts : List Verdict) (asked : Status) → s.files ≡ Some f
    → TakesBoth file cert s n h verdicts → VerdictsAsk h.keys (Ok verdicts) asked → Asks f (Check file cert) asked
asks_by_verdicts f file cert s n h verdicts asked is both ask =
    let hist : history_in f file ≡ Ok h = history_told f file s both.between h is both.history in
    let certs = verdicts_told f cert (length h.keys) both.between n verdicts (both.history.input.files ∙ is) both.certificate in
    rw (hist, certs) ask

module _ (f : Files) (task : Task) (s n : Shown) (is : s.files ≡ Some f) (same : n.files ≡ s.files) where
  -- an input, whatever of the three it is, whose file asks for this status
  asks_by_input : (input : Input) (asked : Status) → IsInput task s input
      → ((m : Shown) → m.files ≡ Some f → n.files ≡ m.files → m ≡ input.before → input_in input.limit (file_at f input.name) ≡ Err asked) → Asks f task asked
  asks_by_input input asked (inl first) says =
      let at = says s is same (sym first.before_is) in
      let at_history : input_in history_limit (file_at f input.name) ≡ Err asked = rw first.limit_is at at in
      asks_by_first f task asked input.name first.name_is at_history
  asks_by_input input asked (inr (inl c)) says =
      let files : input.before.files ≡ s.files = c.history.input.files in
      let at = says input.before (files ∙ is) (same ∙ sym files) refl in
      let at_cert : input_in cert_limit (file_at f input.name) ≡ Err asked = rw c.limit_is at at in
      let hist : history_in f c.file ≡ Ok c.h = history_told f c.file s input.before c.h is c.history in
      subst (λ t. Asks f t asked) (sym c.task_is) (asks_by_cert f c.file input.name c.h asked hist (rw at_cert refl))
  asks_by_input input asked (inr (inr j)) says =
      let files : input.before.files ≡ s.files = j.taken.files in
      let at = says input.before (files ∙ is) (same ∙ sym files) refl in
      let at_journal : input_in journal_limit (file_at f input.name) ≡ Err asked = rw j.limit_is at at in
      let first = input_told f history_limit j.history s input.before is j.calls j.taken in
      subst (λ t. Asks f t asked) (sym j.task_is) (asks_by_journal f j.history input.name j.calls j.settings asked first at_journal)

-- a file is not none
some_is_none : {file : List ℕ} → Some file ≡ None → ⊥
some_is_none is = cc

-- a task with no history has no input
no_input : (task : Task) (s : Shown) (input : Input) → history_file task ≡ None → IsInput task s input → ⊥
no_input task s input none (inl first) = some_is_none (sym first.name_is ∙ none)
no_input task s input none (inr (inl c)) = some_is_none (sym (ap history_file c.task_is) ∙ none)
no_input task s input none (inr (inr j)) = some_is_none (sym (ap history_file j.task_is) ∙ none)

module _ (words : List (List ℕ)) (task : Task) (named : task_of words ≡ Some task) (s n : Shown) (o o' e e' : SinkShown) where
  Completes : Files → Status → Type 0
  Completes f answer = ((asked : Status) × WordsAsk f (task_of words) asked × (number answer ≡ number asked)) ⊎ (number answer ≡ number status.OutOfMemory)

  by_asking : (f : Files) (answer asked : Status) → answer ≡ asked → Asks f task asked → Completes f answer
  unfolding Completes
  by_asking f answer asked is asks = inl (asked, rw named asks, ap number is)

  no_write_failed : (cert : Option (List ℕ)) (text : List ℕ) (taken : Shown) → taken.write_faults ≡ s.write_faults → WritesNamedPart cert text taken n
      → (Rose s.write_faults n.write_faults → ⊥) → ⊥
  no_write_failed None text taken counts w none = w
  no_write_failed (Some name) text taken counts w none = none (subst (λ c. Rose c n.write_faults) counts w.fails.write_faults)

  unwritten_fails : (t : Task) → IsUnwritten t s n o o' → NothingFailed (outside s o e) (outside n o' e') → ⊥
  unwritten_fails (Judge file measure) u fine = elim u.fails [
    | inl w ↦ no_write_failed (cert_file measure) u.texts.cert u.taken u.judged.input.input.counts.write_faults w.0 fine.writes
    | inr w ↦ fine.out w.1.faults
  ]
  unwritten_fails (Check file cert) u fine = fine.out u.line.faults
  unwritten_fails (Gen workload) u fine = fine.out u.text.faults
  unwritten_fails (Trial workload workers) u fine = fine.out u.line.faults
  unwritten_fails (TraceTask history journal settings) u fine = fine.out u.line.faults

  refused_told : (f : Files) → s.files ≡ Some f → (r : Refusal) (answer : Status) → IsRefused task s n o o' r → Answers r answer e e'
      → NothingFailed (outside s o e) (outside n o' e') → Completes f answer
  unfolding Completes
  refused_told f is (refusal.History fault) answer h (inl (line, l, says)) fine =
      let x = h.shows.fault_is in
      let input = input_told f history_limit h.shows.file s n is x.bytes x.input in
      let reads : history.read_of x.bytes ≡ Err fault = x.reads in
      by_asking f answer status.HistoryRefused says.status_is
      (asks_by_history f task status.HistoryRefused h.shows.file h.shows.file_is (rw (input, reads) refl))
  refused_told f is (refusal.History fault) answer h (inr says) fine = inr (ap number says.status_is)
  refused_told f is (refusal.Cert fault) answer h (inl (line, l, says)) fine =
      let x = h.shows in
      let input = input_told f cert_limit x.cert x.taken n (x.history.input.files ∙ is) x.fault_is.bytes x.fault_is.input in
      let reads : certificate.read_of (length x.h.keys) x.fault_is.bytes ≡ Err fault = x.fault_is.reads in
      let hist : history_in f x.file ≡ Ok x.h = history_told f x.file s x.taken x.h is x.history in
      by_asking f answer status.CertRefused says.status_is
      (subst (λ t. Asks f t status.CertRefused) (sym x.task_is) (asks_by_cert f x.file x.cert x.h status.CertRefused hist (rw (input, reads) refl)))
  refused_told f is (refusal.Cert fault) answer h (inr says) fine = inr (ap number says.status_is)
  refused_told f is (refusal.Trace fault) answer h (inl (line, l, says)) fine =
      let x = h.shows in
      let read = trace_told f x.history x.journal x.settings s n (Err fault) is x.fault_is in
      by_asking f answer status.TraceRefused says.status_is (subst (λ t. Asks f t status.TraceRefused) (sym x.task_is) (rw read refl))
  refused_told f is (refusal.Trace fault) answer h (inr says) fine = inr (ap number says.status_is)
  refused_told f is (refusal.Missing line) answer h says fine =
      let x = h.shows in
      by_asking f answer status.Missing says.status_is (asks_by_input f task s n is h.files x.input status.Missing x.input_is
      (λ m told_m same before. absent_told f x.input.limit x.input.name m n told_m same x.says.misses.absent))
  refused_told f is refusal.ReadFailed answer h says fine = absurd (fine.reads h.shows.fails.read_faults)
  refused_told f is refusal.WriteFailed answer h says fine = absurd (unwritten_fails task h fine)
  refused_told f is (refusal.TooLong line) answer h says fine =
      let x = h.shows in
      by_asking f answer status.TooLong says.status_is (asks_by_input f task s n is h.files x.input status.TooLong x.input_is
      (λ m told_m same before. long_told f x.input.limit x.input.name m n told_m (subst (λ b. IsTooLong x.input.limit x.input.name b n) (sym before) x.says.too_long)))
  refused_told f is refusal.Memory answer h says fine = inr (ap number says.status_is)

  performed_told : (f : Files) → s.files ≡ Some f → (t : Task) (answer : Status) → Performs t s n o o' answer → Asks f t answer
  performed_told f is (Judge file measure) status.Done p =
      let hist : history_in f file ≡ Ok p.judged.h = history_told f file s p.taken p.judged.h is p.judged.input in
      rw hist refl
  performed_told f is (Check file cert) status.Done p = asks_by_verdicts f file cert s n p.h p.verdicts status.Done is p.inputs (inl (refl, p.shown))
  performed_told f is (Check file cert) status.NotShown p = asks_by_verdicts f file cert s n p.h p.verdicts status.NotShown is p.inputs (inr (refl, p.not_shown))
  performed_told f is (Gen workload) status.Done p = refl
  performed_told f is (Trial workload workers) status.Done p = refl
  performed_told f is (TraceTask history journal settings) status.Done p =
      let read = trace_told f history journal settings s n (Ok p.trace) is p.taken in rw read (inl (refl, p.recorded))
  performed_told f is (TraceTask history journal settings) status.NotShown p =
      let read = trace_told f history journal settings s n (Ok p.trace) is p.taken in rw read (inr (refl, a_part_fails settings p.trace p.failing p.first))
  performed_told f is (Judge file measure) status.NotShown p = absurd p
  performed_told f is (Gen workload) status.NotShown p = absurd p
  performed_told f is (Trial workload workers) status.NotShown p = absurd p
  performed_told f is t status.WordsRefused p = absurd p
  performed_told f is t status.HistoryRefused p = absurd p
  performed_told f is t status.CertRefused p = absurd p
  performed_told f is t status.Missing p = absurd p
  performed_told f is t status.ReadFailed p = absurd p
  performed_told f is t status.WriteFailed p = absurd p
  performed_told f is t status.TooLong p = absurd p
  performed_told f is t status.OutOfMemory p = absurd p
  performed_told f is t status.TraceRefused p = absurd p

  -- of a task with no history, a write that failed is one of the output
  unwritten_rose : (t : Task) → history_file t ≡ None → IsUnwritten t s n o o' → Rose o.faults o'.faults
  unwritten_rose (Judge file measure) none u = cc
  unwritten_rose (Check file cert) none u = cc
  unwritten_rose (Gen workload) none u = u.text.faults
  unwritten_rose (Trial workload workers) none u = u.line.faults
  unwritten_rose (TraceTask history journal settings) none u = cc

  -- a task with no history is done where it is performed
  performed_untold : (t : Task) → history_file t ≡ None → (answer : Status) → Performs t s n o o' answer → answer ≡ status.Done
  performed_untold t none status.Done p = refl
  performed_untold (Judge file measure) none status.NotShown p = absurd p
  performed_untold (Check file cert) none status.NotShown p = cc
  performed_untold (Gen workload) none status.NotShown p = absurd p
  performed_untold (Trial workload workers) none status.NotShown p = absurd p
  performed_untold (TraceTask history journal settings) none status.NotShown p = cc
  performed_untold t none status.WordsRefused p = absurd p
  performed_untold t none status.HistoryRefused p = absurd p
  performed_untold t none status.CertRefused p = absurd p
  performed_untold t none status.Missing p = absurd p
  performed_untold t none status.ReadFailed p = absurd p
  performed_untold t none status.WriteFailed p = absurd p
  performed_untold t none status.TooLong p = absurd p
  performed_untold t none status.OutOfMemory p = absurd p
  performed_untold t none status.TraceRefused p = absurd p

  -- a task with no history judges none
  unjudged : (t : Task) → history_file t ≡ None → judged_file t ≡ None
  unjudged (Judge file measure) none = cc
  unjudged (Check file cert) none = cc
  unjudged (Gen workload) none = refl
  unjudged (Trial workload workers) none = refl
  unjudged (TraceTask history journal settings) none = refl

  -- of a task with no history, nothing but a failed write and a want of memory is refused
  refused_untold : history_file task ≡ None → (r : Refusal) (answer : Status) → IsRefused task s n o o' r → Answers r answer e e'
      → (Rose o.faults o'.faults → ⊥) → number answer ≡ number status.OutOfMemory
  refused_untold none (refusal.History fault) answer h says fine = absurd (some_is_none (sym h.shows.file_is ∙ unjudged task none))
  refused_untold none (refusal.Cert fault) answer h says fine = absurd (some_is_none (sym (ap history_file h.shows.task_is) ∙ none))
  refused_untold none (refusal.Trace fault) answer h says fine = absurd (some_is_none (sym (ap history_file h.shows.task_is) ∙ none))
  refused_untold none (refusal.Missing line) answer h says fine = absurd (no_input task s h.shows.input none h.shows.input_is)
  refused_untold none refusal.ReadFailed answer h says fine = absurd (some_is_none (sym h.shows.file_is ∙ none))
  refused_untold none refusal.WriteFailed answer h says fine = absurd (fine (unwritten_rose task none h))
  refused_untold none (refusal.TooLong line) answer h says fine = absurd (no_input task s h.shows.input none h.shows.input_is)
  refused_untold none refusal.Memory answer h says fine = ap number says.status_is

  -- a refusal has the status that the contents ask for, or want of memory
  pub refused_complete : (r : Refusal) (answer : Status) → IsRefused task s n o o' r → Answers r answer e e' → IsComplete words (outside s o e) (outside n o' e') (number answer)
  unfolding Completes
  refused_complete r answer h says = record {
    told = from_told s.files _ (λ f is fine. refused_told f is r answer h says fine);
    untold = λ none fine. inr (refused_untold (rw named at none) r answer h says fine);
  }

  -- and so has what was performed
  pub performed_complete : (answer : Status) → Performs task s n o o' answer → IsComplete words (outside s o e) (outside n o' e') (number answer)
  unfolding Completes
  performed_complete answer p = record {
    told = from_told s.files _ (λ f is fine. by_asking f answer answer refl (performed_told f is task answer p));
    untold = λ none fine. inl (ap number (performed_untold task (rw named at none) answer p));
  }
