-- What shows a refusal of a task, from what shows that of its input.
use Rattle.std.proofs.Common.{◌≡◌, ℕ, List, Some, length, refl, ◌∙◌, inl, inr, subst}
use Rattle.stale_model.specs.declared.History.{History}
use Rattle.stale_model.specs.declared.Verdict.{Verdict}
use Rattle.stale_model.specs.declared.store.Settings.{Settings}
use Rattle.audit_ports.specs.Shelf.{Shown, Rose, KeepsCounts, FailsReading}
use Rattle.audit_ports.specs.Sink.{SinkShown}
use Rattle.audit_words.specs.declared.Task.{Task}
use Rattle.audit_words.specs.declared.Task.TheVariants.{Check, Trace as TraceTask}
use Rattle.audit_commands.specs.declared.refusal.Refusal.{Refusal}
use Rattle.audit_commands.specs.declared.refusal.Refusal.TheVariants as refusal
use Rattle.audit_commands.specs.Audit.{Input, IsInput, history_limit, cert_limit, journal_limit, TakesHistory, TakesBoth, history_file, judged_file}
use Rattle.audit_commands.specs.Input.{TakesInput}
use Rattle.command_outputs.proofs.WritingFiles.{counts_kept}
use Rattle.audit_commands.specs.Refusals.{InputShows, HistoryShows, CertShows, Shows, IsRefused}

module _ (task : Task) (file : List ℕ) (file_is : history_file task ≡ Some file) (s m : Shown) where
  -- the history's input
  input : Input
  input = record { name = file; limit = history_limit; before = s }

  is_input : IsInput task s input
  unfolding input
  is_input = inl (record { name_is = file_is; limit_is = refl; before_is = refl })

  -- a refusal of taking the file with the history is one of the task
  pub first_shows : (r : Refusal) → InputShows history_limit file s m r → Shows task s m r
  unfolding input
  first_shows (refusal.History fault) h = absurd h
  first_shows (refusal.Cert fault) h = absurd h
  first_shows (refusal.Trace fault) h = absurd h
  first_shows (refusal.Missing line) h = record { input = input; input_is = is_input; says = h }
  first_shows refusal.ReadFailed h = record { file = file; file_is = file_is; fails = h }
  first_shows refusal.WriteFailed h = absurd h
  first_shows (refusal.TooLong line) h = record { input = input; input_is = is_input; says = h }
  first_shows refusal.Memory h = h

  -- a refusal of a history that is judged is one of the task
  pub history_shows : judged_file task ≡ Some file → (r : Refusal) → HistoryShows file s m r → Shows task s m r
  history_shows judged (refusal.History fault) h = record { file = file; file_is = judged; fault_is = h.0; line = h.1 }
  history_shows judged (refusal.Cert fault) h = absurd h
  history_shows judged (refusal.Trace fault) h = absurd h
  history_shows judged (refusal.Missing line) h = first_shows (refusal.Missing line) h
  history_shows judged refusal.ReadFailed h = first_shows refusal.ReadFailed h
  history_shows judged refusal.WriteFailed h = absurd h
  history_shows judged (refusal.TooLong line) h = first_shows (refusal.TooLong line) h
  history_shows judged refusal.Memory h = h

-- counts that were kept, and a read that failed
fails_reading_after : (s m n : Shown) → KeepsCounts s m → FailsReading m n → FailsReading s n
fails_reading_after s m n k f = record {
  read_faults = subst (λ c. Rose c n.read_faults) k.read_faults f.read_faults;
  write_faults = f.write_faults ∙ k.write_faults;
  misses = f.misses ∙ k.misses;
}

-- a refusal of the certificate is one of the check
pub cert_shows : (file cert : List ℕ) (s m n : Shown) (h : History) (r : Refusal) → TakesHistory file s m h → CertShows cert (length h.keys) m n r
    → Shows (Check file cert) s n r
cert_shows file cert s m n h (refusal.History fault) taken c = absurd c
cert_shows file cert s m n h (refusal.Cert fault) taken c =
    record { file = file; cert = cert; task_is = refl; taken = m; h = h; history = taken; fault_is = c.0; no_memory = c.1 }
cert_shows file cert s m n h (refusal.Trace fault) taken c = absurd c
cert_shows file cert s m n h (refusal.Missing line) taken c = record {
  input = record { name = cert; limit = cert_limit; before = m };
  input_is = inr (inl (record { file = file; task_is = refl; limit_is = refl; h = h; history = taken }));
  says = c;
}
cert_shows file cert s m n h refusal.ReadFailed taken c = record { file = file; file_is = refl; fails = fails_reading_after s m n taken.input.counts c }
cert_shows file cert s m n h refusal.WriteFailed taken c = absurd c
cert_shows file cert s m n h (refusal.TooLong line) taken c = record {
  input = record { name = cert; limit = cert_limit; before = m };
  input_is = inr (inl (record { file = file; task_is = refl; limit_is = refl; h = h; history = taken }));
  says = c;
}
cert_shows file cert s m n h refusal.Memory taken c = counts_kept s m n taken.input.counts c

-- a refusal of taking the journal file is one of the trace
pub journal_shows : (history journal : List ℕ) (settings : Settings) (s m n : Shown) (calls : List ℕ) (r : Refusal)
    → TakesInput history_limit history s m calls → InputShows journal_limit journal m n r → Shows (TraceTask history journal settings) s n r
journal_shows history journal settings s m n calls (refusal.History fault) taken h = absurd h
journal_shows history journal settings s m n calls (refusal.Cert fault) taken h = absurd h
journal_shows history journal settings s m n calls (refusal.Trace fault) taken h = absurd h
journal_shows history journal settings s m n calls (refusal.Missing line) taken h = record {
  input = record { name = journal; limit = journal_limit; before = m };
  input_is = inr (inr (record { history = history; settings = settings; task_is = refl; limit_is = refl; calls = calls; taken = taken }));
  says = h;
}
journal_shows history journal settings s m n calls refusal.ReadFailed taken h =
    record { file = history; file_is = refl; fails = fails_reading_after s m n taken.counts h }
journal_shows history journal settings s m n calls refusal.WriteFailed taken h = absurd h
journal_shows history journal settings s m n calls (refusal.TooLong line) taken h = record {
  input = record { name = journal; limit = journal_limit; before = m };
  input_is = inr (inr (record { history = history; settings = settings; task_is = refl; limit_is = refl; calls = calls; taken = taken }));
  says = h;
}
journal_shows history journal settings s m n calls refusal.Memory taken h = counts_kept s m n taken.counts h

-- no count changes where both inputs are taken
pub both_keep_counts : (file cert : List ℕ) (s n : Shown) (h : History) (verdicts : List Verdict) → TakesBoth file cert s n h verdicts → KeepsCounts s n
both_keep_counts file cert s n h verdicts b = counts_kept s b.between n b.history.input.counts b.certificate.input.counts

-- a refusal before any output
pub refused_before : (task : Task) (s m : Shown) (out : SinkShown) (r : Refusal) → Shows task s m r → m.files ≡ s.files → IsRefused task s m out out r
refused_before task s m out (refusal.History fault) h files = record { shows = h; files = files; same = refl }
refused_before task s m out (refusal.Cert fault) h files = record { shows = h; files = files; same = refl }
refused_before task s m out (refusal.Trace fault) h files = record { shows = h; files = files; same = refl }
refused_before task s m out (refusal.Missing line) h files = record { shows = h; files = files; same = refl }
refused_before task s m out refusal.ReadFailed h files = record { shows = h; files = files; same = refl }
refused_before task s m out refusal.WriteFailed h files = absurd h
refused_before task s m out (refusal.TooLong line) h files = record { shows = h; files = files; same = refl }
refused_before task s m out refusal.Memory h files = record { shows = h; files = files; same = refl }
