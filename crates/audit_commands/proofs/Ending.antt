-- What a task that was performed, and what a refusal ends with.
use Rattle.std.proofs.Common.{◌≡◌, ℕ, List, Some, refl, ◌∙◌, ap, inl, inr}
use Rattle.audit_ports.specs.Shelf.{Shown}
use Rattle.audit_ports.specs.Sink.{SinkShown}
use Rattle.audit_words.specs.declared.Task.{Task}
use Rattle.audit_words.specs.Tasks.{task_of}
use Rattle.audit_commands.specs.declared.refusal.Refusal.{Refusal}
use Rattle.audit_commands.specs.declared.refusal.Refusal.TheVariants as refusal
use Rattle.audit_commands.specs.declared.status.Status.{Status}
use Rattle.audit_commands.specs.declared.status.Status.TheVariants as status
use Rattle.audit_commands.specs.Refusals.{IsRefused, Answers}
use Rattle.audit_commands.specs.Steps.{Performs}
use Rattle.audit_commands.specs.Ends.{outside, Ends}
use Rattle.command_outputs.proofs.WritingFiles.{counts_kept}

module _ (words : List (List ℕ)) (task : Task) (asked : task_of words ≡ Some task) (s s' : Shown) (o o' e e' : SinkShown) where
  -- what was performed ends as its status means
  pub performed : (answer : Status) → Performs task s s' o o' answer → Ends words (outside s o e) (outside s' o' e) answer
  performed status.Done p = record { task = task; asked = asked; done = p; err = refl }
  performed status.NotShown p = record { task = task; asked = asked; fails = p; err = refl }
  performed status.WordsRefused p = absurd p
  performed status.HistoryRefused p = absurd p
  performed status.CertRefused p = absurd p
  performed status.Missing p = absurd p
  performed status.ReadFailed p = absurd p
  performed status.WriteFailed p = absurd p
  performed status.TooLong p = absurd p
  performed status.OutOfMemory p = absurd p
  performed status.TraceRefused p = absurd p

  -- a refusal ends as its status means
  pub refused : (r : Refusal) (answer : Status) → IsRefused task s s' o o' r → Answers r answer e e' → Ends words (outside s o e) (outside s' o' e') answer
  refused (refusal.History fault) answer h (inl (line, is, says)) =
      rw says.status_is (record {
        task = task;
        asked = asked;
        file = h.shows.file;
        file_is = h.shows.file_is;
        fault = fault;
        fault_is = h.shows.fault_is;
        refuses = rw is (record { files = h.files; out = h.same; says = says.says });
      })
  refused (refusal.History fault) answer h (inr says) =
      rw says.status_is (record { counts = h.shows.fault_is.input.counts; refuses = record { files = h.files; out = h.same; says = says.says } })
  refused (refusal.Cert fault) answer h (inl (line, is, says)) =
      let f = h.shows in
      rw says.status_is (record {
        file = f.file;
        cert = f.cert;
        asked = asked ∙ ap Some f.task_is;
        taken = f.taken;
        h = f.h;
        history = f.history;
        fault = fault;
        fault_is = f.fault_is;
        refuses = rw is (record { files = h.files; out = h.same; says = says.says });
      })
  refused (refusal.Cert fault) answer h (inr says) =
      let f = h.shows in
      rw says.status_is (record {
        counts = counts_kept s f.taken s' f.history.input.counts f.fault_is.input.counts;
        refuses = record { files = h.files; out = h.same; says = says.says };
      })
  refused (refusal.Trace fault) answer h (inl (line, is, says)) =
      let f = h.shows in
      rw says.status_is (record {
        history = f.history;
        journal = f.journal;
        settings = f.settings;
        asked = asked ∙ ap Some f.task_is;
        fault = fault;
        fault_is = f.fault_is;
        refuses = rw is (record { files = h.files; out = h.same; says = says.says });
      })
  refused (refusal.Trace fault) answer h (inr says) =
      let f = h.shows.fault_is in
      rw says.status_is (record {
        counts = counts_kept s f.between s' f.history_input.counts f.journal_input.counts;
        refuses = record { files = h.files; out = h.same; says = says.says };
      })
  refused (refusal.Missing line) answer h says =
      let m = h.shows in
      rw says.status_is (record {
        task = task;
        asked = asked;
        input = m.input;
        input_is = m.input_is;
        misses = m.says.misses;
        refuses = record { files = h.files; out = h.same; says = rw m.says.line_is at says.says };
      })
  refused refusal.ReadFailed answer h says =
      rw says.status_is (record { file = h.shows.file; file_is = rw asked h.shows.file_is; fails = h.shows.fails; refuses = record { files = h.files; out = h.same; says = says.says } })
  refused refusal.WriteFailed answer h says =
      rw says.status_is (record { task = task; asked = asked; unwritten = h; says = says.says })
  refused (refusal.TooLong line) answer h says =
      let m = h.shows in
      rw says.status_is (record {
        task = task;
        asked = asked;
        input = m.input;
        input_is = m.input_is;
        too_long = m.says.too_long;
        refuses = record { files = h.files; out = h.same; says = rw m.says.line_is at says.says };
      })
  refused refusal.Memory answer h says =
      rw says.status_is (record { counts = h.shows; refuses = record { files = h.files; out = h.same; says = says.says } })
