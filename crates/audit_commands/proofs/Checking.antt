-- How a check ends after its inputs were taken.
use Rattle.std.proofs.Common.{◌≡◌, ℕ, List, None, Ok, subst, arith}
use Rattle.std.proofs.lemmas.Option.{slice_get_within, get_or_from_slice_get}
use Rattle.std.specs.Prelude.{All}
use Rattle.stale_model.specs.declared.KeyOps.{KeyOps}
use Rattle.stale_model.specs.declared.History.{History}
use Rattle.stale_model.specs.declared.Verdict.{Verdict}
use Rattle.stale_model.specs.Orders.{StandsAt}
use Rattle.stale_model.specs.Valid.{IsValidKey, IsValidHistory}
use Rattle.stale_model.specs.Truth.{EachKeyHas, IsTrueOf}
use Rattle.stale_model.specs.Shown.{IsShown}
use Rattle.model_laws.proofs.ShownTrue.{shown_verdicts_are_true}
use Rattle.cert_checker.specs.declared.Checked.{Checked}
use Rattle.cert_checker.specs.declared.Checked.TheVariants as checked
use Rattle.cert_checker.proofs.ExactKeys.{certificates_are_found_good}
use Rattle.audit_ports.specs.Shelf.{Shown}
use Rattle.audit_ports.specs.Sink.{SinkShown}
use Rattle.audit_words.specs.declared.Task.TheVariants.{Check}
use Rattle.audit_commands.specs.declared.status.Status.{Status}
use Rattle.audit_commands.specs.Lines.{check_line}
use Rattle.command_outputs.specs.Output.{WritesWhole}
use Rattle.audit_commands.specs.Steps.{OnlyReads, FindsBoth, Performs, status_of_check}
use Rattle.audit_commands.specs.Refusals.{TaskEnds}
use Rattle.audit_commands.proofs.Keeping.{keeps_reading}

valid_at : (keys : List KeyOps) (i : ℕ) (key : KeyOps) → All IsValidKey keys → StandsAt keys i key → IsValidKey key
valid_at keys i key valid at = subst IsValidKey (get_or_from_slice_get keys i key key at) (valid i key (slice_get_within keys i key at))

-- of a valid history, verdicts that are shown are true
all_true : (h : History) (verdicts : List Verdict) → IsValidHistory h → EachKeyHas IsShown h.keys verdicts → EachKeyHas IsTrueOf h.keys verdicts
all_true h verdicts valid shown = record {
  as_many = shown.as_many;
  each = λ i key verdict key_is verdict_is. shown_verdicts_are_true key verdict (valid_at h.keys i key valid.keys key_is) (shown.each i key verdict key_is verdict_is);
}

module _ (file cert : List ℕ) (s m : Shown) (out : SinkShown) (reads : OnlyReads s m) (quiet : s.writing ≡ None) where
  performed : (found : Checked) (out' : SinkShown) → FindsBoth file cert s m found → WritesWhole (check_line found) out out'
      → Performs (Check file cert) s m out out' (status_of_check found)
  performed checked.Good out' f w = record {
    h = f.h;
    verdicts = f.verdicts;
    inputs = f.inputs;
    truth = all_true f.h f.verdicts f.valid f.finds;
    shown = f.finds;
    line = w;
  }
  performed (checked.Bad key rule rec) out' f w = record {
    h = f.h;
    verdicts = f.verdicts;
    inputs = f.inputs;
    not_shown = λ shown. no_good key rule rec ((certificates_are_found_good f.h.keys f.verdicts (checked.Bad key rule rec) f.finds).1 shown);
    key = key;
    rule = rule;
    rec = rec;
    first = f.finds;
    line = w;
  } where
    no_good : (key rule rec : ℕ) → checked.Bad key rule rec ≡ checked.Good → ⊥
    no_good key rule rec e = cc

  -- the line is written
  pub ends_written : (found : Checked) (out' : SinkShown) (answer : Status) → FindsBoth file cert s m found → WritesWhole (check_line found) out out' → answer ≡ status_of_check found
      → TaskEnds (Check file cert) s m out out' (Ok answer)
  ends_written found out' answer f w is =
      let faults = w.faults in
      record {
        keeps = keeps_reading None s m reads quiet;
        untouched = λ none. cc;
        faults = omega arith;
        done = rw is (performed found out' f w);
        refused = tt;
      }
