-- How the judging of a history ends after its history was taken.
use Rattle.std.proofs.Common.{◌≡◌, ℕ, ◌≤◌, List, Option, None, Err, refl, ◌∙◌, inl, inr, arith}
use Rattle.stale_model.specs.declared.History.{History}
use Rattle.audit_ports.specs.declared.Failed.{Failed}
use Rattle.audit_ports.specs.Shelf.{Shown}
use Rattle.audit_ports.specs.Sink.{SinkShown}
use Rattle.audit_words.specs.declared.Measure.{Measure}
use Rattle.audit_words.specs.declared.Task.TheVariants.{Judge}
use Rattle.audit_commands.specs.declared.texts.Texts.{Texts}
use Rattle.audit_commands.specs.declared.refusal.Refusal.{Refusal}
use Rattle.audit_commands.specs.declared.refusal.Refusal.TheVariants as refusal
use Rattle.audit_commands.specs.Audit.{TakesHistory, AreTextsOf, cert_file}
use Rattle.audit_commands.specs.Ends.{KeepsShelf}
use Rattle.audit_commands.specs.Steps.{OnlyReads}
use Rattle.audit_commands.specs.Refusals.{WritesTexts, HistoryShows, TaskEnds}
use Rattle.audit_commands.proofs.Keeping.{keeps_reading, keeps_written, keeps_part, keeps_after}
use Rattle.audit_commands.proofs.Refusing.{history_shows, refused_before}

-- what outputs keep that are not, or not wholly, written
outputs_keep : (cert : Option (List ℕ)) (texts : Texts) (m n : Shown) (out out' : SinkShown) (failed : Failed)
    → m.writing ≡ None → WritesTexts cert texts m n out out' (Err failed) → KeepsShelf cert m n × (out.faults ≤ out'.faults)
outputs_keep cert texts m n out out' failed quiet (inl w) = (keeps_part cert texts.cert m n w.0, rw w.1 (omega arith))
outputs_keep cert texts m n out out' failed quiet (inr w) = (keeps_written cert texts.cert m n quiet w.0, w.1.keeps)

module _ (file : List ℕ) (measure : Measure) (s m : Shown) (out : SinkShown) (reads : OnlyReads s m) (quiet : s.writing ≡ None) where
  -- the history is refused
  pub ends_unread : (r : Refusal) → HistoryShows file s m r → TaskEnds (Judge file measure) s m out out (Err r)
  ends_unread r shows = record {
    keeps = keeps_reading (cert_file measure) s m reads quiet;
    untouched = λ none. cc;
    faults = omega arith;
    done = tt;
    refused = refused_before (Judge file measure) s m out r (history_shows (Judge file measure) file refl s m refl r shows) reads.keeps.files;
  }

  -- the outputs are not, or not wholly, written
  pub ends_unwritten : (h : History) → TakesHistory file s m h → (texts : Texts) → AreTextsOf measure h texts → (n : Shown) (out' : SinkShown) (failed : Failed)
      → WritesTexts (cert_file measure) texts m n out out' (Err failed) → TaskEnds (Judge file measure) s n out out' (Err refusal.WriteFailed)
  ends_unwritten h taken texts are n out' failed w =
      let (kept, faults) = outputs_keep (cert_file measure) texts m n out out' failed (reads.writing ∙ quiet) w in
      record {
        keeps = keeps_after (cert_file measure) s m n reads kept;
        untouched = λ none. cc;
        faults = faults;
        done = tt;
        refused = record { taken = m; texts = texts; judged = record { h = h; input = taken; are_texts = are }; fails = w };
      }
