-- What a write leaves in an output.
use Rattle.std.proofs.Common.{◌≡◌, ℕ, List, Ok, Err, Result, length, sym, ◌∙◌, ap, inl, inr}
use Rattle.std.proofs.Math.Seq.{take-length}
use Rattle.audit_ports.specs.Sink.{SinkShown, Writes, Flushes, GainsPrefix, appended}
use Rattle.command_outputs.specs.Steps.{Prints}
use Rattle.command_outputs.specs.Lines.{SaysLine}

-- the whole is a prefix
pub gains_whole : (piece : List ℕ) (old new : SinkShown) → new.written ≡ appended old.written piece → GainsPrefix piece old new
gains_whole piece old new e = (length piece, e ∙ ap (appended old.written) (sym (take-length piece)))

pub says_from_write : {T E : Type 0} (line : List ℕ) (old : SinkShown) (result : Result T E) (new : SinkShown) → Writes line old result new → SaysLine line old new
says_from_write line old (Ok v) new writes = record { keeps = writes.keeps; prefix = gains_whole line old new writes.ok; whole = inr writes.ok }
says_from_write line old (Err e) new writes = record { keeps = writes.keeps; prefix = writes.refused; whole = inl writes.failed }

-- a whole text, handed on by a flush
pub prints_from_flush : {T E : Type 0} (text : List ℕ) (old mid : SinkShown) (result : Result T E) (new : SinkShown) → mid.written ≡ appended old.written text → mid.faults ≡ old.faults → Flushes mid result new
    → Prints text old result new
prints_from_flush text old mid (Ok v) new written faults flushes =
    record { ok = record { written = flushes.written ∙ written; handed_on = flushes.ok; faults = flushes.faults ∙ faults }; refused = tt }
prints_from_flush text old mid (Err e) new written faults flushes =
    record {
      ok = tt;
      refused = record {
        gains = gains_whole text old new (flushes.written ∙ written);
        faults = rw faults at flushes.failed;
        keeps = rw faults at flushes.keeps;
      };
    }
