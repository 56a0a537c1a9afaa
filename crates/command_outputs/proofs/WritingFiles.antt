-- What the three calls that write a file leave.
use Rattle.std.proofs.Common.{◌≡◌, ℕ, List, [], ◌++◌, Option, Some, None, Ok, Err, Result, length, refl, sym, ◌∙◌, ap, inr, subst}
use Rattle.std.proofs.Math.Seq.{take-length}
use Rattle.std.specs.Prelude.{IfSome}
use Rattle.audit_ports.specs.Shelf.{Shown, Files, Rose, KeepsCounts, FailsWriting, WhereTold, Sets, Extends, IsCreated, Finishes}
use Rattle.command_outputs.specs.Steps.{WritesOut}

-- counts that were kept twice were kept
pub counts_kept : (a b c : Shown) → KeepsCounts a b → KeepsCounts b c → KeepsCounts a c
counts_kept a b c p q = record {
  read_faults = q.read_faults ∙ p.read_faults;
  write_faults = q.write_faults ∙ p.write_faults;
  misses = q.misses ∙ p.misses;
}

-- a call of writing that fails after counts were kept
pub fails_after : (a b c : Shown) → KeepsCounts a b → FailsWriting b c → FailsWriting a c
fails_after a b c p q = record {
  write_faults = subst (λ n. Rose n c.write_faults) p.write_faults q.write_faults;
  keeps = rw p.write_faults at q.keeps;
  read_faults = q.read_faults ∙ p.read_faults;
  misses = q.misses ∙ p.misses;
  writing = q.writing;
}

-- a file that was empty has the piece that was appended
empty_then : (name piece : List ℕ) (old mid new : Files) → Sets name [] old mid → Extends name piece mid new → Sets name piece old new
empty_then name piece old mid new s e =
    let some : Some e.bytes ≡ Some [] = sym e.was ∙ s.there in
    let none : e.bytes ≡ [] = cc in
    let text : e.bytes ++ piece ≡ piece = rw none refl in
    record {
      there = e.sets.there ∙ ap Some text;
      others = λ other differs. e.sets.others other differs ∙ s.others other differs;
    }

pub created_then : (name piece : List ℕ) (old mid new : Option Files) → WhereTold (Sets name []) old mid → WhereTold (Extends name piece) mid new
    → WhereTold (Sets name piece) old new
created_then name piece None None None s e = tt
created_then name piece (Some old) (Some mid) (Some new) s e = empty_then name piece old mid new s e
created_then name piece None (Some mid) new s e = absurd s
created_then name piece (Some old) None new s e = absurd s
created_then name piece None None (Some new) s e = absurd e
created_then name piece (Some old) (Some mid) None s e = absurd e

-- what is being written is told
writes_of : (writing : Option (List ℕ)) (name : List ℕ) (P : List ℕ → Type 0) → writing ≡ Some name → IfSome writing P → P name
writes_of writing name P is h = rw is at h

module _ (name text : List ℕ) (old created written finished : Shown) where
  -- a created file, and a piece appended to it
  whole_then : IsCreated name old created → IfSome created.writing (λ name. WhereTold (Extends name text) created.files written.files)
      → WhereTold (Sets name text) old.files written.files
  whole_then is more =
      created_then name text old.files created.files written.files is.files (writes_of created.writing name (λ name. WhereTold (Extends name text) created.files written.files) is.writing more)

  by_finish : {T E : Type 0} (result : Result T E) → Finishes written result finished → WhereTold (Sets name text) old.files finished.files → finished.reading ≡ None
      → KeepsCounts old written → WritesOut name text old result finished
  by_finish (Ok v) f there reading counts =
      record { ok = record { files = there; counts = counts_kept old written finished counts f.counts; reading = reading; writing = f.writing }; refused = tt }
  by_finish (Err e) f there reading counts =
      record {
        ok = tt;
        refused = record {
          files = inr (length text, subst (λ t. WhereTold (Sets name t) old.files finished.files) (sym (take-length text)) there);
          reading = reading;
          fails = fails_after old written finished counts f.failed;
        };
      }

  pub finished_whole : {T E : Type 0} (result : Result T E) → IsCreated name old created → KeepsCounts old created → created.reading ≡ None
      → IfSome created.writing (λ name. WhereTold (Extends name text) created.files written.files) → KeepsCounts created written → written.reading ≡ created.reading
      → Finishes written result finished → WritesOut name text old result finished
  finished_whole result is counts closed more kept same f =
      by_finish result f (subst (WhereTold (Sets name text) old.files) (sym f.files) (whole_then is more)) (f.reading ∙ same ∙ closed) (counts_kept old created written counts kept)
