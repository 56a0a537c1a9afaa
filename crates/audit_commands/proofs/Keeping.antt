-- What stays as it was on a shelf.
use Rattle.std.proofs.Common.{◌≡◌, ℕ, ◌≤◌, List, Option, Some, None, refl, sym, ◌∙◌, inl, inr, subst, arith}
use Rattle.audit_ports.specs.Shelf.{Shown, Files, WhereTold, Sets}
use Rattle.audit_ports.specs.Sink.{SinkShown}
use Rattle.audit_words.specs.Tasks.{task_of}
use Rattle.command_outputs.specs.Output.{WritesFile, WritesFilePart}
use Rattle.audit_commands.specs.Output.{WritesNamed, WritesNamedPart}
use Rattle.audit_commands.specs.Ends.{KeepsOthers, KeepsShelf, KeepsOutside, named_output, outside}
use Rattle.audit_commands.specs.Steps.{OnlyReads}

others_same : (output : Option (List ℕ)) (files : Option Files) → KeepsOthers output files files
others_same None files = refl
others_same (Some name) None = tt
others_same (Some name) (Some f) = λ other differs. refl

others_of_sets : (name text : List ℕ) (old new : Option Files) → WhereTold (Sets name text) old new → KeepsOthers (Some name) old new
others_of_sets name text None None s = tt
others_of_sets name text (Some o) (Some n) s = s.others
others_of_sets name text None (Some n) s = absurd s
others_of_sets name text (Some o) None s = absurd s

-- a shelf that is left alone
pub keeps_same : (output : Option (List ℕ)) (s : Shown) → s.writing ≡ None → KeepsShelf output s s
keeps_same output s quiet = record {
  files = others_same output s.files;
  read_faults = omega arith;
  write_faults = omega arith;
  misses = omega arith;
  writing = quiet;
}

-- a shelf and an output that are left alone
pub keeps_outside : (words : List (List ℕ)) (s : Shown) (o e e' : SinkShown) → s.writing ≡ None → e.faults ≤ e'.faults
    → KeepsOutside words (outside s o e) (outside s o e')
keeps_outside words s o e e' quiet more =
    record { shelf = keeps_same (named_output (task_of words)) s quiet; untouched = λ none. refl; out = omega arith; err = more }

-- files that are read
pub keeps_reading : (output : Option (List ℕ)) (s m : Shown) → OnlyReads s m → s.writing ≡ None → KeepsShelf output s m
keeps_reading output s m reads quiet = record {
  files = subst (KeepsOthers output s.files) (sym reads.keeps.files) (others_same output s.files);
  read_faults = reads.keeps.read_faults;
  write_faults = reads.keeps.write_faults;
  misses = reads.keeps.misses;
  writing = reads.writing ∙ quiet;
}

keeps_file : (name text : List ℕ) (m n : Shown) → WritesFile name text m n → KeepsShelf (Some name) m n
keeps_file name text m n w =
    let c = w.counts in
    let r = c.read_faults in
    let f = c.write_faults in
    let k = c.misses in
    record {
      files = others_of_sets name text m.files n.files w.files;
      read_faults = omega arith;
      write_faults = omega arith;
      misses = omega arith;
      writing = w.writing;
    }

keeps_file_part : (name text : List ℕ) (m n : Shown) → WritesFilePart name text m n → KeepsShelf (Some name) m n
keeps_file_part name text m n w =
    let f = w.fails in
    let r = f.read_faults in
    let k = f.misses in
    record {
      files = elim w.files [
        | inl same ↦ subst (KeepsOthers (Some name) m.files) (sym same) (others_same (Some name) m.files)
        | inr part ↦ others_of_sets name _ m.files n.files part.1
      ];
      read_faults = omega arith;
      write_faults = f.keeps;
      misses = omega arith;
      writing = f.writing;
    }

-- a file that was written where it is named
pub keeps_written : (output : Option (List ℕ)) (text : List ℕ) (m n : Shown) → m.writing ≡ None → WritesNamed output text m n → KeepsShelf output m n
keeps_written None text m n quiet same = subst (KeepsShelf None m) (sym same) (keeps_same None m quiet)
keeps_written (Some name) text m n quiet w = keeps_file name text m n w

-- a file that was not, or not wholly, written
pub keeps_part : (output : Option (List ℕ)) (text : List ℕ) (m n : Shown) → WritesNamedPart output text m n → KeepsShelf output m n
keeps_part None text m n w = absurd w
keeps_part (Some name) text m n w = keeps_file_part name text m n w

-- reading, and then something that keeps a shelf
pub keeps_after : (output : Option (List ℕ)) (s m n : Shown) → OnlyReads s m → KeepsShelf output m n → KeepsShelf output s n
keeps_after output s m n reads k =
    let r = reads.keeps in
    let a = r.read_faults in
    let b = r.write_faults in
    let c = r.misses in
    let d = k.read_faults in
    let e = k.write_faults in
    let f = k.misses in
    record {
      files = subst (λ o. KeepsOthers output o n.files) r.files k.files;
      read_faults = omega arith;
      write_faults = omega arith;
      misses = omega arith;
      writing = k.writing;
    }
