-- What a bench leaves as it was on a shelf.
use Rattle.std.proofs.Common.{◌≡◌, ℕ, List, Option, Some, None, refl, sym, ◌∙◌, inl, inr, subst, arith}
use Rattle.audit_ports.specs.Shelf.{Shown, Files, WhereTold, Sets}
use Rattle.audit_ports.specs.Sink.{SinkShown}
use Rattle.audit_words.specs.declared.bench.Bench.{Bench}
use Rattle.command_outputs.specs.Output.{WritesFile, WritesFilePart}
use Rattle.bench_commands.specs.declared.texts.Texts.{Texts}
use Rattle.bench_commands.specs.Outputs.{WritesFiles, WritesHistoryAlone, WritesSome}
use Rattle.bench_commands.specs.Ends.{KeepsOtherFiles, KeepsShelf}

module _ (one two : List ℕ) where
  -- files that are the same
  files_same : (files : Option Files) → KeepsOtherFiles one two files files
  files_same None = tt
  files_same (Some f) = λ other first second. refl

  -- the first file has another text
  first_set : (text : List ℕ) (old new : Option Files) → WhereTold (Sets one text) old new → KeepsOtherFiles one two old new
  first_set text None None s = tt
  first_set text (Some o) (Some n) s = λ other first second. s.others other first
  first_set text None (Some n) s = absurd s
  first_set text (Some o) None s = absurd s

  -- the second file has another text
  second_set : (text : List ℕ) (old new : Option Files) → WhereTold (Sets two text) old new → KeepsOtherFiles one two old new
  second_set text None None s = tt
  second_set text (Some o) (Some n) s = λ other first second. s.others other second
  second_set text None (Some n) s = absurd s
  second_set text (Some o) None s = absurd s

  -- one change after another
  files_then : (old mid new : Option Files) → KeepsOtherFiles one two old mid → KeepsOtherFiles one two mid new → KeepsOtherFiles one two old new
  files_then None None None p q = tt
  files_then (Some o) (Some m) (Some n) p q = λ other first second. q other first second ∙ p other first second
  files_then None (Some m) new p q = absurd p
  files_then (Some o) None new p q = absurd p
  files_then None None (Some n) p q = absurd q
  files_then (Some o) (Some m) None p q = absurd q

-- a shelf that is left alone
pub keeps_same : (b : Bench) (s : Shown) → s.writing ≡ None → KeepsShelf b s s
keeps_same b s quiet =
    record { files = files_same b.history b.journal s.files; read_faults = refl; misses = refl; write_faults = omega arith; writing = quiet }

-- one step after another
keeps_then : (b : Bench) (s m n : Shown) → KeepsShelf b s m → KeepsShelf b m n → KeepsShelf b s n
keeps_then b s m n p q =
    let f = p.write_faults in
    let g = q.write_faults in
    record {
      files = files_then b.history b.journal s.files m.files n.files p.files q.files;
      read_faults = q.read_faults ∙ p.read_faults;
      misses = q.misses ∙ p.misses;
      write_faults = omega arith;
      writing = q.writing;
    }

-- a file was written, whose name is one of the two
keeps_file : (b : Bench) (name text : List ℕ) (s n : Shown) → ((old new : Option Files) → WhereTold (Sets name text) old new → KeepsOtherFiles b.history b.journal old new)
    → WritesFile name text s n → KeepsShelf b s n
keeps_file b name text s n only w =
    let f = w.counts.write_faults in
    record {
      files = only s.files n.files w.files;
      read_faults = w.counts.read_faults;
      misses = w.counts.misses;
      write_faults = omega arith;
      writing = w.writing;
    }

-- a file was not, or not wholly, written, whose name is one of the two
keeps_part : (b : Bench) (name text : List ℕ) (s n : Shown)
    → ((text : List ℕ) (old new : Option Files) → WhereTold (Sets name text) old new → KeepsOtherFiles b.history b.journal old new)
    → WritesFilePart name text s n → KeepsShelf b s n
keeps_part b name text s n only w = record {
  files = elim w.files [
    | inl same ↦ subst (KeepsOtherFiles b.history b.journal s.files) (sym same) (files_same b.history b.journal s.files)
    | inr part ↦ only _ s.files n.files part.1
  ];
  read_faults = w.fails.read_faults;
  misses = w.fails.misses;
  write_faults = w.fails.keeps;
  writing = w.fails.writing;
}

module _ (b : Bench) (t : Texts) (s n : Shown) where
  -- both files were written
  pub keeps_files : WritesFiles b t s n → KeepsShelf b s n
  keeps_files w =
      keeps_then b s w.between n (keeps_file b b.history t.history s w.between (first_set b.history b.journal t.history) w.history)
      (keeps_file b b.journal t.journal w.between n (second_set b.history b.journal t.journal) w.journal)

  keeps_history_alone : WritesHistoryAlone b t s n → KeepsShelf b s n
  keeps_history_alone w =
      keeps_then b s w.between n (keeps_file b b.history t.history s w.between (first_set b.history b.journal t.history) w.history)
      (keeps_part b b.journal t.journal w.between n (second_set b.history b.journal) w.journal)

  -- a call of writing failed
  pub keeps_some : (out out' : SinkShown) → WritesSome b t s n out out' → KeepsShelf b s n
  keeps_some out out' (inl w) = keeps_part b b.history t.history s n (first_set b.history b.journal) w.0
  keeps_some out out' (inr (inl w)) = keeps_history_alone w.0
  keeps_some out out' (inr (inr w)) = keeps_files w.0
