-- What a command writes: to an output, and to a file.
use Rattle.std.specs.Prelude.{◌≡◌, ◌⊎◌, ℕ, ◌≤◌, false, List, take, None}
use Rattle.audit_ports.specs.Shelf.{Shown, Rose, KeepsCounts, FailsWriting, WhereTold, Sets}
use Rattle.audit_ports.specs.Sink.{SinkShown, GainsPrefix, appended}

-- the output gained exactly this text, all of it was handed on, and no call failed
pub record WritesWhole (text : List ℕ) (old new : SinkShown) : Type 0 where
  pub written : new.written ≡ appended old.written text
  pub handed_on : new.pending ≡ false
  pub faults : new.faults ≡ old.faults

-- a call of the output failed, and it gained a prefix of this text
pub record WritesPart (text : List ℕ) (old new : SinkShown) : Type 0 where
  pub gains : GainsPrefix text old new
  pub faults : Rose old.faults new.faults
  pub keeps : old.faults ≤ new.faults

-- the file of this name was written and finished: it is exactly this text, each other file is as before, and no call failed
pub record WritesFile (name text : List ℕ) (old new : Shown) : Type 0 where
  pub files : WhereTold (Sets name text) old.files new.files
  pub counts : KeepsCounts old new
  pub reading : new.reading ≡ None
  pub writing : new.writing ≡ None

-- a call of writing failed: the file of this name is as before or is a prefix of this text, and each other file is as before
pub record WritesFilePart (name text : List ℕ) (old new : Shown) : Type 0 where
  pub files : (new.files ≡ old.files) ⊎ ((n : ℕ) × WhereTold (Sets name (take n text)) old.files new.files)
  pub reading : new.reading ≡ None
  pub fails : FailsWriting old new
