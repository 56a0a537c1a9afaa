-- The lines on a failed write and on a want of memory, and how a line is written to the error output.
use Rattle.std.specs.Prelude.{◌≡◌, ◌⊎◌, ℕ, ◌≤◌, List, codes}
use Rattle.audit_ports.specs.Shelf.{Rose}
use Rattle.audit_ports.specs.Sink.{SinkShown, GainsPrefix, appended}

-- the line on a failed write
abbrev pub write_failed_line : List ℕ
write_failed_line = codes "write failed\n"

-- the line on a want of memory
abbrev pub memory_line : List ℕ
memory_line = codes "out of memory\n"

-- the error output gained a prefix of this line, and the whole line unless its count of faults rose
pub record SaysLine (line : List ℕ) (old new : SinkShown) : Type 0 where
  pub keeps : old.faults ≤ new.faults
  pub prefix : GainsPrefix line old new
  pub whole : (Rose old.faults new.faults) ⊎ (new.written ≡ appended old.written line)
