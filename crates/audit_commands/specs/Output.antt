-- What a command writes to the file that its words name for output, if they do.
use Rattle.std.specs.Prelude.{◌≡◌, ℕ, List, Option, Some, None}
use Rattle.audit_ports.specs.Shelf.{Shown}
use Rattle.command_outputs.specs.Output.{WritesFile, WritesFilePart}

-- the file was written, where one is named; else the shelf is as it was
abbrev pub WritesNamed : Option (List ℕ) → List ℕ → Shown → Shown → Type 0
WritesNamed None text old new = new ≡ old
WritesNamed (Some name) text old new = WritesFile name text old new

-- a file is named, and was not, or not wholly, written
abbrev pub WritesNamedPart : Option (List ℕ) → List ℕ → Shown → Shown → Type 0
WritesNamedPart None text old new = ⊥
WritesNamedPart (Some name) text old new = WritesFilePart name text old new
