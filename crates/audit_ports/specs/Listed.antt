-- The files of a shelf in memory as one list.
use Rattle.std.specs.Prelude.{ℕ, List, ◌++◌}
use Rattle.audit_ports.specs.declared.memory.FileList.{FileList}

-- the files in the order in which a name is looked up: those that were created, the last one first, and then those that were given
abbrev pub listed : FileList → List (List ℕ × List ℕ)
listed files = files.created.items ++ files.given
