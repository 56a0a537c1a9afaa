-- The line on a replica that was not started.
use Rattle.std.specs.Prelude.{ℕ, List, ◌++◌, codes}
use Rattle.std.specs.Fmt.{decimal}

-- the line on the replica with this number, which was not started
abbrev pub not_started_line : ℕ → List ℕ
not_started_line replica = codes "replica " ++ decimal replica ++ codes " not started\n"
