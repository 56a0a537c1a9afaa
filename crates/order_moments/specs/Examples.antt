-- Orders worked by hand, with the moments of their operations.
use Rattle.std.specs.Prelude.{ℕ, ◌^◌, List, [], ◌∷◌}
use Rattle.stale_model.specs.declared.Op.{Op}
use Rattle.stale_model.specs.Operations.{initial_write}
use Rattle.model_laws.specs.Examples.{write, read, write_within, read_within}

-- the order at 3 of a read that starts at 7, though the later write ends at 4
abbrev pub stale_order : List Op
stale_order = initial_write ∷ write 1 1 1 2 ∷ read 3 1 7 9 ∷ write 2 2 3 4 ∷ []

-- it is moved back to 4, and no further; the later write waits for it
abbrev pub stale_moments : List ℕ
stale_moments = 0 ∷ 1 ∷ 4 ∷ 4 ∷ []

-- a read before a write that starts earlier, while both go on
abbrev pub overlapping_order : List Op
overlapping_order = initial_write ∷ write 1 1 1 2 ∷ read 3 1 8 20 ∷ write 2 2 3 10 ∷ read 4 2 9 12 ∷ []

-- nothing ended before it started: the read happens as it starts, and the write after it
abbrev pub overlapping_moments : List ℕ
overlapping_moments = 0 ∷ 1 ∷ 8 ∷ 8 ∷ 9 ∷ []

-- a write that never ended, and a read of it
abbrev pub open_order : List Op
open_order = initial_write ∷ write 1 1 5 (2 ^ 63) ∷ read 2 1 8 9 ∷ []

-- each happens as it starts
abbrev pub open_moments : List ℕ
open_moments = 0 ∷ 5 ∷ 8 ∷ []

-- two stale reads, of which the first in the order started last, and a later read that is not stale
abbrev pub twice_stale_order : List Op
twice_stale_order = initial_write ∷ write 1 1 1 2 ∷ read 4 1 20 21 ∷ read 3 1 10 11 ∷ write 2 2 3 4 ∷ read 5 2 30 31 ∷ []

-- both happen where the later write ended
abbrev pub twice_stale_moments : List ℕ
twice_stale_moments = 0 ∷ 1 ∷ 4 ∷ 4 ∷ 4 ∷ 30 ∷ []

-- slack: the read may have started at 5, and the later write ended at 6
abbrev pub slack_order : List Op
slack_order = initial_write ∷ write 1 1 1 2 ∷ read_within 3 1 7 9 2 ∷ write_within 2 2 3 4 2 ∷ []

-- so it is moved by nothing
abbrev pub slack_moments : List ℕ
slack_moments = 0 ∷ 1 ∷ 5 ∷ 5 ∷ []
