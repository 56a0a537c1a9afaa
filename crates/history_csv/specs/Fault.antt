-- A step that may fail with a fault, and what follows it.
use Rattle.std.specs.Prelude.{Option, Some, None, Result, Ok, Err}
use Rattle.history_csv.specs.declared.HistoryFault.{HistoryFault}

-- what follows from the value, or this fault where there is none
abbrev pub or_fault : {X Y : Type 0} → HistoryFault → Option X → (X → Result Y HistoryFault) → Result Y HistoryFault
or_fault fault None next = Err fault
or_fault fault (Some x) next = next x

-- what follows from the value, or the fault that stands in its place
abbrev pub then_next : {X Y : Type 0} → Result X HistoryFault → (X → Result Y HistoryFault) → Result Y HistoryFault
then_next (Err fault) next = Err fault
then_next (Ok x) next = next x
