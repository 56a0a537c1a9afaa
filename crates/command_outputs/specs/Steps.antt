-- What the calls that write an output or a file leave, by their result.
use Rattle.std.specs.Prelude.{ℕ, List, Result, OnOk, OnErr}
use Rattle.audit_ports.specs.Shelf.{Shown}
use Rattle.audit_ports.specs.Sink.{SinkShown}
use Rattle.command_outputs.specs.Output.{WritesWhole, WritesPart, WritesFile, WritesFilePart}

-- an output gained this text and handed it on, or one of its calls failed
pub record Prints {T E : Type 0} (text : List ℕ) (old : SinkShown) (result : Result T E) (new : SinkShown) : Type 0 where
  pub ok : OnOk result (WritesWhole text old new)
  pub refused : OnErr result (WritesPart text old new)

-- a file was written whole, or one of the calls failed
pub record WritesOut {T E : Type 0} (name text : List ℕ) (old : Shown) (result : Result T E) (new : Shown) : Type 0 where
  pub ok : OnOk result (WritesFile name text old new)
  pub refused : OnErr result (WritesFilePart name text old new)
