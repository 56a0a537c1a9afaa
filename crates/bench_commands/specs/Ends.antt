-- How a bench ends: what each status means.
use Rattle.std.specs.Prelude.{◌≡◌, ◌≢◌, ◌⊎◌, ℕ, ◌≤◌, List, Option, None}
use Rattle.audit_ports.specs.Shelf.{Shown, Files, Rose, WhereTold, file_at}
use Rattle.audit_ports.specs.Sink.{SinkShown}
use Rattle.audit_ports.specs.Crew.{CrewView}
use Rattle.audit_words.specs.declared.bench.Bench.{Bench}
use Rattle.command_outputs.specs.Lines.{SaysLine, write_failed_line, memory_line}
use Rattle.audit_commands.specs.Ends.{Outside}
use Rattle.bench_run.specs.Jobs.{JobView}
use Rattle.bench_run.specs.Drive.{AreBegun, IsRefusedAt}
use Rattle.bench_commands.specs.declared.status.BenchStatus.{BenchStatus}
use Rattle.bench_commands.specs.declared.status.BenchStatus.TheVariants as status
use Rattle.bench_commands.specs.Status.{number}
use Rattle.bench_commands.specs.Lines.{not_started_line}
use Rattle.bench_commands.specs.Made.{Made, IsMade}
use Rattle.bench_commands.specs.Outputs.{texts_of, WritesAll, WritesSome}

-- a bench was made, and all its texts were written
pub record BenchDone (b : Bench) (old new : Shown) (out out' : SinkShown) (crew crew' : CrewView JobView) : Type 0 where
  pub made : Made
  pub is_made : IsMade b.settings made crew crew'
  pub written : WritesAll b (texts_of made) old new out out'

-- a bench was made, and a call of writing its texts failed
pub record BenchUnwritten (b : Bench) (old new : Shown) (out out' : SinkShown) (crew crew' : CrewView JobView) : Type 0 where
  pub made : Made
  pub is_made : IsMade b.settings made crew crew'
  pub written : WritesSome b (texts_of made) old new out out'

-- done, and nothing was said on the error output
pub record EndsDone (b : Bench) (old new : Outside) (crew crew' : CrewView JobView) : Type 0 where
  pub done : BenchDone b old.shelf new.shelf old.out new.out crew crew'
  pub err : new.err ≡ old.err

-- a write failed, and the line says so
pub record EndsWriteFailed (b : Bench) (old new : Outside) (crew crew' : CrewView JobView) : Type 0 where
  pub unwritten : BenchUnwritten b old.shelf new.shelf old.out new.out crew crew'
  pub says : SaysLine write_failed_line old.err new.err

-- refused before any output: shelf and output are as they were, and the error output gained this line
pub record Refuses (line : List ℕ) (old new : Outside) : Type 0 where
  pub shelf : new.shelf ≡ old.shelf
  pub out : new.out ≡ old.out
  pub says : SaysLine line old.err new.err

-- the crew refused a replica, which the line names
pub record EndsNotStarted (b : Bench) (old new : Outside) (crew crew' : CrewView JobView) : Type 0 where
  pub replica : ℕ
  pub stopped : IsRefusedAt b.settings.replicas replica crew crew'
  pub refuses : Refuses (not_started_line replica) old new

-- the crew refused no start: it is as it was, or it began all replicas, in order
abbrev pub IsUnrefused : ℕ → CrewView JobView → CrewView JobView → Type 0
IsUnrefused replicas crew crew' = (crew' ≡ crew) ⊎ AreBegun replicas crew crew'

-- memory was wanting, and no replica was refused
pub record EndsOutOfMemory (b : Bench) (old new : Outside) (crew crew' : CrewView JobView) : Type 0 where
  pub unrefused : IsUnrefused b.settings.replicas crew crew'
  pub refuses : Refuses memory_line old new

-- what a status of a bench means
abbrev pub Ends : Bench → Outside → Outside → CrewView JobView → CrewView JobView → BenchStatus → Type 0
Ends b old new crew crew' status.Done = EndsDone b old new crew crew'
Ends b old new crew crew' status.WriteFailed = EndsWriteFailed b old new crew crew'
Ends b old new crew crew' status.NotStarted = EndsNotStarted b old new crew crew'
Ends b old new crew crew' status.OutOfMemory = EndsOutOfMemory b old new crew crew'

-- the bench ended as this number of a status means
pub record EndsAs (b : Bench) (old new : Outside) (crew crew' : CrewView JobView) (answer : ℕ) : Type 0 where
  pub status : BenchStatus
  pub number_is : answer ≡ number status
  pub ends : Ends b old new crew crew' status

-- every file but these two is as before
abbrev pub KeepsOtherFiles : List ℕ → List ℕ → Option Files → Option Files → Type 0
KeepsOtherFiles one two old new =
    WhereTold (λ (o n : Files). (other : List ℕ) → other ≢ one → other ≢ two → file_at n other ≡ file_at o other) old new

-- every file but the two of the bench is as before, no count fell, nothing was read, and nothing is being written
pub record KeepsShelf (b : Bench) (old new : Shown) : Type 0 where
  pub files : KeepsOtherFiles b.history b.journal old.files new.files
  pub read_faults : new.read_faults ≡ old.read_faults
  pub misses : new.misses ≡ old.misses
  pub write_faults : old.write_faults ≤ new.write_faults
  pub writing : new.writing ≡ None

-- the shelf keeps all that the bench does not write, and no count of an output fell
pub record KeepsOutside (b : Bench) (old new : Outside) : Type 0 where
  pub shelf : KeepsShelf b old.shelf new.shelf
  pub out : old.out.faults ≤ new.out.faults
  pub err : old.err.faults ≤ new.err.faults

-- where no write failed and no replica was refused, the bench was done, or memory was wanting
abbrev pub IsComplete : Outside → Outside → CrewView JobView → CrewView JobView → ℕ → Type 0
IsComplete old new crew crew' answer =
    (Rose old.shelf.write_faults new.shelf.write_faults → ⊥) → (Rose old.out.faults new.out.faults → ⊥) → (Rose crew.count crew'.count → ⊥)
    → (answer ≡ number status.Done) ⊎ (answer ≡ number status.OutOfMemory)

-- all that is said of the end of a bench
pub record EndsBench (b : Bench) (old new : Outside) (crew crew' : CrewView JobView) (answer : ℕ) : Type 0 where
  pub ends : EndsAs b old new crew crew' answer
  pub keeps : KeepsOutside b old new
  pub complete : IsComplete old new crew crew' answer
