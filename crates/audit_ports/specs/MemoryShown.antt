-- A shelf and a sink in memory as they are shown.
use Rattle.std.specs.Prelude.{ℕ, ◌-◌, List, length, Some, option_map, vec_len, vec_capacity}
use Rattle.std.specs.Option.{option_map_or}
use Rattle.audit_ports.specs.declared.calls.Calls.{Calls}
use Rattle.audit_ports.specs.declared.memory.MemoryShelf.{MemoryShelf}
use Rattle.audit_ports.specs.declared.memory.MemorySink.{MemorySink}
use Rattle.audit_ports.specs.Shelf.{Files, Shown}
use Rattle.audit_ports.specs.Sink.{SinkShown}
use Rattle.audit_ports.specs.Listed.{listed}
use Rattle.audit_ports.specs.MemoryFiles.{files_of, bytes_at, reading_of, writing_of}

-- the files of a shelf, by name
abbrev pub shelf_files : MemoryShelf → Files
shelf_files shelf = files_of (listed shelf.files)

-- the calls that a shelf has counted, and those of its calls that fail
abbrev pub shelf_calls : MemoryShelf → Calls
shelf_calls shelf = shelf.calls

-- the most bytes that one read of a shelf gives
abbrev pub shelf_cut : MemoryShelf → ℕ
shelf_cut shelf = shelf.cut

-- what is known of a shelf in memory: all of it
abbrev pub memory_shown : MemoryShelf → Shown
memory_shown shelf = record { read_faults = shelf.read_faults; write_faults = shelf.write_faults; misses = shelf.misses; files = Some (shelf_files shelf); reading = option_map (reading_of (listed shelf.files)) shelf.opened; writing = writing_of shelf.is_writing (listed shelf.files) }

-- how many bytes of the open file were not read yet
abbrev pub bytes_left : MemoryShelf → ℕ
bytes_left shelf = option_map_or (λ opened. length (bytes_at (listed shelf.files) opened.index) - opened.place) shelf.opened 0

-- the calls that a sink has counted, and those of its calls that fail
abbrev pub sink_calls : MemorySink → Calls
sink_calls sink = sink.calls

-- the bytes that were written to a sink
abbrev pub sink_bytes : MemorySink → List ℕ
sink_bytes sink = sink.written.items

-- how many bytes can be written to a sink before it asks for memory
abbrev pub sink_room : MemorySink → ℕ
sink_room sink = vec_capacity sink.written - vec_len sink.written

-- what is known of a sink in memory: all of it
abbrev pub memory_sink_shown : MemorySink → SinkShown
memory_sink_shown sink = record { faults = sink.faults; written = Some (sink_bytes sink); pending = sink.pending }
