-- The real files and outputs as contracts see them.
use Rattle.std.specs.Prelude.{None, option_map}
use Rattle.audit_ports.specs.declared.real.RealShelf.{RealShelf}
use Rattle.audit_ports.specs.declared.real.RealSink.{RealSink}
use Rattle.audit_ports.specs.Shelf.{Shown}
use Rattle.audit_ports.specs.Sink.{SinkShown}

-- what is known of the real files: the counts, the name of the open file with the place in it, and that of the one that is being written
abbrev pub real_shown : {R Dir File : Type 0} → RealShelf R Dir File → Shown
real_shown shelf = record { read_faults = shelf.read_faults; write_faults = shelf.write_faults; misses = shelf.misses; files = None; reading = option_map (λ _. record { name = shelf.name.items; place = shelf.place }) shelf.file; writing = option_map (λ _. shelf.output_name.items) shelf.output }

-- what is known of a real output: its count of faults, and whether it is pending
abbrev pub real_sink_shown : {W : Type 0} → RealSink W → SinkShown
real_sink_shown sink = record { faults = sink.faults; written = None; pending = sink.pending }

-- the stream to which a real output passes all on
abbrev pub stream_of : {W : Type 0} → RealSink W → W
stream_of sink = sink.stream
