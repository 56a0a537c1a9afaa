use Rattle.csv.specs.Records.{fields_of}
use Rattle.history_csv.proofs.Steps.{takes}
use Rattle.history_csv.proofs.records.read_next.Goals as goal

pub returns-in-Ok-clause-takes : goal.returns-in-Ok-clause-takes
returns-in-Ok-clause-takes c = takes c.args.reader.now c.read_byte_record.new.self c.in-Ok.found (fields_of c.read_byte_record.new.row) c.requires (c.in-Ok.ensures.ready c.requires.untrimmed) c.in-Ok.ensures.flexible (c.in-Ok.ensures.reads c.requires.untrimmed c.requires.ready)
