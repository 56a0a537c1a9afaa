use Rattle.std.proofs.Common.{sym}
use Rattle.csv.specs.Records.{fields_of}
use Rattle.csv.proofs.RecordFacts.{field-get}
use Rattle.history_csv.proofs.FieldFacts.{field-within}
use Rattle.history_csv.proofs.header.field.Goals as goal

pub unreachable-requires : goal.unreachable-requires
unreachable-requires c = field-within (fields_of c.args.row.now) c.args.place c.requires (sym c.in-None.ensures.value)

pub returns : goal.returns
returns c = sym (field-get (fields_of c.args.row.now) c.args.place _ (sym c.in-Some.ensures.value))
