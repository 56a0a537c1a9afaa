use Rattle.std.proofs.Common.{refl, arith}
use Rattle.history_csv.specs.Parting.{part_count, part_of}
use Rattle.history_csv.proofs.parts.part_of.Goals as goal

pub returns-clause-part : goal.returns-clause-part
unfolding part_of
returns-clause-part c = rw (c.finish.ensures, c.write.ensures, c.default-hasher.ensures) refl

pub returns-clause-within : goal.returns-clause-within
unfolding part_count
returns-clause-within c = omega arith
