use Rattle.std.proofs.Common.{refl}
use Rattle.std.proofs.lemmas.Fmt.{decimal_digit}
use Rattle.bench_commands.proofs.refusal.not_started_line.Goals as goal

pub returns : goal.returns
returns c = rw (decimal_digit c.args.replica c.requires) refl
