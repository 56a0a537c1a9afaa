use Rattle.history_gen.specs.Generator.{HasMade}
use Rattle.history_gen.proofs.gen_history.Given as goal

abbrev pub invariant-loop-i : goal.invariant-loop-i
invariant-loop-i l = HasMade l.seed l.keys l.i l.generator
