use Rattle.std.proofs.Common.{refl}
use Rattle.clap.proofs.OnLiterals.{clap_on_literals}
use Rattle.audit_words.proofs.examples.runs_and_other_modes.Goals as goal

pub returns : goal.returns
unfolding clap_on_literals
returns c = record {
  bench = refl;
  audit = refl;
  check = refl;
  capital = refl;
  no_mode = refl;
}
