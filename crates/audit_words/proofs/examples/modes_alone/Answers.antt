use Rattle.std.proofs.Common.{refl}
use Rattle.clap.proofs.OnLiterals.{clap_on_literals}
use Rattle.audit_words.proofs.examples.modes_alone.Goals as goal

pub returns : goal.returns
unfolding clap_on_literals
returns c = record {
  audit = refl;
  two = refl;
  sides = refl;
  live = refl;
  check = refl;
  long_name = refl;
}
