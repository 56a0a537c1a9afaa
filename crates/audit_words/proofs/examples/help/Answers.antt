use Rattle.std.proofs.Common.{refl}
use Rattle.clap.proofs.OnLiterals.{clap_on_literals}
use Rattle.audit_words.proofs.examples.help.Goals as goal

pub returns : goal.returns
unfolding clap_on_literals
returns c = record {
  long = refl;
  short = refl;
  after_file = refl;
  mode = refl;
}
