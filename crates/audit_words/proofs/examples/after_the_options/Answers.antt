use Rattle.std.proofs.Common.{refl}
use Rattle.clap.proofs.OnLiterals.{clap_on_literals}
use Rattle.audit_words.proofs.examples.after_the_options.Goals as goal

pub returns : goal.returns
unfolding clap_on_literals
returns c = record {
  as_file = refl;
  between = refl;
  twice = refl;
  no_option = refl;
}
