use Rattle.std.proofs.Common.{refl}
use Rattle.clap.proofs.OnLiterals.{clap_on_literals}
use Rattle.audit_words.proofs.examples.values_of_options.Goals as goal

pub returns : goal.returns
unfolding clap_on_literals
returns c = record {
  minus_after_blank = refl;
  minus_after_equals = refl;
  equals = refl;
  minus_alone = refl;
}
