use Rattle.std.proofs.Common.{refl}
use Rattle.clap.proofs.OnLiterals.{clap_on_literals}
use Rattle.audit_words.proofs.examples.names_of_files.Goals as goal

pub returns : goal.returns
unfolding clap_on_literals
returns c = record {
  same_by_another_path = refl;
  blank = refl;
  minus_sign = refl;
  no_ascii = refl;
  mode_as_name = refl;
}
