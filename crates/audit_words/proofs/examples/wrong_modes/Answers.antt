use Rattle.std.proofs.Common.{refl}
use Rattle.clap.proofs.OnLiterals.{clap_on_literals}
use Rattle.audit_words.proofs.examples.wrong_modes.Goals as goal

pub returns : goal.returns
unfolding clap_on_literals
returns c = record {
  no_word = refl;
  empty = refl;
  other = refl;
  longer = refl;
  capital = refl;
  file_first = refl;
}
