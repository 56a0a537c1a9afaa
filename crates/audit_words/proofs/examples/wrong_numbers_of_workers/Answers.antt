use Rattle.std.proofs.Common.{refl}
use Rattle.clap.proofs.OnLiterals.{clap_on_literals}
use Rattle.audit_words.proofs.examples.wrong_numbers_of_workers.Goals as goal

pub returns : goal.returns
unfolding clap_on_literals
returns c = record {
  zero = refl;
  above = refl;
  too_many_digits = refl;
  greatest = refl;
  signed = refl;
  below = refl;
  letter = refl;
  empty = refl;
}
