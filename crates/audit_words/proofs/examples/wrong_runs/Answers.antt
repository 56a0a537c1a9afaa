use Rattle.std.proofs.Common.{refl}
use Rattle.clap.proofs.OnLiterals.{clap_on_literals}
use Rattle.audit_words.proofs.examples.wrong_runs.Goals as goal

pub returns : goal.returns
unfolding clap_on_literals
returns c = record {
  no_file = refl;
  one_file = refl;
  same_file = refl;
  three_files = refl;
  empty_file = refl;
  cert = refl;
  twice = refl;
  no_number = refl;
  too_many_digits = refl;
  shortened = refl;
}
