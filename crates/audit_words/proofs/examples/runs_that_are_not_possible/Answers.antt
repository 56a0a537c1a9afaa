use Rattle.std.proofs.Common.{refl}
use Rattle.clap.proofs.OnLiterals.{clap_on_literals}
use Rattle.audit_words.proofs.examples.runs_that_are_not_possible.Goals as goal

pub returns : goal.returns
unfolding clap_on_literals
returns c = record {
  calls_of_one = refl;
  calls_of_two = refl;
  calls_of_all = refl;
  read_quorum = refl;
  write_quorum = refl;
  one_replica = refl;
}
