use Rattle.std.proofs.Common.{refl}
use Rattle.clap.proofs.OnLiterals.{clap_on_literals}
use Rattle.audit_words.proofs.examples.wrong_traces.Goals as goal

pub returns : goal.returns
unfolding clap_on_literals
returns c = record {
  no_client = refl;
  replicas_above = refl;
  calls_of_all = refl;
  read_quorum = refl;
  no_number = refl;
  run = refl;
}
