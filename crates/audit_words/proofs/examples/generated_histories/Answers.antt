use Rattle.std.proofs.Common.{refl}
use Rattle.clap.proofs.OnLiterals.{clap_on_literals}
use Rattle.audit_words.proofs.examples.generated_histories.Goals as goal

pub returns : goal.returns
unfolding clap_on_literals
returns c = record {
  generate = refl;
  trial = refl;
  workers = refl;
  least = refl;
  most = refl;
  zeros = refl;
}
