use Rattle.std.proofs.Common.{refl}
use Rattle.clap.proofs.OnLiterals.{clap_on_literals}
use Rattle.audit_words.proofs.examples.runs_above_their_limits.Goals as goal

pub returns : goal.returns
unfolding clap_on_literals
returns c = record {
  clients = refl;
  replicas = refl;
  keys = refl;
  writes = refl;
  seed = refl;
  shards = refl;
  workers = refl;
}
