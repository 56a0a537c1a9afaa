use Rattle.std.proofs.Common.{refl}
use Rattle.clap.proofs.OnLiterals.{clap_on_literals}
use Rattle.audit_words.proofs.examples.settings_of_traces.Goals as goal

pub returns : goal.returns
unfolding clap_on_literals
returns c = record {
  none = refl;
  some = refl;
  all = refl;
}
