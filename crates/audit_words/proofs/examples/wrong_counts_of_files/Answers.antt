use Rattle.std.proofs.Common.{refl}
use Rattle.clap.proofs.OnLiterals.{clap_on_literals}
use Rattle.audit_words.proofs.examples.wrong_counts_of_files.Goals as goal

pub returns : goal.returns
unfolding clap_on_literals
returns c = record {
  audit_none = refl;
  audit_two = refl;
  measure_none = refl;
  two_two = refl;
  sides_two = refl;
  live_none = refl;
  live_two = refl;
  check_one = refl;
  check_three = refl;
  trace_one = refl;
  trace_three = refl;
}
