use Rattle.std.proofs.Common.{refl}
use Rattle.clap.proofs.OnLiterals.{clap_on_literals}
use Rattle.audit_words.proofs.examples.wrong_files.Goals as goal

pub returns : goal.returns
unfolding clap_on_literals
returns c = record {
  audit_empty = refl;
  two_empty = refl;
  sides_empty = refl;
  live_empty = refl;
  check_empty = refl;
  cert_empty = refl;
  cert_empty_word = refl;
  audit_same = refl;
  check_same = refl;
  trace_empty = refl;
  trace_same = refl;
}
