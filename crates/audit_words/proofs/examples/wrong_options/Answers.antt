use Rattle.std.proofs.Common.{refl}
use Rattle.clap.proofs.OnLiterals.{clap_on_literals}
use Rattle.audit_words.proofs.examples.wrong_options.Goals as goal

pub returns : goal.returns
unfolding clap_on_literals
returns c = record {
  cert_twice = refl;
  workers_twice = refl;
  check_workers = refl;
  check_cert = refl;
  two_workers = refl;
  sides_cert = refl;
  live_workers = refl;
  live_cert = refl;
  trace_workers = refl;
  trace_cert = refl;
  audit_seed = refl;
  unknown = refl;
  shortened = refl;
  one_letter = refl;
  no_value = refl;
  option_as_value = refl;
}
