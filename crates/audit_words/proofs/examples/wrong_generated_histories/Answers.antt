use Rattle.std.proofs.Common.{refl}
use Rattle.clap.proofs.OnLiterals.{clap_on_literals}
use Rattle.audit_words.proofs.examples.wrong_generated_histories.Goals as goal

pub returns : goal.returns
unfolding clap_on_literals
returns c = record {
  seed_above = refl;
  too_many_digits = refl;
  no_operation = refl;
  operations_above = refl;
  no_key = refl;
  keys_above = refl;
  no_number = refl;
  two_words = refl;
  four_words = refl;
  gen_workers = refl;
  no_worker = refl;
  workers_above = refl;
  trial_cert = refl;
}
