use Rattle.std.proofs.Common.{refl, ap, arith}
use Rattle.stale_model.specs.declared.store.Ask.TheVariants.{Write}
use Rattle.stale_model.specs.Journals.{Pair}
use Rattle.run_laws.specs.Examples.{asked, answered}
use Rattle.run_laws.proofs.examples.reply_with_another_stamp.Goals as goal

pub returns : goal.returns
returns c run =
    let stamp = ap (λ (p : Pair). p.stamp) (run.served 0 1 (answered (asked 0 2 4 (Write 2)) 0 5 3 2) refl).pair in
    omega arith
