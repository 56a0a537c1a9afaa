use Rattle.audit_words.proofs.Benches.{one_task_at_most}
use Rattle.audit_words.proofs.laws.one_task_at_most.Goals as goal

pub returns : goal.returns
returns c = one_task_at_most
