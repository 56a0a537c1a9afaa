use Rattle.audit_workers.proofs.Filling.{filled_put}
use Rattle.audit_workers.proofs.workers.put.Goals as goal

pub returns-clause-filled : goal.returns-clause-filled
returns-clause-filled c = λ claimed filled. filled_put c.args.history.now.keys claimed c.args.verdicts.now.items c.args.claim c.requires.claim filled
