use Rattle.std.proofs.Common.{subst}
use Rattle.stale_model.specs.Journals.{IsJournal}
use Rattle.replica_node.specs.Replicas.{ReplicaView}
use Rattle.replica_node.proofs.Replica.into_journal.Goals as goal

pub returns-clause-served : goal.returns-clause-served
returns-clause-served c = subst (λ (r : ReplicaView). IsJournal r.number r.journal) c.self.view_is c.self.invariant.journal
