use Rattle.std.proofs.Common.{length, sym, subst, ◌∙◌}
use Rattle.stale_model.specs.Operations.{operations}
use Rattle.stale_model.specs.Clusters.{AreClusters}
use Rattle.clusters.proofs.Ordering.{AreClusters-from_table}
use Rattle.clusters.proofs.Records.{rising_operations, values_of}
use Rattle.clusters.proofs.clusters_of.Goals as goal

pub returns-in-Ok : goal.returns-in-Ok
returns-in-Ok c =
    let key = c.args.key.now in
    let valid = c.requires.valid in
    subst (AreClusters (operations key)) (sym (c.from_vec.ensures ∙ c.in-Ok.ensures))
    (AreClusters-from_table (operations key) (length key.values) c.args.table.now c.requires.clusters (rising_operations key valid) (values_of key valid))
