use Rattle.std.proofs.Common.{◌∙◌, suc, length, ap, arith, rules}
use Rattle.std.proofs.lemmas.List.{length-set}
use Rattle.stale_model.specs.Operations.{operations, IsWrite}
use Rattle.stale_model.proofs.Members.{taken_is_there}
use Rattle.clusters.proofs.Records.{item, here}
use Rattle.both_sides.proofs.WriteStarts.{starts_read, starts_write, starts_all}
use Rattle.both_sides.proofs.early.write_starts.Goals as goal
use Rattle.both_sides.proofs.early.write_starts.Goals.{then-eq, else-eq}

pub loop-op-preserved : goal.loop-op-preserved
loop-op-preserved c =
    let key = c.args.key.now in
    let i = c.loop-op.op-index in
    let inv = c.loop-op.invariant in
    let starts = c.loop-op.starts.items in
    let a = item c.as_slice-op-items.result.now i in
    let at = here _ key i c.requires.valid inv.ops c.loop-op-test.true in
    let low = at.valid.value in
    let many = inv.many in
    elim c.if-eq.branch [
      | then-eq w ↦
          let write : IsWrite a = search rules in
          record {
            ops = inv.ops;
            many = rw w.starts-is (length-set starts a.value w.earliest_start.result ∙ inv.many);
            starts =
                rw w.starts-is
                (starts_write key c.requires.valid c.requires.matched i a at starts inv.starts write w.earliest_start.result w.earliest_start.ensures (omega arith)
                (λ v there. taken_is_there (suc i) (operations key) v there));
          }
      | else-eq w ↦ record {
        ops = inv.ops;
        many = rw w.starts-is inv.many;
        starts = rw w.starts-is (starts_read key c.requires.valid c.requires.matched i a at starts inv.starts (λ write. search rules));
      }
    ]

pub returns : goal.returns
returns c =
    let inv = c.loop-op.invariant in
    let past = c.loop-op-test.false in
    let n = ap length inv.ops in
    record { many = inv.many; each = starts_all c.args.key.now c.loop-op.op-index c.loop-op.starts.items (omega arith) inv.starts }
