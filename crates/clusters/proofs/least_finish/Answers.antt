use Rattle.std.proofs.Common.{refl, arith}
use Rattle.std.proofs.lemmas.Cmp.{ranked}
use Rattle.clusters.proofs.Members.{LeastFinish-next, LeastFinish-tie, LeastFinish-kept}
use Rattle.clusters.proofs.least_finish.Goals as goal

pub returns-in-Less : goal.returns-in-Less
returns-in-Less c = λ ops h.
    let a = c.args.op.now in
    let k = c.args.cluster.now in
    let e = c.latest_finish-finish.ensures in
    let less = ranked c.latest_finish-finish.result k.f _ c.in-Less.ensures in
    rw e (LeastFinish-next ops a.value a k.f k.first refl (omega arith) h)

pub returns-in-Equal : goal.returns-in-Equal
returns-in-Equal c = λ ops h.
    let a = c.args.op.now in
    let k = c.args.cluster.now in
    let e = c.latest_finish-finish.ensures in
    let same = ranked c.latest_finish-finish.result k.f _ c.in-Equal.ensures in
    rw (e, c.min.ensures) (LeastFinish-tie ops a.value a k.f k.first refl (omega arith) h)

pub returns-in-Greater : goal.returns-in-Greater
returns-in-Greater c = λ ops h.
    let a = c.args.op.now in
    let k = c.args.cluster.now in
    let e = c.latest_finish-finish.ensures in
    let more = ranked c.latest_finish-finish.result k.f _ c.in-Greater.ensures in
    LeastFinish-kept ops a.value a k.f k.first (λ _. omega arith) h
