use Rattle.std.proofs.Common.{arith}
use Rattle.std.proofs.lemmas.Cmp.{ranked}
use Rattle.clusters.proofs.Members.{GreatestStart-first, GreatestStart-next, GreatestStart-tie, GreatestStart-kept, ReadsOf-kept}
use Rattle.clusters.proofs.greatest_start.Goals as goal

pub returns-in-Write-default : goal.returns-in-Write-default
returns-in-Write-default c = λ ops w is h.
    let write = c.in-Write-default.is-0 in
    ReadsOf-kept ops c.args.op.now w c.args.cluster.now.s c.args.cluster.now.last (λ read _. cc) h

pub returns-in-Read-None : goal.returns-in-Read-None
returns-in-Read-None c = λ ops w is h.
    let none = rw c.in-Read-None.is-1 at h in
    rw c.earliest_start-start.ensures (GreatestStart-first ops w.value c.args.op.now c.in-Read-None.is-0 is none.none)

pub returns-in-Less : goal.returns-in-Less
returns-in-Less c = λ ops w is h.
    let s = c.in-Read-Some.s in
    let e = c.earliest_start-start.ensures in
    let some = rw c.in-Read-Some.is-1 at h in
    let less = ranked c.earliest_start-start.result s _ c.in-Less.ensures in
    GreatestStart-kept ops w.value c.args.op.now s c.args.cluster.now.last (λ _ _. omega arith) some

pub returns-in-Equal : goal.returns-in-Equal
returns-in-Equal c = λ ops w is h.
    let s = c.in-Read-Some.s in
    let e = c.earliest_start-start.ensures in
    let some = rw c.in-Read-Some.is-1 at h in
    let same = ranked c.earliest_start-start.result s _ c.in-Equal.ensures in
    rw (e, c.min.ensures) (GreatestStart-tie ops w.value c.args.op.now s c.args.cluster.now.last c.in-Read-Some.is-0 is (omega arith) some)

pub returns-in-Greater : goal.returns-in-Greater
returns-in-Greater c = λ ops w is h.
    let s = c.in-Read-Some.s in
    let e = c.earliest_start-start.ensures in
    let some = rw c.in-Read-Some.is-1 at h in
    let more = ranked c.earliest_start-start.result s _ c.in-Greater.ensures in
    rw e (GreatestStart-next ops w.value c.args.op.now s c.args.cluster.now.last c.in-Read-Some.is-0 is (omega arith) some)
