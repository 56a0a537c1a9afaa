use Rattle.std.proofs.Common.{◌<◌, length, get_or, refl, sym, true≢false, arith}
use Rattle.std.specs.Prelude.{None}
use Rattle.std.proofs.lemmas.Option.{slice_get-get_or}
use Rattle.stale_model.specs.declared.Cluster.{Cluster}
use Rattle.delta_score.proofs.FinishOrders.{in_conflict, next_is_last, last_stays, none_at_end}
use Rattle.delta_score.proofs.conflicts.conflict_in.Goals as goal
use Rattle.delta_score.proofs.conflicts.conflict_in.Goals.{then-last_start, else-last_start}

abbrev past : Cluster
past = record { write = 0; f = 0; w = 0; s = None; first = 0; last = 0 }

pub returns-then-conflict_at : goal.returns-then-conflict_at
returns-then-conflict_at c =
    let g = c.loop-place.invariant in
    let low = g.before in
    let within : c.loop-place.place < length c.args.sorted.now = c.loop-place-test.true in
    in_conflict c.args.d c.args.sorted.now c.loop-place.place c.loop-place.last _ _ g (slice_get-get_or c.args.sorted.now c.loop-place.last _ (omega arith))
    (slice_get-get_or c.args.sorted.now c.loop-place.place _ within) c.requires.differ (c.if-conflict_at.ensures.0 refl)

pub loop-place-preserved : goal.loop-place-preserved
loop-place-preserved c =
    let g = c.loop-place.invariant in
    let low = g.before in
    let sorted = c.args.sorted.now in
    let within : c.loop-place.place < length sorted = c.loop-place-test.true in
    let far : Cluster = get_or sorted c.loop-place.last past in
    let next : Cluster = get_or sorted c.loop-place.place past in
    let last_at = slice_get-get_or sorted c.loop-place.last past (omega arith) in
    let next_at = slice_get-get_or sorted c.loop-place.place past within in
    elim c.if-last_start.branch [
      | then-last_start w ↦
          rw w.last-is
          (next_is_last c.args.d sorted c.loop-place.place c.loop-place.last far next g last_at next_at c.requires.by_finish (λ h. true≢false (sym (c.if-conflict_at.ensures.1 h)))
          (rw (c.last_start.ensures, c.last_start-in-loop-place.ensures) at w.if-last_start.true))
      | else-last_start w ↦
          rw w.last-is
          (last_stays c.args.d sorted c.loop-place.place c.loop-place.last far next g last_at next_at c.requires.by_finish (λ h. true≢false (sym (c.if-conflict_at.ensures.1 h)))
          (rw (c.last_start.ensures, c.last_start-in-loop-place.ensures) at w.if-last_start.false))
    ]

pub returns : goal.returns
returns c =
    none_at_end c.args.d c.args.sorted.now c.loop-place.place c.loop-place.last c.loop-place.invariant c.loop-place-test.false
