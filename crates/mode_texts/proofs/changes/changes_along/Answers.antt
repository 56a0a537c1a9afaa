-- The next operation can be fed, and what is left of feeding it.
use Rattle.std.proofs.Common.{◌≡◌, ◌∙◌, ◌+◌, List, ap, subst, take}
use Rattle.std.proofs.lemmas.List.{get_or_default}
use Rattle.stale_model.specs.declared.Op.{Op}
use Rattle.stale_model.specs.Counted.{IsScore}
use Rattle.live_score.specs.Feeding.{LiveView}
use Rattle.mode_texts.proofs.Feeding.{can_be_fed, fed_next, changes_next}
use Rattle.mode_texts.proofs.changes.changes_along.Goals as goal

pub feed-requires : goal.feed-requires
feed-requires c =
    let ops = c.args.ops.now in
    let i = c.loop-op.op-index in
    let is = c.loop-op.invariant in
    can_be_fed c.args.values ops c.requires.can i _ c.loop-op-test.true (get_or_default ops i _ _ c.loop-op-test.true) c.loop-op.live is.fed is.places is.values

pub loop-op-preserved : goal.loop-op-preserved
loop-op-preserved c =
    let ops = c.args.ops.now in
    let i = c.loop-op.op-index in
    let is = c.loop-op.invariant in
    let fed : c.feed.new.self.fed ≡ take (i + 1) ops =
    ap (λ (l : LiveView). l.fed) c.feed.ensures.fed
    ∙ fed_next c.args.values ops c.requires.can i _ c.loop-op-test.true (get_or_default ops i _ _ c.loop-op-test.true) c.loop-op.live.fed c.feed.result is.fed c.feed.ensures.answer
    in
    record {
      fed = fed;
      places = ap (λ (l : LiveView). l.places) c.feed.ensures.fed ∙ is.places;
      values = ap (λ (l : LiveView). l.values) c.feed.ensures.fed ∙ is.values;
      changes = changes_next ops i _ c.loop-op.changes.items c.keep_change.new.changes.items c.loop-op.score c.score-score.result c.loop-op-test.true (get_or_default ops i _ _ c.loop-op-test.true)
          is.changes (subst (λ (xs : List Op). IsScore xs c.score-score.result) fed c.score-score.ensures) c.in_ok-keep_change.ensures;
    }
