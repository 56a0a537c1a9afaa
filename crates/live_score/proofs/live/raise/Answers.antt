use Rattle.live_score.proofs.Raising.{vacated_filled, score_raises}
use Rattle.live_score.proofs.live.raise.Goals as goal

pub returns-clause-places : goal.returns-clause-places
returns-clause-places c = vacated_filled c.args.tree.now c.put.new.self c.put-2.new.self c.args.at c.args.place c.put.ensures c.put-2.ensures

pub returns-clause-score : goal.returns-clause-score
returns-clause-score c =
    score_raises c.args.tree.now c.put.new.self c.put-2.new.self c.args.at c.greatest_score-asked.result c.args.place c.args.score c.score_after.result c.put.ensures c.put-2.ensures c.greatest_score-asked.ensures c.score_after.ensures
