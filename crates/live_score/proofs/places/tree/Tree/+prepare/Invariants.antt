use Rattle.live_score.proofs.places.tree.Tree.+prepare.Given as goal

abbrev pub decreases-prepare : goal.decreases-prepare
decreases-prepare l = l.count
