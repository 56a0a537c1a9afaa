use Rattle.std.proofs.Common.{arith}
use Rattle.std.specs.BTreeMap as tree
use Rattle.std.specs.Ordering.{nat_cmp}
use Rattle.std.proofs.lemmas.Grind.{common_steps}
use Rattle.std.proofs.lemmas.List.{map_more}
use Rattle.trace_check.proofs.Replies.{found_for}
use Rattle.trace_check.proofs.reading.replies.with_replies.Goals as goal

pub loop-call-preserved : goal.loop-call-preserved
loop-call-preserved c =
    let same = found_for c.args.lines.now (λ ticket. tree.get nat_cmp c.in_ok-replies.replies ticket) c.in_ok-replies.ensures in
    grind (arith, common_steps, map_more, same)
