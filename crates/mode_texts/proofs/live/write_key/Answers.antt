-- A key has few lines.
use Rattle.std.proofs.Common.{arith}
use Rattle.mode_texts.proofs.LiveLines.{lines_are_few}
use Rattle.mode_texts.proofs.live.write_key.Goals as goal

pub returns-clause-few : goal.returns-clause-few
returns-clause-few c =
    let few = lines_are_few c.args.key.now c.in_ok-verdict.verdict c.requires c.in_ok-verdict.ensures in
    let count = c.line_count.ensures in
    omega arith
