-- A reply in the next place.
use Rattle.std.proofs.Common.{arith}
use Rattle.quorum_client.proofs.Replies.{filled_more}
use Rattle.quorum_client.proofs.gather.Taken.add.Goals as goal

pub returns-then-not-has_reply-clause-filled : goal.returns-then-not-has_reply-clause-filled
returns-then-not-has_reply-clause-filled c = filled_more c.args.self.now _ (omega arith) c.requires.filled
