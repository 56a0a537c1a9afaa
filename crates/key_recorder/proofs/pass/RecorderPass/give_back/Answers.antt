-- The sender of one lane goes back.
use Rattle.std.proofs.Common.{ap, sym, ◌∙◌}
use Rattle.key_recorder.specs.Passes.{lane_of}
use Rattle.key_recorder.proofs.Lanes.{lane_at, within_views, settled_at}
use Rattle.key_recorder.proofs.pass.RecorderPass.give_back.Goals as goal

pub take_sender-requires : goal.take_sender-requires
take_sender-requires c =
    let lanes = c.self.inside.lanes.items in
    let lane = c.index_mut.result.now in
    let are = ap (λ p. p.lanes) c.self.view_is in
    let less = within_views lanes c.args.self.now.lanes c.args.shard are c.requires.there in
    sym (ap (λ l. l.here) (lane_at lanes c.args.self.now.lanes c.args.shard lane (lane_of lane) are less c.index_mut.ensures.value))
    ∙ c.requires.here (lane_of lane)

pub returns-clause-settled : goal.returns-clause-settled
returns-clause-settled c =
    let lanes = c.self.inside.lanes.items in
    let lane = c.index_mut.result.now in
    let are = ap (λ p. p.lanes) c.self.view_is in
    let less = within_views lanes c.args.self.now.lanes c.args.shard are c.requires.there in
    rw (← c.self.view_is)
    (settled_at c.self.inside.client c.self.inside.closed lanes c.args.shard c.take_sender.new.lane lane less c.index_mut.ensures.value c.take_sender.ensures.lane)
