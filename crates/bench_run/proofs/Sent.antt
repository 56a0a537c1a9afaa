-- A client and its pass may go to another thread.
use denote.Param.Send.{IsSend, sendable}
use Rattle.std.proofs.Crossing.{crosses}
use Rattle.post_box.proofs.passes.SenderPass.TheSendSync as sender
use Rattle.quorum_client.proofs.client.Client.TheSendSync as client
use Rattle.key_recorder.proofs.letters.RecordLetter.TheSendSync as letter
use Rattle.key_recorder.specs.contracts.pass.Lane as Lane
use Rattle.key_recorder.specs.contracts.pass.RecorderPass as RecorderPass
use Rattle.bench_run.specs.contracts.runner.Runner as Runner

lane_send : IsSend Lane.the_row
lane_send = search (sendable, crosses, sender.the_send, letter.the_send) depth 40

pass_send : IsSend RecorderPass.the_row
pass_send = let lane = lane_send in search (sendable, crosses) depth 40

pub runner_send : IsSend Runner.the_row
runner_send = let made = client.the_send in let pass = pass_send in search sendable depth 40
