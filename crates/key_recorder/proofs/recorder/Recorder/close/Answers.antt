-- The end stands last in each lane.
use Rattle.std.proofs.Common.{◌≡◌, true, false, map, ap, ◌∙◌}
use Rattle.key_recorder.specs.declared.letters.RecordLetter.TheVariants.{End}
use Rattle.key_recorder.specs.Recorders.{PassView, with_letter}
use Rattle.key_recorder.specs.Passes.{lane_of}
use Rattle.key_recorder.proofs.Lanes.{all_closed, views_sent}
use Rattle.key_recorder.proofs.recorder.Recorder.close.Goals as goal

pub invariant_of-pass : goal.invariant_of-pass
invariant_of-pass g c =
    let client = c.pass.inside.client in
    let still : c.pass.inside.closed ≡ false = ap (λ p. p.closed) c.pass.view_is ∙ c.requires.not_closed in
    record {
      not_closed = λ e. let not : true ≡ false = e in cc;
      closed = λ _. rw c.send_on_all.ensures (all_closed client c.pass.inside.lanes.items (c.pass.invariant.not_closed still));
    }

pub returns : goal.returns
returns g c =
    let client = c.pass.inside.client in
    let still : c.pass.inside.closed ≡ false = ap (λ p. p.closed) c.pass.view_is ∙ c.requires.not_closed in
    let lanes = ap (λ ls. map lane_of ls) c.send_on_all.ensures
    ∙ views_sent client (End client) c.pass.inside.lanes.items (c.pass.invariant.not_closed still)
    in
    ap (λ vs. let p : PassView = record { client = client; lanes = vs; closed = true } in p) lanes
    ∙ ap (λ p. let q : PassView = record { client = p.client; lanes = map (with_letter (End p.client)) p.lanes; closed = true } in q) c.pass.view_is
