use Rattle.std.proofs.Common.{get_or, arith}
use Rattle.std.proofs.lemmas.Option.{slice_get-get_or}
use Rattle.both_sides.specs.declared.gaps.Span.{Span}
use Rattle.both_sides.proofs.Pass.{none_before, AreGreatest-more, greatest-at_end}
use Rattle.both_sides.proofs.gaps.greatest_of.Goals as goal

abbrev past : Span
past = record { write = 0; f = 0; w = 0; s = 0 }

pub loop-span-init : goal.loop-span-init
loop-span-init c = none_before _

pub loop-span-preserved : goal.loop-span-preserved
loop-span-preserved c =
    let spans = c.args.spans.now in
    let place = c.loop-span.span-index in
    let here : Span = get_or spans place past in
    AreGreatest-more spans place c.loop-span.greatest_start c.loop-span.gap here c.loop-span.invariant (slice_get-get_or spans place past c.loop-span-test.true)
    c.max-greatest_start.result c.max-gap.result (omega arith) (omega arith)

pub returns : goal.returns
returns c = greatest-at_end _ _ _ _ c.loop-span.invariant c.loop-span-test.false
