use Rattle.std.proofs.Common.{◌≡◌, length, take, get_or, ap, ◌∙◌, arith}
use Rattle.std.specs.List.{range_with_len}
use Rattle.std.proofs.lemmas.List.{length-map, length-take, take_more}
use Rattle.std.proofs.lemmas.List.FromFn.{length-range_with_len}
use Rattle.history_csv.specs.Parting.{times_in}
use Rattle.history_csv.proofs.RangeLists.{count-at, count-more, no-times, times-few}
use Rattle.history_csv.proofs.part_keys.counts_of.Goals as goal

pub loop-place-init : goal.loop-place-init
loop-place-init c = c.in-Ok.ensures.items_if_clones_equal (λ y same. same) ∙ no-times 0 c.args.count

pub index_mut-requires : goal.index_mut-requires
index_mut-requires c =
    let front = take c.loop-place.place c.args.numbers.now in
    let low = c.requires c.loop-place.place 0 c.loop-place-test.true in
    let long : length c.loop-place.counts.items ≡ c.args.count = ap length c.loop-place.invariant ∙ length-map (range_with_len 0 c.args.count) (times_in front) ∙ length-range_with_len 0 c.args.count in
    omega (arith, c.loop-place.counts.ok.0)

pub overflow_add-index_mut : goal.overflow_add-index_mut
overflow_add-index_mut c =
    let numbers = c.args.numbers.now in
    let front = take c.loop-place.place numbers in
    let number = get_or numbers c.loop-place.place 0 in
    let low = c.requires c.loop-place.place 0 c.loop-place-test.true in
    let here = c.index_mut.ensures.value ∙ count-at front number c.args.count low c.loop-place.counts.items _ c.loop-place.invariant in
    omega (arith, here, times-few front number, length-take c.loop-place.place numbers)

pub loop-place-preserved : goal.loop-place-preserved
loop-place-preserved c =
    let numbers = c.args.numbers.now in
    let front = take c.loop-place.place numbers in
    let number = get_or numbers c.loop-place.place 0 in
    let low = c.requires c.loop-place.place 0 c.loop-place-test.true in
    rw (take_more numbers c.loop-place.place 0 c.loop-place-test.true) (count-more front number c.args.count low c.loop-place.counts.items _ c.index_mut.result.now c.loop-place.invariant c.index_mut.ensures.value)

pub returns-clause-len : goal.returns-clause-len
returns-clause-len c =
    let front = take c.loop-place.place c.args.numbers.now in
    ap length c.loop-place.invariant ∙ length-map (range_with_len 0 c.args.count) (times_in front) ∙ length-range_with_len 0 c.args.count
