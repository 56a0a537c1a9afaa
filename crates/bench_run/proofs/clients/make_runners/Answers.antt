-- The runner of one client more.
use Rattle.std.proofs.Common.{◌≡◌, ℕ, ◌+◌, ◌<◌, List, [], ◌∷◌, ◌++◌, length, slice_index_or, ap, sym, ◌∙◌, subst, arith}
use Rattle.std.specs.List.{zip}
use Rattle.std.proofs.lemmas.Iterator.{YieldsList-from_zip}
use Rattle.std.proofs.lemmas.Iterator.Adapters.{YieldsList-from_vec}
use Rattle.std.proofs.lemmas.Iterator.Consumers.{YieldsList-at, YieldsList-turn}
use Rattle.std.proofs.lemmas.List.{get_or_default, length_push, length-map}
use Rattle.std.proofs.lemmas.Slice.Zip.{firsts-zip, get_or-zip}
use Rattle.key_recorder.specs.Recorders.{PassView}
use Rattle.key_recorder.proofs.Making.{places_more}
use Rattle.bench_run.specs.declared.parts.ClientParts.{ClientParts}
use Rattle.bench_run.specs.declared.runner.Runner.{Runner}
use Rattle.bench_run.specs.Closing.{first_runner}
use Rattle.bench_run.proofs.clients.make_runners.Goals as goal

pub loop-parts-preserved : goal.loop-parts-preserved
loop-parts-preserved c =
    let inv = c.loop-parts.invariant in
    let s = c.args.settings.now in
    let clients = c.args.clients.items in
    let passes = c.args.passes.items in
    let parts = c.in-Some.parts in
    let pass = c.in-Some.pass in
    let pair : ClientParts × PassView = (parts, pass) in
    let done = length c.loop-parts.yielded in
    let zipped = c.zip-parts-items.ensures in
    let road = YieldsList-at {s = c.into_iter-parts-iterator.result} {t = c.zip-parts-items.result} c.into_iter-parts-iterator.ensures.into_iter_gives (YieldsList-from_zip
    (YieldsList-at zipped.first (YieldsList-from_vec clients c.into_iter.ensures.rest (c.into_iter.ensures.len ∙ c.args.clients.ok.0)))
    (YieldsList-from_vec passes zipped.second.0 (zipped.second.1 ∙ c.args.passes.ok.0))) in
    let turn = YieldsList-turn road c.loop-parts.yielded c.loop-parts.parts-iterator c.loop-parts.yielded_by c.next.result c.next.new.self pair c.in-Some.is c.next.ensures.steps in
    let as_many : length passes ≡ length clients = sym c.args.passes.ok.0 ∙ (c.requires.passes ∙ (sym c.requires.clients ∙ c.args.clients.ok.0)) in
    let long_zip : length (zip clients passes) ≡ length clients =
    sym (length-map (zip clients passes) (λ (p : ClientParts × PassView). p.0)) ∙ ap (λ (xs : List ClientParts). length xs) (firsts-zip clients passes as_many) in
    let less : done < length clients = subst (λ (n : ℕ). done < n) long_zip turn.0 in
    let less_passes : done < length passes = omega arith in
    let is : pair ≡ (slice_index_or clients done parts, slice_index_or passes done pass) = turn.1 ∙ get_or-zip clients passes done pair less less_passes in
    let parts_are : (x : ClientParts) → parts ≡ slice_index_or clients done x = λ x. ap (λ (p : ClientParts × PassView). p.0) is ∙ get_or_default clients done parts x less in
    let pass_is : (x : PassView) → pass ≡ slice_index_or passes done x = λ x. ap (λ (p : ClientParts × PassView). p.1) is ∙ get_or_default passes done pass x less_passes in
    let one_more : length (c.loop-parts.yielded ++ pair ∷ []) ≡ done + 1 = length_push c.loop-parts.yielded pair in
    let put = c.push_reserved.ensures in
    let long : length c.loop-parts.runners.items ≡ done = sym c.loop-parts.runners.ok.0 ∙ inv.many in
    let number : c.len-client.result ≡ done = c.len-client.ensures ∙ inv.many in
    let IsFirstRunner : ℕ → Runner → Type 0 = λ k r. (x : ClientParts) (y : PassView) → r ≡ first_runner s k (slice_index_or clients k x) (slice_index_or passes k y) in
    let here : IsFirstRunner done c.make_runner.result =
    λ x y. c.make_runner.ensures
    ∙ (ap (λ (n : ℕ). first_runner s n parts pass) number
    ∙ (ap (λ (z : ClientParts). first_runner s done z pass) (parts_are x) ∙ ap (λ (z : PassView). first_runner s done (slice_index_or clients done x) z) (pass_is y))) in
    record {
      many = put.len ∙ (ap (λ (n : ℕ). n + 1) inv.many ∙ sym one_more);
      room = omega (arith, inv.room, put.capacity);
      each = λ k r x y within.
          subst (λ (xs : List Runner). slice_index_or xs k r ≡ first_runner s k (slice_index_or clients k x) (slice_index_or passes k y)) (sym put.items)
          (places_more IsFirstRunner c.loop-parts.runners.items c.make_runner.result done long (λ j d below v w. inv.each j d v w below) here k r (subst (λ (n : ℕ). k < n) one_more within) x y);
    }
