use Rattle.std.proofs.Common.{◌≡◌, ◌<◌, ◌≤◌, Bor, List, ℕ, false, [], length, get_or, sym, ◌∙◌, arith}
use Rattle.std.proofs.lemmas.List.{length-map}
use Rattle.std.specs.Str.{bytes_eq}
use Rattle.history_csv.specs.Parting.{slices_shown}
use Rattle.history_csv.proofs.PartFacts.{shown-at}
use Rattle.history_csv.proofs.Places.{position-at, position-none}
use Rattle.history_csv.proofs.part_keys.find.Goals as goal
use borrow.Author.Count.{below_more}

pub returns-then-eq : goal.returns-then-eq
returns-then-eq c =
    let text = c.args.text.now in
    let texts = c.args.texts.now in
    let place = c.loop-place.place in
    let long : length (slices_shown texts) ≡ length texts = length-map texts (λ (slice : Bor (List ℕ)). slice.now) in
    let within : place < length (slices_shown texts) = omega arith in
    position-at (bytes_eq text) (slices_shown texts) place [] within c.loop-place.invariant (sym (shown-at text texts place _ _ c.loop-place-test.true c.eq.ensures) ∙ c.if-eq.true)

pub loop-place-preserved : goal.loop-place-preserved
loop-place-preserved c =
    let text = c.args.text.now in
    let texts = c.args.texts.now in
    let place = c.loop-place.place in
    below_more (λ k. bytes_eq text (get_or (slices_shown texts) k []) ≡ false) place c.loop-place.invariant (sym (shown-at text texts place _ _ c.loop-place-test.true c.eq.ensures) ∙ c.if-eq.false)

pub returns : goal.returns
returns c =
    let texts = c.args.texts.now in
    let long : length (slices_shown texts) ≡ length texts = length-map texts (λ (slice : Bor (List ℕ)). slice.now) in
    let past : length (slices_shown texts) ≤ c.loop-place.place = omega arith in
    position-none (bytes_eq c.args.text.now) (slices_shown texts) c.loop-place.place [] past c.loop-place.invariant
