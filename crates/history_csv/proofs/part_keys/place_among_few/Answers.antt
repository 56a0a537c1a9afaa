use Rattle.std.proofs.Common.{◌≡◌, Bor, List, ℕ, Some, None, refl, sym, ap, ◌∙◌, arith}
use Rattle.std.proofs.lemmas.List.{length-map, map_push}
use Rattle.std.specs.List.{position}
use Rattle.std.specs.Str.{bytes_eq}
use Rattle.history_csv.specs.Parting.{slices_shown}
use Rattle.history_csv.proofs.Places.{place-found, place-missing}
use Rattle.history_csv.proofs.part_keys.place_among_few.Goals as goal

pub returns-in-Some-clause-place : goal.returns-in-Some-clause-place
returns-in-Some-clause-place c =
    let test = bytes_eq c.args.text.now in
    let found : Some c.in-Some.place ≡ position test (slices_shown c.args.texts.now.items) = c.in-Some.ensures ∙ ap (λ l. position test (slices_shown l)) c.as_slice.ensures.value in
    (place-found test (slices_shown c.args.texts.now.items) c.in-Some.place found).0

pub returns-in-Some-clause-texts : goal.returns-in-Some-clause-texts
returns-in-Some-clause-texts c =
    let test = bytes_eq c.args.text.now in
    let found : Some c.in-Some.place ≡ position test (slices_shown c.args.texts.now.items) = c.in-Some.ensures ∙ ap (λ l. position test (slices_shown l)) c.as_slice.ensures.value in
    rw (place-found test (slices_shown c.args.texts.now.items) c.in-Some.place found).1 refl

pub returns-clause-place : goal.returns-clause-place
returns-clause-place c =
    let test = bytes_eq c.args.text.now in
    let texts = c.args.texts.now.items in
    let none : position test (slices_shown texts) ≡ None = sym (c.in_default.ensures ∙ ap (λ l. position test (slices_shown l)) c.as_slice.ensures.value) in
    omega (arith, (place-missing test (slices_shown texts) none).0, length-map texts (λ (slice : Bor (List ℕ)). slice.now), c.args.texts.now.ok.0)

pub returns-clause-texts : goal.returns-clause-texts
returns-clause-texts c =
    let test = bytes_eq c.args.text.now in
    let texts = c.args.texts.now.items in
    let none : position test (slices_shown texts) ≡ None = sym (c.in_default.ensures ∙ ap (λ l. position test (slices_shown l)) c.as_slice.ensures.value) in
    let new = (place-missing test (slices_shown texts) none).1 in
    ap slices_shown c.in-Ok.ensures.items ∙ map_push (λ (slice : Bor (List ℕ)). slice.now) texts c.args.text ∙ rw new refl
