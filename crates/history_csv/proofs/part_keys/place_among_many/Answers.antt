use Rattle.std.proofs.Common.{Bor, ℕ, List, refl, ◌∙◌, ap}
use Rattle.std.specs.Str.{bytes_eq}
use Rattle.history_csv.specs.Parting.{slices_shown}
use Rattle.history_csv.proofs.Places.{place-found}
use Rattle.history_csv.proofs.Texts.{insert-place, insert-texts}
use Rattle.history_csv.proofs.part_keys.place_among_many.Goals as goal

pub returns-in-Some-clause-place : goal.returns-in-Some-clause-place
returns-in-Some-clause-place c = (place-found (bytes_eq c.args.text.now) (slices_shown c.args.texts.now.keys) c.in-Some.place c.in-Some.ensures).0

pub returns-in-Some-clause-texts : goal.returns-in-Some-clause-texts
returns-in-Some-clause-texts c =
    let found = place-found (bytes_eq c.args.text.now) (slices_shown c.args.texts.now.keys) c.in-Some.place c.in-Some.ensures in
    rw found.1 refl

pub returns-clause-place : goal.returns-clause-place
returns-clause-place c = c.in-Ok.ensures.index ∙ insert-place (λ (slice : Bor (List ℕ)). slice.now) c.args.texts.now.keys c.args.text

pub returns-clause-texts : goal.returns-clause-texts
returns-clause-texts c = ap slices_shown c.in-Ok.ensures.keys ∙ insert-texts (λ (slice : Bor (List ℕ)). slice.now) c.args.texts.now.keys c.args.text
