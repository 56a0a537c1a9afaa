use Rattle.std.proofs.Common.{refl, ◌∙◌, ap}
use Rattle.std.specs.Str.{bytes_eq}
use Rattle.history_csv.specs.Building.{texts_of}
use Rattle.history_csv.proofs.Places.{place-found}
use Rattle.history_csv.proofs.Texts.{buffer-place, buffer-texts}
use Rattle.history_csv.proofs.numbering.place_of.Goals as goal

pub returns-in-Some-clause-place : goal.returns-in-Some-clause-place
returns-in-Some-clause-place c = (place-found (bytes_eq c.args.text.now) (texts_of c.args.texts.now.keys) c.in-Some.place c.in-Some.ensures).0

pub returns-in-Some-clause-texts : goal.returns-in-Some-clause-texts
returns-in-Some-clause-texts c =
    let found = place-found (bytes_eq c.args.text.now) (texts_of c.args.texts.now.keys) c.in-Some.place c.in-Some.ensures in
    rw found.1 refl

pub returns-clause-place : goal.returns-clause-place
returns-clause-place c = c.in-Ok.ensures.index ∙ buffer-place c.args.texts.now.keys c.in_ok-copy.copy c.args.text.now c.in_ok-copy.ensures

pub returns-clause-texts : goal.returns-clause-texts
returns-clause-texts c = ap texts_of c.in-Ok.ensures.keys ∙ buffer-texts c.args.texts.now.keys c.in_ok-copy.copy c.args.text.now c.in_ok-copy.ensures
