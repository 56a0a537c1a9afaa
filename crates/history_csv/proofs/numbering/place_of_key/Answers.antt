use Rattle.std.proofs.Common.{refl, sym, ap, ◌∙◌}
use Rattle.history_csv.specs.Building.{keys_shown}
use Rattle.history_csv.proofs.MapShown.{shown-found, shown-missing, shown-insert}
use Rattle.history_csv.proofs.numbering.place_of_key.Goals as goal

pub returns-in-Some-clause-place : goal.returns-in-Some-clause-place
returns-in-Some-clause-place c = (shown-found c.args.keys.now.entries c.args.name.now c.in-Some.place c.in-Some.ensures.index).0

pub returns-in-Some-clause-keys : goal.returns-in-Some-clause-keys
returns-in-Some-clause-keys c = (shown-found c.args.keys.now.entries c.args.name.now c.in-Some.place c.in-Some.ensures.index).1

pub returns-clause-place : goal.returns-clause-place
returns-clause-place c = c.len-place.ensures.len ∙ (shown-missing c.args.keys.now.entries c.args.name.now (sym c.in_default.ensures.index)).0

pub returns-clause-keys : goal.returns-clause-keys
returns-clause-keys c =
    let entries = c.args.keys.now.entries in
    let none = (shown-missing entries c.args.name.now (sym c.in_default.ensures.index)).1 in
    ap keys_shown c.in-Ok.ensures.entries
    ∙ shown-insert entries c.args.name.now c.in_ok-copy.copy c.new.result c.in_ok-copy.ensures none
    ∙ rw (none, c.new.ensures) refl
