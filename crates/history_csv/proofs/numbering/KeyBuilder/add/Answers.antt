use Rattle.std.proofs.Common.{length, refl, ◌∙◌, ap, arith}
use Rattle.history_csv.specs.Entries.{Entry}
use Rattle.history_csv.specs.Numbering.{Contents, value_number}
use Rattle.history_csv.specs.Building.{with_value}
use Rattle.history_csv.proofs.KeyFacts.{contents-grow, values-few}
use Rattle.history_csv.proofs.numbering.KeyBuilder.add.Goals as goal

pub number-requires : goal.number-requires
number-requires c =
    let (entries, shown, few) = c.requires in
    let same = ap (λ (k : Contents). length k.values) shown in
    omega (arith, values-few entries)

pub returns : goal.returns
returns c = λ entries shown.
    let number = c.in_ok-value.ensures in
    let values = ap (λ (k : Contents). k.values) c.self.view_is in
    let ops = ap (λ (k : Contents). k.ops) c.self.view_is in
    let value = ap (λ (x : Entry). x.value) c.entry.view_is in
    contents-grow c.args.self.now c.number.new.self c.in_ok-value.value _ entries c.args.entry.now shown (number.values ∙ ap (with_value c.args.self.now.values) value) number.ops (number.number ∙ ap (value_number c.args.self.now.values) value) (c.in-Ok.ensures.items ∙ rw (ops, c.op_of.ensures) refl) _ values refl
