use Rattle.std.proofs.Common.{length, refl, ◌∙◌, ap, arith}
use Rattle.stale_model.specs.declared.KeyOps.{KeyOps}
use Rattle.history_csv.specs.Entries.{Entry}
use Rattle.history_csv.specs.Numbering.{value_number}
use Rattle.history_csv.specs.Building.{with_value}
use Rattle.history_csv.proofs.KeyFacts.{values-few}
use Rattle.history_csv.proofs.PartFacts.{key-grow}
use Rattle.history_csv.proofs.part_keys.PartKey.add.Goals as goal

pub number-requires : goal.number-requires
number-requires c =
    let (name, entries, shown, few) = c.requires in
    let same = ap (λ (k : KeyOps). length k.values) shown in
    omega (arith, values-few entries)

pub returns : goal.returns
returns c = λ name entries shown.
    let number = c.in_ok-value.ensures in
    let old = c.args.self.now.values in
    let names = ap (λ (k : KeyOps). k.name) c.self.view_is in
    let values = ap (λ (k : KeyOps). k.values) c.self.view_is in
    let ops = ap (λ (k : KeyOps). k.ops) c.self.view_is in
    let value = ap (λ (x : Entry). x.value) c.entry.view_is in
    key-grow c.args.self.now c.number.new.self _ c.in_ok-value.value _ name entries c.args.entry.now shown (number.values ∙ ap (with_value old) value) number.ops number.name (number.number ∙ ap (value_number old) value) (c.in-Ok.ensures.items ∙ rw (ops, c.op_of.ensures) refl) names values refl
