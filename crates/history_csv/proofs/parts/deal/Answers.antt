use Rattle.std.proofs.Common.{length, ap, ◌∙◌, arith}
use Rattle.std.proofs.lemmas.Result.{on_ok_weaker}
use Rattle.history_csv.specs.Entries.{Entry}
use Rattle.history_csv.specs.Parting.{part_of}
use Rattle.history_csv.proofs.PartsFacts.{parts-length, parts-step}
use Rattle.history_csv.proofs.parts.deal.Goals as goal

pub index_mut-part-requires : goal.index_mut-part-requires
index_mut-part-requires c =
    let (entries, are) = c.requires.parts in
    let within = c.part_of-place.ensures.within in
    omega (arith, c.args.parts.now.ok.0, ap length are, parts-length entries)

pub returns : goal.returns
returns c =
    let place = c.part_of-place.ensures.part ∙ ap (λ (x : Entry). part_of x.key) c.entry.view_is in
    on_ok_weaker c.push.result (λ pushed entries are. parts-step c.args.parts.now.items entries c.args.entry.now c.part_of-place.result c.index_mut-part.result.now c.push.new.self are place c.index_mut-part.ensures.value pushed) c.push.ensures
