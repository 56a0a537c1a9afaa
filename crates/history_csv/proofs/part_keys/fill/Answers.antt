use Rattle.std.proofs.Common.{◌≡◌, length, take, ap, ◌∙◌, get_or, arith}
use Rattle.std.proofs.lemmas.List.{length-map, length-take}
use Rattle.std.specs.Str.{bytes_eq}
use Rattle.history_csv.specs.Entries.{Entry}
use Rattle.history_csv.specs.Numbering.{distinct, entries_on, key_ops}
use Rattle.history_csv.specs.Parting.{names_in, place_in}
use Rattle.history_csv.proofs.KeyFacts.{filter-shorter}
use Rattle.history_csv.proofs.PartFacts.{key-held, keys-taken, place-at, place-low}
use Rattle.history_csv.proofs.part_keys.fill.Goals as goal

pub index_mut-key-requires : goal.index_mut-key-requires
index_mut-key-requires c =
    let es = c.args.block.now in
    let i = c.loop-place.place in
    let e = c.entry-entry.result in
    let ns = distinct (names_in es) in
    let is : get_or c.args.places.now i 0 ≡ place_in ns e = rw c.requires.places (place-at es i e c.entry-entry.ensures) in
    let low = place-low es i e c.entry-entry.ensures in
    let long : length c.loop-place.keys.items ≡ length ns = ap length c.loop-place.invariant ∙ length-map ns (key_ops (take i es)) in
    omega (arith, c.loop-place.keys.ok.0)

pub add-requires : goal.add-requires
add-requires c =
    let es = c.args.block.now in
    let i = c.loop-place.place in
    let e = c.entry-entry.result in
    let is : get_or c.args.places.now i 0 ≡ place_in (distinct (names_in es)) e = rw c.requires.places (place-at es i e c.entry-entry.ensures) in
    let fewer = filter-shorter (λ (x : Entry). bytes_eq e.key x.key) (take i es) in (
      e.key,
      entries_on e.key (take i es),
      key-held es i e c.entry-entry.ensures c.loop-place.keys.items _ c.index_mut-key.result.now c.loop-place.invariant is c.index_mut-key.ensures.value,
      omega (arith, length-take i es),
    )

pub loop-place-preserved : goal.loop-place-preserved
loop-place-preserved c =
    let es = c.args.block.now in
    let i = c.loop-place.place in
    let e = c.entry-entry.result in
    let is : get_or c.args.places.now i 0 ≡ place_in (distinct (names_in es)) e = rw c.requires.places (place-at es i e c.entry-entry.ensures) in
    let held = key-held es i e c.entry-entry.ensures c.loop-place.keys.items _ c.index_mut-key.result.now c.loop-place.invariant is c.index_mut-key.ensures.value in
    keys-taken es i e c.entry-entry.ensures c.loop-place.keys.items _ c.add.new.self c.loop-place.invariant is (c.in_ok-add.ensures e.key (entries_on e.key (take i es)) held)
