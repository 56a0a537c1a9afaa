use Rattle.std.proofs.Common.{ap, arith}
use Rattle.std.proofs.lemmas.Result.{on_ok_weaker}
use Rattle.history_csv.specs.Entries.{Entry}
use Rattle.history_csv.specs.Numbering.{entries_on}
use Rattle.history_csv.proofs.KeyFacts.{filter-shorter}
use Rattle.history_csv.proofs.MapSteps.{holds, key-taken, place-within}
use Rattle.history_csv.proofs.numbering.add_to_key.Goals as goal
use Rattle.std.specs.Str.{bytes_eq}

pub index_mut-key-requires : goal.index_mut-key-requires
index_mut-key-requires c =
    let (entries, shown, few) = c.requires in
    let ensured = c.in_ok-place.ensures in
    place-within c.args.keys.now.entries c.place_of_key.new.keys.entries c.entry.inside.key.now c.in_ok-place.place entries shown ensured.place ensured.keys

pub add-requires : goal.add-requires
add-requires c =
    let (entries, shown, few) = c.requires in
    let ensured = c.in_ok-place.ensures in
    let k = c.entry.inside.key.now in
    let fewer = filter-shorter (λ (x : Entry). bytes_eq k x.key) entries in (
      entries_on k entries,
      holds c.args.keys.now.entries c.place_of_key.new.keys.entries k c.in_ok-place.place entries shown ensured.place ensured.keys _ c.index_mut-key.ensures.value,
      omega arith,
    )

pub returns : goal.returns
returns c =
    let ensured = c.in_ok-place.ensures in
    let old = c.args.keys.now.entries in
    let mid = c.place_of_key.new.keys.entries in
    let k = c.entry.inside.key.now in
    let place = c.in_ok-place.place in
    on_ok_weaker c.add.result
    (λ taken entries shown.
    let held = holds old mid k place entries shown ensured.place ensured.keys _ c.index_mut-key.ensures.value in
    key-taken old mid k place entries shown ensured.place ensured.keys c.args.entry.now c.add.new.self (ap (λ (x : Entry). x.key) c.entry.view_is) (taken (entries_on k entries) held))
    c.add.ensures
