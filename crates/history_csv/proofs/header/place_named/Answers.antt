use Rattle.std.proofs.Common.{◌≡◌, ◌<◌, ◌≤◌, true, [], length, get_or, arith}
use Rattle.std.specs.Str.{bytes_eq}
use Rattle.csv.specs.Records.{fields_of}
use Rattle.history_csv.proofs.Places.{position-at, position-none}
use Rattle.history_csv.proofs.header.place_named.Goals as goal

pub returns-then-eq-clause-first : goal.returns-then-eq-clause-first
returns-then-eq-clause-first c =
    let name = c.args.name.now in
    let fields = fields_of c.args.header.now in
    let place = c.loop-place.place in
    let within : place < length fields = omega arith in
    let same : bytes_eq name (get_or fields place []) ≡ true = cc in
    position-at (bytes_eq name) fields place [] within c.loop-place.invariant same

pub returns-clause-first : goal.returns-clause-first
returns-clause-first c =
    let fields = fields_of c.args.header.now in
    let past : length fields ≤ c.loop-place.place = omega arith in
    position-none (bytes_eq c.args.name.now) fields c.loop-place.place [] past c.loop-place.invariant
