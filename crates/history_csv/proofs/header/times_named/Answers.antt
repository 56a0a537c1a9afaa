use Rattle.std.proofs.Common.{◌≡◌, ◌<◌, true, false, [], length, get_or, arith}
use Rattle.std.proofs.lemmas.List.Sums.{count_by_more_yes, count_by_more_no}
use Rattle.std.specs.Str.{bytes_eq}
use Rattle.csv.specs.Records.{fields_of}
use Rattle.history_csv.proofs.header.times_named.Goals as goal
use Rattle.history_csv.proofs.header.times_named.Goals.{then-eq, else-eq}

pub loop-place-preserved : goal.loop-place-preserved
loop-place-preserved c =
    let name = c.args.name.now in
    let fields = fields_of c.args.header.now in
    let place = c.loop-place.place in
    let within : place < length fields = omega arith in
    elim c.if-eq.branch [
      | then-eq w ↦
          let same : bytes_eq name (get_or fields place []) ≡ true = cc in
          let more = count_by_more_yes (bytes_eq name) fields place [] within same in
          record { counted = cc; few = omega arith }
      | else-eq w ↦
          let differs : bytes_eq name (get_or fields place []) ≡ false = cc in
          let more = count_by_more_no (bytes_eq name) fields place [] within differs in
          record { counted = cc; few = omega arith }
    ]
