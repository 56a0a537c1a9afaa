use Rattle.std.proofs.Common.{◌≡◌, ◌-◌, Bor, List, ℕ, true, Some, slice_get, sym}
use Rattle.std.specs.Str.{bytes_eq}
use Rattle.history_csv.proofs.Texts.{position-read}
use Rattle.history_csv.proofs.part_keys.last_place.Goals as goal

pub returns-then-eq : goal.returns-then-eq
returns-then-eq c =
    let keys = c.args.texts.now.keys in
    let last = c.in_ok-last.last.now in
    let at : slice_get keys (c.len.result - 1) ≡ Some last = rw c.len.ensures.len (sym c.in_ok-last.ensures.key) in
    let same : bytes_eq c.args.text.now last.now ≡ true = cc in
    position-read (λ (slice : Bor (List ℕ)). slice.now) keys c.args.text.now (c.len.result - 1) last c.len.ensures.unique at same
