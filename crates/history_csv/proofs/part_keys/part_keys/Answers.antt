use Rattle.std.proofs.Common.{◌≡◌, Bor, List, ℕ, length, sym, ap, ◌∙◌}
use Rattle.std.proofs.lemmas.List.{length-map}
use Rattle.history_csv.specs.Numbering.{distinct}
use Rattle.history_csv.specs.Parting.{names_in}
use Rattle.history_csv.proofs.PartFacts.{all-low}
use Rattle.history_csv.proofs.part_keys.part_keys.Goals as goal

pub counts_of-requires : goal.counts_of-requires
counts_of-requires c =
    let es = c.args.block.now in
    let keys = c.in_ok-names.field-0.names.keys in
    let long : c.len.result ≡ length (distinct (names_in es)) = c.len.ensures.len ∙ sym (length-map keys (λ (slice : Bor (List ℕ)). slice.now)) ∙ ap length c.in_ok-names.ensures.names in
    rw (c.as_slice.ensures.value, c.in_ok-names.ensures.places, long) (all-low es)
