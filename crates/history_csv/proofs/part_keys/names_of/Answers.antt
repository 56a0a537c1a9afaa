use Rattle.std.proofs.Common.{◌≡◌, ap, ◌∙◌}
use Rattle.std.specs.List.{position_or_len}
use Rattle.std.specs.Str.{bytes_eq}
use Rattle.history_csv.specs.Entries.{Entry}
use Rattle.history_csv.specs.Building.{with_text}
use Rattle.history_csv.specs.Parting.{slices_shown}
use Rattle.history_csv.proofs.PartFacts.{names-taken, places-taken}
use Rattle.history_csv.proofs.part_keys.names_of.Goals as goal

pub loop-place-preserved : goal.loop-place-preserved
loop-place-preserved c =
    let es = c.args.block.now in
    let i = c.loop-place.place in
    let e = c.entry-entry.result in
    let old = slices_shown c.loop-place.names.keys in
    let were = c.loop-place.invariant.names in
    let name : c.entry.inside.key.now ≡ e.key = ap (λ (x : Entry). x.key) c.entry.view_is in
    record {
      names = names-taken es i e c.entry-entry.ensures old _ were (c.in_ok-key.ensures.texts ∙ ap (with_text old) name);
      places = c.in-Ok-push.ensures.items ∙ places-taken es i e c.entry-entry.ensures old c.loop-place.places.items c.in_ok-key.key were c.loop-place.invariant.places (c.in_ok-key.ensures.place ∙ ap (λ n. position_or_len (bytes_eq n) old) name);
    }
