use Rattle.std.proofs.Common.{◌≡◌, ◌++◌, ◌∷◌, [], length, refl, sym, ◌∙◌, ap, arith}
use Rattle.history_csv.specs.declared.blocks.Row.{Row}
use Rattle.history_csv.specs.Blocks.{finish_shown}
use Rattle.history_csv.proofs.BlockFacts.{finish-comes-back, shown-push}
use Rattle.history_csv.proofs.blocks.Block.push.Goals as goal

pub returns : goal.returns
returns c =
    let e = c.entry.inside in
    let key = e.key.now in
    let value = e.value.now in
    let text = c.self.inside.text.items in
    let rows = c.self.inside.rows.items in
    let row : Row = record { start = e.start; finish = c.unwrap_or.result; slack = e.slack; at = c.len-at.result; rec = e.rec; client = e.client; key_len = length key; value_len = length value; kind = e.kind } in
    let fits = rw (← c.entry.view_is) at c.requires in
    let finish_is : finish_shown c.unwrap_or.result ≡ e.finish = ap finish_shown c.unwrap_or.ensures ∙ finish-comes-back e.finish fits.finish in
    let at : c.len-at.result ≡ length text = omega (arith, c.self.inside.text.ok.0) in
    let text_is : c.extend_from_slice-2.new.self.items ≡ (text ++ key) ++ value = c.in-Ok-extend_from_slice.ensures.items ∙ ap (λ t. t ++ value) c.in-Ok.ensures.items in
    let rows_is : c.push.new.self.items ≡ rows ++ row ∷ [] = c.in-Ok-push.ensures.items in
    rw (text_is, rows_is, ← c.self.view_is) (shown-push text key value rows row c.args.entry.now c.self.invariant at refl refl (rw finish_is (sym c.entry.view_is)))
