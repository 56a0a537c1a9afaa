use Rattle.std.proofs.Common.{rules, ◌≡◌, List, [], ◌∷◌, length, replicate, subst, sym, ap, ◌∙◌}
use Rattle.std.proofs.lemmas.List.{length-replicate}
use Rattle.stale_model.specs.declared.Line.{Line}
use Rattle.history_gen.specs.LastWrites.{AreLastWrites}
use Rattle.history_gen.proofs.Lines.{lines_of-zero}
use Rattle.history_gen.proofs.LastWrites.{no_writes}
use Rattle.history_gen.proofs.Generator.new.Goals as goal

pub returns : goal.returns
returns c =
    let all : c.in_ok-map_err.field-0.items ≡ replicate c.args.keys (0 ∷ 0 ∷ 0 ∷ []) = search rules in
    let none : c.in_ok-map_err-2.field-0.items ≡ [] = search rules in record {
      words = c.of_seed.ensures;
      slots = ap length all ∙ length-replicate c.args.keys (0 ∷ 0 ∷ 0 ∷ []);
      last_writes = subst (λ (ls : List Line). AreLastWrites ls c.in_ok-map_err.field-0.items) (lines_of-zero c.args.seed c.args.keys)
          (subst (AreLastWrites []) (sym all) (no_writes c.args.keys));
      lines = none ∙ lines_of-zero c.args.seed c.args.keys;
    }
