use Rattle.std.proofs.Common.{rules, arith, ◌≡◌, ◌+◌, ◌*◌, ◌≤◌, ◌∷◌, ◌++◌, [], length, sum_by, sym, subst}
use Rattle.std.specs.Prelude.{All}
use Rattle.std.proofs.lemmas.List.Elements.{All-push}
use Rattle.std.proofs.lemmas.List.Sums.{sum_by_push}
use Rattle.stale_model.specs.declared.KeyOps.{KeyOps}
use Rattle.stale_model.specs.Valid.{IsValidKey}
use Rattle.audit_workers.proofs.tests.history_of.Goals as goal

pub loop-duplicate-preserved : goal.loop-duplicate-preserved
loop-duplicate-preserved c =
    let so_far = c.loop-duplicate.invariant in
    let keys = c.loop-duplicate.keys.items in
    let key = c.in_ok-key.key in
    let pushed : c.push.new.self.items ≡ keys ++ key ∷ [] = search rules in
    record {
      valid = subst (λ items. All IsValidKey items) (sym pushed) (All-push IsValidKey keys key so_far.valid c.in_ok-key.ensures.valid);
      many = search rules;
      few = subst (λ items. sum_by (λ (k : KeyOps). length k.ops) items ≤ 2 * (c.loop-duplicate.duplicate-index + 1)) (sym pushed)
          (omega (arith, sum_by_push (λ (k : KeyOps). length k.ops) keys key, so_far.few, c.in_ok-key.ensures.few));
    }
