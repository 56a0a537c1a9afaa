use Rattle.std.proofs.Common.{◌≡◌, ◌++◌, ◌∷◌, [], ap₂, sym, ◌∙◌, arith, rules}
use Rattle.std.proofs.lemmas.List.FromFn.{map-range_with_len_more}
use Rattle.stale_model.specs.RecordedRuns.{entries_of}
use Rattle.trace_check.proofs.judging.by_client.entries_by_client.Goals as goal

pub loop-client-preserved : goal.loop-client-preserved
loop-client-preserved c =
    let more : c.push.new.self.items ≡ c.loop-client.groups.items ++ c.in_ok-own.own ∷ [] = search rules in
    more ∙ ap₂ (λ groups own. groups ++ own ∷ []) c.loop-client.invariant c.in_ok-own.ensures
    ∙ sym (map-range_with_len_more (λ client. entries_of client c.args.entries.now) 0 c.loop-client.client c.loop-client.client (omega arith))
