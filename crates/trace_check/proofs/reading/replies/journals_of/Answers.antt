use Rattle.std.proofs.Common.{◌≡◌, ◌++◌, ◌∷◌, [], ap₂, sym, ◌∙◌, ◌==◌, filter, arith, rules}
use Rattle.std.proofs.lemmas.List.FromFn.{map-range_with_len_more}
use Rattle.trace_check.proofs.reading.replies.journals_of.Goals as goal

pub loop-replica-preserved : goal.loop-replica-preserved
loop-replica-preserved c =
    let more : c.push.new.self.items ≡ c.loop-replica.journals.items ++ c.in_ok-journal.journal ∷ [] = search rules in
    more ∙ ap₂ (λ js j. js ++ j ∷ []) c.loop-replica.invariant c.in_ok-journal.ensures
    ∙ sym (map-range_with_len_more (λ replica. filter (λ j. j.reply.replica == replica) c.args.lines.now) 0 c.loop-replica.replica c.loop-replica.replica (omega arith))
