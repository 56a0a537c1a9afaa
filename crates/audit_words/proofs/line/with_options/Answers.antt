use Rattle.std.proofs.Common.{◌≡◌, ◌<◌, ◌+◌, ◌∙◌, sym, ap, ap₂, arith, rules, ℕ, suc, List, [], ◌∷◌, length, map, take, slice_index_or}
use Rattle.std.specs.Borrow.{Bor}
use Rattle.std.proofs.lemmas.List.{map-append}
use Rattle.std.proofs.lemmas.List.Sums.{fold-append}
use Rattle.std.proofs.Math.Seq.{take-suc}
use Rattle.clap.specs.Words.{App, Rule, Text, rule_of, with_rule}
use Rattle.audit_words.specs.Line.{option_rule, with_options}
use Rattle.audit_words.proofs.line.with_options.Goals as goal

-- the options up to one more
one_more : (names : List (Bor Text)) (i : ℕ) (d : Bor Text) (command made next : App) (rule : Rule) → i < length names
    → made ≡ with_options (map (λ name. name.now) (take i names)) command → next ≡ with_rule made rule
    → rule ≡ option_rule (slice_index_or names i d).now → next ≡ with_options (map (λ name. name.now) (take (i + 1) names)) command
one_more names i d command made next rule more made_is next_is rule_is =
    let one = slice_index_or names i d in
    let suc_is : suc i ≡ i + 1 = omega arith in
    next_is ∙ ap₂ with_rule made_is rule_is
    ∙ sym (fold-append (λ made name. with_rule made (option_rule name)) command (map (λ name. name.now) (take i names)) (one.now ∷ []))
    ∙ ap (λ texts. with_options texts command) (sym (map-append (λ name. name.now) (take i names) (one ∷ [])))
    ∙ ap (λ some. with_options (map (λ name. name.now) some) command) (sym (take-suc names i d more) ∙ ap (λ n. take n names) suc_is)

pub loop-name-preserved : goal.loop-name-preserved
loop-name-preserved c = record {
  made = one_more c.args.names.now c.loop-name.name-index _ _ _ _ (rule_of c.option.result) (omega arith) c.loop-name.invariant.made
      (c.in_ok-made.ensures.shape (search rules)) c.option.ensures.rule;
}
