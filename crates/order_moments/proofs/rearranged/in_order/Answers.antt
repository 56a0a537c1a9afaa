use Rattle.std.proofs.Common.{◌≡◌, ◌∷◌, ◌∙◌, [], ◌++◌, get_or, sym, ap, inl, inr, ap₂, subst, rules, List, ℕ}
use Rattle.std.specs.Prelude.{Contains}
use Rattle.std.proofs.lemmas.List.{map-append, take_more, take_all}
use Rattle.std.proofs.lemmas.List.Elements.{All-contains, Contains-get_or}
use Rattle.stale_model.specs.declared.Op.{Op}
use Rattle.stale_model.specs.Operations.{operations, records_of}
use Rattle.model_laws.proofs.ClustersOne.{valid_records_differ}
use Rattle.order_moments.specs.InOrder.{FinishFits}
use Rattle.order_moments.proofs.Grown.{there_or_last}
use Rattle.order_moments.proofs.Rearranging.{finishes_fit, listed_in_order}
use Rattle.order_moments.proofs.rearranged.in_order.Goals as goal

pub operation_of-requires-clause-known : goal.operation_of-requires-clause-known
operation_of-requires-clause-known c = c.requires.each_once.known _ (Contains-get_or c.args.order.now c.loop-rec.rec-index _ c.loop-rec-test.true)

pub loop-rec-preserved : goal.loop-rec-preserved
loop-rec-preserved c =
    let inv = c.loop-rec.invariant in
    let ordered = c.loop-rec.ordered.items in
    let op = c.operation_of.result in
    let pushed : c.push.new.self.items ≡ ordered ++ op ∷ [] = search rules in
    record {
      records =
          ap records_of pushed ∙ map-append (λ (a : Op). a.rec) ordered (op ∷ [])
          ∙ ap₂ (λ (xs ys : List ℕ). xs ++ ys) inv.records (ap (λ (n : ℕ). n ∷ []) c.operation_of.ensures.record_is)
          ∙ sym (take_more c.args.order.now c.loop-rec.rec-index 0 c.loop-rec-test.true);
      known = λ a there. elim (there_or_last ordered op a (subst (λ (l : List Op). Contains l a) pushed there)) [
        | inl before ↦ inv.known a before
        | inr last ↦ subst (λ (x : Op). Contains (operations c.args.key.now) x) last c.operation_of.ensures.there
      ];
    }

pub returns-clause-ordered : goal.returns-clause-ordered
returns-clause-ordered c =
    let inv = c.loop-rec.invariant in
    listed_in_order (operations c.args.key.now) c.args.order.now c.loop-rec.ordered.items (valid_records_differ c.args.key.now c.requires.valid) c.requires.each_once
    (inv.records ∙ take_all c.loop-rec.rec-index c.args.order.now c.loop-rec-test.false) inv.known

pub returns-clause-fit : goal.returns-clause-fit
returns-clause-fit c =
    let inv = c.loop-rec.invariant in
    λ k d within.
    All-contains FinishFits (operations c.args.key.now) (get_or c.loop-rec.ordered.items k d) (finishes_fit c.args.key.now c.requires.valid)
    (inv.known (get_or c.loop-rec.ordered.items k d) (Contains-get_or c.loop-rec.ordered.items k d within))
