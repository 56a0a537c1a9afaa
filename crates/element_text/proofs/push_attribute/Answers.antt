use Rattle.std.proofs.Common.{ℕ, List, [], ◌∷◌, ◌++◌, ap, ◌∙◌, append_assoc}
use Rattle.element_text.specs.Elements.{escaped, label_text}
use Rattle.element_text.proofs.Fronts.{at_error, front_more, front_then}
use Rattle.element_text.proofs.push_attribute.Goals as goal

pub returns-in_err-push_label-clause-front : goal.returns-in_err-push_label-clause-front
returns-in_err-push_label-clause-front c =
    let old = c.args.text.now.items in
    let new = c.push_label.new.text.items in
    let label = label_text c.args.name.now in
    let words = escaped c.args.value.now in
    at_error c.from_residual.result _
    (front_more old new (label ++ 34 ∷ [] ++ words) (34 ∷ []) (front_more old new (label ++ 34 ∷ []) words (front_more old new label (34 ∷ []) c.in_err-push_label.ensures.front)))

pub returns-in_err-push_words-clause-front : goal.returns-in_err-push_words-clause-front
returns-in_err-push_words-clause-front c =
    let old = c.args.text.now.items in
    let mid = c.extend_from_slice.new.self.items in
    let new = c.push_words.new.text.items in
    let label = label_text c.args.name.now in
    let words = escaped c.args.value.now in
    at_error c.from_residual-in_err-push_words.result _
    (front_more old new (label ++ 34 ∷ [] ++ words) (34 ∷ [])
    (front_then old mid new (label ++ 34 ∷ []) words (c.in_ok-extend_from_slice.ensures.items ∙ ap (λ (t : List ℕ). t ++ 34 ∷ []) c.in_ok-push_label.ensures.gained ∙ append_assoc old label (34 ∷ [])) c.in_err-push_words.ensures.front))
