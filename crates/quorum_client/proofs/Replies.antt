-- One more reply: what was taken, and the freshest of it.
use Rattle.std.proofs.Common.{◌≡◌, ℕ, ◌+◌, ◌<◌, ◌≤◌, Bool, true, false, if◌then◌else◌, List, [], ◌∷◌, ◌++◌, length, take, drop, slice_index_or, slice_set, All, refl, ap, sym, ◌∙◌, subst, arith, append_assoc}
use Rattle.std.proofs.lemmas.Grind.{common_steps}
use Rattle.std.proofs.lemmas.List.{take_more, drop-set-lt, drop-drop}
use Rattle.std.proofs.lemmas.List.Elements.{All-drop}
use Rattle.std.proofs.lemmas.List.Sums.{fold-append}
use Rattle.stale_model.specs.declared.store.Reply.{Reply}
use Rattle.stale_model.specs.declared.store.Took.{Took}
use Rattle.stale_model.specs.Calls.{no_took, took_of, fresher, freshest_from, freshest}
use Rattle.quorum_client.specs.declared.gather.Taken.{Taken}
use Rattle.quorum_client.specs.FirstReplies.{is_wanted, with_reply, IsFilled, IsGathered}

-- a reply in the next place, and no reply in the places after it
pub filled_more : (g : Taken) (t : Took) → g.count < length g.took → IsFilled g
    → IsFilled (record { took = slice_set g.took g.count t; count = g.count + 1 })
filled_more g t inside filled =
    let same : drop (g.count + 1) (slice_set g.took g.count t) ≡ drop 1 (drop g.count g.took) =
    drop-set-lt (g.count + 1) g.took g.count t (omega arith) ∙ sym (drop-drop 1 g.count g.took)
    in
    record {
      count = grind (arith, common_steps);
      others = subst (λ (xs : List Took). All (λ (x : Took). x ≡ no_took) xs) (sym same)
          (All-drop (λ (x : Took). x ≡ no_took) 1 (drop g.count g.took) filled.others);
    }

appended_by_choice : (b : Bool) (ts : List Took) (t : Took) → length (if b then ts ++ t ∷ [] else ts) ≤ length ts + 1
appended_by_choice true ts t = grind (arith, common_steps)
appended_by_choice false ts t = omega arith

-- at most one reply is taken of a letter
pub length-with_reply : (seq replicas : ℕ) (ts : List Took) (reply : Reply) → length (with_reply seq replicas ts reply) ≤ length ts + 1
length-with_reply seq replicas ts reply = appended_by_choice (is_wanted seq replicas ts reply) ts (took_of reply)

-- one more letter
pub gathered_more : (seq replicas : ℕ) (before after now : List Reply) (ts us : List Took) (reply : Reply) → IsGathered seq replicas before after ts
    → now ≡ after ++ reply ∷ [] → us ≡ with_reply seq replicas ts reply → IsGathered seq replicas before now us
gathered_more seq replicas before after now ts us reply g grown taken = record {
  gained = g.gained ++ reply ∷ [];
  grown = grown ∙ (ap (λ (xs : List Reply). xs ++ reply ∷ []) g.grown ∙ append_assoc before g.gained (reply ∷ []));
  firsts =
      taken
      ∙ (ap (λ (xs : List Took). with_reply seq replicas xs reply) g.firsts
      ∙ sym (fold-append (with_reply seq replicas) [] g.gained (reply ∷ [])));
}

freshest_from-push : (best : Took) (ts : List Took) (t : Took) → freshest_from best (ts ++ t ∷ []) ≡ fresher (freshest_from best ts) t
freshest_from-push best [] t = refl
freshest_from-push best (x ∷ ts) t = freshest_from-push (fresher best x) ts t

freshest-push : (ts : List Took) (t : Took) → 0 < length ts → freshest (ts ++ t ∷ []) ≡ fresher (freshest ts) t
freshest-push [] t some = absurd (omega arith)
freshest-push (x ∷ ts) t some = freshest_from-push x ts t

-- the freshest of one more reply
pub freshest_more : (ts : List Took) (k : ℕ) (t : Took) → 1 ≤ k → k < length ts
    → freshest (take (k + 1) ts) ≡ fresher (freshest (take k ts)) (slice_index_or ts k t)
freshest_more ts k t some inside = ap freshest (take_more ts k t inside) ∙ freshest-push (take k ts) (slice_index_or ts k t) (grind (arith, common_steps))

-- a later moment is past the replies so far, and past one more
pub past_more : (ts : List Took) (k seen now : ℕ) → seen ≤ now → k < length ts → (slice_index_or ts k no_took).serve < now
    → All (λ (t : Took). t.serve < seen) (take k ts) → All (λ (t : Took). t.serve < now) (take (k + 1) ts)
past_more ts k seen now later inside here past j d less = grind (arith, common_steps, past j d)
