-- The lines of the keys, one key after the other.
use Rattle.std.proofs.Common.{◌≡◌, ℕ, zero, suc, ◌+◌, ◌<◌, List, [], ◌∷◌, ◌++◌, length, map, get_or, take, sym, ◌∙◌, ap, subst, append_assoc, arith, Option, Some}
use Rattle.std.specs.Prelude.{slice_get}
use Rattle.std.proofs.lemmas.List.{map-append, take_more, length-append, append-nil}
use Rattle.std.proofs.lemmas.Option.{same_Some, none-some}
use Rattle.stale_model.specs.declared.Op.{Op}
use Rattle.stale_model.specs.declared.KeyOps.{KeyOps}
use Rattle.stale_model.specs.Operations.{operations}
use Rattle.stale_model.specs.Truth.{EachKeyHas}
use Rattle.mode_texts.specs.declared.totals.Totals.{Totals}
use Rattle.mode_texts.specs.Measures.{keys_text}
use Rattle.mode_texts.specs.Counting.{totals_of, IsWritten, IsWrittenBehind}

module _ {V : Type 0} (Says : List Op → V → Type 0) where
  -- what is said of each key, and of one key more
  each-push : (keys : List KeyOps) (verdicts : List V) (key : KeyOps) (verdict : V) → length verdicts ≡ length keys
      → ((i : ℕ) (k : KeyOps) (v : V) → slice_get keys i ≡ Some k → slice_get verdicts i ≡ Some v → Says (operations k) v) → Says (operations key) verdict
      → (i : ℕ) (k : KeyOps) (v : V) → slice_get (keys ++ key ∷ []) i ≡ Some k → slice_get (verdicts ++ verdict ∷ []) i ≡ Some v → Says (operations k) v
  each-push [] [] key verdict same each says zero k v at there = rw (same_Some key k at, same_Some verdict v there) at says
  each-push [] [] key verdict same each says (suc i) k v at there = absurd (none-some k at)
  each-push [] (w ∷ ws) key verdict same each says i k v at there = absurd (omega arith)
  each-push (h ∷ hs) [] key verdict same each says i k v at there = absurd (omega arith)
  each-push (h ∷ hs) (w ∷ ws) key verdict same each says zero k v at there = each zero k v at there
  each-push (h ∷ hs) (w ∷ ws) key verdict same each says (suc i) k v at there =
      each-push hs ws key verdict (omega arith) (λ j x y at_j there_j. each (suc j) x y at_j there_j) says i k v at there

  pub each_key_has-push : (keys : List KeyOps) (verdicts : List V) (key : KeyOps) (verdict : V) → EachKeyHas Says keys verdicts → Says (operations key) verdict
      → EachKeyHas Says (keys ++ key ∷ []) (verdicts ++ verdict ∷ [])
  each_key_has-push keys verdicts key verdict has says = record {
    as_many = let e = has.as_many in omega (arith, length-append verdicts (verdict ∷ []), length-append keys (key ∷ []));
    each = each-push keys verdicts key verdict has.as_many has.each says;
  }

  module _ (key_text : KeyOps → V → List ℕ) where
    pub keys_text-push : (keys : List KeyOps) (verdicts : List V) (key : KeyOps) (verdict : V) → length verdicts ≡ length keys
        → keys_text key_text (keys ++ key ∷ []) (verdicts ++ verdict ∷ []) ≡ keys_text key_text keys verdicts ++ key_text key verdict
    keys_text-push [] [] key verdict same = append-nil (key_text key verdict)
    keys_text-push [] (v ∷ vs) key verdict same = absurd (omega arith)
    keys_text-push (k ∷ ks) [] key verdict same = absurd (omega arith)
    keys_text-push (k ∷ ks) (v ∷ vs) key verdict same =
        ap (λ t. key_text k v ++ t) (keys_text-push ks vs key verdict (omega arith)) ∙ sym (append_assoc (key_text k v) (keys_text key_text ks vs) (key_text key verdict))

    module _ (number_of : V → Option ℕ) where
      -- one key more is written behind what is written
      one_more : (keys : List KeyOps) (key : KeyOps) (before after : List ℕ) (counted counting : Totals) → IsWritten Says key_text number_of keys before counted
          → IsWrittenBehind Says key_text number_of key before after counted counting → IsWritten Says key_text number_of (keys ++ key ∷ []) after counting
      one_more keys key before after counted counting so_far more = record {
        verdicts = so_far.verdicts ++ more.verdict ∷ [];
        true_of = each_key_has-push keys so_far.verdicts key more.verdict so_far.true_of more.true_of;
        text_is = more.text_is ∙ ap (λ t. t ++ key_text key more.verdict) so_far.text_is ∙ sym (keys_text-push keys so_far.verdicts key more.verdict so_far.true_of.as_many);
        totals_are = more.counts (map number_of so_far.verdicts) so_far.totals_are ∙ ap (λ ns. totals_of ns) (sym (map-append number_of so_far.verdicts (more.verdict ∷ [])));
      }

      -- the key at the next place is written behind what is written of the keys before it
      pub next_written : (keys : List KeyOps) (i : ℕ) (key : KeyOps) (before after : List ℕ) (counted counting : Totals) → i < length keys → key ≡ get_or keys i key
          → IsWritten Says key_text number_of (take i keys) before counted → IsWrittenBehind Says key_text number_of key before after counted counting
          → IsWritten Says key_text number_of (take (i + 1) keys) after counting
      next_written keys i key before after counted counting within is so_far more =
          let next : take (i + 1) keys ≡ take i keys ++ key ∷ [] = take_more keys i key within ∙ ap (λ k. take i keys ++ k ∷ []) (sym is) in
          subst (λ (ks : List KeyOps). IsWritten Says key_text number_of ks after counting) (sym next) (one_more (take i keys) key before after counted counting so_far more)
