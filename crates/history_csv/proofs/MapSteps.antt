-- The step of the code: the key of an entry is looked up or made, and then takes the entry.
use Rattle.std.proofs.Common.{◌≡◌, ℕ, zero, suc, ◌<◌, List, [], ◌∷◌, ◌++◌, Vec, Some, length, slice_get, refl, sym, ◌∙◌, arith}
use Rattle.std.proofs.lemmas.List.{length-map}
use Rattle.std.specs.List.{position_or_len}
use Rattle.std.specs.Map.{values_of}
use Rattle.indexmap.specs.IndexMap.{set_value_at}
use Rattle.history_csv.specs.Entries.{Entry}
use Rattle.history_csv.specs.Numbering.{Contents, contents_of, entries_on, key_ops, keys_of, named}
use Rattle.history_csv.specs.Building.{keys_shown, with_key}
use Rattle.history_csv.proofs.MapFacts.{entries-on-own, is_named, key-before, keys-push}
use Rattle.history_csv.proofs.MapShown.{shown-get, shown-set}

get-within : {X : Type 0} (xs : List X) (i : ℕ) (x : X) → slice_get xs i ≡ Some x → i < length xs
get-within [] i x e = cc
get-within (y ∷ ys) zero x e = omega arith
get-within (y ∷ ys) (suc i) x e = let rest = get-within ys i x e in omega arith

module _ {A : Type 0} (old mid : List (Vec ℕ A × Contents)) (k : List ℕ) (place : ℕ) (es : List Entry)
    (shown : keys_shown old ≡ keys_of es) (place_is : place ≡ position_or_len (is_named k) (keys_shown old)) (mid_is : keys_shown mid ≡ with_key (keys_shown old) k) where
  -- the key that was looked up is the one that the entries so far give
  pub key-at : slice_get (keys_shown mid) place ≡ Some (key_ops es k)
  key-at = rw (mid_is, place_is, shown) (key-before es k)

  pub place-within : place < length mid
  place-within =
      let within = get-within (keys_shown mid) place (key_ops es k) key-at in
      omega (arith, length-map mid (λ (e : Vec ℕ A × Contents). named e.0.items e.1))

  -- what it holds
  pub holds : (now : Contents) → slice_get (values_of mid) place ≡ Some now → now ≡ contents_of (entries_on k es)
  holds now at = shown-get mid place now (key_ops es k) at key-at

  -- once it took the entry, the keys are those of all entries
  pub key-taken : (e : Entry) (grown : Contents) → k ≡ e.key → grown ≡ contents_of (entries_on k es ++ e ∷ []) → keys_shown (set_value_at mid place grown) ≡ keys_of (es ++ e ∷ [])
  key-taken e grown same taken =
      let own : entries_on k (es ++ e ∷ []) ≡ entries_on k es ++ e ∷ [] = rw same (entries-on-own es e) in
      let key : named k grown ≡ key_ops (es ++ e ∷ []) k = rw (own, taken) refl in
      shown-set mid place grown (key_ops es k) key-at ∙ rw (mid_is, place_is, shown, key, same) (sym (keys-push es e))
