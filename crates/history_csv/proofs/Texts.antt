-- Buffers seen as texts.
use Rattle.std.proofs.Common.{◌≡◌, ℕ, zero, suc, ◌<◌, Bool, true, false, List, [], ◌∷◌, Vec, Some, length, map, get_or, slice_get, refl, sym, ◌∙◌, inl, inr, arith}
use Rattle.std.proofs.lemmas.Bool.{cases_Bool}
use Rattle.std.proofs.lemmas.List.{length-map, map-append}
use Rattle.std.proofs.lemmas.Map.Keys.{apart_from_distinct}
use Rattle.std.specs.List.{IsDistinct, list_any, position, position_or_len}
use Rattle.history_csv.proofs.Distinct.{bytes_eq-flip, same_text}
use Rattle.std.specs.Str.{bytes_eq}
use Rattle.indexmap.specs.IndexSet.{insert_key}
use Rattle.history_csv.specs.Building.{texts_of, with_text}
use Rattle.history_csv.proofs.Places.{list_any-map, position-at, position_or_len-map, some_of}

get-read : {X : Type 0} (xs : List X) (i : ℕ) (x : X) → slice_get xs i ≡ Some x → (i < length xs) × (get_or xs i x ≡ x)
get-read [] i x e = cc
get-read (y ∷ ys) zero x e = (omega arith, some_of y x e)
get-read (y ∷ ys) (suc i) x e = let (within, same) = get-read ys i x e in (omega arith, same)

-- ---- keys of a set that are alike by their texts

module _ {K : Type 0} (text : K → List ℕ) where
  -- whether two keys are alike
  abbrev are_alike : K → K → Bool
  are_alike x y = bytes_eq (text x) (text y)

  -- the text of a key that is put into the set goes to the end, unless it is there already
  pub insert-texts : (keys : List K) (k : K) → map text (insert_key are_alike keys k) ≡ with_text (map text keys) (text k)
  insert-texts keys k =
      let any : list_any (bytes_eq (text k)) (map text keys) ≡ list_any (are_alike k) keys = list_any-map (bytes_eq (text k)) text keys in
      elim (cases_Bool (list_any (are_alike k) keys)) [
        | inl there ↦ rw (any, there) refl
        | inr new ↦ rw (any, new) (map-append text keys (k ∷ []))
      ]

  -- its place is that of its text
  pub insert-place : (keys : List K) (k : K) → position_or_len (are_alike k) keys ≡ position_or_len (bytes_eq (text k)) (map text keys)
  insert-place keys k = sym (position_or_len-map (bytes_eq (text k)) text keys)

  -- among distinct texts, a text that stands at a place stands there first
  pub position-read : (keys : List K) (t : List ℕ) (i : ℕ) (k : K) → IsDistinct are_alike keys → slice_get keys i ≡ Some k → bytes_eq t (text k) ≡ true → Some i ≡ position (bytes_eq t) (map text keys)
  position-read keys t i k distinct at same =
      let (within, read) = get-read keys i k at in
      let is : t ≡ text k = same_text t (text k) same in
      let is_text : K → Bool = λ x. bytes_eq t (text x) in
      let here : is_text (get_or keys i k) ≡ true = rw read same in
      let before : (j : ℕ) → j < i → is_text (get_or keys j k) ≡ false = λ j lt.
      let apart = apart_from_distinct are_alike keys j i k distinct lt within in
      let differs : bytes_eq (text (get_or keys j k)) (text k) ≡ false = rw read at apart in
      rw is (bytes_eq-flip (text k) (text (get_or keys j k)) ∙ differs) in
      let first = position-at is_text keys i k within before here in
      let moved = position_or_len-map (bytes_eq t) text keys in
      let long : length (map text keys) ≡ length keys = length-map keys text in
      rw (moved, long) first

-- a copy of a text among buffers
module _ {A : Type 0} (keys : List (Vec ℕ A)) (copy : Vec ℕ A) (t : List ℕ) (same : copy.items ≡ t) where
  pub buffer-texts : texts_of (insert_key (λ x y. bytes_eq x.items y.items) keys copy) ≡ with_text (texts_of keys) t
  buffer-texts = insert-texts (λ (k : Vec ℕ A). k.items) keys copy ∙ rw same refl

  pub buffer-place : position_or_len (λ k. bytes_eq copy.items k.items) keys ≡ position_or_len (bytes_eq t) (texts_of keys)
  buffer-place = insert-place (λ (k : Vec ℕ A). k.items) keys copy ∙ rw same refl
