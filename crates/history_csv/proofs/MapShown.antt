-- A map whose keys are buffers, seen as keys with their names.
use Rattle.std.proofs.Common.{◌≡◌, ℕ, zero, suc, false, List, [], ◌∷◌, ◌++◌, Vec, Some, None, length, set, slice_get, refl, sym, ◌∙◌, ap, inl, inr}
use Rattle.std.proofs.lemmas.Bool.{cases_Bool}
use Rattle.std.proofs.lemmas.List.{length-map}
use Rattle.std.specs.List.{list_any, position, position_or_len}
use Rattle.std.specs.Map.{keys_of, values_of}
use Rattle.std.specs.Str.{bytes_eq}
use Rattle.indexmap.specs.IndexMap.{insert_entry, set_value_at}
use Rattle.stale_model.specs.declared.KeyOps.{KeyOps}
use Rattle.history_csv.specs.Numbering.{Contents, named}
use Rattle.history_csv.specs.Building.{keys_shown, with_key}
use Rattle.history_csv.proofs.MapFacts.{is_named}
use Rattle.history_csv.proofs.Places.{some_of, list_any-map, position_or_len-map, place-found, place-missing}

-- what a key holds
abbrev pub contents_in : KeyOps → Contents
contents_in key = record { values = key.values; ops = key.ops }

module _ {A : Type 0} where
  shown-place : (es : List (Vec ℕ A × Contents)) (name : List ℕ) → position_or_len (is_named name) (keys_shown es) ≡ position_or_len (λ k. bytes_eq name k.items) (keys_of es)
  shown-place es name = position_or_len-map (is_named name) (λ (e : Vec ℕ A × Contents). named e.0.items e.1) es ∙ sym (position_or_len-map (λ (k : Vec ℕ A). bytes_eq name k.items) (λ (e : Vec ℕ A × Contents). e.0) es)

  shown-any : (es : List (Vec ℕ A × Contents)) (name : List ℕ) → list_any (is_named name) (keys_shown es) ≡ list_any (λ k. bytes_eq name k.items) (keys_of es)
  shown-any es name = list_any-map (is_named name) (λ (e : Vec ℕ A × Contents). named e.0.items e.1) es ∙ sym (list_any-map (λ (k : Vec ℕ A). bytes_eq name k.items) (λ (e : Vec ℕ A × Contents). e.0) es)

  -- a look-up finds the first key of the name
  pub shown-found : (es : List (Vec ℕ A × Contents)) (name : List ℕ) (i : ℕ) → Some i ≡ position (λ k. bytes_eq name k.items) (keys_of es)
      → (i ≡ position_or_len (is_named name) (keys_shown es)) × (keys_shown es ≡ with_key (keys_shown es) name)
  shown-found es name i e =
      let (place, there) = place-found (λ (k : Vec ℕ A). bytes_eq name k.items) (keys_of es) i e in
      (place ∙ sym (shown-place es name), rw (shown-any es name, there) refl)

  -- or none, and then one is put to the end
  pub shown-missing : (es : List (Vec ℕ A × Contents)) (name : List ℕ) → position (λ k. bytes_eq name k.items) (keys_of es) ≡ None
      → (length es ≡ position_or_len (is_named name) (keys_shown es)) × (list_any (is_named name) (keys_shown es) ≡ false)
  shown-missing es name e =
      let (place, none) = place-missing (λ (k : Vec ℕ A). bytes_eq name k.items) (keys_of es) e in
      (sym (shown-place es name ∙ place ∙ length-map es (λ (e : Vec ℕ A × Contents). e.0)), shown-any es name ∙ none)

  pub shown-insert : (es : List (Vec ℕ A × Contents)) (name : List ℕ) (k : Vec ℕ A) (c : Contents) → k.items ≡ name → list_any (is_named name) (keys_shown es) ≡ false
      → keys_shown (insert_entry (λ x y. bytes_eq x.items y.items) es k c) ≡ keys_shown es ++ named name c ∷ []
  shown-insert [] name k c same none = rw same refl
  shown-insert (e ∷ es) name k c same none = elim (cases_Bool (bytes_eq name e.0.items)) [
    | inl h ↦ let no = rw h at none in cc
    | inr h ↦
        let differs : bytes_eq k.items e.0.items ≡ false = rw same h in
        rw (differs, shown-insert es name k c same (rw h at none)) refl
  ]

  -- a write at a place changes what the key there holds, and not its name
  pub shown-set : (es : List (Vec ℕ A × Contents)) (i : ℕ) (c : Contents) (key : KeyOps) → slice_get (keys_shown es) i ≡ Some key → keys_shown (set_value_at es i c) ≡ set (keys_shown es) i (named key.name c)
  shown-set [] i c key at = cc
  shown-set (e ∷ es) zero c key at = let same : e.0.items ≡ key.name = ap (λ (k : KeyOps). k.name) (some_of (named e.0.items e.1) key at) in rw same refl
  shown-set (e ∷ es) (suc i) c key at = rw (shown-set es i c key at) refl

  -- what the key at a place holds
  pub shown-get : (es : List (Vec ℕ A × Contents)) (i : ℕ) (c : Contents) (key : KeyOps) → slice_get (values_of es) i ≡ Some c → slice_get (keys_shown es) i ≡ Some key → c ≡ contents_in key
  shown-get [] i c key value at = cc
  shown-get (e ∷ es) zero c key value at = sym (some_of e.1 c value) ∙ ap contents_in (some_of (named e.0.items e.1) key at)
  shown-get (e ∷ es) (suc i) c key value at = shown-get es i c key value at
