-- What stands at the places of a list after one was written.
use Rattle.std.proofs.Common.{◌≡◌, ◌≢◌, ◌⊎◌, ℕ, ◌<◌, List, length, set, get_or, refl, sym, ◌∙◌, ap, inl, inr, arith}
use Rattle.std.proofs.lemmas.Bool.{cases_eq}
use Rattle.std.proofs.lemmas.Option.{slice_get_within, get_or_from_slice_get, slice_get_read}
use Rattle.std.proofs.lemmas.List.{get_or-set_same, get_or-set_other, length-set}
use Rattle.stale_model.specs.Orders.{StandsAt}

module _ {X : Type 0} (xs : List X) (i : ℕ) (y : X) where
  -- at the place itself what was written, elsewhere what stood there
  pub after_write : (k : ℕ) (x : X) → i < length xs → StandsAt (set xs i y) k x → ((k ≡ i) × (x ≡ y)) ⊎ ((k ≢ i) × StandsAt xs k x)
  after_write k x l at =
      let w : k < length (set xs i y) = slice_get_within (set xs i y) k x at in
      let e = get_or_from_slice_get (set xs i y) k x x at in
      let n = length-set xs i y in
      elim (cases_eq k i) [
        | inl same ↦ inl (same, sym e ∙ ap (λ (m : ℕ). get_or (set xs i y) m x) same ∙ get_or-set_same xs i y x l)
        | inr other ↦ inr (other, slice_get_read xs (length xs) k x refl (omega arith) (sym e ∙ get_or-set_other xs i k y x other))
      ]

  pub written : i < length xs → StandsAt (set xs i y) i y
  written l = let n = length-set xs i y in slice_get_read (set xs i y) (length xs) i y (sym n) l (sym (get_or-set_same xs i y y l))

  pub unwritten : (k : ℕ) (x : X) → k ≢ i → StandsAt xs k x → StandsAt (set xs i y) k x
  unwritten k x other at =
      let n = length-set xs i y in
      slice_get_read (set xs i y) (length xs) k x (sym n) (slice_get_within xs k x at)
      (sym (get_or-set_other xs i k y x other ∙ get_or_from_slice_get xs k x x at))
