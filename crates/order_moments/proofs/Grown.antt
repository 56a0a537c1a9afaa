-- What stands in a list past its end, after a push, and after a write.
use Rattle.std.proofs.Common.{◌≡◌, ◌⊎◌, ℕ, ◌<◌, List, [], ◌∷◌, ◌++◌, length, get_or, set, refl, sym, ◌∙◌, ap, inl, inr, arith}
use Rattle.std.specs.Prelude.{◌≢◌, Contains}
use Rattle.std.proofs.lemmas.Bool.{cases_lt, cases_eq}
use Rattle.std.proofs.lemmas.List.{get_or_append_left, get_or_push, length_push, get_or-set_same, get_or-set_other, length-set}
use Rattle.std.proofs.lemmas.List.Elements.{Contains-append_cases}
use Rattle.std.proofs.lemmas.Option.{slice_get_within, slice_get_read, get_or_from_slice_get}
use Rattle.stale_model.specs.declared.Op.{Op}
use Rattle.stale_model.specs.declared.Kind.TheVariants.{Read}
use Rattle.stale_model.specs.Orders.{StandsAt}
use Rattle.stale_model.proofs.Sorted.{first_or_later}
use Rattle.stale_model.proofs.Members.{empty_has_none}

-- what a loop over operations reads past the end
abbrev pub past_end : Op
past_end = record { rec = 0; client = 0; kind = Read; value = 0; start = 0; finish = 0; slack = 0 }

module _ {X : Type 0} (xs : List X) (x : X) where
  -- what stands in a longer list stood there, or is the last
  pub stood_or_last : (place : ℕ) (y : X) → StandsAt (xs ++ x ∷ []) place y → StandsAt xs place y ⊎ (place ≡ length xs) × (x ≡ y)
  stood_or_last place y at =
      let within = slice_get_within (xs ++ x ∷ []) place y at in
      let is = get_or_from_slice_get (xs ++ x ∷ []) place y y at in
      elim (cases_lt place (length xs)) [
        | inl low ↦ inl (slice_get_read xs (length xs) place y refl low (sym is ∙ get_or_append_left xs (x ∷ []) y place low))
        | inr high ↦
            let long = length_push xs x in
            let last : place ≡ length xs = omega arith in
            inr (last, sym (get_or_push xs x y place (sym last)) ∙ is)
      ]

  -- what is in a longer list was there, or is the last
  pub there_or_last : (y : X) → Contains (xs ++ x ∷ []) y → Contains xs y ⊎ (x ≡ y)
  there_or_last y c = elim (Contains-append_cases xs (x ∷ []) y c) [
    | inl there ↦ inl there
    | inr last ↦ elim (first_or_later x y [] last) [ inl e ↦ inr e | inr none ↦ absurd (empty_has_none y none) ]
  ]

  -- what stands in a list after a write stood there, or is what was written
  pub stood_or_written : (at place : ℕ) (y : X) → StandsAt (set xs at x) place y → (place ≢ at) × StandsAt xs place y ⊎ (place ≡ at) × (x ≡ y)
  stood_or_written at place y stands =
      let within = slice_get_within (set xs at x) place y stands in
      let long = length-set xs at x in
      let low : place < length xs = omega arith in
      let is = get_or_from_slice_get (set xs at x) place y y stands in
      elim (cases_eq place at) [
        | inl e ↦ inr (e, (let here : at < length xs = omega arith in sym (get_or-set_same xs at x y here) ∙ ap (λ (n : ℕ). get_or (set xs at x) n y) (sym e) ∙ is))
        | inr ne ↦ inl (ne, slice_get_read xs (length xs) place y refl low (sym is ∙ get_or-set_other xs at place x y ne))
      ]
