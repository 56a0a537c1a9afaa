-- The best item of a list that has a property, where the property can be decided.
use Rattle.std.proofs.Common.{◌⊎◌, ◌≡◌, ℕ, zero, suc, ◌<◌, List, [], ◌∷◌, length, refl, sym, ap, inl, inr, subst, arith}
use Rattle.std.specs.Prelude.{Contains, Some, slice_get}
use Rattle.std.proofs.lemmas.Option.{same_Some}
use Rattle.clusters.proofs.Ordering.{Contains-later, Contains-cases}

-- an item has the property, and is no worse than each other that has it
pub record IsBest {X : Type 0} (Has : X → Type 0) (NoWorse : X → X → Type 0) (xs : List X) (x : X) : Type 0 where
  pub there : Contains xs x
  pub has : Has x
  pub best : (y : X) → Contains xs y → Has y → NoWorse x y

-- no item has the property
abbrev pub NoneHas : {X : Type 0} → (X → Type 0) → List X → Type 0
NoneHas {X} Has xs = (x : X) → Contains xs x → Has x → ⊥

module _ {X : Type 0} (Has : X → Type 0) (decide : (x : X) → Has x ⊎ (Has x → ⊥))
    (NoWorse : X → X → Type 0) (total : (x y : X) → NoWorse x y ⊎ NoWorse y x)
    (trans : (x y z : X) → NoWorse x y → NoWorse y z → NoWorse x z) where
  same : (x : X) → NoWorse x x
  same x = elim (total x x) [ inl h ↦ h | inr h ↦ h ]

  -- a further item that hasn't the property
  passed : (x : X) (xs : List X) (y : X) → (Has x → ⊥) → IsBest Has NoWorse xs y → IsBest Has NoWorse (x ∷ xs) y
  passed x xs y not b = record {
    there = Contains-later x xs y b.there;
    has = b.has;
    best = λ z c h. elim (Contains-cases x xs z c) [ inl e ↦ absurd (not (subst Has (sym e) h)) | inr later ↦ b.best z later h ];
  }

  -- a further item that is no better
  kept : (x : X) (xs : List X) (y : X) → NoWorse y x → IsBest Has NoWorse xs y → IsBest Has NoWorse (x ∷ xs) y
  kept x xs y le b = record {
    there = Contains-later x xs y b.there;
    has = b.has;
    best = λ z c h. elim (Contains-cases x xs z c) [ inl e ↦ subst (NoWorse y) e le | inr later ↦ b.best z later h ];
  }

  -- a further item that is no worse
  taken : (x : X) (xs : List X) (y : X) → Has x → NoWorse x y → IsBest Has NoWorse xs y → IsBest Has NoWorse (x ∷ xs) x
  taken x xs y has le b = record {
    there = (zero, omega arith, refl);
    has = has;
    best = λ z c h. elim (Contains-cases x xs z c) [ inl e ↦ subst (NoWorse x) e (same x) | inr later ↦ trans x y z le (b.best z later h) ];
  }

  first_of_them : (x : X) (xs : List X) → Has x → NoneHas Has xs → IsBest Has NoWorse (x ∷ xs) x
  first_of_them x xs has none = record {
    there = (zero, omega arith, refl);
    has = has;
    best = λ z c h. elim (Contains-cases x xs z c) [ inl e ↦ subst (NoWorse x) e (same x) | inr later ↦ absurd (none z later h) ];
  }

  -- none has the property, or there is a best one
  pub best_of_them : (xs : List X) → NoneHas Has xs ⊎ ((x : X) × IsBest Has NoWorse xs x)
  best_of_them [] = inl (λ x c h. let (i, l, e) = c in absurd (omega arith))
  best_of_them (x ∷ xs) = elim (best_of_them xs) [
    | inl none ↦ elim (decide x) [
      | inl has ↦ inr (x, first_of_them x xs has none)
      | inr not ↦ inl (λ z c h. elim (Contains-cases x xs z c) [ inl e ↦ not (subst Has (sym e) h) | inr later ↦ none z later h ])
    ]
    | inr (y, b) ↦ elim (decide x) [
      | inl has ↦ elim (total x y) [ inl le ↦ inr (x, taken x xs y has le b) | inr ge ↦ inr (y, kept x xs y ge b) ]
      | inr not ↦ inr (y, passed x xs y not b)
    ]
  ]

-- whether an item has the property can be decided
pub any_of_them : {X : Type 0} (Has : X → Type 0) → ((x : X) → Has x ⊎ (Has x → ⊥)) → (xs : List X) → NoneHas Has xs ⊎ ((x : X) × Contains xs x × Has x)
any_of_them Has decide xs = elim (best_of_them Has decide (λ x y. Unit {0}) (λ x y. inl tt) (λ x y z p q. tt) xs) [
  | inl none ↦ inl none
  | inr (x, b) ↦ inr (x, b.there, b.has)
]

placed : {X : Type 0} (Is : ℕ → X → Type 0) (x : X) (xs : List X) → Is zero x → ((i : ℕ) (y : X) → slice_get xs i ≡ Some y → Is (suc i) y)
    → (i : ℕ) (y : X) → slice_get (x ∷ xs) i ≡ Some y → Is i y
placed Is x xs is each zero y at = subst (Is zero) (same_Some x y at) is
placed Is x xs is each (suc i) y at = each i y at

-- a list of so many items, of which each is as it is to be at its place
pub list_of : {X : Type 0} (n : ℕ) (Is : ℕ → X → Type 0) → ((i : ℕ) → i < n → (x : X) × Is i x)
    → (xs : List X) × (length xs ≡ n) × ((i : ℕ) (x : X) → slice_get xs i ≡ Some x → Is i x)
list_of zero Is make = ([], refl, λ i x at. cc)
list_of (suc n) Is make =
    let (x, is) = make zero (omega arith) in
    let (xs, long, each) = list_of n (λ i x. Is (suc i) x) (λ i low. make (suc i) (omega arith)) in
    (x ∷ xs, ap suc long, placed Is x xs is each)
