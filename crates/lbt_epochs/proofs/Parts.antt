-- Parts of lists of clusters, and lists in which write records differ.
use Rattle.std.proofs.Common.{◌≡◌, ℕ, Bool, false, not, List, [], ◌∷◌, eqb, refl, sym, ◌∙◌, ap, Some, inl, inr, arith}
use Rattle.std.specs.Prelude.{Contains, ◌==◌}
use Rattle.std.specs.List.{filter, list_any}
use Rattle.std.proofs.lemmas.Bool.{cases_order, or_parts, or_left, not-true, not_from_true, eqb-false, eq-eqb}
use Rattle.stale_model.specs.declared.Cluster.{Cluster}
use Rattle.stale_model.specs.Orders.{StandsAt}
use Rattle.stale_model.specs.Clusters.{WriteRecordsDiffer}
use Rattle.stale_model.specs.Chains.{without}
use Rattle.stale_model.proofs.Places.{write_stands}
use Rattle.stale_model.proofs.Members.{kept_is_there, kept_passes}
use Rattle.model_laws.proofs.Listings.{origin, origin_rises, origin_stands}

-- none of the clusters has the write of c
abbrev pub Apart : Cluster → List Cluster → Type 0
Apart c xs = (x : Cluster) → Contains xs x → x.write ≡ c.write → ⊥

-- each of a part is in the whole
abbrev pub IsPart : List Cluster → List Cluster → Type 0
IsPart whole part = (x : Cluster) → Contains part x → Contains whole x

-- no write stands at two places
abbrev pub WritesStandOnce : List Cluster → Type 0
WritesStandOnce xs = (i j : ℕ) (x y : Cluster) → StandsAt xs i x → StandsAt xs j y → x.write ≡ y.write → i ≡ j

pub writes_differ : (cs : List Cluster) → WriteRecordsDiffer cs → WritesStandOnce cs
writes_differ cs once i j x y ati atj same = once i j x.write (write_stands cs i x ati) (write_stands cs j y atj ∙ ap Some (sym same))

-- in a part no write stands at two places either
pub part_differs : (passes : Cluster → Bool) (xs : List Cluster) → WritesStandOnce xs → WritesStandOnce (filter passes xs)
part_differs passes xs differ i j x y ati atj same =
    let e = differ (origin passes xs i) (origin passes xs j) x y (origin_stands passes xs i x ati) (origin_stands passes xs j y atj) same in
    elim (cases_order i j) [
      | inl one ↦ one
      | inr less ↦ elim less [
        | inl low ↦ absurd (let r = origin_rises passes xs i j low in omega arith)
        | inr low ↦ absurd (let r = origin_rises passes xs j i low in omega arith)
      ]
    ]

-- whether c is another than x
abbrev pub is_other : Cluster → Cluster → Bool
is_other x c = not (list_any (λ (y : Cluster). eqb y.write c.write) (x ∷ []))

pub not_itself : (x : Cluster) → is_other x x ≡ false
not_itself x = not_from_true _ (or_left (x.write == x.write) (list_any (λ (u : Cluster). u.write == x.write) []) (eq-eqb x.write x.write refl))

-- without x none has the write of x
pub in_without : (xs : List Cluster) (x y : Cluster) → Contains (without xs (x ∷ [])) y → Contains xs y × (y.write ≡ x.write → ⊥)
in_without xs x y c =
    let t = kept_passes (is_other x) xs y c in
    let (e, _) = or_parts (x.write == y.write) (list_any (λ (u : Cluster). u.write == y.write) []) (not-true _ t) in
    (kept_is_there (is_other x) xs y c, λ same. eqb-false x.write y.write e (sym same))
