-- Clusters taken out of a list, one after the other.
use Rattle.std.proofs.Common.{◌≡◌, zero, Bool, true, false, not, ◌||◌, cond, List, [], ◌∷◌, eqb, refl, sym, ap, inl, inr, arith}
use Rattle.std.specs.Prelude.{Contains}
use Rattle.std.specs.List.{filter, list_any}
use Rattle.std.specs.List.Sorted.{IsPermutation}
use Rattle.std.proofs.lemmas.List.Sorted.{IsPermutation-filter_both}
use Rattle.std.proofs.lemmas.Bool.{eqb-true, eq-eqb}
use Rattle.stale_model.specs.declared.Cluster.{Cluster}
use Rattle.stale_model.specs.Chains.{without}
use Rattle.stale_model.specs.Clusters.{writes_of, WriteRecordsDiffer}
use Rattle.stale_model.proofs.Places.{write_there}
use Rattle.stale_model.proofs.Sorted.{first_or_later, contains_later, no_repeats_tail, not_in_tail}
use Rattle.lbt_epochs.proofs.Parts.{is_other}

filter_twice_by : (a b : Bool) (c : Cluster) (r t : List Cluster) (q : Cluster → Bool) → q c ≡ not b → r ≡ filter q t
    → cond (not (a || b)) (c ∷ r) r ≡ filter q (cond (not (a || false)) (c ∷ t) t)
filter_twice_by true b c r t q e h = h
filter_twice_by false true c r t q e h = rw (e, h) refl
filter_twice_by false false c r t q e h = rw (e, h) refl

-- taking out x and then the others takes out all of them
pub without_in_turn : (xs : List Cluster) (x : Cluster) (ys : List Cluster) → without xs (x ∷ ys) ≡ without (without xs (x ∷ [])) ys
without_in_turn [] x ys = refl
without_in_turn (c ∷ cs) x ys =
    filter_twice_by (eqb x.write c.write) (list_any (λ y. eqb y.write c.write) ys) c (without cs (x ∷ ys)) (without cs (x ∷ []))
    (λ z. not (list_any (λ y. eqb y.write z.write) ys)) refl (without_in_turn cs x ys)

pub without_none : (xs : List Cluster) → without xs [] ≡ xs
without_none [] = refl
without_none (c ∷ cs) = rw (without_none cs) refl

-- a cluster with another write is kept
kept_by : (x c : Cluster) (b : Bool) → eqb x.write c.write ≡ b → (x.write ≡ c.write → ⊥) → eqb x.write c.write ≡ false
kept_by x c true e apart = absurd (apart (eqb-true x.write c.write e))
kept_by x c false e apart = e

-- where none has its write, none is taken
none_same : (x : Cluster) (cs : List Cluster) → (Contains (writes_of cs) x.write → ⊥) → filter (λ c. list_any (λ y. eqb y.write c.write) (x ∷ [])) cs ≡ []
none_same x [] apart = refl
none_same x (c ∷ cs) apart =
    let first : x.write ≡ c.write → ⊥ = λ e. apart (zero, omega arith, sym e) in
    let no : eqb x.write c.write ≡ false = kept_by x c (eqb x.write c.write) refl first in
    rw no (none_same x cs (λ there. apart (contains_later c.write x.write (writes_of cs) there)))

-- only x is taken
one_same : (x : Cluster) (cs : List Cluster) → WriteRecordsDiffer cs → Contains cs x → filter (λ c. list_any (λ y. eqb y.write c.write) (x ∷ [])) cs ≡ x ∷ []
one_same x [] once there = absurd (let l = there.1 in omega arith)
one_same x (c ∷ cs) once there = elim (first_or_later c x cs there) [
  | inl e ↦
      let yes : eqb x.write c.write ≡ true = eq-eqb x.write c.write (sym (ap (λ y. y.write) e)) in
      let apart : Contains (writes_of cs) x.write → ⊥ = λ has. not_in_tail c.write (writes_of cs) once (rw e has) in
      rw (yes, none_same x cs apart, e) refl
  | inr later ↦
      let (i, l, at) = later in
      let apart : x.write ≡ c.write → ⊥ = λ e. not_in_tail c.write (writes_of cs) once (rw (← e) (write_there cs x later)) in
      let no : eqb x.write c.write ≡ false = kept_by x c (eqb x.write c.write) refl apart in
      rw no (one_same x cs (no_repeats_tail c.write (writes_of cs) once) later)
]

-- a list is x and what is left without x
pub one_and_rest : (x : Cluster) (cs : List Cluster) → WriteRecordsDiffer cs → Contains cs x → IsPermutation cs (x ∷ without cs (x ∷ []))
one_and_rest x cs once there =
    rw (one_same x cs once there) at (IsPermutation-filter_both (λ c. list_any (λ y. eqb y.write c.write) (x ∷ [])) (is_other x) (λ c. refl) cs)
