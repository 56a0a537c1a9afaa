-- The chain that rounds remove is that of a cluster that is left, which it begins with.
use Rattle.std.proofs.Common.{◌≡◌, ℕ, zero, suc, ◌+◌, ◌-◌, ◌^◌, ◌<◌, not, List, [], ◌∷◌, length, refl, ◌∙◌, ap, arith}
use Rattle.std.specs.Prelude.{Contains, ◌==◌}
use Rattle.std.specs.List.{list_any}
use Rattle.std.proofs.lemmas.Bool.{eq-eqb, or_left, not_from_true}
use Rattle.stale_model.specs.declared.Cluster.{Cluster}
use Rattle.stale_model.specs.Chains.{without, Demand, nothing, one, impossible, demand, Chain, ends, fails, cut, followed_by, chain_by, chain, Round, removes, repeats, refutes, join, round, or_later, rounds}
use Rattle.stale_model.proofs.Sorted.{contains_later}
use Rattle.lbt_epochs.proofs.Filters.{filter_shorter}

-- the chain of one of the candidates ends with these
pub record Ends (d : ℕ) (left candidates cs : List Cluster) : Type 0 where
  pub room : ℕ
  pub x : Cluster
  pub there : Contains candidates x
  pub end : chain d room x (without left (x ∷ [])) ≡ ends cs

later_ends : (d : ℕ) (left candidates cs : List Cluster) (c : Cluster) → Ends d left candidates cs → Ends d left (c ∷ candidates) cs
later_ends d left candidates cs c e = record { room = e.room; x = e.x; there = contains_later c e.x candidates e.there; end = e.end }

first_ends : (d room : ℕ) (left candidates cs : List Cluster) (c : Cluster) → chain d room c (without left (c ∷ [])) ≡ ends cs → Ends d left (c ∷ candidates) cs
first_ends d room left candidates cs c e = record { room = room; x = c; there = (zero, omega arith, refl); end = e }

joined : (d room : ℕ) (left candidates cs : List Cluster) (c : Cluster) (r : Chain) (later : Round) → chain d room c (without left (c ∷ [])) ≡ r
    → (later ≡ removes cs → Ends d left candidates cs) → join r later ≡ removes cs → Ends d left (c ∷ candidates) cs
joined d room left candidates cs c (ends these) later e h f = let same : these ≡ cs = cc in first_ends d room left candidates cs c (e ∙ ap ends same)
joined d room left candidates cs c cut (removes these) e h f = later_ends d left candidates cs c (h f)
joined d room left candidates cs c cut repeats e h f = cc
joined d room left candidates cs c cut (refutes tries) e h f = cc
joined d room left candidates cs c (fails these end) (removes others) e h f = later_ends d left candidates cs c (h f)
joined d room left candidates cs c (fails these end) repeats e h f = cc
joined d room left candidates cs c (fails these end) (refutes tries) e h f = cc

round_ends : (d room : ℕ) (left candidates cs : List Cluster) → round d room left candidates ≡ removes cs → Ends d left candidates cs
round_ends d room left [] cs e = cc
round_ends d room left (c ∷ candidates) cs e =
    joined d room left candidates cs c (chain d room c (without left (c ∷ []))) (round d room left candidates) refl (round_ends d room left candidates cs) e

or_ends : (d room : ℕ) (left cs : List Cluster) (now later : Round) → round d room left left ≡ now → (later ≡ removes cs → Ends d left left cs) → or_later now later ≡ removes cs
    → Ends d left left cs
or_ends d room left cs repeats later e h f = h f
or_ends d room left cs (removes these) later e h f = round_ends d room left left cs (e ∙ f)
or_ends d room left cs (refutes tries) later e h f = cc

-- so what rounds remove is the chain of one of those that are left
pub removed_by : (d more r : ℕ) (left cs : List Cluster) → rounds d more r left ≡ removes cs → Ends d left left cs
removed_by d zero r left cs e = cc
removed_by d (suc more) r left cs e =
    or_ends d (2 ^ r - 1) left cs (round d (2 ^ r - 1) left left) (rounds d more (r + 1) left) refl (removed_by d more (r + 1) left cs) e

-- ---- such a chain begins with its cluster, so without it fewer are left

-- the clusters of a chain begin with c
abbrev BeginsWith : Cluster → List Cluster → Type 0
BeginsWith c cs = (tail : List Cluster) × (cs ≡ c ∷ tail)

begins_by : (c : Cluster) (q : Demand) (go_on : Cluster → Chain) (cs : List Cluster) → ((x : Cluster) → go_on x ≡ ends cs → BeginsWith c cs) → chain_by c q go_on ≡ ends cs → BeginsWith c cs
begins_by c nothing go_on cs later e = ([], cc)
begins_by c (one x) go_on cs later e = later x e
begins_by c (impossible end) go_on cs later e = cc

followed_begins : (c : Cluster) (k : Chain) (cs : List Cluster) → followed_by c k ≡ ends cs → BeginsWith c cs
followed_begins c (ends later) cs e = (later, cc)
followed_begins c (fails later end) cs e = cc
followed_begins c cut cs e = cc

chain_begins : (d room : ℕ) (c : Cluster) (rest cs : List Cluster) → chain d room c rest ≡ ends cs → BeginsWith c cs
chain_begins d zero c rest cs e = begins_by c (demand d c rest) (λ x. cut) cs (λ x f. cc) e
chain_begins d (suc room) c rest cs e =
    begins_by c (demand d c rest) (λ x. followed_by c (chain d room x (without rest (x ∷ [])))) cs (λ x f. followed_begins c (chain d room x (without rest (x ∷ []))) cs f) e

-- fewer are left without a list that begins with one of them
without_fewer : (left tail : List Cluster) (x : Cluster) → Contains left x → length (without left (x ∷ tail)) < length left
without_fewer left tail x there =
    filter_shorter (λ z. not (list_any (λ u. u.write == z.write) (x ∷ tail))) left x there
    (not_from_true _ (or_left (x.write == x.write) (list_any (λ (u : Cluster). u.write == x.write) tail) (eq-eqb x.write x.write refl)))

-- fewer are left after rounds that remove a chain
pub fewer_after_rounds : (d more r : ℕ) (left cs : List Cluster) → rounds d more r left ≡ removes cs → length (without left cs) < length left
fewer_after_rounds d more r left cs e =
    let by = removed_by d more r left cs e in
    let (tail, begins) = chain_begins d by.room by.x (without left (by.x ∷ [])) cs by.end in
    rw begins (without_fewer left tail by.x by.there)
