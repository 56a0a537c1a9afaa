-- What a cluster asks of the rest, and what follows for the rest.
use Rattle.std.proofs.Common.{◌≡◌, ℕ, zero, ◌+◌, ◌<◌, ◌≤◌, Bool, true, false, cond, List, [], ◌∷◌, Option, Some, None, ltb, refl, sym, ◌∙◌, ap, inl, inr, arith}
use Rattle.std.specs.Prelude.{Contains}
use Rattle.std.specs.List.{best_of}
use Rattle.std.specs.Option.{option_to_list}
use Rattle.std.proofs.lemmas.Bool.{ltb-true, ltb-false, both_ways}
use Rattle.stale_model.specs.declared.Cluster.{Cluster}
use Rattle.stale_model.specs.declared.End.TheVariants.{Hard, Soft}
use Rattle.stale_model.specs.Chains.{without, late_writes, late_reads, is_later, latest, demand_of, demand, nothing, one, impossible}
use Rattle.stale_model.specs.Zones.{reads_start}
use Rattle.stale_model.proofs.Sorted.{first_or_later, contains_later}
use Rattle.stale_model.proofs.Members.{kept_is_there, kept_passes, kept_from, contains_first}
use Rattle.lbt_epochs.proofs.Filters.{none_passes}
use Rattle.lbt_epochs.proofs.Parts.{is_other, in_without}

-- ---- the latest

best_by : {X : Type 0} (b : Bool) (x y : X) (zs : List X) (better : X → X → Bool) → Contains (x ∷ zs) (best_of better x zs) → Contains (y ∷ zs) (best_of better y zs)
    → Contains (x ∷ y ∷ zs) (best_of better (cond b y x) zs)
best_by true x y zs better hx hy = contains_later x (best_of better y zs) (y ∷ zs) hy
best_by false x y zs better hx hy = elim (first_or_later x (best_of better x zs) zs hx) [
  | inl e ↦ (zero, omega arith, e)
  | inr c ↦ contains_later x (best_of better x zs) (y ∷ zs) (contains_later y (best_of better x zs) zs c)
]

-- the best of a list is of the list
best_is_there : {X : Type 0} (better : X → X → Bool) (x : X) (xs : List X) → Contains (x ∷ xs) (best_of better x xs)
best_is_there better x [] = contains_first x []
best_is_there better x (y ∷ zs) = best_by (better y x) x y zs better (best_is_there better x zs) (best_is_there better y zs)

-- where there is no latest there is none at all
none_latest : (start : Cluster → ℕ) (cs : List Cluster) → latest start cs ≡ None → cs ≡ []
none_latest start [] e = refl
none_latest start (c ∷ cs) e = cc

-- the latest is one of them
latest_is_there : (start : Cluster → ℕ) (cs : List Cluster) (x : Cluster) → latest start cs ≡ Some x → Contains cs x
latest_is_there start [] x e = cc
latest_is_there start (c ∷ cs) x e = let same : best_of (is_later start) c cs ≡ x = cc in rw same at (best_is_there (is_later start) c cs)

-- ---- what a demand says

-- one of the rest has a read that starts late
pub record ReadsLate (d : ℕ) (rest : List Cluster) (c x : Cluster) : Type 0 where
  pub there : Contains rest x
  pub late : c.f + d < reads_start x

-- one of the rest writes late
pub record WritesLate (rest : List Cluster) (c : Cluster) (p u : ℕ) : Type 0 where
  pub x : Cluster
  pub there : Contains rest x
  pub late : c.f < x.w
  pub p_is : p ≡ c.first
  pub u_is : u ≡ x.write

-- two of the rest have a read that starts late
pub record TwoReadLate (d : ℕ) (rest : List Cluster) (c : Cluster) (p q q2 : ℕ) : Type 0 where
  pub x : Cluster
  pub y : Cluster
  pub first : ReadsLate d rest c x
  pub second : ReadsLate d rest c y
  pub differ : y.write ≡ x.write → ⊥
  pub p_is : p ≡ c.first
  pub q_is : q ≡ x.last
  pub q2_is : q2 ≡ y.last

-- i may stand anywhere before c, by its write and by its reads
pub record MayStandBefore (d : ℕ) (c i : Cluster) : Type 0 where
  pub hard : i.w ≤ c.f
  pub soft : reads_start i ≤ c.f + d

-- where c asks for x, x is of the rest, and all others may stand before c
pub record AsksOne (d : ℕ) (c : Cluster) (rest : List Cluster) (x : Cluster) : Type 0 where
  pub late : ReadsLate d rest c x
  pub hard : (i : Cluster) → Contains rest i → i.w ≤ c.f
  pub soft : (i : Cluster) → Contains (without rest (x ∷ [])) i → reads_start i ≤ c.f + d

-- what demand_of gives comes from the latest that it is given
nothing_from : (c : Cluster) (u x y : Option Cluster) → demand_of c u x y ≡ nothing → (u ≡ None) × (x ≡ None)
nothing_from c (Some u) x y e = cc
nothing_from c None (Some x) (Some y) e = cc
nothing_from c None (Some x) None e = cc
nothing_from c None None y e = (refl, refl)

one_from : (c : Cluster) (u x y : Option Cluster) (z : Cluster) → demand_of c u x y ≡ one z → (u ≡ None) × (x ≡ Some z) × (y ≡ None)
one_from c (Some u) x y z e = cc
one_from c None (Some x) (Some y) z e = cc
one_from c None (Some x) None z e = let same : x ≡ z = cc in (refl, ap Some same, refl)
one_from c None None y z e = cc

hard_from : (c : Cluster) (u x y : Option Cluster) (p v : ℕ) → demand_of c u x y ≡ impossible (Hard p v)
    → (z : Cluster) × (u ≡ Some z) × (p ≡ c.first) × (v ≡ z.write)
hard_from c (Some u) x y p v e = (u, refl, cc, cc)
hard_from c None (Some x) (Some y) p v e = cc
hard_from c None (Some x) None p v e = cc
hard_from c None None y p v e = cc

soft_from : (c : Cluster) (u x y : Option Cluster) (p q q2 : ℕ) → demand_of c u x y ≡ impossible (Soft p q q2)
    → (a : Cluster) × (b : Cluster) × (x ≡ Some a) × (y ≡ Some b) × (p ≡ c.first) × (q ≡ a.last) × (q2 ≡ b.last)
soft_from c (Some u) x y p q q2 e = cc
soft_from c None (Some x) (Some y) p q q2 e = (x, y, refl, refl, cc, cc, cc)
soft_from c None (Some x) None p q q2 e = cc
soft_from c None None y p q q2 e = cc

late_by : (d : ℕ) (c x : Cluster) (rest : List Cluster) (i : Cluster) (b : Bool) → ltb (c.f + d) (reads_start i) ≡ b → without (late_reads d c.f rest) (x ∷ []) ≡ []
    → Contains rest i → is_other x i ≡ true → ltb (c.f + d) (reads_start i) ≡ false
late_by d c x rest i true e none there apart =
    let late : Contains (late_reads d c.f rest) i = kept_from (λ u. ltb (c.f + d) (reads_start u)) rest i there e in
    let same = none_passes (is_other x) (late_reads d c.f rest) i none late in
    absurd (both_ways (is_other x i) same apart)
late_by d c x rest i false e none there apart = e

module _ (d : ℕ) (c : Cluster) (rest : List Cluster) where
  -- those that write late, and those that read late
  abbrev writes : List Cluster
  writes = late_writes c.f rest

  abbrev reads : List Cluster
  reads = late_reads d c.f rest

  abbrev first_write : Option Cluster
  first_write = latest (λ u. u.w) writes

  abbrev first_read : Option Cluster
  first_read = latest reads_start reads

  abbrev second_read : Option Cluster → Option Cluster
  second_read x = latest reads_start (without reads (option_to_list x))

  -- where the latest reader starts late
  reads_late : (x : Cluster) → Contains reads x → ReadsLate d rest c x
  reads_late x there = record {
    there = kept_is_there (λ z. ltb (c.f + d) (reads_start z)) rest x there;
    late = ltb-true (c.f + d) (reads_start x) (kept_passes (λ z. ltb (c.f + d) (reads_start z)) rest x there);
  }

  not_late : (i : Cluster) → first_write ≡ None → Contains rest i → i.w ≤ c.f
  not_late i none there = ltb-false c.f i.w (none_passes (λ u. ltb c.f u.w) rest i (none_latest (λ u. u.w) writes none) there)

  -- where c asks nothing, all of the rest may stand before it
  pub asks_nothing : demand d c rest ≡ nothing → (i : Cluster) → Contains rest i → MayStandBefore d c i
  asks_nothing e i there =
      let (no_write, no_read) = nothing_from c first_write first_read (second_read first_read) e in
      record {
        hard = not_late i no_write there;
        soft = ltb-false (c.f + d) (reads_start i) (none_passes (λ u. ltb (c.f + d) (reads_start u)) rest i (none_latest reads_start reads no_read) there);
      }

  pub asks_one : (x : Cluster) → demand d c rest ≡ one x → AsksOne d c rest x
  asks_one x e =
      let (no_write, is_x, no_other) = one_from c first_write first_read (second_read first_read) x e in
      let others : without reads (x ∷ []) ≡ [] = none_latest reads_start (without reads (x ∷ [])) (ap second_read (sym is_x) ∙ no_other) in
      record {
        late = reads_late x (latest_is_there reads_start reads x is_x);
        hard = λ i there. not_late i no_write there;
        soft = λ i there.
            let apart = kept_passes (is_other x) rest i there in
            let is_there = kept_is_there (is_other x) rest i there in
            ltb-false (c.f + d) (reads_start i) (late_by d c x rest i (ltb (c.f + d) (reads_start i)) refl others is_there apart);
      }

  -- a hard end names a late write
  pub hard_writes_late : (p u : ℕ) → demand d c rest ≡ impossible (Hard p u) → WritesLate rest c p u
  hard_writes_late p u e =
      let (x, is, p_is, u_is) = hard_from c first_write first_read (second_read first_read) p u e in
      let there = latest_is_there (λ u. u.w) writes x is in
      record {
        x = x;
        there = kept_is_there (λ z. ltb c.f z.w) rest x there;
        late = ltb-true c.f x.w (kept_passes (λ z. ltb c.f z.w) rest x there);
        p_is = p_is;
        u_is = u_is;
      }

  -- a soft end names two late readers
  pub soft_reads_late : (p q q2 : ℕ) → demand d c rest ≡ impossible (Soft p q q2) → TwoReadLate d rest c p q q2
  soft_reads_late p q q2 e =
      let (x, y, x_is, y_is, p_is, q_is, q2_is) = soft_from c first_write first_read (second_read first_read) p q q2 e in
      let second : latest reads_start (without reads (x ∷ [])) ≡ Some y = ap second_read (sym x_is) ∙ y_is in
      let (y_late, differ) = in_without reads x y (latest_is_there reads_start (without reads (x ∷ [])) y second) in
      record {
        x = x;
        y = y;
        first = reads_late x (latest_is_there reads_start reads x x_is);
        second = reads_late y y_late;
        differ = differ;
        p_is = p_is;
        q_is = q_is;
        q2_is = q2_is;
      }
