-- Clusters that fail with themselves alone, since what they ask of the others can't be.
use Rattle.std.proofs.Common.{◌≡◌, ℕ, zero, suc, ◌+◌, ◌<◌, ◌≤◌, true, List, [], ◌∷◌, Option, Some, None, ltb, refl, sym, ◌∙◌, ap, inl, inr, arith}
use Rattle.std.specs.Prelude.{Contains, slice_get}
use Rattle.std.specs.List.{best_of}
use Rattle.std.specs.Option.{option_to_list}
use Rattle.std.proofs.lemmas.Bool.{cases_eq, lt-ltb}
use Rattle.stale_model.specs.declared.Cluster.{Cluster}
use Rattle.stale_model.specs.declared.End.{End}
use Rattle.stale_model.specs.declared.End.TheVariants.{Hard, Soft}
use Rattle.stale_model.specs.Chains.{without, late_writes, late_reads, is_later, latest, Demand, demand_of, demand, impossible, Chain, fails, followed_by, chain_by, chain, cut, join, round, writes_of}
use Rattle.stale_model.specs.Zones.{reads_start}
use Rattle.stale_model.proofs.Sorted.{contains_later}
use Rattle.stale_model.proofs.Members.{kept_from, empty_has_none, contains_first}
use Rattle.lbt_epochs.specs.Steps.{FailsAlone, HasLateWrite, HasThreeLateReads, IsStuck}
use Rattle.lbt_epochs.proofs.Parts.{is_other}
use Rattle.lbt_epochs.proofs.LatestRanked.{IsRanked, first_is_later, is_other_from, no_later_start, no_later_itself}

-- where there is one, one is the latest
latest_there : (start : Cluster → ℕ) (cs : List Cluster) (x : Cluster) → Contains cs x → (z : Cluster) × (latest start cs ≡ Some z)
latest_there start [] x there = absurd (empty_has_none x there)
latest_there start (c ∷ cs) x there = (best_of (is_later start) c cs, refl)

-- a late write can't be, whatever else is late
hard_by : (c : Cluster) (u x y : Option Cluster) (v : Cluster) → u ≡ Some v → (end : End) × (demand_of c u x y ≡ impossible end)
hard_by c (Some u) x y v e = (Hard c.first u.write, refl)
hard_by c None x y v e = cc

-- neither can two late readers
soft_by : (c : Cluster) (u y : Option Cluster) (a b : Cluster) → y ≡ Some b → (end : End) × (demand_of c u (Some a) y ≡ impossible end)
soft_by c (Some u) y a b e = (Hard c.first u.write, refl)
soft_by c None (Some y) a b e = (Soft c.first a.last y.last, refl)
soft_by c None None a b e = cc

others_by : (c : Cluster) (u x : Option Cluster) (second : Option Cluster → Option Cluster) (a b : Cluster) → x ≡ Some a → second (Some a) ≡ Some b
    → (end : End) × (demand_of c u x (second x) ≡ impossible end)
others_by c u (Some x) second a b e f = let same : x ≡ a = cc in soft_by c u (second (Some x)) x b (rw same f)
others_by c u None second a b e f = cc

-- what is of the clusters and has another write is there without x
there_without : (xs : List Cluster) (x y : Cluster) → Contains xs y → (x.write ≡ y.write → ⊥) → Contains (without xs (x ∷ [])) y
there_without xs x y there apart = kept_from (is_other x) xs y there (is_other_from x.write y.write apart)

module _ (d : ℕ) (c : Cluster) (rest : List Cluster) where
  asks_late_write : (u : Cluster) → Contains rest u → c.f < u.w → (end : End) × (demand d c rest ≡ impossible end)
  asks_late_write u there late =
      let (v, e) = latest_there (λ z. z.w) (late_writes c.f rest) u (kept_from (λ z. ltb c.f z.w) rest u there (lt-ltb c.f u.w late)) in
      hard_by c (latest (λ z. z.w) (late_writes c.f rest)) _ _ v e

  reads_late : (x : Cluster) → Contains rest x → c.f + d < reads_start x → Contains (late_reads d c.f rest) x
  reads_late x there late = kept_from (λ z. ltb (c.f + d) (reads_start z)) rest x there (lt-ltb (c.f + d) (reads_start x) late)

  -- one of two late readers is another than x
  other_late : (x a b : Cluster) → Contains (late_reads d c.f rest) a → Contains (late_reads d c.f rest) b → (a.write ≡ b.write → ⊥)
      → (z : Cluster) × Contains (without (late_reads d c.f rest) (x ∷ [])) z
  other_late x a b there there_too apart = elim (cases_eq x.write a.write) [
    | inl e ↦ (b, there_without (late_reads d c.f rest) x b there_too (λ f. apart (sym e ∙ f)))
    | inr n ↦ (a, there_without (late_reads d c.f rest) x a there n)
  ]

  asks_two_late_reads : (a b : Cluster) → Contains rest a → Contains rest b → c.f + d < reads_start a → c.f + d < reads_start b → (a.write ≡ b.write → ⊥)
      → (end : End) × (demand d c rest ≡ impossible end)
  asks_two_late_reads a b there there_too late late_too apart =
      let late_a = reads_late a there late in
      let late_b = reads_late b there_too late_too in
      let (x, e) = latest_there reads_start (late_reads d c.f rest) a late_a in
      let (z, there_z) = other_late x a b late_a late_b apart in
      let (y, f) = latest_there reads_start (without (late_reads d c.f rest) (x ∷ [])) z there_z in
      others_by c (latest (λ u. u.w) (late_writes c.f rest)) (latest reads_start (late_reads d c.f rest))
      (λ first. latest reads_start (without (late_reads d c.f rest) (option_to_list first))) x y e f

-- write records differ in these clusters
abbrev pub Differ : List Cluster → Type 0
Differ left = (a b : Cluster) → Contains left a → Contains left b → a.write ≡ b.write → a ≡ b

-- below a late write each fails with itself alone
pub late_write_fails : (d f : ℕ) (left : List Cluster) → Differ left → HasLateWrite f left → (c : Cluster) → Contains left c → c.f ≤ f → FailsAlone d left c
late_write_fails d f left differ has c there low =
    let late = has.late in
    let in_turn = has.in_turn in
    let apart : c.write ≡ has.u.write → ⊥ = λ e. let same = ap (λ (x : Cluster). x.f) (differ c has.u there has.there e) in omega arith in
    let (end, e) = asks_late_write d c (without left (c ∷ [])) has.u (there_without left c has.u has.there apart) (omega arith) in
    record { end = end; demand_is = e }

-- below three late readers too, since two of them are others
pub three_late_reads_fail : (d f : ℕ) (left : List Cluster) → HasThreeLateReads d f left → (c : Cluster) → Contains left c → c.f ≤ f → FailsAlone d left c
three_late_reads_fail d f left has c there low =
    let rest = without left (c ∷ []) in
    let x_late = has.x_late in
    let y_late = has.y_late in
    let z_late = has.z_late in
    let two = λ (a b : Cluster) (there_a : Contains left a) (there_b : Contains left b) (na : c.write ≡ a.write → ⊥) (nb : c.write ≡ b.write → ⊥)
    (late_a : c.f + d < reads_start a) (late_b : c.f + d < reads_start b) (apart : a.write ≡ b.write → ⊥).
    asks_two_late_reads d c rest a b (there_without left c a there_a na) (there_without left c b there_b nb) late_a late_b apart in
    let asked : (end : End) × (demand d c rest ≡ impossible end) = elim (cases_eq c.write has.x.write) [
      | inl e ↦ two has.y has.z has.y_there has.z_there (λ g. has.x_not_y (sym e ∙ g)) (λ g. has.x_not_z (sym e ∙ g)) (omega arith) (omega arith) has.y_not_z
      | inr n ↦ elim (cases_eq c.write has.y.write) [
        | inl e ↦ two has.x has.z has.x_there has.z_there n (λ g. has.y_not_z (sym e ∙ g)) (omega arith) (omega arith) has.x_not_z
        | inr m ↦ two has.x has.y has.x_there has.y_there n m (omega arith) (omega arith) has.x_not_y
      ]
    ] in
    record { end = asked.0; demand_is = asked.1 }

-- ---- three that are late in order

ranked_apart : (start : Cluster → ℕ) (rest : List Cluster) (a b : Cluster) → Differ rest → Contains rest a → Contains rest b → is_later start a b ≡ true → a.write ≡ b.write → ⊥
ranked_apart start rest a b differ there there_too later e =
    let same : a ≡ b = differ a b there there_too e in
    no_later_itself (start a) a.write (rw (sym same) at later)

three_by : (d f : ℕ) (rest : List Cluster) (x y z : Cluster) (zs : List Cluster) → IsRanked reads_start rest (x ∷ y ∷ z ∷ zs) → f + d < reads_start z → HasThreeLateReads d f rest
three_by d f rest x y z zs ranked late =
    let later_y = contains_first y (z ∷ zs) in
    let later_z = contains_later y z (z ∷ zs) (contains_first z zs) in
    let there_x = ranked.known x (contains_first x (y ∷ z ∷ zs)) in
    let there_y = ranked.known y (contains_later x y (y ∷ z ∷ zs) later_y) in
    let there_z = ranked.known z (contains_later x z (y ∷ z ∷ zs) later_z) in
    let xy = first_is_later reads_start x y (y ∷ z ∷ zs) ranked.ranked later_y in
    let xz = first_is_later reads_start x z (y ∷ z ∷ zs) ranked.ranked later_z in
    let yz = ranked.ranked 1 2 z (omega arith) (omega arith) in
    let low_x = no_later_start (reads_start x) (reads_start z) x.write z.write xz in
    let low_y = no_later_start (reads_start y) (reads_start z) y.write z.write yz in
    record {
      x = x;
      y = y;
      z = z;
      x_there = there_x;
      y_there = there_y;
      z_there = there_z;
      x_late = omega arith;
      y_late = omega arith;
      z_late = late;
      x_not_y = ranked_apart reads_start rest x y ranked.differ there_x there_y xy;
      x_not_z = ranked_apart reads_start rest x z ranked.differ there_x there_z xz;
      y_not_z = ranked_apart reads_start rest y z ranked.differ there_y there_z yz;
    }

-- where the third in order is late, three are
pub third_is_late : (d f : ℕ) (rest ys : List Cluster) (z : Cluster) → IsRanked reads_start rest ys → slice_get ys 2 ≡ Some z → f + d < reads_start z → HasThreeLateReads d f rest
third_is_late d f rest [] z ranked e late = cc
third_is_late d f rest (x ∷ []) z ranked e late = cc
third_is_late d f rest (x ∷ y ∷ []) z ranked e late = cc
third_is_late d f rest (x ∷ y ∷ t ∷ zs) z ranked e late = let same : t ≡ z = cc in three_by d f rest x y t zs ranked (rw same late)

-- ---- rounds of such clusters

-- its chain is itself alone
chain_alone : (d room : ℕ) (c : Cluster) (rest : List Cluster) (end : End) → demand d c rest ≡ impossible end → chain d room c rest ≡ fails (c ∷ []) end
chain_alone d zero c rest end e = ap (λ (asked : Demand). chain_by c asked (λ x. cut)) e
chain_alone d (suc room) c rest end e = ap (λ (asked : Demand). chain_by c asked (λ x. followed_by c (chain d room x (without rest (x ∷ []))))) e

-- where each of these candidates fails with itself alone, the round over them is refuted
pub stuck_alone : (d room : ℕ) (left cs : List Cluster) → ((c : Cluster) → Contains cs c → FailsAlone d left c) → IsStuck (round d room left cs)
stuck_alone d room left [] each = record { tries = []; round_is = refl }
stuck_alone d room left (c ∷ cs) each =
    let alone = each c (contains_first c cs) in
    let later = stuck_alone d room left cs (λ x there. each x (contains_later c x cs there)) in
    let e = chain_alone d room c (without left (c ∷ [])) alone.end alone.demand_is in
    record {
      tries = record { chain = writes_of (c ∷ []); end = alone.end } ∷ later.tries;
      round_is = ap (λ (k : Chain). join k (round d room left cs)) e ∙ ap (join (fails (c ∷ []) alone.end)) later.round_is;
    }
