-- The latest of clusters is the first of them in order.
use Rattle.std.proofs.Common.{◌≡◌, ◌⊎◌, ℕ, suc, ◌+◌, ◌<◌, ◌≤◌, Bool, true, false, not, ◌&&◌, ◌||◌, cond, List, [], ◌∷◌, Option, Some, None, get_or, ltb, eqb, refl, sym, ◌∙◌, ap, inl, inr, arith}
use Rattle.std.specs.Prelude.{Contains, slice_get, AllPairs}
use Rattle.std.specs.List.{filter, best_of}
use Rattle.std.specs.Cmp.{IsStrictWeakOrder}
use Rattle.std.specs.Option.{option_to_list}
use Rattle.std.proofs.lemmas.Bool.{ltb-true, ltb-false, both_ways}
use Rattle.std.proofs.lemmas.Bool.Decides.{nat_tests}
use Rattle.std.proofs.lemmas.List.{get_or_default}
use Rattle.std.proofs.lemmas.List.MinMax.{IsFirstBest-from_best_of}
use Rattle.stale_model.specs.declared.Cluster.{Cluster}
use Rattle.stale_model.specs.Chains.{without, late_reads, is_later, latest, demand_of, demand}
use Rattle.stale_model.specs.Zones.{reads_start}
use Rattle.stale_model.proofs.Sorted.{first_or_later, contains_later}
use Rattle.stale_model.proofs.Members.{kept_is_there, kept_passes, kept_from, empty_has_none, contains_first}
use Rattle.lbt_epochs.specs.Steps.{if_late}
use Rattle.lbt_epochs.proofs.Filters.{filter_within, filter_twice}
use Rattle.lbt_epochs.proofs.Parts.{is_other}

one_way_nat : (s t w v : ℕ) → (ltb t s || (eqb s t && ltb w v)) ≡ true → (ltb s t || (eqb t s && ltb v w)) ≡ false
one_way_nat s t w v h = grind (arith, nat_tests)

chain_nat : (s t u w v x : ℕ) → (ltb t s || (eqb s t && ltb w v)) ≡ false → (ltb u t || (eqb t u && ltb v x)) ≡ false → (ltb u s || (eqb s u && ltb w x)) ≡ false
chain_nat s t u w v x h k = grind (arith, nat_tests)

-- to be later is an order
pub is_later_ranks : (start : Cluster → ℕ) → IsStrictWeakOrder (is_later start)
is_later_ranks start = record {
  one_way = λ a b h. one_way_nat (start a) (start b) a.write b.write h;
  chain = λ a b c h k. chain_nat (start a) (start b) (start c) a.write b.write c.write h k;
}

-- where there is none, none is the latest
pub latest_none : (start : Cluster → ℕ) (cs : List Cluster) → ((y : Cluster) → Contains cs y → ⊥) → latest start cs ≡ None
latest_none start [] h = refl
latest_none start (c ∷ cs) h = absurd (h c (contains_first c cs))

-- one that is later than all others is the latest
pub latest_some : (start : Cluster → ℕ) (cs : List Cluster) (x : Cluster) → Contains cs x → ((y : Cluster) → Contains cs y → (x ≡ y) ⊎ (is_later start x y ≡ true)) → latest start cs ≡ Some x
latest_some start [] x c h = absurd (empty_has_none x c)
latest_some start (c ∷ cs) x there h =
    let (b, (within, none, firsts), is) = IsFirstBest-from_best_of (is_later_ranks start) c cs in
    let best = best_of (is_later start) c cs in
    let at : get_or (c ∷ cs) b best ≡ best = get_or_default (c ∷ cs) b best c within ∙ is in
    elim (h best (b, within, at)) [
      | inl e ↦ ap Some (sym e)
      | inr later ↦
          let (k, l, e) = there in
          let no = none k x l in
          let here : get_or (c ∷ cs) b x ≡ best = get_or_default (c ∷ cs) b x c within ∙ is in
          absurd (both_ways _ (rw (e, here) at no) later)
    ]

-- ys are those of the rest that start after 0, and others, each later than those after it; write records differ
pub record IsRanked (start : Cluster → ℕ) (rest ys : List Cluster) : Type 0 where
  pub known : (y : Cluster) → Contains ys y → Contains rest y
  pub whole : (y : Cluster) → Contains rest y → 0 < start y → Contains ys y
  pub ranked : AllPairs (λ a b. is_later start a b ≡ true) ys
  pub differ : (a b : Cluster) → Contains rest a → Contains rest b → a.write ≡ b.write → a ≡ b

-- the first is later than the others
pub first_is_later : (start : Cluster → ℕ) (y z : Cluster) (zs : List Cluster) → AllPairs (λ a b. is_later start a b ≡ true) (y ∷ zs) → Contains zs z → is_later start y z ≡ true
first_is_later start y z zs ranked (k, l, e) =
    let h = ranked 0 (suc k) z (omega arith) (omega arith) in
    rw e at h

pub no_later_start : (s t w v : ℕ) → (ltb t s || (eqb s t && ltb w v)) ≡ true → t ≤ s
no_later_start s t w v h = grind (arith, nat_tests)

-- whether c starts after this tick
abbrev starts_late : (Cluster → ℕ) → ℕ → Cluster → Bool
starts_late start bound c = ltb bound (start c)

late_first_by : (start : Cluster → ℕ) (bound : ℕ) (rest ys : List Cluster) (y : Cluster) (b : Bool) → IsRanked start rest (y ∷ ys) → ltb bound (start y) ≡ b
    → latest start (filter (starts_late start bound) rest) ≡ cond b (Some y) None
late_first_by start bound rest ys y true ranked e =
    latest_some start (filter (starts_late start bound) rest) y
    (kept_from (starts_late start bound) rest y (ranked.known y (contains_first y ys)) e)
    (λ z c.
    let above = ltb-true bound (start z) (kept_passes (starts_late start bound) rest z c) in
    let there = ranked.whole z (kept_is_there (starts_late start bound) rest z c) (omega arith) in
    elim (first_or_later y z ys there) [ inl same ↦ inl same | inr d ↦ inr (first_is_later start y z ys ranked.ranked d) ])
late_first_by start bound rest ys y false ranked e =
    latest_none start (filter (starts_late start bound) rest)
    (λ z c.
    let above = ltb-true bound (start z) (kept_passes (starts_late start bound) rest z c) in
    let there = ranked.whole z (kept_is_there (starts_late start bound) rest z c) (omega arith) in
    let below = ltb-false bound (start y) e in
    elim (first_or_later y z ys there) [
      | inl same ↦ let s = ap start same in absurd (omega arith)
      | inr d ↦ let low = no_later_start (start y) (start z) y.write z.write (first_is_later start y z ys ranked.ranked d) in absurd (omega arith)
    ])

-- the latest of those that start late is the first, where that one does
pub late_first : (start : Cluster → ℕ) (bound : ℕ) (rest ys : List Cluster) → IsRanked start rest ys
    → latest start (filter (starts_late start bound) rest) ≡ if_late start bound (slice_get ys 0)
late_first start bound rest [] ranked =
    latest_none start (filter (starts_late start bound) rest)
    (λ z c.
    let above = ltb-true bound (start z) (kept_passes (starts_late start bound) rest z c) in
    empty_has_none z (ranked.whole z (kept_is_there (starts_late start bound) rest z c) (omega arith)))
late_first start bound rest (y ∷ ys) ranked = late_first_by start bound rest ys y (ltb bound (start y)) ranked refl

pub is_other_from : (w v : ℕ) → (w ≡ v → ⊥) → not (eqb w v || false) ≡ true
is_other_from w v h = grind (arith, nat_tests)

differs_from_other : (w v : ℕ) → not (eqb w v || false) ≡ true → w ≡ v → ⊥
differs_from_other w v h e = grind (arith, nat_tests)

pub no_later_itself : (s w : ℕ) → (ltb s s || (eqb s s && ltb w w)) ≡ true → ⊥
no_later_itself s w h = grind (arith, nat_tests)

-- the others rank without the first
others_ranked : (start : Cluster → ℕ) (rest ys : List Cluster) (y : Cluster) → IsRanked start rest (y ∷ ys) → IsRanked start (without rest (y ∷ [])) ys
others_ranked start rest ys y ranked = record {
  known = λ z c.
      let there = ranked.known z (contains_later y z ys c) in
      let later = first_is_later start y z ys ranked.ranked c in
      kept_from (is_other y) rest z there
      (is_other_from y.write z.write (λ e. let same : y ≡ z = ranked.differ y z (ranked.known y (contains_first y ys)) there e in no_later_itself (start y) y.write (rw (sym same) at later)));
  whole = λ z c l.
      let there = ranked.whole z (kept_is_there (is_other y) rest z c) l in
      elim (first_or_later y z ys there) [
        | inl same ↦ absurd (differs_from_other y.write z.write (kept_passes (is_other y) rest z c) (ap (λ (x : Cluster). x.write) same))
        | inr d ↦ d
      ];
  ranked = λ i j x l m. ranked.ranked (suc i) (suc j) x (omega arith) (omega arith);
  differ = λ a b ca cb e. ranked.differ a b (kept_is_there (is_other y) rest a ca) (kept_is_there (is_other y) rest b cb) e;
}

and_other_way : (a b : Bool) → (a && b) ≡ (b && a)
and_other_way true true = refl
and_other_way true false = refl
and_other_way false true = refl
and_other_way false false = refl

-- the latest of the others that start late is the second, where that one does
late_second : (start : Cluster → ℕ) (bound : ℕ) (rest ys : List Cluster) (y : Cluster) → IsRanked start rest (y ∷ ys)
    → latest start (without (filter (starts_late start bound) rest) (y ∷ [])) ≡ if_late start bound (slice_get ys 0)
late_second start bound rest ys y ranked =
    let e = filter_twice (is_other y) (starts_late start bound) rest in
    let f = filter_within (λ c. starts_late start bound c && is_other y c) (λ c. is_other y c && starts_late start bound c) rest (λ c there. and_other_way (starts_late start bound c) (is_other y c)) in
    let g = filter_twice (starts_late start bound) (is_other y) rest in
    ap (latest start) (e ∙ f ∙ sym g) ∙ late_first start bound (without rest (y ∷ [])) ys (others_ranked start rest ys y ranked)

-- what is asked where no read is late
none_read : (c : Cluster) (u y z : Option Cluster) → demand_of c u None y ≡ demand_of c u None z
none_read c None y z = refl
none_read c (Some u) y z = refl

reads_by : (d : ℕ) (c : Cluster) (u : Option Cluster) (rest ys : List Cluster) (y : Cluster) (b : Bool) → IsRanked reads_start rest (y ∷ ys) → ltb (c.f + d) (reads_start y) ≡ b
    → demand_of c u (cond b (Some y) None) (latest reads_start (without (late_reads d c.f rest) (option_to_list (cond b (Some y) None))))
    ≡ demand_of c u (cond b (Some y) None) (if_late reads_start (c.f + d) (slice_get ys 0))
reads_by d c u rest ys y true ranked e = ap (λ (z : Option Cluster). demand_of c u (Some y) z) (late_second reads_start (c.f + d) rest ys y ranked)
reads_by d c u rest ys y false ranked e = none_read c u _ _

reads_asked : (d : ℕ) (c : Cluster) (u x : Option Cluster) (rest xs : List Cluster) → IsRanked reads_start rest xs → x ≡ if_late reads_start (c.f + d) (slice_get xs 0)
    → demand_of c u x (latest reads_start (without (late_reads d c.f rest) (option_to_list x)))
    ≡ demand_of c u (if_late reads_start (c.f + d) (slice_get xs 0)) (if_late reads_start (c.f + d) (slice_get xs 1))
reads_asked d c u x rest [] ranked e = rw e (none_read c u _ _)
reads_asked d c u x rest (y ∷ ys) ranked e = rw e (reads_by d c u rest ys y (ltb (c.f + d) (reads_start y)) ranked refl)

-- what c asks of the rest, by those that are late of the first in each order
pub demand_by_order : (d : ℕ) (c : Cluster) (rest us xs : List Cluster) → IsRanked (λ u. u.w) rest us → IsRanked reads_start rest xs
    → demand d c rest
    ≡ demand_of c (if_late (λ u. u.w) c.f (slice_get us 0)) (if_late reads_start (c.f + d) (slice_get xs 0)) (if_late reads_start (c.f + d) (slice_get xs 1))
demand_by_order d c rest us xs writes reads =
    let first = late_first (λ u. u.w) c.f rest us writes in
    let x = latest reads_start (late_reads d c.f rest) in
    ap (λ (u : Option Cluster). demand_of c u x (latest reads_start (without (late_reads d c.f rest) (option_to_list x)))) first
    ∙ reads_asked d c (if_late (λ u. u.w) c.f (slice_get us 0)) x rest xs reads (late_first reads_start (c.f + d) rest xs reads)
