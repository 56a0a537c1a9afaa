-- What the cluster at a place asks, by the places that are left in each order.
use Rattle.std.proofs.Common.{◌≡◌, ℕ, ◌+◌, ◌<◌, ◌≤◌, Bool, true, false, cond, List, map, Option, Some, None, ltb, refl, sym, ◌∙◌, ap}
use Rattle.std.specs.Prelude.{slice_get, option_map}
use Rattle.std.proofs.lemmas.Bool.{lt-ltb, le-ltb}
use Rattle.std.proofs.lemmas.Option.{slice_get-map}
use Rattle.stale_model.specs.declared.Cluster.{Cluster}
use Rattle.stale_model.specs.declared.End.TheVariants.{Hard, Soft}
use Rattle.stale_model.specs.Chains.{demand, demand_of}
use Rattle.stale_model.specs.Zones.{reads_start}
use Rattle.stale_model.proofs.Places.{contains_at}
use Rattle.lbt_epochs.specs.Lists.{Lists, left, cluster_at}
use Rattle.lbt_epochs.specs.Steps.{clusters_left, if_late, IsReady, IsAsked}
use Rattle.lbt_epochs.specs.declared.chains.Asked.TheVariants.{Nothing, One, Impossible}
use Rattle.lbt_epochs.proofs.LatestRanked.{demand_by_order}
use Rattle.lbt_epochs.proofs.LeftPlaces.{writes_ranked, reads_ranked, reads_left_too}

late_cond : {X Y : Type 0} (f : X → Y) (b : Bool) (x : X) → cond b (Some (f x)) None ≡ option_map f (cond b (Some x) None)
late_cond f true x = refl
late_cond f false x = refl

late_mapped : {X Y : Type 0} (f : X → Y) (start : Y → ℕ) (bound : ℕ) (o : Option X) → if_late start bound (option_map f o) ≡ option_map f (if_late (λ x. start (f x)) bound o)
late_mapped f start bound None = refl
late_mapped f start bound (Some x) = late_cond f (ltb bound (start (f x))) x

late_is_by : {X : Type 0} (b : Bool) (x y : X) → Some x ≡ cond b (Some y) None → Some y ≡ Some x
late_is_by true x y e = sym e
late_is_by false x y e = cc

late_is_it : {X : Type 0} (start : X → ℕ) (bound : ℕ) (o : Option X) (x : X) → Some x ≡ if_late start bound o → o ≡ Some x
late_is_it start bound None x e = cc
late_is_it start bound (Some y) x e = late_is_by (ltb bound (start y)) x y e

-- what stands first in a mapped list, where it is late, and where it isn't
pub first_is_late : {X Y : Type 0} (f : X → Y) (start : Y → ℕ) (bound : ℕ) (xs : List X) (x : X) → Some x ≡ slice_get xs 0 → bound < start (f x)
    → Some (f x) ≡ if_late start bound (slice_get (map f xs) 0)
first_is_late f start bound xs x e late = rw (slice_get-map f xs 0, sym e, lt-ltb bound (start (f x)) late) refl

pub first_is_not_late : {X Y : Type 0} (f : X → Y) (start : Y → ℕ) (bound : ℕ) (xs : List X) (x : X) → Some x ≡ slice_get xs 0 → start (f x) ≤ bound
    → None ≡ if_late start bound (slice_get (map f xs) 0)
first_is_not_late f start bound xs x e low = rw (slice_get-map f xs 0, sym e, le-ltb bound (start (f x)) low) refl

module _ (d : ℕ) (clusters : List Cluster) (lists : Lists) (ready : IsReady clusters lists) (at : ℕ) where
  abbrev asking : Cluster
  asking = cluster_at clusters at

  abbrev first_write : Option Cluster
  first_write = if_late (λ u. u.w) asking.f (slice_get (map (cluster_at clusters) (left lists.placed lists.writes)) 0)

  abbrev read_at : ℕ → Option ℕ
  read_at k = if_late (λ place. reads_start (cluster_at clusters place)) (asking.f + d) (slice_get (left lists.placed lists.reads) k)

  read_mapped : (k : ℕ) → if_late reads_start (asking.f + d) (slice_get (map (cluster_at clusters) (left lists.placed lists.reads)) k) ≡ option_map (cluster_at clusters) (read_at k)
  read_mapped k =
      ap (if_late reads_start (asking.f + d)) (slice_get-map (cluster_at clusters) (left lists.placed lists.reads) k)
      ∙ late_mapped (cluster_at clusters) reads_start (asking.f + d) (slice_get (left lists.placed lists.reads) k)

  asked_by : (u : Option Cluster) (x y : Option ℕ) → u ≡ first_write → x ≡ read_at 0 → y ≡ read_at 1
      → demand d asking (clusters_left clusters lists) ≡ demand_of asking u (option_map (cluster_at clusters) x) (option_map (cluster_at clusters) y)
  asked_by u x y eu ex ey =
      let e = demand_by_order d asking (clusters_left clusters lists) _ _ (writes_ranked clusters lists ready) (reads_ranked clusters lists ready) in
      rw (eu, ex, ey) (rw (read_mapped 0, read_mapped 1) at e)

  pub hard_asked : (u : Cluster) → Some u ≡ first_write → IsAsked d clusters lists at (Impossible (Hard asking.first u.write))
  hard_asked u eu = record { demand_is = asked_by (Some u) (read_at 0) (read_at 1) eu refl refl; there = λ next e. cc }

  pub nothing_asked : None ≡ first_write → None ≡ read_at 0 → IsAsked d clusters lists at Nothing
  nothing_asked eu ex = record { demand_is = asked_by None None (read_at 1) eu ex refl; there = λ next e. cc }

  pub one_asked : (one : ℕ) → None ≡ first_write → Some one ≡ read_at 0 → None ≡ read_at 1 → IsAsked d clusters lists at (One one)
  one_asked one eu ex ey = record {
    demand_is = asked_by None (Some one) None eu ex ey;
    there = λ next e.
        let same : one ≡ next = cc in
        let first = late_is_it (λ place. reads_start (cluster_at clusters place)) (asking.f + d) (slice_get (left lists.placed lists.reads) 0) one ex in
        rw same at (reads_left_too clusters lists ready one (contains_at (left lists.placed lists.reads) 0 one first));
  }

  pub soft_asked : (one other : ℕ) → None ≡ first_write → Some one ≡ read_at 0 → Some other ≡ read_at 1
      → IsAsked d clusters lists at (Impossible (Soft asking.first (cluster_at clusters one).last (cluster_at clusters other).last))
  soft_asked one other eu ex ey = record { demand_is = asked_by None (Some one) (Some other) eu ex ey; there = λ next e. cc }
