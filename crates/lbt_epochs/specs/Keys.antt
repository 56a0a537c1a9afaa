-- What clusters are sorted by: a tick of each, its write record and its place.
use Rattle.std.specs.Prelude.{ℕ, Bool, List, filter, map, length}
use Rattle.std.specs.List.{range_with_len}
use Rattle.std.specs.declared.cmp.Ordering.{Ordering}
use Rattle.std.specs.Ordering.{nat_cmp, on, then_cmp, flip_args}
use Rattle.stale_model.specs.declared.Cluster.{Cluster}
use Rattle.lbt_epochs.specs.declared.keys.Key.{Key}
use Rattle.lbt_epochs.specs.Lists.{cluster_at}

-- the key of the cluster at a place, by this tick of it
abbrev pub key_at : (Cluster → ℕ) → List Cluster → ℕ → Key
key_at tick clusters at = record { tick = tick (cluster_at clusters at); write = (cluster_at clusters at).write; at = at }

-- the keys of the clusters that pass the test, by this tick of them
abbrev pub keys_of : (Cluster → Bool) → (Cluster → ℕ) → List Cluster → List Key
keys_of passes tick clusters = map (key_at tick clusters) (filter (λ at. passes (cluster_at clusters at)) (range_with_len 0 (length clusters)))

-- by falling tick, then by falling record
abbrev pub falling_order : Key → Key → Ordering
falling_order = flip_args (then_cmp (on (λ k. k.tick) nat_cmp) (on (λ k. k.write) nat_cmp))

-- by falling tick, then by rising record
abbrev pub late_order : Key → Key → Ordering
late_order = then_cmp (flip_args (on (λ k. k.tick) nat_cmp)) (on (λ k. k.write) nat_cmp)
