-- Clusters whose writes are numbered in turn differ.
use Rattle.std.proofs.Common.{◌≡◌, ℕ, ◌+◌, ◌*◌, ◌<◌, ◌/◌, ◌^◌, List, map, length, get_or, None, Some, arith}
use Rattle.std.specs.List.{range_with_len}
use Rattle.std.proofs.lemmas.List.FromFn.{length-map-range_with_len, get_or-map-range_with_len}
use Rattle.std.proofs.lemmas.List.{length-map, get_or-map}
use Rattle.stale_model.specs.declared.Cluster.{Cluster}
use Rattle.stale_model.specs.Clusters.{writes_of, WriteRecordsDiffer}
use Rattle.stale_model.proofs.Sorted.{rising_no_repeats}

-- the cluster of a write at this tick
abbrev pub write_at : ℕ → Cluster
write_at tick = record { write = tick; f = tick; w = tick; s = None; first = tick; last = tick }

-- the cluster of a write that is read after each second one
abbrev pub pair_at : ℕ → Cluster
pair_at turn = record { write = turn; f = turn * 5 + 1; w = turn * 5; s = Some (turn / 2 * 10 + 8); first = turn; last = turn }

module _ (at : ℕ → Cluster) (numbered : (k : ℕ) → (at k).write ≡ k) where
  abbrev pub in_turn : ℕ → List Cluster
  in_turn count = map at (range_with_len 0 count)

  length-in_turn : (count : ℕ) → length (in_turn count) ≡ count
  length-in_turn count = length-map-range_with_len at 0 count

  write_is : (count k : ℕ) → k < count → get_or (writes_of (in_turn count)) k 0 ≡ k
  write_is count k l =
      let long = length-in_turn count in
      let mapped = get_or-map (λ (c : Cluster). c.write) (in_turn count) k (at 0) 0 (omega arith) in
      let there : get_or (in_turn count) k (at 0) ≡ at k = get_or-map-range_with_len at 0 count k k (at 0) l (omega arith) in
      rw (mapped, there) (numbered k)

  writes_in_turn_differ : (count : ℕ) → WriteRecordsDiffer (in_turn count)
  writes_in_turn_differ count =
      rising_no_repeats (writes_of (in_turn count))
      (λ k l.
      let long = length-in_turn count in
      let longer : length (writes_of (in_turn count)) ≡ length (in_turn count) = length-map (in_turn count) (λ (c : Cluster). c.write) in
      let here = write_is count k (omega arith) in
      let next = write_is count (k + 1) (omega arith) in
      omega arith)

  pub differ_in_turn : (clusters : List Cluster) (count : ℕ) → clusters ≡ in_turn count → WriteRecordsDiffer clusters
  differ_in_turn clusters count e = rw e (writes_in_turn_differ count)

  pub few_in_turn : (clusters : List Cluster) (count : ℕ) → clusters ≡ in_turn count → count < 2 ^ 32 → length clusters < 2 ^ 32
  few_in_turn clusters count e few = let long = length-in_turn count in rw e (omega arith)
