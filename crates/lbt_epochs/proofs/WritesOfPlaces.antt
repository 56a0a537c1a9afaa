-- The writes at places, and those of the places that are left as they are listed.
use Rattle.std.proofs.Common.{◌≡◌, ℕ, ◌+◌, ◌≤◌, List, [], ◌∷◌, ◌++◌, map, reverse, length, take, Option, Some, None, refl, sym, ◌∙◌, ap, inl, inr}
use Rattle.std.specs.Prelude.{slice_get}
use Rattle.std.proofs.lemmas.Option.{slice_get_within, slice_get-get_or, get_or_from_slice_get}
use Rattle.std.proofs.lemmas.Bool.{cases_lt}
use Rattle.std.proofs.lemmas.List.{take_all, map_push, map-append, reverse-append, take_more}
use Rattle.stale_model.specs.declared.Cluster.{Cluster}
use Rattle.stale_model.specs.Chains.{writes_of}
use Rattle.lbt_epochs.specs.Lists.{cluster_at}

-- the writes at places are those of the clusters there
pub writes_of_places : (clusters : List Cluster) (places : List ℕ) → map (λ at. (cluster_at clusters at).write) places ≡ writes_of (map (cluster_at clusters) places)
writes_of_places clusters [] = refl
writes_of_places clusters (p ∷ ps) = ap (λ (l : List ℕ). (cluster_at clusters p).write ∷ l) (writes_of_places clusters ps)

-- turned round they are those of the places turned round
pub mapped_reverse : {X Y : Type 0} (f : X → Y) (xs : List X) → map f (reverse xs) ≡ reverse (map f xs)
mapped_reverse f [] = refl
mapped_reverse {Y = Y} f (x ∷ xs) =
    ap (map f) (reverse-append (x ∷ []) xs) ∙ map-append f (reverse xs) (x ∷ []) ∙ ap (λ (l : List Y). l ++ f x ∷ []) (mapped_reverse f xs) ∙ sym (reverse-append (f x ∷ []) (map f xs))

pub writes_turned : (clusters : List Cluster) (places : List ℕ)
    → reverse (map (λ at. (cluster_at clusters at).write) places) ≡ writes_of (map (cluster_at clusters) (reverse places))
writes_turned clusters places = sym (mapped_reverse (λ at. (cluster_at clusters at).write) places) ∙ writes_of_places clusters (reverse places)

-- at the end nothing is left of the list
pub nothing_next : (places : List ℕ) (count : ℕ) → slice_get places count ≡ None → length places ≤ count
nothing_next places count e = elim (cases_lt count (length places)) [
  | inl l ↦ let s = slice_get-get_or places count 0 l in cc
  | inr l ↦ l
]

-- the writes so far, of as many of the places as are counted
pub record AreWrittenSoFar (clusters : List Cluster) (places : List ℕ) (count : ℕ) (next : Option ℕ) (writes : List ℕ) : Type 0 where
  pub next_is : next ≡ slice_get places count
  pub writes_are : writes ≡ writes_of (map (cluster_at clusters) (take count places))

-- one more
pub written_more : (clusters : List Cluster) (places : List ℕ) (count at : ℕ) (later next : Option ℕ) (writes : List ℕ) → AreWrittenSoFar clusters places count next writes → next ≡ Some at
    → later ≡ slice_get places (count + 1) → AreWrittenSoFar clusters places (count + 1) later (writes ++ (cluster_at clusters at).write ∷ [])
written_more clusters places count at later next writes so_far here e = record {
  next_is = e;
  writes_are =
      let stands : slice_get places count ≡ Some at = sym so_far.next_is ∙ here in
      let more = take_more places count at (slice_get_within places count at stands) in
      let is = get_or_from_slice_get places count at at stands in
      let t : take (count + 1) places ≡ take count places ++ at ∷ [] = more ∙ ap (λ (x : ℕ). take count places ++ x ∷ []) is in
      let m = map_push (cluster_at clusters) (take count places) at in
      let w = map_push (λ (c : Cluster). c.write) (map (cluster_at clusters) (take count places)) (cluster_at clusters at) in
      ap (λ (l : List ℕ). l ++ (cluster_at clusters at).write ∷ []) so_far.writes_are ∙ sym w ∙ sym (ap writes_of m) ∙ sym (ap (λ (l : List ℕ). writes_of (map (cluster_at clusters) l)) t);
}

-- all
pub written_all : (clusters : List Cluster) (places : List ℕ) (count : ℕ) (next : Option ℕ) (writes : List ℕ) → AreWrittenSoFar clusters places count next writes
    → length places ≤ count → writes ≡ writes_of (map (cluster_at clusters) places)
written_all clusters places count next writes so_far l = so_far.writes_are ∙ ap (λ (ps : List ℕ). writes_of (map (cluster_at clusters) ps)) (take_all count places l)
