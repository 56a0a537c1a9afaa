-- The clusters that are left once more places are placed.
use Rattle.std.proofs.Common.{◌≡◌, ℕ, ◌<◌, Bool, true, false, not, ◌&&◌, ◌||◌, List, [], ◌∷◌, ◌++◌, map, length, eqb, refl, sym, ◌∙◌, ap, inl, inr}
use Rattle.std.specs.Prelude.{All}
use Rattle.std.specs.List.{list_any}
use Rattle.std.proofs.lemmas.Bool.{eq-eqb, ne_eqb, cases_eq}
use Rattle.std.proofs.lemmas.List.Elements.{All-head, All-tail}
use Rattle.std.proofs.lemmas.List.Folds.{list_any-append}
use Rattle.stale_model.specs.declared.Cluster.{Cluster}
use Rattle.stale_model.specs.Chains.{without}
use Rattle.stale_model.specs.Clusters.{WriteRecordsDiffer}
use Rattle.lbt_epochs.specs.Lists.{Lists, with_placed, left, cluster_at}
use Rattle.lbt_epochs.specs.Steps.{clusters_left, IsReady}
use Rattle.lbt_epochs.proofs.Filters.{filter_within, filter_twice, filter_mapped}
use Rattle.lbt_epochs.proofs.LeftPlaces.{writes_tell, left_within, is_left}

same_test : (clusters : List Cluster) → WriteRecordsDiffer clusters → (i j : ℕ) → i < length clusters → j < length clusters
    → eqb (cluster_at clusters i).write (cluster_at clusters j).write ≡ eqb i j
same_test clusters differ i j l m = elim (cases_eq i j) [
  | inl e ↦ eq-eqb _ _ (ap (λ (at : ℕ). (cluster_at clusters at).write) e) ∙ sym (eq-eqb i j e)
  | inr n ↦ ne_eqb _ _ (λ e. n (writes_tell clusters differ i j l m e)) ∙ sym (ne_eqb i j n)
]

same_any : (clusters : List Cluster) → WriteRecordsDiffer clusters → (places : List ℕ) (at : ℕ) → All (λ place. place < length clusters) places → at < length clusters
    → list_any (λ x. eqb x.write (cluster_at clusters at).write) (map (cluster_at clusters) places) ≡ list_any (λ other. eqb other at) places
same_any clusters differ [] at within l = refl
same_any clusters differ (p ∷ ps) at within l =
    let e = same_test clusters differ p at (All-head (λ place. place < length clusters) p ps within) l in
    let h = same_any clusters differ ps at (All-tail (λ place. place < length clusters) p ps within) l in
    rw (e, h) refl

not_or : (a b : Bool) → (not a && not b) ≡ not (a || b)
not_or true b = refl
not_or false b = refl

-- they are those that were left, without the clusters at these places
pub left_without : (clusters : List Cluster) (lists : Lists) → IsReady clusters lists → (places : List ℕ) → All (λ place. place < length clusters) places
    → clusters_left clusters (with_placed lists (lists.placed ++ places)) ≡ without (clusters_left clusters lists) (map (cluster_at clusters) places)
left_without clusters lists ready places within =
    let cl = cluster_at clusters in
    let others = left lists.placed lists.candidates in
    let mapped = filter_mapped (λ c. not (list_any (λ x. eqb x.write c.write) (map cl places))) cl others in
    let same = filter_within (λ at. not (list_any (λ x. eqb x.write (cl at).write) (map cl places))) (is_left places) others
    (λ at c. ap not (same_any clusters ready.differ places at within (left_within clusters lists ready at c))) in
    let twice = filter_twice (is_left places) (is_left lists.placed) lists.candidates in
    let joined = filter_within (λ at. is_left lists.placed at && is_left places at) (is_left (lists.placed ++ places)) lists.candidates
    (λ at c. not_or (list_any (λ other. eqb other at) lists.placed) (list_any (λ other. eqb other at) places) ∙ sym (ap not (list_any-append (λ other. eqb other at) lists.placed places))) in
    sym (mapped ∙ ap (map cl) (same ∙ twice ∙ joined))

-- the lists are ready whatever is placed
pub ready_with : (clusters : List Cluster) (lists : Lists) (placed : List ℕ) → IsReady clusters lists → IsReady clusters (with_placed lists placed)
ready_with clusters lists placed ready = record {
  lists_are = record { candidates = ready.lists_are.candidates; writes = ready.lists_are.writes; reads = ready.lists_are.reads };
  differ = ready.differ;
}
