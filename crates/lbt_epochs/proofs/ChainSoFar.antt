-- A chain as it runs: the clusters so far, and the chain that goes on from the last of them.
use Rattle.std.proofs.Common.{◌≡◌, ℕ, zero, suc, ◌-◌, ◌<◌, List, [], ◌∷◌, ◌++◌, map, length, refl, sym, ◌∙◌, ap, subst, append_assoc, arith}
use Rattle.std.specs.Prelude.{Contains, All}
use Rattle.std.proofs.lemmas.List.{map_push}
use Rattle.std.proofs.lemmas.List.Elements.{All-push, All-nil, All-cons}
use Rattle.stale_model.specs.declared.Cluster.{Cluster}
use Rattle.stale_model.specs.declared.End.{End}
use Rattle.stale_model.specs.Chains.{Chain, ends, fails, cut, followed_by, chain, demand, nothing, one, impossible, without}
use Rattle.lbt_epochs.specs.Lists.{Lists, with_placed, left, cluster_at}
use Rattle.lbt_epochs.specs.Steps.{clusters_left, chain_at, IsReady, IsAsked, IsRun}
use Rattle.lbt_epochs.specs.declared.chains.Asked.TheVariants.{Nothing, One, Impossible}
use Rattle.lbt_epochs.specs.declared.chains.Ran.TheVariants.{Ends, Fails, Cut}
use Rattle.lbt_epochs.proofs.LeftPlaces.{left_within}
use Rattle.lbt_epochs.proofs.LeftWithout.{left_without, ready_with}

-- these clusters, followed by a chain
abbrev pub preceded : List Cluster → Chain → Chain
preceded cs (ends chain) = ends (cs ++ chain)
preceded cs (fails chain end) = fails (cs ++ chain) end
preceded cs cut = cut

preceded_none : (k : Chain) → preceded [] k ≡ k
preceded_none (ends chain) = refl
preceded_none (fails chain end) = refl
preceded_none cut = refl

preceded_push : (cs : List Cluster) (c : Cluster) (k : Chain) → preceded (cs ++ c ∷ []) k ≡ preceded cs (followed_by c k)
preceded_push cs c (ends chain) = ap ends (append_assoc cs (c ∷ []) chain)
preceded_push cs c (fails chain end) = ap (λ (l : List Cluster). fails l end) (append_assoc cs (c ∷ []) chain)
preceded_push cs c cut = refl

-- lists have the chain of first placed as far as the cluster at a place, after which at most so many more may stand
pub record IsChainSoFar (d : ℕ) (clusters : List Cluster) (room first : ℕ) (old lists : Lists) (at more : ℕ) : Type 0 where
  pub earlier : List ℕ
  pub placed : lists ≡ with_placed old (old.placed ++ (earlier ++ at ∷ []))
  pub within : All (λ place. place < length clusters) (earlier ++ at ∷ [])
  pub chain_is : chain_at d clusters room first old ≡ preceded (map (cluster_at clusters) earlier) (chain d more (cluster_at clusters at) (clusters_left clusters lists))

-- the first is placed
pub chain_begins : (d : ℕ) (clusters : List Cluster) (room first : ℕ) (old lists : Lists) → IsReady clusters old → Contains (left old.placed old.candidates) first
    → lists ≡ with_placed old (old.placed ++ first ∷ []) → IsChainSoFar d clusters room first old lists first room
chain_begins d clusters room first old lists ready there placed =
    let within = All-cons (λ place. place < length clusters) first [] (left_within clusters old ready first there) (All-nil (λ place. place < length clusters)) in
    let e = ap (clusters_left clusters) placed ∙ left_without clusters old ready (first ∷ []) within in
    record {
      earlier = [];
      placed = placed;
      within = within;
      chain_is = ap (chain d room (cluster_at clusters first)) (sym e) ∙ sym (preceded_none (chain d room (cluster_at clusters first) (clusters_left clusters lists)));
    }

module _ (d : ℕ) (clusters : List Cluster) (room first : ℕ) (old lists : Lists) (at : ℕ) (ready : IsReady clusters old) where
  -- the lists are ready
  pub ready_so_far : (more : ℕ) → IsChainSoFar d clusters room first old lists at more → IsReady clusters lists
  ready_so_far more so_far = subst (λ (l : Lists). IsReady clusters l) (sym so_far.placed) (ready_with clusters old (old.placed ++ (so_far.earlier ++ at ∷ [])) ready)

  ends_by : (more : ℕ) (c : Cluster) (rest : List Cluster) → demand d c rest ≡ nothing → chain d more c rest ≡ ends (c ∷ [])
  ends_by zero c rest e = rw e refl
  ends_by (suc more) c rest e = rw e refl

  fails_by : (more : ℕ) (c : Cluster) (rest : List Cluster) (end : End) → demand d c rest ≡ impossible end → chain d more c rest ≡ fails (c ∷ []) end
  fails_by zero c rest end e = rw e refl
  fails_by (suc more) c rest end e = rw e refl

  cut_by : (c x : Cluster) (rest : List Cluster) → demand d c rest ≡ one x → chain d zero c rest ≡ cut
  cut_by c x rest e = rw e refl

  goes_on_by : (more : ℕ) (c x : Cluster) (rest : List Cluster) → demand d c rest ≡ one x → chain d (suc more) c rest ≡ followed_by c (chain d more x (without rest (x ∷ [])))
  goes_on_by more c x rest e = rw e refl

  -- nothing is asked: the chain ends
  pub chain_ends : (more : ℕ) → IsChainSoFar d clusters room first old lists at more → IsAsked d clusters lists at Nothing → IsRun d clusters room first old lists Ends
  chain_ends more so_far asked = record {
    places = so_far.earlier ++ at ∷ [];
    placed = so_far.placed;
    within = so_far.within;
    chain_is = so_far.chain_is ∙ ap (preceded (map (cluster_at clusters) so_far.earlier)) (ends_by more (cluster_at clusters at) (clusters_left clusters lists) asked.demand_is)
        ∙ ap ends (sym (map_push (cluster_at clusters) so_far.earlier at));
  }

  -- the impossible is asked: it fails
  pub chain_fails : (more : ℕ) (end : End) → IsChainSoFar d clusters room first old lists at more → IsAsked d clusters lists at (Impossible end) → IsRun d clusters room first old lists (Fails end)
  chain_fails more end so_far asked = record {
    places = so_far.earlier ++ at ∷ [];
    placed = so_far.placed;
    within = so_far.within;
    chain_is = so_far.chain_is ∙ ap (preceded (map (cluster_at clusters) so_far.earlier)) (fails_by more (cluster_at clusters at) (clusters_left clusters lists) end asked.demand_is)
        ∙ ap (λ (cs : List Cluster). fails cs end) (sym (map_push (cluster_at clusters) so_far.earlier at));
  }

  -- one more is asked, and there is no room: it is cut
  pub chain_cut : (more next : ℕ) → more ≡ 0 → IsChainSoFar d clusters room first old lists at more → IsAsked d clusters lists at (One next) → IsRun d clusters room first old lists Cut
  chain_cut zero next e so_far asked = record {
    places = so_far.earlier ++ at ∷ [];
    placed = so_far.placed;
    within = so_far.within;
    chain_is = so_far.chain_is ∙ ap (preceded (map (cluster_at clusters) so_far.earlier)) (cut_by (cluster_at clusters at) (cluster_at clusters next) (clusters_left clusters lists) asked.demand_is);
  }
  chain_cut (suc more) next e so_far asked = absurd (omega arith)

  goes_on_so : (more next : ℕ) (so_far : IsChainSoFar d clusters room first old lists at (suc more)) (new : Lists) → IsAsked d clusters lists at (One next)
      → new ≡ with_placed lists (lists.placed ++ next ∷ []) → IsChainSoFar d clusters room first old new next more
  goes_on_so more next so_far new asked placed =
      let c = cluster_at clusters at in
      let x = cluster_at clusters next in
      let now_ready = ready_so_far (suc more) so_far in
      let here = left_within clusters lists now_ready next (asked.there next refl) in
      let within = All-push (λ place. place < length clusters) (so_far.earlier ++ at ∷ []) next so_far.within here in
      let one_within = All-cons (λ place. place < length clusters) next [] here (All-nil (λ place. place < length clusters)) in
      let rest = ap (clusters_left clusters) placed ∙ left_without clusters lists now_ready (next ∷ []) one_within in
      let on = goes_on_by more c x (clusters_left clusters lists) asked.demand_is in
      let moved = ap (λ (l : Lists). with_placed l (l.placed ++ next ∷ [])) so_far.placed in
      record {
        earlier = so_far.earlier ++ at ∷ [];
        placed = placed ∙ moved ∙ ap (with_placed old) (append_assoc old.placed (so_far.earlier ++ at ∷ []) (next ∷ []));
        within = within;
        chain_is = so_far.chain_is ∙ ap (preceded (map (cluster_at clusters) so_far.earlier)) (on ∙ ap (λ (r : List Cluster). followed_by c (chain d more x r)) (sym rest))
            ∙ sym (preceded_push (map (cluster_at clusters) so_far.earlier) c (chain d more x (clusters_left clusters new)))
            ∙ ap (λ (cs : List Cluster). preceded cs (chain d more x (clusters_left clusters new))) (sym (map_push (cluster_at clusters) so_far.earlier at));
      }

  -- one more is asked, and there is room: it is placed
  pub chain_goes_on : (more next : ℕ) (new : Lists) → (more ≡ 0 → ⊥) → IsChainSoFar d clusters room first old lists at more → IsAsked d clusters lists at (One next)
      → new ≡ with_placed lists (lists.placed ++ next ∷ []) → IsChainSoFar d clusters room first old new next (more - 1)
  chain_goes_on zero next new some so_far asked placed = absurd (some refl)
  chain_goes_on (suc more) next new some so_far asked placed = let e : suc more - 1 ≡ more = omega arith in rw e (goes_on_so more next so_far new asked placed)
