-- The epochs as they go: the clusters that are left, and the listing of those that are placed.
use Rattle.std.proofs.Common.{◌≡◌, true, false, ℕ, zero, suc, ◌+◌, ◌<◌, ◌≤◌, List, [], ◌∷◌, ◌++◌, map, reverse, length, Option, Some, None, refl, sym, ◌∙◌, ap, subst, arith}
use Rattle.std.specs.Prelude.{slice_get, is_some, All}
use Rattle.std.proofs.lemmas.List.{map-append, reverse-append}
use Rattle.std.proofs.lemmas.List.Elements.{All-append, All-nil}
use Rattle.stale_model.specs.declared.Cluster.{Cluster}
use Rattle.stale_model.specs.declared.Two.TheVariants.{Yes}
use Rattle.stale_model.specs.Chains.{Round, removes, refutes, rounds, epoch_by, epochs, without, writes_of}
use Rattle.lbt_epochs.specs.Lists.{Lists, with_placed, left, cluster_at}
use Rattle.lbt_epochs.specs.Steps.{clusters_left, rounds_of, epochs_of, IsReady, HasRemoved, HasRefuted, HasPlacedAll, HasStopped}
use Rattle.lbt_epochs.proofs.Removed.{fewer_after_rounds}
use Rattle.lbt_epochs.proofs.WritesOfPlaces.{mapped_reverse}
use Rattle.lbt_epochs.proofs.LeftWithout.{left_without, ready_with}

pub some_there : (o p : Option ℕ) → o ≡ p → is_some o ≡ true → p ≡ None → ⊥
some_there None p e s n = cc
some_there (Some x) p e s n = cc

pub none_there : (o p : Option ℕ) → o ≡ p → is_some o ≡ false → p ≡ None
none_there None p e s = sym e
none_there (Some x) p e s = cc

-- the listing of the clusters that are placed
abbrev pub listing_of : List Cluster → Lists → List Cluster
listing_of clusters lists = map (cluster_at clusters) (reverse lists.placed)

-- the epochs of the clusters that are left in old, of which enough are still to come
pub record AreEpochsSoFar (d : ℕ) (clusters : List Cluster) (old lists : Lists) : Type 0 where
  pub placed : lists ≡ with_placed old lists.placed
  pub within : All (λ place. place < length clusters) lists.placed
  pub more : ℕ
  pub enough : length (clusters_left clusters lists) ≤ more
  pub epochs_are : epochs_of d clusters old ≡ epochs d more (clusters_left clusters lists) (listing_of clusters lists)

-- more places go in front of the listing, the first of them last
listing_more : (clusters : List Cluster) (placed places : List ℕ)
    → map (cluster_at clusters) (reverse (placed ++ places)) ≡ reverse (map (cluster_at clusters) places) ++ map (cluster_at clusters) (reverse placed)
listing_more clusters placed places =
    ap (map (cluster_at clusters)) (reverse-append placed places) ∙ map-append (cluster_at clusters) (reverse places) (reverse placed)
    ∙ ap (λ (l : List Cluster). l ++ map (cluster_at clusters) (reverse placed)) (mapped_reverse (cluster_at clusters) places)

epochs_step : (d more : ℕ) (rest listing : List Cluster) → (rest ≡ [] → ⊥)
    → epochs d (suc more) rest listing ≡ epoch_by rest (rounds d (length rest + 1) 0 rest) (λ chain. epochs d more (without rest chain) (reverse chain ++ listing))
epochs_step d more [] listing some = absurd (some refl)
epochs_step d more (c ∷ cs) listing some = refl

epochs_over : (d more : ℕ) (rest listing : List Cluster) → rest ≡ [] → epochs d more rest listing ≡ Some (Yes (writes_of listing))
epochs_over d zero rest listing over = rw over refl
epochs_over d (suc more) rest listing over = rw over refl

nothing_left : (places : List ℕ) → slice_get places 0 ≡ None → places ≡ []
nothing_left [] e = refl
nothing_left (p ∷ ps) e = cc

something_left : (clusters : List Cluster) (places : List ℕ) → (slice_get places 0 ≡ None → ⊥) → map (cluster_at clusters) places ≡ [] → ⊥
something_left clusters [] some e = some refl
something_left clusters (p ∷ ps) some e = cc

not_empty : (rest : List Cluster) → (rest ≡ [] → ⊥) → 0 < length rest
not_empty [] some = absurd (some refl)
not_empty (c ∷ cs) some = omega arith

one_before : (n : ℕ) → 0 < n → (before : ℕ) × (n ≡ suc before)
one_before zero l = absurd (omega arith)
one_before (suc before) l = (before, refl)

module _ (d : ℕ) (clusters : List Cluster) (old : Lists) where
  pub epochs_begin : old.placed ≡ [] → AreEpochsSoFar d clusters old old
  epochs_begin none =
      let listing : listing_of clusters old ≡ [] = rw none refl in
      record {
        placed = refl;
        within = rw none (All-nil (λ place. place < length clusters));
        more = length (clusters_left clusters old);
        enough = omega arith;
        epochs_are = ap (epochs d (length (clusters_left clusters old)) (clusters_left clusters old)) (sym listing);
      }

  module _ (ready : IsReady clusters old) (lists : Lists) (so_far : AreEpochsSoFar d clusters old lists) where
    -- the lists are ready
    pub ready_yet : IsReady clusters lists
    ready_yet = subst (λ (l : Lists). IsReady clusters l) (sym so_far.placed) (ready_with clusters old lists.placed ready)

    -- nothing is left
    pub epochs_end : slice_get (left lists.placed lists.candidates) 0 ≡ None → HasPlacedAll d clusters old lists
    epochs_end over = record {
      placed = so_far.placed;
      within = so_far.within;
      answer = so_far.epochs_are ∙ epochs_over d so_far.more (clusters_left clusters lists) (listing_of clusters lists)
          (ap (map (cluster_at clusters)) (nothing_left (left lists.placed lists.candidates) over));
    }

    -- one more epoch, of which rounds find this
    by_round : (more : ℕ) (found : Round) → so_far.more ≡ suc more → (slice_get (left lists.placed lists.candidates) 0 ≡ None → ⊥) → rounds_of d clusters lists ≡ found
        → epochs_of d clusters old ≡ epoch_by (clusters_left clusters lists) found (λ chain. epochs d more (without (clusters_left clusters lists) chain) (reverse chain ++ listing_of clusters lists))
    by_round more found e some is =
        so_far.epochs_are ∙ ap (λ (n : ℕ). epochs d n (clusters_left clusters lists) (listing_of clusters lists)) e
        ∙ epochs_step d more (clusters_left clusters lists) (listing_of clusters lists) (something_left clusters (left lists.placed lists.candidates) some)
        ∙ ap (λ (r : Round). epoch_by (clusters_left clusters lists) r (λ chain. epochs d more (without (clusters_left clusters lists) chain) (reverse chain ++ listing_of clusters lists))) is

    -- an epoch is still to come
    one_more : (slice_get (left lists.placed lists.candidates) 0 ≡ None → ⊥) → (before : ℕ) × (so_far.more ≡ suc before)
    one_more some =
        let enough = so_far.enough in
        let long = not_empty (clusters_left clusters lists) (something_left clusters (left lists.placed lists.candidates) some) in
        one_before so_far.more (omega arith)

    -- a chain is removed, and fewer are left
    pub fewer_yet : (new : Lists) → HasRemoved clusters (rounds_of d clusters lists) lists new → length (clusters_left clusters new) < length (clusters_left clusters lists)
    fewer_yet new removed =
        let rest = ap (clusters_left clusters) removed.placed ∙ left_without clusters lists ready_yet removed.places removed.within in
        let fewer = fewer_after_rounds d (length (clusters_left clusters lists) + 1) 0 (clusters_left clusters lists) (map (cluster_at clusters) removed.places) removed.round_is in
        rw rest fewer

    pub epochs_go_on : (slice_get (left lists.placed lists.candidates) 0 ≡ None → ⊥) → (new : Lists) → HasRemoved clusters (rounds_of d clusters lists) lists new
        → AreEpochsSoFar d clusters old new
    epochs_go_on some new removed =
        let (before, is) = one_more some in
        let moved = ap (λ (l : Lists). with_placed l (l.placed ++ removed.places)) so_far.placed in
        let placed_is : new.placed ≡ lists.placed ++ removed.places = ap (λ (l : Lists). l.placed) removed.placed in
        let rest = ap (clusters_left clusters) removed.placed ∙ left_without clusters lists ready_yet removed.places removed.within in
        let listing = ap (λ (placed : List ℕ). map (cluster_at clusters) (reverse placed)) placed_is ∙ listing_more clusters lists.placed removed.places in
        let fewer = fewer_yet new removed in
        let enough = so_far.enough in
        record {
          placed = removed.placed ∙ moved ∙ ap (with_placed old) (sym placed_is);
          within = rw placed_is (All-append (λ place. place < length clusters) lists.placed removed.places so_far.within removed.within);
          more = before;
          enough = omega arith;
          epochs_are = by_round before (removes (map (cluster_at clusters) removed.places)) is some removed.round_is
              ∙ ap (λ (cs : List Cluster). epochs d before cs (reverse (map (cluster_at clusters) removed.places) ++ listing_of clusters lists)) (sym rest)
              ∙ ap (epochs d before (clusters_left clusters new)) (sym listing);
        }

    -- what is left is refuted
    pub epochs_stop : (slice_get (left lists.placed lists.candidates) 0 ≡ None → ⊥) → (room : ℕ) (new : Lists) → HasRefuted d clusters room lists new
        → HasStopped d clusters room old new
    epochs_stop some room new refuted =
        let (before, is) = one_more some in
        let here : HasStopped d clusters room old lists = record {
          placed = so_far.placed;
          ready = ready_yet;
          stuck = refuted.stuck;
          answer = λ tries e. by_round before (refutes tries) is some (refuted.rounds_are ∙ e);
        } in
        subst (λ (l : Lists). HasStopped d clusters room old l) (sym refuted.kept) here
