-- The rounds of an epoch as they go.
use Rattle.std.proofs.Common.{◌≡◌, ℕ, suc, ◌+◌, ◌-◌, ◌^◌, ◌<◌, ◌≤◌, List, map, length, refl, sym, ◌∙◌, ap, subst, inl, inr, arith}
use Rattle.std.proofs.lemmas.Bool.{cases_lt}
use Rattle.std.proofs.lemmas.List.{length-map}
use Rattle.stale_model.specs.declared.Cluster.{Cluster}
use Rattle.stale_model.specs.Chains.{Round, removes, repeats, refutes, round, or_later, rounds}
use Rattle.lbt_epochs.specs.Lists.{Lists, left, cluster_at}
use Rattle.lbt_epochs.specs.Steps.{clusters_left, room_in, rounds_of, round_of, IsReady, HasKept, HasRemoved, HasStuck, HasRefuted}
use Rattle.lbt_epochs.proofs.LeftPlaces.{left_no_more}
use Rattle.lbt_epochs.proofs.EnoughRoom.{round_room, rounds_end}

-- no more clusters are left than there are
pub clusters_left_no_more : (clusters : List Cluster) (lists : Lists) → IsReady clusters lists → length (clusters_left clusters lists) ≤ length clusters
clusters_left_no_more clusters lists ready =
    let n = left_no_more clusters lists ready in
    let e = length-map (left lists.placed lists.candidates) (cluster_at clusters) in
    omega arith

-- the rounds of the clusters that are left in old, of which all before r repeated
pub record AreRoundsSoFar (d : ℕ) (clusters : List Cluster) (old lists : Lists) (r : ℕ) : Type 0 where
  pub kept : lists ≡ old
  pub rounds_are : rounds d (length (clusters_left clusters old) + 1) 0 (clusters_left clusters old) ≡ rounds d (length (clusters_left clusters old) + 1 - r) r (clusters_left clusters old)

module _ (d : ℕ) (clusters : List Cluster) (old : Lists) where
  abbrev round_at : ℕ → Round
  round_at r = round d (2 ^ r - 1) (clusters_left clusters old) (clusters_left clusters old)

  pub rounds_begin : AreRoundsSoFar d clusters old old 0
  rounds_begin = record { kept = refl; rounds_are = let z : length (clusters_left clusters old) + 1 - 0 ≡ length (clusters_left clusters old) + 1 = omega arith in rw z refl }

  module _ (ready : IsReady clusters old) (few : length clusters < 2 ^ 32) (lists : Lists) (r : ℕ) (so_far : AreRoundsSoFar d clusters old lists r) where
    -- the lists are as they were
    pub ready_still : IsReady clusters lists
    ready_still = subst (λ (l : Lists). IsReady clusters l) (sym so_far.kept) ready

    -- a round with this room is the round of its number
    round_is : (found : Round) → round_of d clusters (room_in r) lists ≡ found → round_at r ≡ found
    round_is found e =
        let n = clusters_left_no_more clusters old ready in
        sym (round_room d r (clusters_left clusters old) (clusters_left clusters old) (omega arith)) ∙ rw so_far.kept at e

    -- it is one of the rounds
    one_of : (n : ℕ) → n ≡ length (clusters_left clusters old) → r ≤ n
    one_of n e = elim (cases_lt n r) [
      | inl l ↦ absurd (rounds_end d (clusters_left clusters old) (so_far.rounds_are ∙ (let z : length (clusters_left clusters old) + 1 - r ≡ 0 = omega arith in rw z refl)))
      | inr l ↦ l
    ]

    now_or_later : rounds_of d clusters old ≡ or_later (round_at r) (rounds d (length (clusters_left clusters old) - r) (r + 1) (clusters_left clusters old))
    now_or_later =
        let l = one_of (length (clusters_left clusters old)) refl in
        let z : length (clusters_left clusters old) + 1 - r ≡ suc (length (clusters_left clusters old) - r) = omega arith in
        so_far.rounds_are ∙ rw z refl

    found_now : (found : Round) → round_at r ≡ found → or_later found (rounds d (length (clusters_left clusters old) - r) (r + 1) (clusters_left clusters old)) ≡ found → rounds_of d clusters old ≡ found
    found_now found e f = now_or_later ∙ ap (λ (k : Round). or_later k (rounds d (length (clusters_left clusters old) - r) (r + 1) (clusters_left clusters old))) e ∙ f

    -- the round repeated
    pub rounds_go_on : (new : Lists) → HasKept (round_of d clusters (room_in r) lists) repeats lists new → AreRoundsSoFar d clusters old new (r + 1)
    rounds_go_on new repeated =
        let l = one_of (length (clusters_left clusters old)) refl in
        let z : length (clusters_left clusters old) + 1 - (r + 1) ≡ length (clusters_left clusters old) - r = omega arith in
        record {
          kept = repeated.kept ∙ so_far.kept;
          rounds_are = rw z (now_or_later ∙ ap (λ (k : Round). or_later k (rounds d (length (clusters_left clusters old) - r) (r + 1) (clusters_left clusters old))) (round_is repeats repeated.round_is));
        }

    -- the round removed a chain
    pub rounds_removed : (new : Lists) → HasRemoved clusters (round_of d clusters (room_in r) lists) lists new → HasRemoved clusters (rounds_of d clusters old) old new
    rounds_removed new is = record {
      places = is.places;
      placed = rw so_far.kept at is.placed;
      within = is.within;
      round_is = found_now (removes (map (cluster_at clusters) is.places)) (round_is (removes (map (cluster_at clusters) is.places)) is.round_is) refl;
    }

    -- the round is stuck
    pub rounds_stuck : (new : Lists) → HasStuck (round_of d clusters (room_in r) lists) lists new → HasRefuted d clusters (room_in r) old new
    rounds_stuck new is =
        let tries = is.stuck.tries in
        let refuted : round_of d clusters (room_in r) old ≡ refutes tries = rw so_far.kept at is.stuck.round_is in
        record {
          kept = is.kept ∙ so_far.kept;
          stuck = record { tries = tries; round_is = refuted };
          rounds_are = found_now (refutes tries) (round_is (refutes tries) is.stuck.round_is) refl ∙ sym refuted;
        }

    -- so there are no more rounds than these
    pub rounds_over : length clusters < r → ⊥
    rounds_over l =
        let n = clusters_left_no_more clusters old ready in
        let z : length (clusters_left clusters old) + 1 - r ≡ 0 = omega arith in
        rounds_end d (clusters_left clusters old) (so_far.rounds_are ∙ rw z refl)
