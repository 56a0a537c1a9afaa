-- A refutation that is answered excludes all listings.
use Rattle.std.proofs.Common.{◌≡◌, ℕ, zero, suc, ◌+◌, ◌-◌, ◌<◌, ◌≤◌, not, List, [], ◌∷◌, ◌++◌, reverse, length, refl, ap, inl, inr, arith}
use Rattle.std.specs.Prelude.{Contains, ◌==◌, Option, Some}
use Rattle.std.specs.List.{list_any}
use Rattle.std.proofs.lemmas.Bool.{cases_lt}
use Rattle.std.proofs.lemmas.Option.{slice_get_within}
use Rattle.std.proofs.lemmas.List.Sorted.{Contains-permutation, IsPermutation-sym}
use Rattle.stale_model.specs.declared.Cluster.{Cluster}
use Rattle.stale_model.specs.declared.End.{End}
use Rattle.stale_model.specs.declared.End.TheVariants.{Hard, Soft}
use Rattle.stale_model.specs.declared.Refutation.{Refutation}
use Rattle.stale_model.specs.declared.Try.{Try}
use Rattle.stale_model.specs.declared.Two.{Two}
use Rattle.stale_model.specs.declared.Two.TheVariants.{Yes, No}
use Rattle.stale_model.specs.Orders.{StandsAt}
use Rattle.stale_model.specs.Zones.{reads_start}
use Rattle.stale_model.specs.Listings.{IsListing}
use Rattle.stale_model.specs.Chains.{without, Round, removes, repeats, refutes, rounds, epoch_by, epochs, AreCandidates}
use Rattle.stale_model.specs.Clusters.{writes_of}
use Rattle.stale_model.proofs.Places.{something_at, same_at, contains_at, place_of}
use Rattle.model_laws.proofs.Listings.{parts_of_listings_are_listings}
use Rattle.lbt_epochs.specs.TwoLaws.{AnswersTellWhetherListed}
use Rattle.lbt_epochs.proofs.Parts.{Apart, IsPart, WritesStandOnce}
use Rattle.lbt_epochs.proofs.ChainForced.{IsEnd, IsForcedChain}
use Rattle.lbt_epochs.proofs.RefutedRounds.{AreForcedTries, rounds_are_forced, none_is_no_answer, yes_is_not_no}
use Rattle.lbt_epochs.proofs.ListedEpochs.{listings_are_answered}

-- ---- a chain that fails, in a listing whose last cluster it begins with

module _ (d : ℕ) (left listing : List Cluster) (l : IsListing d left listing) where
  -- c stands with so many after it
  abbrev StandsFromEnd : ℕ → Cluster → Type 0
  StandsFromEnd after c = (place : ℕ) × (place + after + 1 ≡ length listing) × StandsAt listing place c

  -- a late reader that stands before c stands directly before it
  late_is_next : (c x : Cluster) (p q : ℕ) → StandsAt listing p c → StandsAt listing q x → c.f + d < reads_start x → q < p → q + 1 ≡ p
  late_is_next c x p q atc atx late low = elim (cases_lt (q + 1) p) [
    | inl far ↦ absurd (let no = l.soft q p x c atx atc far in omega arith)
    | inr near ↦ omega arith
  ]

  module _ (cs : List Cluster) where
    -- the first so many of the chain stand at the end of the listing, the first of them last
    abbrev StandAtEnd : ℕ → Type 0
    StandAtEnd count = (i : ℕ) (c : Cluster) → i < count → StandsAt cs i c → StandsFromEnd i c

    -- one that is none of them stands before them
    stands_before : (count : ℕ) → count ≤ length cs → StandAtEnd count → (x : Cluster) → ((i : ℕ) (c : Cluster) → i < count → StandsAt cs i c → c ≡ x → ⊥)
        → (q : ℕ) → StandsAt listing q x → q + count < length listing
    stands_before count few end x none q atx = elim (cases_lt (q + count) (length listing)) [
      | inl low ↦ low
      | inr high ↦
          let within = slice_get_within listing q x atx in
          let i = length listing - 1 - q in
          let (c, at) = something_at cs i (omega arith) in
          let (place, is, there) = end i c (omega arith) at in
          let same : place ≡ q = omega arith in
          absurd (none i c (omega arith) at (same_at listing q c x (rw same at there) atx))
    ]

    module _ (once : WritesStandOnce cs) (members : (i : ℕ) (c : Cluster) → StandsAt cs i c → Contains left c)
        (forced : (i : ℕ) (x y : Cluster) → StandsAt cs i x → StandsAt cs (suc i) y → x.f + d < reads_start y)
        (first : (c : Cluster) → StandsAt cs 0 c → StandsFromEnd 0 c) where
      -- the next of the chain stands directly before those so far
      next_stands : (k : ℕ) → suc k < length cs → StandAtEnd (suc k) → (y : Cluster) → StandsAt cs (suc k) y → StandsFromEnd (suc k) y
      next_stands k few end y aty =
          let (c, atc) = something_at cs k (omega arith) in
          let (p, is, there) = end k c (omega arith) atc in
          let (q, at) = place_of listing y (l.each_once.whole y (members (suc k) y aty)) in
          let apart = stands_before (suc k) (omega arith) end y
          (λ i x low atx same. let e : i ≡ suc k = once i (suc k) x y atx aty (ap (λ (z : Cluster). z.write) same) in absurd (omega arith)) q at in
          let next = late_is_next c y p q there at (forced k c y atc aty) (omega arith) in
          (q, omega arith, at)

      -- all of it stands at the end
      stand_at_end : (count : ℕ) → count ≤ length cs → StandAtEnd count
      stand_at_end zero few i c low at = absurd (omega arith)
      stand_at_end (suc zero) few zero c low at = first c at
      stand_at_end (suc zero) few (suc i) c low at = absurd (omega arith)
      stand_at_end (suc (suc k)) few i c low at = elim (cases_lt i (suc k)) [
        | inl less ↦ stand_at_end (suc k) (omega arith) i c less at
        | inr last ↦
            let e : i ≡ suc k = omega arith in
            rw e (next_stands k (omega arith) (stand_at_end (suc k) (omega arith)) c (rw e at at))
      ]

  -- where one that is apart from the chain stands, the chain's last cluster stands after it
  apart_before : (cs : List Cluster) (last x : Cluster) (p : ℕ) → StandAtEnd cs (length cs) → p + (length cs - 1) + 1 ≡ length listing → 0 < length cs
      → Contains left x → Apart x cs → (q : ℕ) × StandsAt listing q x × (q < p)
  apart_before cs last x p end is some there free =
      let (q, at) = place_of listing x (l.each_once.whole x there) in
      let low = stands_before cs (length cs) (omega arith) end x (λ i c less atc same. free c (contains_at cs i c atc) (ap (λ (z : Cluster). z.write) same)) q at in
      (q, at, omega arith)

  -- so no end holds
  no_end : (rest cs : List Cluster) (last : Cluster) (end : End) (p : ℕ) → StandAtEnd cs (length cs) → p + (length cs - 1) + 1 ≡ length listing → 0 < length cs
      → StandsAt listing p last → IsPart left rest → IsEnd d rest cs last end → ⊥
  no_end rest cs last (Hard r u) p end is some at part h =
      let x = h.late.x in
      let late = h.late.late in
      let (q, atx, low) = apart_before cs last x p end is some (part x h.late.there) h.free in
      let no = l.hard q p x last atx at low in
      omega arith
  no_end rest cs last (Soft r u v) p end is some at part s =
      let x = s.late.x in
      let y = s.late.y in
      let (q, atx, low) = apart_before cs last x p end is some (part x s.late.first.there) s.free in
      let (q2, aty, low2) = apart_before cs last y p end is some (part y s.late.second.there) s.free2 in
      let e = late_is_next last x p q at atx s.late.first.late low in
      let e2 = late_is_next last y p q2 at aty s.late.second.late low2 in
      let same : q2 ≡ q = omega arith in
      s.late.differ (ap (λ (z : Cluster). z.write) (same_at listing q y x (rw same at aty) atx))

  -- no chain from the last cluster fails
  no_chain_fails : (x : Cluster) (rest cs : List Cluster) (end : End) → StandsFromEnd 0 x → IsPart left rest → IsForcedChain d x rest cs end → ⊥
  no_chain_fails x rest cs end ends part k =
      let (place, is, at) = ends in
      let members : (i : ℕ) (c : Cluster) → StandsAt cs i c → Contains left c = chain_members x rest cs end (l.each_once.known x (contains_at listing place x at)) part k in
      let first : (c : Cluster) → StandsAt cs 0 c → StandsFromEnd 0 c = λ c atc. rw (same_at cs 0 x c k.begins atc) at ends in
      let all = stand_at_end cs k.once members k.forced first (length cs) (omega arith) in
      let some = slice_get_within cs 0 x k.begins in
      let (p, here, there) = all (length cs - 1) k.last (omega arith) k.last_is in
      no_end rest cs k.last end p all here some there part k.end_is
    where
      chain_members : (x : Cluster) (rest cs : List Cluster) (end : End) → Contains left x → IsPart left rest → IsForcedChain d x rest cs end
          → (i : ℕ) (c : Cluster) → StandsAt cs i c → Contains left c
      chain_members x rest cs end there part k zero c at = rw (same_at cs 0 x c k.begins at) at there
      chain_members x rest cs end there part k (suc i) c at = part c (k.members i c at)

  -- so not each cluster has a try
  no_tries : (tries : List Try) → 0 < length left → AreForcedTries d left left tries → ⊥
  no_tries tries some forced =
      let (c, atc) = something_at left 0 some in
      let (i, ati) = place_of listing c (l.each_once.whole c (contains_at left 0 c atc)) in
      let within = slice_get_within listing i c ati in
      let (x, last) = something_at listing (length listing - 1) (omega arith) in
      let (t, at) = place_of left x (l.each_once.known x (contains_at listing (length listing - 1) x last)) in
      let many = forced.as_many in
      let there = slice_get_within left t x at in
      let (attempt, att) = something_at tries t (omega arith) in
      let try = forced.each t x attempt at att in
      no_chain_fails x try.rest try.chain attempt.end (length listing - 1, omega arith, last) try.part try.forced

-- ---- epochs

-- nothing of these has a listing
abbrev HasNone : ℕ → List Cluster → Type 0
HasNone d left = (listing : List Cluster) → IsListing d left listing → ⊥

none_by : (d : ℕ) (left : List Cluster) (found : Round) (go_on : List Cluster → Option Two) (refutation : Refutation) → 0 < length left
    → rounds d (length left + 1) 0 left ≡ found → ((chain : List Cluster) → go_on chain ≡ Some (No refutation) → HasNone d (without left chain))
    → epoch_by left found go_on ≡ Some (No refutation) → HasNone d left
none_by d left (removes chain) go_on refutation some is later e listing l =
    let passes = λ (z : Cluster). not (list_any (λ u. u.write == z.write) chain) in
    later chain e _ (parts_of_listings_are_listings passes d left listing l)
none_by d left repeats go_on refutation some is later e listing l = none_is_no_answer (No refutation) e
none_by d left (refutes tries) go_on refutation some is later e listing l =
    no_tries d left listing l tries some (rounds_are_forced d (length left + 1) 0 left tries is)

-- what epochs refute has no listing
none_refuted : (d more : ℕ) (left listed : List Cluster) (refutation : Refutation) → epochs d more left listed ≡ Some (No refutation) → HasNone d left
none_refuted d zero [] listed refutation e = absurd (yes_is_not_no (writes_of listed) refutation e)
none_refuted d zero (c ∷ cs) listed refutation e = absurd (none_is_no_answer (No refutation) e)
none_refuted d (suc more) [] listed refutation e = absurd (yes_is_not_no (writes_of listed) refutation e)
none_refuted d (suc more) (c ∷ cs) listed refutation e =
    let left = c ∷ cs in
    none_by d left (rounds d (length left + 1) 0 left) (λ chain. epochs d more (without left chain) (reverse chain ++ listed)) refutation (omega arith) refl
    (λ chain f. none_refuted d more (without left chain) (reverse chain ++ listed) refutation f) e

-- a listing of the clusters is one of the candidates
of_candidates : (d : ℕ) (clusters candidates listing : List Cluster) → AreCandidates clusters candidates → IsListing d clusters listing → IsListing d candidates listing
of_candidates d clusters candidates listing are l = record {
  each_once = record {
    known = λ x c. Contains-permutation clusters candidates x are.each_once (l.each_once.known x c);
    whole = λ x c. l.each_once.whole x (Contains-permutation candidates clusters x (IsPermutation-sym clusters candidates are.each_once) c);
    once = l.each_once.once;
  };
  hard = l.hard;
  soft = l.soft;
}

pub answers_tell_whether_listed : AnswersTellWhetherListed
answers_tell_whether_listed d clusters (Yes writes) differ answer =
    (λ yes. (let by = listings_are_answered d clusters writes differ answer in record { listing = by.listing; is = by.is }), λ has. tt)
answers_tell_whether_listed d clusters (No refutation) differ answer =
    let candidates = answer.candidates in
    (λ no. absurd no, λ has. none_refuted d (length candidates) candidates [] refutation answer.answer has.listing (of_candidates d clusters candidates has.listing answer.order has.is))
