-- A round as it goes: the tries so far, and the candidates that are still to be tried.
use Rattle.std.proofs.Common.{◌≡◌, ℕ, ◌+◌, ◌≤◌, Bool, true, false, List, [], ◌∷◌, ◌++◌, map, length, drop, Option, Some, refl, sym, ◌∙◌, ap, append_assoc, append-nil}
use Rattle.std.specs.Prelude.{Contains, slice_get}
use Rattle.std.proofs.lemmas.Option.{slice_get_within, get_or_from_slice_get}
use Rattle.std.proofs.lemmas.List.{drop_more, drop_all}
use Rattle.stale_model.specs.declared.Cluster.{Cluster}
use Rattle.stale_model.specs.declared.End.{End}
use Rattle.stale_model.specs.declared.Try.{Try}
use Rattle.stale_model.specs.Chains.{Chain, ends, fails, cut, Round, removes, repeats, refutes, join, round, writes_of}
use Rattle.stale_model.proofs.Places.{contains_at}
use Rattle.lbt_epochs.specs.Lists.{Lists, left, cluster_at}
use Rattle.lbt_epochs.specs.Steps.{clusters_left, chain_at, AllFailAlone, ChainFails, IsReady, IsRun, HasFailed, HasTry, IsCut, HasRemoved, HasKept, IsStuck, HasStuck}
use Rattle.lbt_epochs.specs.declared.chains.Ran.TheVariants.{Ends}
use Rattle.lbt_epochs.proofs.LeftAlone.{stuck_from}

-- what a round gives after these tries, where some chain before was cut or none was
abbrev pub resumed : List Try → Bool → Round → Round
resumed tries some_cut (removes chain) = removes chain
resumed tries some_cut repeats = repeats
resumed tries true (refutes later) = repeats
resumed tries false (refutes later) = refutes (tries ++ later)

resumed_first : (later : Round) → later ≡ resumed [] false later
resumed_first (removes chain) = refl
resumed_first repeats = refl
resumed_first (refutes tries) = refl

resumed_failed : (tries : List Try) (some_cut : Bool) (cs : List Cluster) (end : End) (later : Round)
    → resumed tries some_cut (join (fails cs end) later) ≡ resumed (tries ++ record { chain = writes_of cs; end = end } ∷ []) some_cut later
resumed_failed tries some_cut cs end (removes chain) = refl
resumed_failed tries some_cut cs end repeats = refl
resumed_failed tries true cs end (refutes later) = refl
resumed_failed tries false cs end (refutes later) = ap refutes (sym (append_assoc tries (record { chain = writes_of cs; end = end } ∷ []) later))

resumed_cut : (tries : List Try) (some_cut : Bool) (later : Round) → resumed tries some_cut (join cut later) ≡ resumed tries true later
resumed_cut tries some_cut (removes chain) = refl
resumed_cut tries some_cut repeats = refl
resumed_cut tries true (refutes later) = refl
resumed_cut tries false (refutes later) = refl

fails_by : (tries : List Try) (first : Chain) (later : Round) (all : List Try) → resumed tries false (join first later) ≡ refutes all → ChainFails first
fails_by tries (ends cs) later all e = cc
fails_by tries cut (removes cs) all e = cc
fails_by tries cut repeats all e = cc
fails_by tries cut (refutes later) all e = cc
fails_by tries (fails cs end) later all e = record { clusters = cs; end = end; fails_so = refl }

-- a round of the clusters that are left in old, as far as its candidate at this place
pub record IsRoundSoFar (d : ℕ) (clusters : List Cluster) (room : ℕ) (old lists : Lists) (count : ℕ) (next : Option ℕ) (tries : List Try) (some_cut : Bool) : Type 0 where
  pub kept : lists ≡ old
  pub next_is : next ≡ slice_get (left old.placed old.candidates) count
  pub round_is : round d room (clusters_left clusters old) (clusters_left clusters old)
      ≡ resumed tries some_cut (round d room (clusters_left clusters old) (map (cluster_at clusters) (drop count (left old.placed old.candidates))))

-- the same with some tries
pub record IsUntriedSoFar (d : ℕ) (clusters : List Cluster) (room : ℕ) (old lists : Lists) (count : ℕ) (next : Option ℕ) (some_cut : Bool) : Type 0 where
  pub tries : List Try
  pub so_far : IsRoundSoFar d clusters room old lists count next tries some_cut

module _ (d : ℕ) (clusters : List Cluster) (room : ℕ) (old : Lists) where
  abbrev candidates : List ℕ
  candidates = left old.placed old.candidates

  abbrev whole_round : Round
  whole_round = round d room (clusters_left clusters old) (clusters_left clusters old)

  abbrev round_from : ℕ → Round
  round_from count = round d room (clusters_left clusters old) (map (cluster_at clusters) (drop count candidates))

  -- it begins
  pub round_begins : (next : Option ℕ) → next ≡ slice_get candidates 0 → IsRoundSoFar d clusters room old old 0 next [] false
  round_begins next e = record { kept = refl; next_is = e; round_is = resumed_first whole_round }

  -- it ends
  round_ends : (lists : Lists) (count : ℕ) (next : Option ℕ) (tries : List Try) (some_cut : Bool) → IsRoundSoFar d clusters room old lists count next tries some_cut
      → length candidates ≤ count → whole_round ≡ resumed tries some_cut (refutes [])
  round_ends lists count next tries some_cut so_far l =
      so_far.round_is ∙ ap (λ (ps : List ℕ). resumed tries some_cut (round d room (clusters_left clusters old) (map (cluster_at clusters) ps))) (drop_all count candidates l)

  pub round_refutes : (lists : Lists) (count : ℕ) (next : Option ℕ) (tries : List Try) → IsRoundSoFar d clusters room old lists count next tries false
      → length candidates ≤ count → HasKept whole_round (refutes tries) old lists
  round_refutes lists count next tries so_far l = record {
    kept = so_far.kept;
    round_is = round_ends lists count next tries false so_far l ∙ ap refutes (append-nil tries);
  }

  -- ---- as it goes on whatever the tries

  pub round_begins_untried : (next : Option ℕ) → next ≡ slice_get candidates 0 → IsUntriedSoFar d clusters room old old 0 next false
  round_begins_untried next e = record { tries = []; so_far = round_begins next e }

  pub round_repeats : (lists : Lists) (count : ℕ) (next : Option ℕ) (some_cut : Bool) → IsUntriedSoFar d clusters room old lists count next some_cut
      → length candidates ≤ count → some_cut ≡ true → HasKept whole_round repeats old lists
  round_repeats lists count next some_cut untried l e = record {
    kept = untried.so_far.kept;
    round_is = rw e at (round_ends lists count next untried.tries some_cut untried.so_far l);
  }

  pub round_is_stuck : (lists : Lists) (count : ℕ) (next : Option ℕ) (some_cut : Bool) → IsUntriedSoFar d clusters room old lists count next some_cut
      → length candidates ≤ count → some_cut ≡ false → HasStuck whole_round old lists
  round_is_stuck lists count next some_cut untried l e =
      let refuted = round_refutes lists count next untried.tries (rw e at untried.so_far) l in
      record { kept = untried.so_far.kept; stuck = record { tries = untried.tries; round_is = refuted.round_is } }

module _ (d : ℕ) (clusters : List Cluster) (room : ℕ) (old lists : Lists) (count at : ℕ) (next : Option ℕ) (tries : List Try) (some_cut : Bool)
    (so_far : IsRoundSoFar d clusters room old lists count next tries some_cut) (here : next ≡ Some at) where
  pub stands_next : slice_get (left lists.placed lists.candidates) count ≡ Some at
  stands_next = rw so_far.kept (sym so_far.next_is ∙ here)

  pub there_next : Contains (left lists.placed lists.candidates) at
  there_next = contains_at (left lists.placed lists.candidates) count at stands_next

  -- the round goes on with the chain of the candidate
  with_chain : round d room (clusters_left clusters old) (clusters_left clusters old)
      ≡ resumed tries some_cut (join (chain_at d clusters room at old) (round d room (clusters_left clusters old) (map (cluster_at clusters) (drop (count + 1) (left old.placed old.candidates)))))
  with_chain =
      let ps = left old.placed old.candidates in
      let stands : slice_get ps count ≡ Some at = sym so_far.next_is ∙ here in
      let more = drop_more ps count at (slice_get_within ps count at stands) in
      let is = get_or_from_slice_get ps count at at stands in
      let e : drop count ps ≡ at ∷ drop (count + 1) ps = more ∙ ap (λ (x : ℕ). x ∷ drop (count + 1) ps) is in
      so_far.round_is ∙ ap (λ (l : List ℕ). resumed tries some_cut (round d room (clusters_left clusters old) (map (cluster_at clusters) l))) e

  next_too : (later : Option ℕ) → later ≡ slice_get (left lists.placed lists.candidates) (count + 1) → later ≡ slice_get (left old.placed old.candidates) (count + 1)
  next_too later e = rw so_far.kept at e

  -- the chain failed
  pub round_failed : (new : Lists) (try : Try) (later : Option ℕ) → HasTry (chain_at d clusters room at lists) lists new try
      → later ≡ slice_get (left new.placed new.candidates) (count + 1) → IsRoundSoFar d clusters room old new (count + 1) later (tries ++ try ∷ []) some_cut
  round_failed new try later failed e =
      let chain_is : chain_at d clusters room at old ≡ fails failed.clusters try.end = rw so_far.kept at failed.fails_so in
      let rest = round d room (clusters_left clusters old) (map (cluster_at clusters) (drop (count + 1) (left old.placed old.candidates))) in
      let same : record { chain = writes_of failed.clusters; end = try.end } ≡ try = ap (λ (chain : List ℕ). record { chain = chain; end = try.end }) (sym failed.writes_are) in
      record {
        kept = failed.kept ∙ so_far.kept;
        next_is = next_too later (rw failed.kept at e);
        round_is = with_chain ∙ ap (λ (c : Chain). resumed tries some_cut (join c rest)) chain_is ∙ resumed_failed tries some_cut failed.clusters try.end rest
            ∙ ap (λ (t : Try). resumed (tries ++ t ∷ []) some_cut rest) same;
      }

  -- the chain was cut
  pub round_cut : (new : Lists) (later : Option ℕ) → IsCut (chain_at d clusters room at lists) lists new
      → later ≡ slice_get (left new.placed new.candidates) (count + 1) → IsRoundSoFar d clusters room old new (count + 1) later tries true
  round_cut new later was e =
      let chain_is : chain_at d clusters room at old ≡ cut = rw so_far.kept at was.cut_so in
      let rest = round d room (clusters_left clusters old) (map (cluster_at clusters) (drop (count + 1) (left old.placed old.candidates))) in
      record {
        kept = was.kept ∙ so_far.kept;
        next_is = next_too later (rw was.kept at e);
        round_is = with_chain ∙ ap (λ (c : Chain). resumed tries some_cut (join c rest)) chain_is ∙ resumed_cut tries some_cut rest;
      }

  -- in a round that is refuted each chain fails
  pub chain_fails : some_cut ≡ false → IsStuck (round d room (clusters_left clusters old) (clusters_left clusters old)) → ChainFails (chain_at d clusters room at lists)
  chain_fails e stuck =
      let rest = round d room (clusters_left clusters old) (map (cluster_at clusters) (drop (count + 1) (left old.placed old.candidates))) in
      let went : resumed tries false (join (chain_at d clusters room at old) rest) ≡ refutes stuck.tries = rw e at (sym with_chain ∙ stuck.round_is) in
      rw so_far.kept (fails_by tries (chain_at d clusters room at old) rest stuck.tries went)

  -- the chain ended
  pub round_removes : (new : Lists) → IsRun d clusters room at lists new Ends → HasRemoved clusters (round d room (clusters_left clusters old) (clusters_left clusters old)) old new
  round_removes new run =
      let chain_is : chain_at d clusters room at old ≡ ends (map (cluster_at clusters) run.places) = rw so_far.kept at run.chain_is in
      let rest = round d room (clusters_left clusters old) (map (cluster_at clusters) (drop (count + 1) (left old.placed old.candidates))) in
      record {
        places = run.places;
        placed = rw so_far.kept at run.placed;
        within = run.within;
        round_is = with_chain ∙ ap (λ (c : Chain). resumed tries some_cut (join c rest)) chain_is;
      }

module _ (d : ℕ) (clusters : List Cluster) (room : ℕ) (old lists : Lists) (count at : ℕ) (next : Option ℕ) (some_cut : Bool)
    (untried : IsUntriedSoFar d clusters room old lists count next some_cut) (here : next ≡ Some at) where
  -- the chain of the candidate failed
  pub untried_failed : (new : Lists) (end : End) (later : Option ℕ) → HasFailed (chain_at d clusters room at lists) lists new end
      → later ≡ slice_get (left new.placed new.candidates) (count + 1) → IsUntriedSoFar d clusters room old new (count + 1) later some_cut
  untried_failed new end later failed e =
      let try : Try = record { chain = writes_of failed.clusters; end = end } in
      let as_try : HasTry (chain_at d clusters room at lists) lists new try = record { kept = failed.kept; clusters = failed.clusters; fails_so = failed.fails_so; writes_are = refl } in
      record {
        tries = untried.tries ++ try ∷ [];
        so_far = round_failed d clusters room old lists count at next untried.tries some_cut untried.so_far here new try later as_try e;
      }

  -- it was cut
  pub untried_cut : (new : Lists) (later : Option ℕ) → IsCut (chain_at d clusters room at lists) lists new
      → later ≡ slice_get (left new.placed new.candidates) (count + 1) → IsUntriedSoFar d clusters room old new (count + 1) later true
  untried_cut new later was e = record { tries = untried.tries; so_far = round_cut d clusters room old lists count at next untried.tries some_cut untried.so_far here new later was e }

  -- the round stops, where one was cut and the round over it and the later ones is refuted
  pub round_stops : some_cut ≡ true → IsReady clusters old → AllFailAlone d (cluster_at clusters at).f (clusters_left clusters lists)
      → HasKept (round d room (clusters_left clusters old) (clusters_left clusters old)) repeats old lists
  round_stops e ready each =
      let stands : slice_get (left old.placed old.candidates) count ≡ Some at = sym untried.so_far.next_is ∙ here in
      let later = stuck_from clusters old ready d room count at stands (rw untried.so_far.kept at each) in
      record {
        kept = untried.so_far.kept;
        round_is = rw e at (untried.so_far.round_is ∙ ap (λ (r : Round). resumed untried.tries some_cut r) later.round_is);
      }
