-- The steps of chains, rounds and epochs over places.
use Rattle.std.specs.Prelude.{◌≡◌, ℕ, ◌+◌, ◌-◌, ◌^◌, ◌<◌, ◌≤◌, ◌++◌, [], ◌∷◌, min, nat_lt, if◌then◌else◌, List, map, reverse, length, Option, Some, None, All, Contains}
use Rattle.stale_model.specs.declared.Cluster.{Cluster}
use Rattle.stale_model.specs.declared.End.{End}
use Rattle.stale_model.specs.declared.Try.{Try}
use Rattle.stale_model.specs.declared.Two.{Two}
use Rattle.stale_model.specs.declared.Two.TheVariants.{Yes, No}
use Rattle.stale_model.specs.Clusters.{writes_of, WriteRecordsDiffer}
use Rattle.stale_model.specs.Zones.{reads_start}
use Rattle.stale_model.specs.Chains.{without, demand, Demand, nothing, one, impossible, chain, Chain, ends, fails, cut, Round, removes, repeats, refutes, round, rounds, epochs}
use Rattle.lbt_epochs.specs.Lists.{Lists, with_placed, left, cluster_at, AreListsOf}
use Rattle.lbt_epochs.specs.declared.chains.Asked.{Asked}
use Rattle.lbt_epochs.specs.declared.chains.Asked.TheVariants.{Nothing, One, Impossible}
use Rattle.lbt_epochs.specs.declared.chains.Ran.{Ran}
use Rattle.lbt_epochs.specs.declared.rounds.Went.{Went}
use Rattle.lbt_epochs.specs.declared.rounds.Found.{Found}
use Rattle.lbt_epochs.specs.declared.epochs.Ended.{Ended}

-- the clusters that are not placed, in candidate order
abbrev pub clusters_left : List Cluster → Lists → List Cluster
clusters_left clusters lists = map (cluster_at clusters) (left lists.placed lists.candidates)

-- the lists are those of the clusters, whose write records differ
pub record IsReady (clusters : List Cluster) (lists : Lists) : Type 0 where
  pub lists_are : AreListsOf clusters lists
  pub differ : WriteRecordsDiffer clusters

-- x, where it starts after this tick
abbrev pub if_late : {X : Type 0} → (X → ℕ) → ℕ → Option X → Option X
if_late start bound None = None
if_late start bound (Some x) = if nat_lt bound (start x) then Some x else None

-- the demand that this stands for
abbrev pub as_demand : List Cluster → Asked → Demand
as_demand clusters Nothing = nothing
as_demand clusters (One at) = one (cluster_at clusters at)
as_demand clusters (Impossible end) = impossible end

-- what the cluster at a place asks of those not placed, of which the one that it asks for is one
pub record IsAsked (d : ℕ) (clusters : List Cluster) (lists : Lists) (at : ℕ) (asked : Asked) : Type 0 where
  pub demand_is : demand d (cluster_at clusters at) (clusters_left clusters lists) ≡ as_demand clusters asked
  pub there : (next : ℕ) → asked ≡ One next → Contains (left lists.placed lists.candidates) next

-- the chain of the cluster at a place among the others not placed
abbrev pub chain_at : ℕ → List Cluster → ℕ → ℕ → Lists → Chain
chain_at d clusters room at lists = chain d room (cluster_at clusters at) (without (clusters_left clusters lists) (cluster_at clusters at ∷ []))

-- the chain of these clusters that ran so
abbrev pub as_chain : List Cluster → Ran → Chain
as_chain clusters Ran.Ends = ends clusters
as_chain clusters (Ran.Fails end) = fails clusters end
as_chain clusters Ran.Cut = cut

-- the chain of the cluster at a place ran so, and what it placed stays placed
pub record IsRun (d : ℕ) (clusters : List Cluster) (room at : ℕ) (old new : Lists) (ran : Ran) : Type 0 where
  pub places : List ℕ
  pub placed : new ≡ with_placed old (old.placed ++ places)
  pub within : All (λ place. place < length clusters) places
  pub chain_is : chain_at d clusters room at old ≡ as_chain (map (cluster_at clusters) places) ran

-- the chain fails
pub record ChainFails (chain : Chain) : Type 0 where
  pub clusters : List Cluster
  pub end : End
  pub fails_so : chain ≡ fails clusters end

-- the chain failed with this end, and nothing more is placed than before
pub record HasFailed (chain : Chain) (old new : Lists) (end : End) : Type 0 where
  pub kept : new ≡ old
  pub clusters : List Cluster
  pub fails_so : chain ≡ fails clusters end

-- this is the try of the chain, and nothing more is placed than before
pub record HasTry (chain : Chain) (old new : Lists) (try : Try) : Type 0 where
  pub kept : new ≡ old
  pub clusters : List Cluster
  pub fails_so : chain ≡ fails clusters try.end
  pub writes_are : try.chain ≡ writes_of clusters

-- the chain was cut, and nothing more is placed than before
pub record IsCut (chain : Chain) (old new : Lists) : Type 0 where
  pub kept : new ≡ old
  pub cut_so : chain ≡ cut

-- the candidate at a place fared so
abbrev pub IsTried : ℕ → List Cluster → ℕ → ℕ → Lists → Lists → Ran → Type 0
IsTried d clusters room at old new Ran.Ends = IsRun d clusters room at old new Ran.Ends
IsTried d clusters room at old new (Ran.Fails end) = HasFailed (chain_at d clusters room at old) old new end
IsTried d clusters room at old new Ran.Cut = IsCut (chain_at d clusters room at old) old new

-- what c asks of the others that are left can't be
pub record FailsAlone (d : ℕ) (left : List Cluster) (c : Cluster) : Type 0 where
  pub end : End
  pub demand_is : demand d c (without left (c ∷ [])) ≡ impossible end

-- so it is for each cluster whose f is at most this
abbrev pub AllFailAlone : ℕ → ℕ → List Cluster → Type 0
AllFailAlone d f left = (c : Cluster) → Contains left c → c.f ≤ f → FailsAlone d left c

-- a cluster writes after f, and its own f is no earlier than that
pub record HasLateWrite (f : ℕ) (left : List Cluster) : Type 0 where
  pub u : Cluster
  pub there : Contains left u
  pub late : f < u.w
  pub in_turn : u.w ≤ u.f

-- three clusters have reads that start after f, where reads are taken to start d earlier
pub record HasThreeLateReads (d f : ℕ) (left : List Cluster) : Type 0 where
  pub x : Cluster
  pub y : Cluster
  pub z : Cluster
  pub x_there : Contains left x
  pub y_there : Contains left y
  pub z_there : Contains left z
  pub x_late : f + d < reads_start x
  pub y_late : f + d < reads_start y
  pub z_late : f + d < reads_start z
  pub x_not_y : x.write ≡ y.write → ⊥
  pub x_not_z : x.write ≡ z.write → ⊥
  pub y_not_z : y.write ≡ z.write → ⊥

-- the round removes the chain of these places, which stays placed
pub record HasRemoved (clusters : List Cluster) (went : Round) (old new : Lists) : Type 0 where
  pub places : List ℕ
  pub placed : new ≡ with_placed old (old.placed ++ places)
  pub within : All (λ place. place < length clusters) places
  pub round_is : went ≡ removes (map (cluster_at clusters) places)

-- the round is this one, and nothing more is placed than before
pub record HasKept (went is : Round) (old new : Lists) : Type 0 where
  pub kept : new ≡ old
  pub round_is : went ≡ is

-- some tries refute what is left in the round
pub record IsStuck (went : Round) : Type 0 where
  pub tries : List Try
  pub round_is : went ≡ refutes tries

-- the round is stuck, and nothing more is placed than before
pub record HasStuck (went : Round) (old new : Lists) : Type 0 where
  pub kept : new ≡ old
  pub stuck : IsStuck went

-- the round went so
abbrev pub WentSo : List Cluster → Round → Lists → Lists → Went → Type 0
WentSo clusters went old new Went.Removes = HasRemoved clusters went old new
WentSo clusters went old new Went.Repeats = HasKept went repeats old new
WentSo clusters went old new Went.Refutes = HasStuck went old new

-- the rounds of the clusters that are not placed
abbrev pub rounds_of : ℕ → List Cluster → Lists → Round
rounds_of d clusters lists = let left = clusters_left clusters lists in rounds d (length left + 1) 0 left

-- the round with this room over the clusters that are not placed
abbrev pub round_of : ℕ → List Cluster → ℕ → Lists → Round
round_of d clusters room lists = let left = clusters_left clusters lists in round d room left left

-- the rounds come to the one with this room, which is stuck, and nothing more is placed than before
pub record HasRefuted (d : ℕ) (clusters : List Cluster) (room : ℕ) (old new : Lists) : Type 0 where
  pub kept : new ≡ old
  pub stuck : IsStuck (round_of d clusters room old)
  pub rounds_are : rounds_of d clusters old ≡ round_of d clusters room old

-- what was found is what the rounds give
abbrev pub IsFound : ℕ → List Cluster → Lists → Lists → Found → Type 0
IsFound d clusters old new Found.Removes = HasRemoved clusters (rounds_of d clusters old) old new
IsFound d clusters old new (Found.Refutes room) = HasRefuted d clusters room old new

-- the epochs of the clusters that are not placed
abbrev pub epochs_of : ℕ → List Cluster → Lists → Option Two
epochs_of d clusters lists = let left = clusters_left clusters lists in epochs d (length left) left []

-- the epochs placed all clusters, the last ones of the listing first
pub record HasPlacedAll (d : ℕ) (clusters : List Cluster) (old new : Lists) : Type 0 where
  pub placed : new ≡ with_placed old new.placed
  pub within : All (λ place. place < length clusters) new.placed
  pub answer : epochs_of d clusters old ≡ Some (Yes (writes_of (map (cluster_at clusters) (reverse new.placed))))

-- the epochs came to a round with this room, which is stuck: its tries refute what they left
pub record HasStopped (d : ℕ) (clusters : List Cluster) (room : ℕ) (old new : Lists) : Type 0 where
  pub placed : new ≡ with_placed old new.placed
  pub ready : IsReady clusters new
  pub stuck : IsStuck (round_of d clusters room new)
  pub answer : (tries : List Try) → round_of d clusters room new ≡ refutes tries
      → epochs_of d clusters old ≡ Some (No (record { stuck = writes_of (clusters_left clusters new); tries = tries }))

-- the epochs ended so
abbrev pub HaveEnded : ℕ → List Cluster → Lists → Lists → Ended → Type 0
HaveEnded d clusters old new Ended.AllPlaced = HasPlacedAll d clusters old new
HaveEnded d clusters old new (Ended.Stuck room) = HasStopped d clusters room old new

-- how many clusters a chain has at most after its first in this round: no fewer than there are, where there are fewer than 2^32
abbrev pub room_in : ℕ → ℕ
room_in round = 2 ^ min round 32 - 1
