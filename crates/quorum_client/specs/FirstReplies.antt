-- Which replies a call takes for its quorum.
use Rattle.std.specs.Prelude.{◌≡◌, ℕ, ◌==◌, ◌&&◌, Bool, not, nat_lt, if◌then◌else◌, List, [], ◌∷◌, ◌++◌, length, take, drop, fold, All}
use Rattle.std.specs.List.{list_any}
use Rattle.stale_model.specs.declared.store.Reply.{Reply}
use Rattle.stale_model.specs.declared.store.Took.{Took}
use Rattle.stale_model.specs.Calls.{no_took, took_of}
use Rattle.quorum_client.specs.declared.gather.Taken.{Taken}

-- whether a reply of this replica was taken
abbrev pub has_reply_of : ℕ → List Took → Bool
has_reply_of replica ts = list_any (λ t. t.replica == replica) ts

-- whether a reply is to the call of this number, of a known replica, of which none was taken yet
abbrev pub is_wanted : ℕ → ℕ → List Took → Reply → Bool
is_wanted seq replicas ts reply = ((reply.seq == seq) && nat_lt reply.replica replicas) && not (has_reply_of reply.replica ts)

-- what was taken, with this reply where it is wanted
abbrev pub with_reply : ℕ → ℕ → List Took → Reply → List Took
with_reply seq replicas ts reply = if is_wanted seq replicas ts reply then ts ++ took_of reply ∷ [] else ts

-- of these replies, the first of each known replica to the call of this number
abbrev pub first_replies : ℕ → ℕ → List Reply → List Took
first_replies seq replicas replies = fold (with_reply seq replicas) [] replies

-- the replies in these places
abbrev pub taken_of : Taken → List Took
taken_of g = take g.count g.took

-- as many places count as replies were taken, and no reply stands in the others
pub record IsFilled (g : Taken) : Type 0 where
  pub count : g.count ≡ length (taken_of g)
  pub others : All (λ t. t ≡ no_took) (drop g.count g.took)

-- the taker took some letters more, and these are the first replies of them
pub record IsGathered (seq replicas : ℕ) (before after : List Reply) (ts : List Took) : Type 0 where
  pub gained : List Reply
  pub grown : after ≡ before ++ gained
  pub firsts : ts ≡ first_replies seq replicas gained
