-- A call of a client: the replies that it took, and what it sends to each replica.
use Rattle.std.specs.Prelude.{ℕ, ◌==◌, ◌&&◌, Bool, nat_lt, if◌then◌else◌, not, List, [], ◌∷◌, take}
use Rattle.std.specs.List.{list_any}
use Rattle.stale_model.specs.declared.Kind.{Kind}
use Rattle.stale_model.specs.declared.Kind.TheVariants.{Read, Write}
use Rattle.stale_model.specs.declared.store.Ask.{Ask}
use Rattle.stale_model.specs.declared.store.Ask.TheVariants.{Read as AskRead, Write as AskWrite, Repair}
use Rattle.stale_model.specs.declared.store.Request.{Request}
use Rattle.stale_model.specs.declared.store.Reply.{Reply}
use Rattle.stale_model.specs.declared.store.Took.{Took}
use Rattle.stale_model.specs.declared.store.Entry.{Entry}
use Rattle.stale_model.specs.Operations.{is_write_kind}

-- a place of an entry that no reply stands in
abbrev pub no_took : Took
no_took = record { replica = 0; serve = 0; stamp = 0; value = 0 }

-- a reply, as the call keeps it
abbrev pub took_of : Reply → Took
took_of reply = record { replica = reply.replica; serve = reply.serve; stamp = reply.stamp; value = reply.value }

-- the replies that the call took
abbrev pub taken_by : Entry → List Took
taken_by e = take e.took_count e.took

-- the later reply where its stamp is greater
abbrev pub fresher : Took → Took → Took
fresher best t = if nat_lt best.stamp t.stamp then t else best

-- the first with the greatest stamp of this reply and of those after it
abbrev pub freshest_from : Took → List Took → Took
freshest_from best [] = best
freshest_from best (t ∷ ts) = freshest_from (fresher best t) ts

-- the first reply with the greatest stamp
abbrev pub freshest : List Took → Took
freshest [] = no_took
freshest (t ∷ ts) = freshest_from t ts

-- whether a reply of this replica is older than the stamp
abbrev pub is_stale : ℕ → ℕ → List Took → Bool
is_stale stamp replica ts = list_any (λ t. (t.replica == replica) && nat_lt t.stamp stamp) ts

-- what a call asks
abbrev pub ask_of : Kind → ℕ → Ask
ask_of Read value = AskRead
ask_of Write value = AskWrite value

-- the request that a call sends to every replica
abbrev pub request_of : Entry → Request
request_of e = record { client = e.client; seq = e.seq; start = e.start; key = e.key; ask = ask_of e.kind e.value }

-- the repair that a read sends: the freshest pair that it took, once it finished
abbrev pub repair_of : Entry → Request
repair_of e = record { client = e.client; seq = e.seq; start = e.finish; key = e.key; ask = Repair (freshest (taken_by e)).stamp (freshest (taken_by e)).value }

-- whether a call sends a repair to this replica: a read that took an older reply of it
abbrev pub repairs : Entry → ℕ → Bool
repairs e replica = not (is_write_kind e.kind) && is_stale (freshest (taken_by e)).stamp replica (taken_by e)

-- what a call sends to a replica: its request, and after it the repair where one goes there
abbrev pub sent_to : ℕ → Entry → List Request
sent_to replica e = request_of e ∷ (if repairs e replica then repair_of e ∷ [] else [])
