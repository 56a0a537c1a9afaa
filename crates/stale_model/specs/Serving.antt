-- Which requests a replica serves, of those that come to it.
use Rattle.std.specs.Prelude.{ℕ, ◌==◌, ◌&&◌, ◌||◌, Bool, nat_lt, not, if◌then◌else◌, List, [], ◌∷◌, ◌++◌, length, filter}
use Rattle.stale_model.specs.declared.store.Settings.{Settings}
use Rattle.stale_model.specs.declared.store.Request.{Request}
use Rattle.stale_model.specs.Journals.{is_repair}

-- the reads and writes of a client: each gets a reply
abbrev pub answered_to : ℕ → List Request → List Request
answered_to client qs = filter (λ q. (q.client == client) && not (is_repair q.ask)) qs

-- whether a replica with so many places serves a request after these: it is of the run, a place is left, and its client has had fewer replies than it makes calls
abbrev pub admits : Settings → ℕ → List Request → Request → Bool
admits s places served q =
    nat_lt q.client s.clients && nat_lt q.key s.keys && nat_lt (length served) places && (is_repair q.ask || nat_lt (length (answered_to q.client served)) s.calls)

-- what a replica has served once these have come too, one after the other
abbrev pub served_after : Settings → ℕ → List Request → List Request → List Request
served_after s places served [] = served
served_after s places served (q ∷ qs) = served_after s places (if admits s places served q then served ++ q ∷ [] else served) qs
