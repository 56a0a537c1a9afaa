-- What is held of a key, as a pair.
use Rattle.stale_model.specs.Journals.{Pair}
use Rattle.replica_node.specs.declared.HeldPair.{HeldPair}

-- the stamp and the value
abbrev pub as_pair : HeldPair → Pair
as_pair h = record { stamp = h.stamp; value = h.value }
