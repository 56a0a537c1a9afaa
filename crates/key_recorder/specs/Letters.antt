-- Letters of a recorder: who sent one, and which entries and ends are among them.
use Rattle.std.specs.Prelude.{◌≡◌, ℕ, ◌<◌, ◌==◌, Bool, true, false, List, [], ◌∷◌}
use Rattle.std.specs.List.{list_any}
use Rattle.stale_model.specs.declared.store.Entry.{Entry}
use Rattle.key_recorder.specs.declared.letters.RecordLetter.{RecordLetter}
use Rattle.key_recorder.specs.declared.letters.RecordLetter.TheVariants.{Entry as OfEntry, End}

-- the client that sent a letter
abbrev pub sender_of : RecordLetter → ℕ
sender_of (OfEntry e) = e.client
sender_of (End client) = client

-- the entries among letters
abbrev pub entries_in : List RecordLetter → List Entry
entries_in [] = []
entries_in (OfEntry e ∷ xs) = e ∷ entries_in xs
entries_in (End client ∷ xs) = entries_in xs

-- whether a letter is the end of this client
abbrev pub is_end_of : ℕ → RecordLetter → Bool
is_end_of client (OfEntry e) = false
is_end_of client (End c) = c == client

-- whether the end of this client is among letters
abbrev pub has_ended : ℕ → List RecordLetter → Bool
has_ended client xs = list_any (is_end_of client) xs

-- the end of each client below this number is among letters
abbrev pub AreEnded : ℕ → List RecordLetter → Type 0
AreEnded clients xs = (client : ℕ) → client < clients → has_ended client xs ≡ true
