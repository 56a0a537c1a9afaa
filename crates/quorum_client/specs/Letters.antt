-- Who sent a note.
use Rattle.std.specs.Prelude.{ℕ}
use Rattle.quorum_client.specs.declared.letters.Note.{Note}
use Rattle.quorum_client.specs.declared.letters.Note.TheVariants.{Ask, Done}

-- the client that sent a note
abbrev pub sender_of : Note → ℕ
sender_of (Ask request) = request.client
sender_of (Done client) = client
