-- The texts of what is written: a line of a history, and the two files of a recorded run.
use Rattle.std.specs.Prelude.{ℕ, ◌+◌, ◌==◌, if◌then◌else◌, List, [], ◌∷◌, ◌++◌, map, codes}
use Rattle.std.specs.Fmt.{decimal}
use Rattle.std.specs.List.{flat_map, join_with_byte}
use Rattle.stale_model.specs.declared.Kind.{Kind}
use Rattle.stale_model.specs.declared.Kind.TheVariants.{Read, Write}
use Rattle.stale_model.specs.declared.Line.{Line}
use Rattle.stale_model.specs.declared.store.Ask.{Ask}
use Rattle.stale_model.specs.declared.store.Ask.TheVariants.{Read as AskRead, Write as AskWrite, Repair}
use Rattle.stale_model.specs.declared.store.JournalEntry.{JournalEntry}
use Rattle.stale_model.specs.declared.store.Entry.{Entry}
use Rattle.stale_model.specs.Calls.{taken_by}

-- the byte between two fields
abbrev pub comma : ℕ
comma = 44

-- the byte between two tickets of one field
abbrev pub semicolon : ℕ
semicolon = 59

-- the word of a kind
abbrev pub op_text : Kind → List ℕ
op_text Read = codes "r"
op_text Write = codes "w"

-- the word of what a request asks
abbrev pub ask_text : Ask → List ℕ
ask_text AskRead = codes "r"
ask_text (AskWrite value) = codes "w"
ask_text (Repair stamp value) = codes "p"

-- the name of the key with this number
abbrev pub key_text : ℕ → List ℕ
key_text number = codes "k" ++ decimal number

-- the value with this number, of which 0 is the empty one
abbrev pub value_text : ℕ → List ℕ
value_text number = if number == 0 then [] else codes "v" ++ decimal number

-- the fields of a record, with commas between them, and a line feed
abbrev pub record_text : List (List ℕ) → List ℕ
record_text fields = join_with_byte comma fields ++ codes "\n"

-- the six fields of a line
abbrev pub line_fields : Line → List (List ℕ)
line_fields line =
    decimal line.client ∷ op_text line.kind ∷ key_text line.key ∷ value_text line.value ∷ decimal line.start ∷ decimal line.finish ∷ []

-- the line of a call in a history
abbrev pub line_of : Entry → Line
line_of e = record { client = e.client; kind = e.kind; key = e.key; value = e.value; start = e.start; finish = e.finish }

-- the tickets at which the replies that a call took were served, in their order
abbrev pub took_text : Entry → List ℕ
took_text e = join_with_byte semicolon (map (λ t. decimal t.serve) (taken_by e))

-- the eight fields of a call: those of its line, its number, and the replies that it took
abbrev pub call_fields : Entry → List (List ℕ)
call_fields e = line_fields (line_of e) ++ decimal e.seq ∷ took_text e ∷ []

-- the header of a recorded history
abbrev pub recorded_header : List ℕ
recorded_header = codes "client,op,key,value,start,finish,seq,took\n"

-- the recorded history of calls: the header, and a record for each call
unfoldable pub recorded_text : List Entry → List ℕ
recorded_text entries = recorded_header ++ flat_map (λ e. record_text (call_fields e)) entries

-- the nine fields of an entry of this replica's journal: where it was served, the request, and the pair of the reply
abbrev pub journal_fields : ℕ → JournalEntry → List (List ℕ)
journal_fields replica j =
    decimal replica ∷ decimal j.reply.serve ∷ decimal j.request.client ∷ decimal j.request.seq ∷ decimal j.request.start
    ∷ key_text j.request.key ∷ ask_text j.request.ask ∷ value_text j.reply.value ∷ decimal j.reply.stamp ∷ []

-- the header of a journal file
abbrev pub journal_header : List ℕ
journal_header = codes "replica,serve,client,seq,start,key,op,value,stamp\n"

-- the journals of the replicas from this one on: a record for each entry, in order
abbrev pub journals_from : ℕ → List (List JournalEntry) → List ℕ
journals_from replica [] = []
journals_from replica (js ∷ rest) = flat_map (λ j. record_text (journal_fields replica j)) js ++ journals_from (replica + 1) rest

-- the journal file of the replicas: the header, and their journals
unfoldable pub journal_text : List (List JournalEntry) → List ℕ
journal_text journals = journal_header ++ journals_from 0 journals
