-- What the two files of a run read as, or the first line at fault.
use Rattle.std.specs.Prelude.{ℕ, ◌+◌, ◌==◌, if◌then◌else◌, List, [], ◌∷◌, length, map, drop, take, filter, find, Option, Some, None, Result, Ok, Err, option_map, unwrap_or}
use Rattle.std.specs.List.{range_with_len}
use Rattle.std.specs.Str.{bytes_eq}
use Rattle.stale_model.specs.declared.store.Settings.{Settings}
use Rattle.stale_model.specs.declared.store.JournalEntry.{JournalEntry}
use Rattle.stale_model.specs.declared.store.Took.{Took}
use Rattle.stale_model.specs.declared.store.Entry.{Entry}
use Rattle.stale_model.specs.Calls.{took_of}
use Rattle.stale_model.specs.Texts.{comma, recorded_header, journal_header}
use Rattle.cert_text.specs.Words.{lines_of, is_empty}
use Rattle.trace_check.specs.declared.trace.Trace.{Trace}
use Rattle.trace_check.specs.declared.reading.TraceFault.{TraceFault}
use Rattle.trace_check.specs.declared.reading.TraceFault.TheVariants as fault
use Rattle.trace_check.specs.Lines.{split_at, call_of, entry_of}

-- what follows from what was read, or the fault that stands in its place
abbrev pub or_fault : {X Y : Type 0} → Result X TraceFault → (X → Result Y TraceFault) → Result Y TraceFault
or_fault (Ok x) next = next x
or_fault (Err f) next = Err f

-- what a line reads as, or the fault of this line
abbrev pub or_line : {X : Type 0} → TraceFault → Option X → Result X TraceFault
or_line f (Some x) = Ok x
or_line f None = Err f

-- what the lines from this number on read as, or the first fault. How a line reads may depend on the line before it. The last part
-- is not a line, but what stands after the last line feed, and is a fault where it isn't empty
unfoldable pub lines_read : {X : Type 0} → (ℕ → TraceFault) → (Option X → List ℕ → Option X) → ℕ → Option X → List (List ℕ) → Result (List X) TraceFault
lines_read fault_at read n before [] = Ok []
lines_read fault_at read n before (rest ∷ []) = if is_empty rest then Ok [] else Err (fault_at n)
lines_read fault_at read n before (line ∷ next ∷ lines) =
    or_fault (or_line (fault_at n) (read before line)) (λ x. or_fault (lines_read fault_at read (n + 1) (Some x) (next ∷ lines)) (λ xs. Ok (x ∷ xs)))

-- what the lines after the header read as; a text that doesn't begin with it is at fault in line 1
abbrev pub file_read : {X : Type 0} → (ℕ → TraceFault) → List ℕ → (Option X → List ℕ → Option X) → List ℕ → Result (List X) TraceFault
file_read fault_at header read text =
    if bytes_eq (take (length header) text) header then lines_read fault_at read 2 None (lines_of (drop (length header) text)) else Err (fault_at 1)

-- how a line of a history reads
abbrev pub read_call : Settings → Option Entry → List ℕ → Option Entry
read_call s before line = call_of s (split_at comma line)

-- the replica of an entry, below which no replica may stand after it
abbrev pub replica_of : Option JournalEntry → ℕ
replica_of None = 0
replica_of (Some j) = j.reply.replica

-- how a line of a journal file reads: its replica is not below that of the line before it
abbrev pub read_entry : Settings → Option JournalEntry → List ℕ → Option JournalEntry
read_entry s before line = entry_of s (replica_of before) (split_at comma line)

-- the calls that a history reads as
unfoldable pub calls_read : Settings → List ℕ → Result (List Entry) TraceFault
calls_read s history = file_read fault.History recorded_header (read_call s) history

-- the entries that a journal file reads as
unfoldable pub entries_read : Settings → List ℕ → Result (List JournalEntry) TraceFault
entries_read s journal = file_read fault.Journal journal_header (read_entry s) journal

-- the reply of the first line that was served at this ticket
abbrev pub reply_at : List JournalEntry → ℕ → Option Took
reply_at lines ticket = option_map (λ j. took_of j.reply) (find (λ j. j.reply.serve == ticket) lines)

-- a call with the replies that stand in a journal file at its tickets; a ticket that stands nowhere stays alone
abbrev pub with_replies : List JournalEntry → Entry → Entry
with_replies lines e = record e { took = map (λ t. unwrap_or (reply_at lines t.serve) t) e.took }

-- the journal of each replica: its lines, in their order
abbrev pub journals_of : ℕ → List JournalEntry → List (List JournalEntry)
journals_of replicas lines = map (λ replica. filter (λ j. j.reply.replica == replica) lines) (range_with_len 0 replicas)

-- the run that these calls and the lines of a journal file are
abbrev pub trace_with : Settings → List Entry → List JournalEntry → Trace
trace_with s calls lines = record { entries = map (with_replies lines) calls; journals = journals_of s.replicas lines }

-- the run that a history and a journal file read as, or the first fault: of the history, or else of the journal file
unfoldable pub trace_of : Settings → List ℕ → List ℕ → Result Trace TraceFault
trace_of s history journal = or_fault (calls_read s history) (λ calls. or_fault (entries_read s journal) (λ lines. Ok (trace_with s calls lines)))
