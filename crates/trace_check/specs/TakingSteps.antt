-- These definitions serve the code alone: the entries of journals by their tickets, and what an entry has to be for a call.
use Rattle.std.specs.Prelude.{◌≡◌, ℕ, ◌<◌, ◌==◌, false, List, length, map, find, slice_index_or, option_copied}
use Rattle.std.specs.Ordering.{nat_cmp}
use Rattle.std.specs.BTreeMap as tree
use Rattle.std.specs.BTreeMap.{BTreeMap}
use denote.Ref.{Bor}
use Rattle.stale_model.specs.declared.store.JournalEntry.{JournalEntry}
use Rattle.stale_model.specs.declared.store.Took.{Took}
use Rattle.stale_model.specs.declared.store.Entry.{Entry}
use Rattle.stale_model.specs.Orders.{IsWithoutRepeats}
use Rattle.stale_model.specs.Journals.{is_repair}
use Rattle.stale_model.specs.Calls.{took_of}
use Rattle.stale_model.specs.RecordedRuns.{journal_of}

-- the entries of a journal by their tickets
abbrev pub Lookup : Type 0
Lookup = BTreeMap ℕ (Bor JournalEntry)

-- at each ticket stands the first entry that was served there
abbrev pub IsByTicket : List JournalEntry → Lookup → Type 0
IsByTicket js entries = (ticket : ℕ) → option_copied (tree.get nat_cmp entries ticket) ≡ find (λ j. j.reply.serve == ticket) js

-- the entries of each journal by their tickets
pub record AreByTicket (journals : List (List JournalEntry)) (lookups : List Lookup) : Type 0 where
  pub as_many : length lookups ≡ length journals
  pub each : (replica : ℕ) (past : Lookup) → replica < length lookups
      → IsByTicket (journal_of journals replica) (slice_index_or lookups replica past)

-- no two entries of a journal were served at one ticket
abbrev pub AreServedOnce : List (List JournalEntry) → Type 0
AreServedOnce journals = (replica : ℕ) → IsWithoutRepeats (map (λ j. j.reply.serve) (journal_of journals replica))

-- the entry is what the call took there, and was served while the call ran
pub record IsAnswer (e : Entry) (t : Took) (j : JournalEntry) : Type 0 where
  pub plain : is_repair j.request.ask ≡ false
  pub client : j.reply.client ≡ e.client
  pub seq : j.reply.seq ≡ e.seq
  pub same : t ≡ took_of j.reply
  pub after_start : e.start < t.serve
  pub before_finish : t.serve < e.finish
