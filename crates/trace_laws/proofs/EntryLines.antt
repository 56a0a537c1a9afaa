-- The line of an entry in a journal file reads as the entry.
use Rattle.std.proofs.Common.{◌≡◌, ◌<◌, ◌≤◌, ◌^◌, ◌+◌, ℕ, true, List, [], ◌∷◌, Option, Some, refl, sym, ◌∙◌, ap, inl, arith}
use Rattle.std.specs.Prelude.{All}
use Rattle.std.specs.Fmt.{decimal}
use Rattle.std.specs.List.{join_with_byte}
use Rattle.std.proofs.lemmas.List.Elements.{All-head, All-tail, All-from_recursion}
use Rattle.stale_model.specs.declared.store.Settings.{Settings}
use Rattle.stale_model.specs.declared.store.JournalEntry.{JournalEntry}
use Rattle.stale_model.specs.Settings.{AreSettings}
use Rattle.stale_model.specs.Journals.{changes}
use Rattle.stale_model.specs.Texts.{comma, ask_text, key_text, value_text, journal_fields}
use Rattle.trace_check.specs.declared.reading.TraceFault.TheVariants as fault
use Rattle.trace_check.specs.Lines.{tick_limit, value_limit, ask_of, entry_of}
use Rattle.trace_check.specs.Reading.{replica_of, read_entry}
use Rattle.trace_laws.specs.Laws.{IsTick}
use Rattle.trace_laws.proofs.Parts.{Lacks, cut_apart, joined_lacks, decimal_lacks, key_lacks, value_lacks, ask_lacks}
use Rattle.trace_laws.proofs.Fields.{number_reads, tick_reads, key_reads, reply_reads}
use Rattle.trace_laws.proofs.FileLines.{EachReads}
use Rattle.trace_laws.proofs.CallLines.{seq_fits}

-- an entry whose line reads
pub record IsReadableEntry (s : Settings) (j : JournalEntry) : Type 0 where
  pub replica : j.reply.replica < s.replicas
  pub serve : IsTick j.reply.serve
  pub client : j.request.client < s.clients
  pub seq : (1 ≤ j.request.seq) × (j.request.seq ≤ s.calls)
  pub start : IsTick j.request.start
  pub key : j.request.key < s.keys
  pub value : j.reply.value < value_limit
  pub filled : changes j.request.ask ≡ true → 1 ≤ j.reply.value
  pub stamp : j.reply.stamp < tick_limit
  pub ask : ask_of (ask_text j.request.ask) j.reply.value j.reply.stamp ≡ Some j.request.ask
  pub reply_client : j.reply.client ≡ j.request.client
  pub reply_seq : j.reply.seq ≡ j.request.seq

-- the fields of an entry's line
abbrev pub entry_fields : JournalEntry → List (List ℕ)
entry_fields j = journal_fields j.reply.replica j

-- the replicas of entries rise or stay, from this one on
abbrev pub AreOrdered : ℕ → List JournalEntry → Type 0
AreOrdered least [] = Unit {0}
AreOrdered least (j ∷ js) = (least ≤ j.reply.replica) × AreOrdered j.reply.replica js

module _ (s : Settings) (limits : AreSettings s) where
  module _ (j : JournalEntry) (is : IsReadableEntry s j) where
    replica_low : j.reply.replica < 2 ^ 64
    replica_low = let most = limits.replicas in let low = is.replica in omega arith

    client_low : j.request.client < 2 ^ 64
    client_low = let most = limits.clients in let low = is.client in omega arith

    key_low : j.request.key < 2 ^ 64
    key_low = let most = limits.keys in let low = is.key in omega arith

    seq_low : j.request.seq < 2 ^ 64
    seq_low = seq_fits s j.request.seq limits is.seq.1

    -- no field of the line has a byte below the digits
    entry_lacks : (c : ℕ) → c < 48 → All (Lacks c) (entry_fields j)
    entry_lacks c low =
        let serve = is.serve in
        let start = is.start in
        let value = is.value in
        let stamp = is.stamp in
        All-from_recursion (Lacks c) (entry_fields j) (
          decimal_lacks c j.reply.replica (inl low) replica_low,
          (
            decimal_lacks c j.reply.serve (inl low) (omega arith),
            (
              decimal_lacks c j.request.client (inl low) client_low,
              (
                decimal_lacks c j.request.seq (inl low) seq_low,
                (
                  decimal_lacks c j.request.start (inl low) (omega arith),
                  (
                    key_lacks c j.request.key low key_low,
                    (
                      ask_lacks c j.request.ask low,
                      (
                        value_lacks c j.reply.value low (omega arith),
                        (
                          decimal_lacks c j.reply.stamp (inl low) (omega arith),
                          tt,
                        ),
                      ),
                    ),
                  ),
                ),
              ),
            ),
          ),
        )

    -- the entry is all that its line says
    same_entry : ◌≡◌ {A = JournalEntry}
        (record {
          request = record { client = j.request.client; seq = j.request.seq; start = j.request.start; key = j.request.key; ask = j.request.ask };
          reply = record {
            replica = j.reply.replica;
            client = j.request.client;
            seq = j.request.seq;
            serve = j.reply.serve;
            stamp = j.reply.stamp;
            value = j.reply.value;
          };
        }) j
    same_entry = λ i. record { request = j.request; reply = record j.reply { client = sym is.reply_client i; seq = sym is.reply_seq i } }

    fields_read : (least : ℕ) → least ≤ j.reply.replica → entry_of s least (entry_fields j) ≡ Some j
    fields_read least from =
        let low = is.seq in
        let high = is.stamp in
        let replica = number_reads least s.replicas j.reply.replica from is.replica replica_low in
        let serve = tick_reads j.reply.serve is.serve in
        let client = number_reads 0 s.clients j.request.client (omega arith) is.client client_low in
        let seq = number_reads 1 (s.calls + 1) j.request.seq low.0 (omega arith) seq_low in
        let start = tick_reads j.request.start is.start in
        let key = key_reads s.keys j.request.key is.key key_low in
        let value = reply_reads j.request.ask j.reply.value is.value is.filled in
        let stamp = number_reads 0 tick_limit j.reply.stamp (omega arith) high (omega arith) in
        let ask = is.ask in
        rw (replica, serve, client, seq, start, key, value, stamp, ask) (ap Some same_entry)

    entry_reads : (before : Option JournalEntry) → replica_of before ≤ j.reply.replica → read_entry s before (join_with_byte comma (entry_fields j)) ≡ Some j
    entry_reads before from =
        ap (entry_of s (replica_of before))
        (cut_apart comma (decimal j.reply.replica)
        (decimal j.reply.serve ∷ decimal j.request.client ∷ decimal j.request.seq ∷ decimal j.request.start ∷ key_text j.request.key ∷ ask_text j.request.ask
        ∷ value_text j.reply.value ∷ decimal j.reply.stamp ∷ [])
        (entry_lacks comma (omega arith)))
        ∙ fields_read (replica_of before) from

  -- where replicas rise or stay, the lines read one after the other
  pub entries_read : (before : Option JournalEntry) (js : List JournalEntry) → All (IsReadableEntry s) js → AreOrdered (replica_of before) js
      → EachReads fault.Journal (read_entry s) entry_fields (λ j. j) before js
  entries_read before [] each ordered = tt
  entries_read before (j ∷ js) each (from, ordered) =
      let is = All-head (IsReadableEntry s) j js each in (
        joined_lacks 10 comma (entry_fields j) refl (entry_lacks j is 10 (omega arith)),
        entry_reads j is before from,
        entries_read (Some j) js (All-tail (IsReadableEntry s) j js each) ordered,
      )
