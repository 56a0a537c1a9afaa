-- What is written reads back: lines alone, and calls of a recorded run.
use Rattle.std.proofs.Common.{◌≡◌, ◌==◌, ℕ, ◌+◌, ◌≤◌, ◌++◌, List, [], ◌∷◌, length, map, All, None, Ok, true, refl, ◌∙◌, ap, arith}
use Rattle.std.specs.Fmt.{decimal}
use Rattle.std.specs.List.{flat_map}
use Rattle.std.proofs.lemmas.List.{map-id}
use Rattle.std.proofs.lemmas.List.Elements.{All-head, All-tail}
use Rattle.csv.specs.Machine.{next_record}
use Rattle.csv.specs.Reading.{default_config, records, strip_bom}
use Rattle.csv.specs.Writing.{default_writer, read_back, row_text}
use Rattle.csv.specs.declared.parser.State.TheVariants as st
use Rattle.csv.proofs.RoundTrip.{read-write}
use Rattle.stale_model.specs.declared.Line.{Line}
use Rattle.stale_model.specs.declared.store.Entry.{Entry as Call}
use Rattle.stale_model.specs.Texts.{call_fields, line_fields, line_of, record_text, recorded_header, recorded_text, took_text}
use Rattle.history_csv.specs.declared.header.Columns.{Columns}
use Rattle.history_csv.specs.Header.{columns_of}
use Rattle.history_csv.specs.Entries.{entries_from, entry_of, most_records}
use Rattle.history_csv.specs.Laws.{RecordedReadsBack, WrittenReadsBack}
use Rattle.history_csv.specs.Reading.{read_of, records_of}
use Rattle.history_csv.specs.Written.{IsReadable, entries_of_lines, entry_of_line, header_text, history_text, line_text}
use Rattle.history_csv.proofs.Fuel.{rest_of, rest-none, rest-some}
use Rattle.history_csv.proofs.ReadSteps.{entries-next, entries-nil}
use Rattle.history_csv.proofs.RecordedRows.{recorded_names, row_text-call, row_text-recorded_header}
use Rattle.history_csv.proofs.WrittenNumbers.{client_of-decimal, finish_after-start, finish_of-decimal, key_of-text, kind_of-text, tick_of-decimal, value_of-text}
use Rattle.history_csv.proofs.WrittenRows.{header_names, row_text-header, row_text-line}

-- ---- the records of the text

-- a record of one field or more is written as this text
record IsWrittenAs (fields : List (List ℕ)) (text : List ℕ) : Type 0 where
  some : read_back fields ≡ fields
  written : row_text default_writer fields ≡ text

-- a record that is written is the first that is read
rest-row : (fields : List (List ℕ)) (text tail : List ℕ) → IsWrittenAs fields text
    → rest_of default_config st.StartRecord (text ++ tail) ≡ fields ∷ rest_of default_config st.StartRecord tail
rest-row fields text tail is =
    let first = rw (is.written, is.some) at (read-write fields tail) in
    rest-some default_config st.StartRecord (text ++ tail) (fields, st.StartRecord, tail) first

rest-end : rest_of default_config st.StartRecord [] ≡ []
unfolding next_record
rest-end = rest-none default_config st.StartRecord [] refl

-- the records of things that are written one after the other
rest-rows : {A : Type 0} (fields : A → List (List ℕ)) (text : A → List ℕ) → ((a : A) → IsWrittenAs (fields a) (text a)) → (things : List A)
    → rest_of default_config st.StartRecord (flat_map text things) ≡ map fields things
rest-rows fields text is [] = rest-end
rest-rows fields text is (a ∷ things) =
    rest-row (fields a) (text a) (flat_map text things) (is a)
    ∙ ap (λ (rows : List (List (List ℕ))). fields a ∷ rows) (rest-rows fields text is things)

-- a header with no byte order mark, and the records of things behind it
records_of-rows : {A : Type 0} (names : List (List ℕ)) (header : List ℕ) (fields : A → List (List ℕ)) (text : A → List ℕ) → IsWrittenAs names header
    → ((rest : List ℕ) → strip_bom (header ++ rest) ≡ header ++ rest) → ((a : A) → IsWrittenAs (fields a) (text a)) → (things : List A)
    → records_of (header ++ flat_map text things) ≡ names ∷ map fields things
records_of-rows names header fields text head unmarked is things =
    ap (records default_config) (unmarked (flat_map text things))
    ∙ rest-row names header (flat_map text things) head
    ∙ ap (λ (rows : List (List (List ℕ))). names ∷ rows) (rest-rows fields text is things)

line-written : (line : Line) → IsWrittenAs (line_fields line) (line_text line)
line-written line = record { some = refl; written = row_text-line line }

records_of-history : (lines : List Line) → records_of (history_text lines) ≡ header_names ∷ map line_fields lines
unfolding history_text strip_bom
records_of-history lines =
    records_of-rows header_names header_text line_fields line_text (record { some = refl; written = row_text-header }) (λ rest. refl) line-written lines

call-written : (e : Call) → IsWrittenAs (call_fields e) (record_text (call_fields e))
call-written e = record { some = refl; written = row_text-call e }

records_of-recorded : (calls : List Call) → records_of (recorded_text calls) ≡ recorded_names ∷ map call_fields calls
unfolding recorded_text strip_bom
records_of-recorded calls =
    records_of-rows recorded_names recorded_header call_fields (λ e. record_text (call_fields e)) (record { some = refl; written = row_text-recorded_header }) (λ rest. refl) call-written calls

-- ---- what they say

-- where the columns stand, the first six of so many
abbrev columns : ℕ → Columns
columns count = record { fields = count; client = 0; op = 1; key = 2; value = 3; start = 4; finish = 5; slack = None }

columns_of-header : columns_of header_names ≡ Ok (columns 6)
unfolding columns_of
columns_of-header = refl

columns_of-recorded : columns_of recorded_names ≡ Ok (columns 8)
unfolding columns_of
columns_of-recorded = refl

-- a record of so many fields whose first six are a line's says what the line does
entry_of-fields : (count rec : ℕ) (line : Line) (others : List (List ℕ)) → (length (line_fields line ++ others) == count) ≡ true → IsReadable line
    → entry_of (columns count) rec (line_fields line ++ others) ≡ Ok (entry_of_line rec line)
unfolding entry_of
entry_of-fields count rec line others counted readable =
    let order = readable.in_order in
    let last = readable.finishes in
    let first = readable.starts in
    let start = tick_of-decimal line.start first (omega arith) in
    let finish = finish_of-decimal line.finish (omega arith) last in
    rw (
      counted,
      kind_of-text line.kind,
      client_of-decimal line.client readable.client,
      key_of-text line.key readable.key,
      value_of-text line.kind line.value readable.value readable.filled,
      start,
      finish,
      finish_after-start line.start line.finish order,
    ) refl

entries_from-rows : {A : Type 0} (count : ℕ) (line : A → Line) (others : A → List (List ℕ)) → ((a : A) → (length (line_fields (line a) ++ others a) == count) ≡ true)
    → (rec : ℕ) (things : List A) → rec + length things ≤ most_records + 1 → All (λ a. IsReadable (line a)) things
    → entries_from (columns count) rec (map (λ a. line_fields (line a) ++ others a) things) ≡ Ok (entries_of_lines rec (map line things))
entries_from-rows count line others counted rec [] few readable = entries-nil (columns count) rec
entries_from-rows {A} count line others counted rec (a ∷ things) few readable =
    let fields : A → List (List ℕ) = λ a. line_fields (line a) ++ others a in
    let one = entry_of-fields count rec (line a) (others a) (counted a) (All-head (λ a. IsReadable (line a)) a things readable) in
    let more = entries_from-rows count line others counted (rec + 1) things (omega arith) (All-tail (λ a. IsReadable (line a)) a things readable) in
    entries-next (columns count) rec (fields a) (map fields things) (omega arith) ∙ rw (one, more) refl

pub reads_back : WrittenReadsBack
unfolding read_of
reads_back lines few readable =
    let entries = entries_from-rows 6 (λ (line : Line). line) (λ line. []) (λ line. refl) 1 lines (omega arith) readable in
    rw (records_of-history lines, columns_of-header, entries, map-id lines) refl

pub recorded_reads_back : RecordedReadsBack
unfolding read_of
recorded_reads_back calls few readable =
    let entries = entries_from-rows 8 line_of (λ e. decimal e.seq ∷ took_text e ∷ []) (λ e. refl) 1 calls (omega arith) readable in
    rw (records_of-recorded calls, columns_of-recorded, entries) refl
