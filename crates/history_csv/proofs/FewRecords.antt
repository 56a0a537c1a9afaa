-- The records of what is read are at most as many as a file may have.
use Rattle.std.proofs.Common.{ℕ, ◌+◌, ◌≤◌, Bool, not, List, [], ◌∷◌, length, get_or, IfOk, All, refl, inr, arith}
use Rattle.std.proofs.lemmas.List.Elements.{All-cons, All-filter, All-map, All-nil}
use Rattle.std.specs.Str.{bytes_eq}
use Rattle.stale_model.specs.declared.KeyOps.{KeyOps}
use Rattle.stale_model.specs.declared.Op.{Op}
use Rattle.history_csv.specs.Entries.{Entry, most_records}
use Rattle.history_csv.specs.Laws.{IsWithinBounds, RecordsAreFew}
use Rattle.history_csv.specs.Numbering.{distinct, entries_on, history_of, is_skipped, kept, key_ops, op_of, values_of}
use Rattle.history_csv.specs.Reading.{read_of, records_of}
use Rattle.history_csv.specs.Parting.{names_in}
use Rattle.history_csv.proofs.EntryFacts.{AreEntries, AreSaid}
use Rattle.history_csv.proofs.HistoryFacts.{history-keys}
use Rattle.history_csv.proofs.ValidFacts.{history-shows, history-valid}

-- the record of an entry is at most a million
abbrev IsLow : Entry → Type 0
IsLow e = e.rec ≤ 1000000

-- that of an operation is
abbrev IsLowOp : Op → Type 0
IsLowOp a = a.rec ≤ 1000000

-- those of the operations of a key are
abbrev IsLowKey : KeyOps → Type 0
IsLowKey key = All IsLowOp key.ops

all-low : (rec : ℕ) (es : List Entry) → rec + length es ≤ most_records + 1 → AreSaid rec es → All IsLow es
all-low rec [] few said = All-nil IsLow
all-low rec (e ∷ es) few said =
    let is = said.0.numbered in
    All-cons IsLow e es (omega arith) (all-low (rec + 1) es (omega arith) said.1)

key-low : (es : List Entry) (n : List ℕ) → All IsLow es → IsLowKey (key_ops es n)
key-low es n low =
    let on : Entry → Bool = λ e. bytes_eq n e.key in
    All-map IsLowOp (op_of (values_of (entries_on n es))) (entries_on n es) (All-filter on IsLow es low)

-- the records of the operations of a history are at most a million
history-low : (records : List (List (List ℕ))) (es : List Entry) → AreEntries 1 records es → All IsLowKey (history_of es).keys
history-low records es are =
    let stays : Entry → Bool = λ e. not (is_skipped e) in
    let low = All-filter stays IsLow es (all-low 1 es are.few are.said) in
    let names = distinct (names_in (kept es)) in
    rw (history-keys es) (All-map IsLowKey (key_ops (kept es)) names (λ k d h. key-low (kept es) (get_or names k d) low))

pub within_bounds : RecordsAreFew
unfolding read_of
within_bounds bytes h reads =
    let shown : IfOk (read_of bytes) IsWithinBounds =
    history-shows (records_of bytes) IsWithinBounds (λ header rest es are said. record { valid = history-valid rest es said; records = history-low rest es said }) (read_of bytes) (inr refl) in
    rw reads at shown
