-- What is read is a valid history.
use Rattle.std.proofs.Common.{◌≡◌, ◌⊎◌, ℕ, ◌+◌, ◌^◌, ◌<◌, ◌≤◌, Bool, not, List, [], ◌∷◌, map, length, get_or, Option, Some, None, IfSome, unwrap_or, Result, Ok, Err, IfOk, All, refl, ◌∙◌, ap, inl, inr, arith}
use Rattle.std.proofs.lemmas.List.{get_or-map, length-map}
use Rattle.std.proofs.lemmas.List.Elements.{All-cons, All-filter, All-from_recursion, All-map, All-nil}
use Rattle.std.proofs.lemmas.List.Kept.{AllPairs-cons, AllPairs-filter}
use Rattle.std.specs.List.{AllPairs}
use Rattle.std.specs.List.Sorted.{IsStrictlyIncreasing}
use Rattle.std.specs.Str.{bytes_eq}
use Rattle.stale_model.specs.declared.Kind.TheVariants.{Read}
use Rattle.stale_model.specs.declared.History.{History}
use Rattle.stale_model.specs.Valid.{IsValidHistory, IsValidKey, IsValidOp}
use Rattle.stale_model.specs.Operations.{records_of}
use Rattle.history_csv.specs.declared.HistoryFault.{HistoryFault}
use Rattle.history_csv.specs.declared.HistoryFault.TheVariants.{Memory}
use Rattle.history_csv.specs.declared.header.Columns.{Columns}
use Rattle.history_csv.specs.Fault.{then_next}
use Rattle.history_csv.specs.Header.{columns_of}
use Rattle.history_csv.specs.Reading.{history_after, history_of_records}
use Rattle.history_csv.specs.Entries.{Entry, entries_from}
use Rattle.history_csv.specs.Numbering.{distinct, entries_on, history_of, is_skipped, kept, key_ops, keys_of, never, op_of, ops_of, value_number, values_of}
use Rattle.history_csv.specs.Parting.{names_in}
use Rattle.history_csv.proofs.Counts.{ops-as-many}
use Rattle.history_csv.proofs.EntryFacts.{entries-said, AreEntries, AreSaid, IsFinish, IsSaid}
use Rattle.history_csv.proofs.HistoryFacts.{history-keys}
use Rattle.history_csv.proofs.KeyFacts.{IsKnown, distinct-shorter, each-known, filter-shorter}
use Rattle.history_csv.proofs.Places.{place-within}

-- an entry whose ticks and slack are within their bounds
abbrev IsGood : Entry → Type 0
IsGood e = (rec : ℕ) × (1 ≤ rec) × IsSaid rec e

-- an entry of an earlier record
abbrev IsEarlier : Entry → Entry → Type 0
IsEarlier x y = x.rec < y.rec

all-good : (rec : ℕ) (es : List Entry) → 1 ≤ rec → AreSaid rec es → All IsGood es
all-good rec [] low said = All-nil IsGood
all-good rec (e ∷ es) low said = All-cons IsGood e es (rec, low, said.0) (all-good (rec + 1) es (omega arith) said.1)

all-later : (x : Entry) (rec : ℕ) (es : List Entry) → x.rec < rec → AreSaid rec es → All (IsEarlier x) es
all-later x rec [] low said = All-nil (IsEarlier x)
all-later x rec (e ∷ es) low said =
    let is = said.0.numbered in
    All-cons (IsEarlier x) e es (omega arith) (all-later x (rec + 1) es (omega arith) said.1)

all-rise : (rec : ℕ) (es : List Entry) → AreSaid rec es → AllPairs IsEarlier es
all-rise rec [] said = λ i j d lt h. absurd (omega arith)
all-rise rec (e ∷ es) said =
    let is = said.0.numbered in
    AllPairs-cons IsEarlier e es (all-later e (rec + 1) es (omega arith) said.1) (all-rise (rec + 1) es said.1)

finish-valid : (start : ℕ) (finish : Option ℕ) → start < 2 ^ 62 → IfSome finish (IsFinish start) → (start ≤ unwrap_or finish never) × (unwrap_or finish never ≤ 2 ^ 63)
finish-valid start None low h = (omega arith, omega arith)
finish-valid start (Some finish) low h = let after = h.after in let tick = h.tick in (after, omega arith)

value-valid : (vs : List (List ℕ)) (v : List ℕ) → IsKnown vs v → value_number vs v ≤ length vs
value-valid vs [] known = omega arith
value-valid vs (b ∷ v) known = let within = place-within (bytes_eq (b ∷ v)) vs (known refl) in omega arith

op-valid : (vs : List (List ℕ)) (e : Entry) → IsGood e → IsKnown vs e.value → IsValidOp (length vs) (op_of vs e)
op-valid vs e good known =
    let (rec, low, said) = good in
    let is = said.numbered in
    let finish = finish-valid e.start e.finish said.start_tick said.finish in
    record {
      numbered = omega arith;
      starts = said.starts;
      ordered = finish.0;
      tick = said.start_tick;
      ends = finish.1;
      slack = said.slack;
      value = value-valid vs e.value known;
    }

ops-valid : (es : List Entry) → All IsGood es → All (IsValidOp (length (values_of es))) (ops_of es)
ops-valid es good =
    let known = All-from_recursion (λ (e : Entry). IsKnown (values_of es) e.value) es (each-known [] es) in
    All-map (IsValidOp (length (values_of es))) (op_of (values_of es)) es (λ k d h. op-valid (values_of es) (get_or es k d) (good k d h) (known k d h))

no_entry : Entry
no_entry = record { rec = 0; client = 0; kind = Read; key = []; value = []; start = 0; finish = None; slack = 0 }

records-rise : (vs : List (List ℕ)) (es : List Entry) → AllPairs IsEarlier es → IsStrictlyIncreasing (records_of (map (op_of vs) es))
records-rise vs es rise = λ k h.
    let long : length (map (op_of vs) es) ≡ length es = length-map es (op_of vs) in
    let longer : length (records_of (map (op_of vs) es)) ≡ length (map (op_of vs) es) = length-map (map (op_of vs) es) _ in
    let next : k + 1 < length es = omega arith in
    let at : (i : ℕ) → i < length es → get_or (records_of (map (op_of vs) es)) i 0 ≡ (get_or es i no_entry).rec =
    λ i lt. get_or-map _ (map (op_of vs) es) i (op_of vs no_entry) 0 (omega arith) ∙ ap (λ a. a.rec) (get_or-map (op_of vs) es i no_entry (op_of vs no_entry) lt) in
    rw (at k (omega arith), at (k + 1) next) (rise k (k + 1) no_entry (omega arith) next)

key-valid : (es : List Entry) (n : List ℕ) → All IsGood es → AllPairs IsEarlier es → length es ≤ 1000000 → IsValidKey (key_ops es n)
key-valid es n good rise few =
    let on : Entry → Bool = λ e. bytes_eq n e.key in
    let fewer = filter-shorter on es in
    let as_many : length (ops_of (entries_on n es)) ≡ length (entries_on n es) = length-map (entries_on n es) (op_of (values_of (entries_on n es))) in
    record {
      ops = ops-valid (entries_on n es) (All-filter on IsGood es good);
      rising = records-rise (values_of (entries_on n es)) (entries_on n es) (AllPairs-filter IsEarlier on es rise);
      few = omega arith;
    }

-- the history of the entries of records is valid
pub history-valid : (records : List (List (List ℕ))) (es : List Entry) → AreEntries 1 records es → IsValidHistory (history_of es)
history-valid records es are =
    let stays : Entry → Bool = λ e. not (is_skipped e) in
    let good = All-filter stays IsGood es (all-good 1 es (omega arith) are.said) in
    let rise = AllPairs-filter IsEarlier stays es (all-rise 1 es are.said) in
    let names = distinct (names_in (kept es)) in
    let fewer = filter-shorter stays es in
    let few = are.few in
    let few_names = distinct-shorter (names_in (kept es)) in
    let as_many_names : length (names_in (kept es)) ≡ length (kept es) = length-map (kept es) (λ (e : Entry). e.key) in
    let as_many_keys : length (keys_of (kept es)) ≡ length names = length-map names (key_ops (kept es)) in
    let as_many_ops = ops-as-many (kept es) in
    record {
      keys = rw (history-keys es) (All-map IsValidKey (key_ops (kept es)) names (λ k d h. key-valid (kept es) (get_or names k d) good rise (omega arith)));
      few_keys = rw (history-keys es) (omega arith);
      few_ops = rw (history-keys es) (omega arith);
    }

-- ---- what is read, by the entries that it comes from

module _ (records : List (List (List ℕ))) (P : History → Type 0)
    (shows : (header : List (List ℕ)) (rest : List (List (List ℕ))) (es : List Entry) → records ≡ header ∷ rest → AreEntries 1 rest es → P (history_of es)) where
  entries-show : (header : List (List ℕ)) (rest : List (List (List ℕ))) (columns : Columns) → records ≡ header ∷ rest → (r : Result (List Entry) HistoryFault) → entries_from columns 1 rest ≡ r → IfOk (then_next r (λ es. Ok (history_of es))) P
  entries-show header rest columns are (Ok es) e = shows header rest es are (entries-said columns 1 rest es (omega arith) e)
  entries-show header rest columns are (Err fault) e = tt

  columns-show : (header : List (List ℕ)) (rest : List (List (List ℕ))) → records ≡ header ∷ rest → (r : Result Columns HistoryFault) → IfOk (then_next r (λ columns. history_after columns rest)) P
  columns-show header rest are (Ok columns) = entries-show header rest columns are (entries_from columns 1 rest) refl
  columns-show header rest are (Err fault) = tt

  records-show : (rs : List (List (List ℕ))) → records ≡ rs → IfOk (history_of_records rs) P
  records-show [] are = tt
  records-show (header ∷ rest) are = columns-show header rest are (columns_of header)

  pub history-shows : (r : Result History HistoryFault) → (r ≡ Err Memory) ⊎ (r ≡ history_of_records records) → IfOk r P
  history-shows r (inl memory) = rw memory tt
  history-shows r (inr read) = rw read (records-show records refl)
