-- The records of a file, read one at a time.
use Rattle.std.proofs.Common.{◌≡◌, ℕ, ◌+◌, ◌<◌, ◌≤◌, List, [], ◌∷◌, ◌++◌, length, Result, Ok, Err, refl, sym, ◌∙◌, ap, inl, inr, arith, nat_lt}
use Rattle.std.proofs.lemmas.Bool.{cases_Bool, lt-ltb, le-ltb}
use Rattle.std.proofs.lemmas.List.{append_assoc, append-nil, length_push}
use Rattle.history_csv.specs.declared.HistoryFault.{HistoryFault}
use Rattle.history_csv.specs.declared.HistoryFault.TheVariants.{Records}
use Rattle.history_csv.specs.declared.header.Columns.{Columns}
use Rattle.history_csv.specs.Fault.{then_next}
use Rattle.history_csv.specs.Header.{columns_of}
use Rattle.history_csv.specs.Entries.{Entry, behind, entries_from, entry_of, most_records}
use Rattle.history_csv.specs.declared.builder.Builder.{Builder}
use Rattle.history_csv.specs.Made.{Makes, TookAll}
use Rattle.history_csv.specs.Reading.{history_after, history_of_records, read_of, records_of}
use Rattle.history_csv.specs.Records.{BytesReader, TookWell, WantsMemory, records_left}
use Rattle.history_csv.proofs.EntryFacts.{behind-one, ok-of-next, ok_of}

-- the records before number rec were taken, with no fault, these are left of all, and their entries were taken
pub record ReadSoFar (columns : Columns) (rec : ℕ) (left all : List (List (List ℕ))) (builder : Builder) : Type 0 where
  pub taken : List (List (List ℕ))
  pub entries : List Entry
  pub all_are : all ≡ taken ++ left
  pub faultless : entries_from columns 1 taken ≡ Ok entries
  pub numbered : length taken + 1 ≡ rec
  pub counted : length entries + 1 ≡ rec
  pub made : Makes builder entries

behind-nil : (r : Result (List Entry) HistoryFault) → behind [] r ≡ r
behind-nil (Ok entries) = refl
behind-nil (Err fault) = refl

behind-behind : (front middle : List Entry) (r : Result (List Entry) HistoryFault) → behind front (behind middle r) ≡ behind (front ++ middle) r
behind-behind front middle (Ok entries) = ap Ok (sym (append_assoc front middle entries))
behind-behind front middle (Err fault) = refl

-- what is read of a record: all entries, or its fault
pub entries-nil : (columns : Columns) (rec : ℕ) → entries_from columns rec [] ≡ Ok []
unfolding entries_from
entries-nil columns rec = refl

entries-many : (columns : Columns) (rec : ℕ) (fields : List (List ℕ)) (rest : List (List (List ℕ))) → most_records < rec → entries_from columns rec (fields ∷ rest) ≡ Err Records
unfolding entries_from
entries-many columns rec fields rest many = let test = lt-ltb most_records rec many in rw test refl

pub entries-next : (columns : Columns) (rec : ℕ) (fields : List (List ℕ)) (rest : List (List (List ℕ))) → rec ≤ most_records
    → entries_from columns rec (fields ∷ rest) ≡ then_next (entry_of columns rec fields) (λ entry. behind (entry ∷ []) (entries_from columns (rec + 1) rest))
unfolding entries_from
entries-next columns rec fields rest few = let test = le-ltb most_records rec few in rw test refl

-- the entries of records with no fault stand before those of the records after them
entries-append : (columns : Columns) (rec next : ℕ) (front back : List (List (List ℕ))) (es : List Entry) → next ≡ rec + length front → entries_from columns rec front ≡ Ok es
    → entries_from columns rec (front ++ back) ≡ behind es (entries_from columns next back)
unfolding entries_from
entries-append columns rec next [] back es at said =
    let none : [] ≡ es = ok_of [] es said in
    let here : next ≡ rec = omega arith in
    rw (← none, here) (sym (behind-nil (entries_from columns rec back)))
entries-append columns rec next (fields ∷ front) back es at said = elim (cases_Bool (nat_lt most_records rec)) [
  | inl many ↦ let no = rw many at said in cc
  | inr few ↦
      let (e, e_is, s) = ok-of-next (entry_of columns rec fields) (λ entry. behind (entry ∷ []) (entries_from columns (rec + 1) front)) es (rw few at said) in
      let (more, more_is, es_is) = behind-one e (entries_from columns (rec + 1) front) es s in
      let rest = entries-append columns (rec + 1) next front back more (omega arith) more_is in
      rw (few, e_is, rest) (behind-behind (e ∷ []) more (entries_from columns next back) ∙ ap (λ l. behind l (entries_from columns next back)) es_is)
]

module _ {columns : Columns} {rec : ℕ} {left all : List (List (List ℕ))} {builder : Builder} (so_far : ReadSoFar columns rec left all builder) where
  -- all entries, by those of the records that are left
  whole : entries_from columns 1 all ≡ behind so_far.entries (entries_from columns rec left)
  whole =
      let numbered = so_far.numbered in
      rw so_far.all_are (entries-append columns 1 rec so_far.taken left so_far.entries (omega arith) so_far.faultless)

  -- the end
  pub read-end : left ≡ [] → TookAll columns all builder
  read-end none =
      let ends : entries_from columns 1 all ≡ Ok so_far.entries = whole ∙ rw (none, entries-nil columns rec, append-nil so_far.entries) refl in
      record { entries = so_far.entries; said = ends; made = so_far.made }

  module _ (fields : List (List ℕ)) (rest : List (List (List ℕ))) (next : left ≡ fields ∷ rest) where
    -- a record too many
    pub read-many : most_records < rec → history_after columns all ≡ Err Records
    read-many many =
        let fails : entries_from columns 1 all ≡ Err Records = whole ∙ rw (next, entries-many columns rec fields rest many) refl in
        rw fails refl

    -- a record at fault
    pub read-fault : rec ≤ most_records → (fault : HistoryFault) → Err fault ≡ entry_of columns rec fields → history_after columns all ≡ Err fault
    read-fault few fault faulty =
        let fails : entries_from columns 1 all ≡ Err fault = whole ∙ rw (next, entries-next columns rec fields rest few, ← faulty) refl in
        rw fails refl

    -- one more entry
    pub read-more : rec ≤ most_records → (entry : Entry) → Ok entry ≡ entry_of columns rec fields → (more : Builder) → Makes more (so_far.entries ++ entry ∷ []) → ReadSoFar columns (rec + 1) rest all more
    read-more few entry said more made =
        let numbered = so_far.numbered in
        let counted = so_far.counted in
        let one : entries_from columns rec (fields ∷ []) ≡ Ok (entry ∷ []) = entries-next columns rec fields [] few ∙ rw (← said, entries-nil columns (rec + 1)) refl in
        let longer = length_push so_far.taken fields in
        let longer_entries = length_push so_far.entries entry in
        record {
          taken = so_far.taken ++ fields ∷ [];
          entries = so_far.entries ++ entry ∷ [];
          all_are = so_far.all_are ∙ rw next (sym (append_assoc so_far.taken (fields ∷ []) rest));
          faultless = entries-append columns 1 rec so_far.taken (fields ∷ []) so_far.entries (omega arith) so_far.faultless ∙ rw one refl;
          numbered = omega arith;
          counted = omega arith;
          made = made;
        }

-- the start
pub read-start : (columns : Columns) (all : List (List (List ℕ))) (builder : Builder) → Makes builder [] → ReadSoFar columns 1 all all builder
read-start columns all builder made = record { taken = []; entries = []; all_are = refl; faultless = entries-nil columns 1; numbered = refl; counted = refl; made = made }

-- the records that a reader took so far make a history
pub took-well : (columns : Columns) (rec : ℕ) (old new : BytesReader) (builder : Builder) → ReadSoFar columns rec (records_left new) (records_left old) builder → TookWell (history_after columns) old new
took-well columns rec old new builder so_far = record { taken = so_far.taken; all = so_far.all_are; well = rw so_far.faultless refl }

-- ---- the whole file

-- want of memory after the header is want of memory of the whole file
pub wants-header : (columns : Columns) (header : List (List ℕ)) (old mid new : BytesReader) → records_left old ≡ header ∷ records_left mid → Ok columns ≡ columns_of header
    → WantsMemory (history_after columns) mid new → WantsMemory history_of_records old new
wants-header columns header old mid new next said (inl failed) = inl failed
wants-header columns header old mid new next said (inr (inl well)) = inr (inl (rw (next, ← said) well))
wants-header columns header old mid new next said (inr (inr took)) = inr (inr (record { taken = header ∷ took.taken; all = next ∙ ap (λ rs. header ∷ rs) took.all; well = rw (← said) took.well }))

-- what is read of the records of bytes
pub read-file : (bytes : List ℕ) (records : List (List (List ℕ))) → records ≡ records_of bytes → history_of_records records ≡ read_of bytes
unfolding read_of
read-file bytes records are = rw are refl
