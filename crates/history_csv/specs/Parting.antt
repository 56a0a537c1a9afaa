-- What serves the code alone: entries parted by a number of their key, and keys beside their first records.
use Rattle.std.specs.Prelude.{ℕ, ◌<◌, ◌/◌, ◌%◌, ◌==◌, List, [], ◌∷◌, map, filter, count_by}
use Rattle.std.specs.Borrow.{Bor}
use Rattle.std.specs.Hash.FoldHasher
use Rattle.std.specs.List.{AllByRecursion, position_or_len, range_with_len}
use Rattle.std.specs.Str.{bytes_eq}
use Rattle.stale_model.specs.declared.Op.{Op}
use Rattle.stale_model.specs.declared.KeyOps.{KeyOps}
use Rattle.history_csv.specs.Entries.{Entry}
use Rattle.history_csv.specs.declared.part_keys.Values.{Values}
use Rattle.history_csv.specs.declared.part_keys.Values.TheVariants.{Few, Many}

-- the entries whose keys have this number
abbrev pub entries_in : (List ℕ → ℕ) → List Entry → ℕ → List Entry
entries_in part entries number = filter (λ entry. part entry.key == number) entries

-- how many parts there are
unfoldable pub part_count : ℕ
part_count = 128

-- the part of a key, by its hash
unfoldable pub part_of : List ℕ → ℕ
part_of name = FoldHasher.finish (FoldHasher.write FoldHasher.initial name) / 4294967296 % 128

-- the entries of each part
unfoldable pub parts_of : List Entry → List (List Entry)
parts_of entries = map (entries_in part_of entries) (range_with_len 0 part_count)

-- each record is before those after it
abbrev pub Rise : List Entry → Type 0
Rise [] = Unit {0}
Rise (e ∷ es) = AllByRecursion (λ x. e.rec < x.rec) es × Rise es

-- the names of the keys of entries
abbrev pub names_in : List Entry → List (List ℕ)
names_in entries = map (λ entry. entry.key) entries

-- the place of an entry's key among names
abbrev pub place_in : List (List ℕ) → Entry → ℕ
place_in names entry = position_or_len (bytes_eq entry.key) names

-- how often a number stands among numbers
abbrev pub times_in : List ℕ → ℕ → ℕ
times_in numbers number = count_by (λ other. other == number) numbers

-- the texts that slices lend
abbrev pub slices_shown : List (Bor (List ℕ)) → List (List ℕ)
slices_shown slices = map (λ slice. slice.now) slices

-- the values of a key so far
abbrev pub values_shown : Values → List (List ℕ)
values_shown (Few texts) = slices_shown texts.items
values_shown (Many texts) = slices_shown texts.keys

-- the record of the first of these operations
abbrev pub first_record : List Op → ℕ
first_record [] = 0
first_record (op ∷ ops) = op.rec

-- a key beside its first record
abbrev pub with_first : KeyOps → ℕ × KeyOps
with_first key = (first_record key.ops, key)
