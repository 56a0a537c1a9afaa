-- Files in memory: a list of names with their bytes.
use Rattle.std.specs.Prelude.{◌≡◌, ◌≢◌, ℕ, ◌<◌, ◌≤◌, List, [], ◌∷◌, ◌++◌, length, AllPairs, Option, Some, None, IsSome, slice_index_or, Bool, if◌then◌else◌, bytes_eq}
use Rattle.std.specs.FinMap.{from_entries}
use Rattle.std.specs.List.{position_or_len}
use Rattle.audit_ports.specs.declared.memory.Opened.{Opened}
use Rattle.audit_ports.specs.Shelf.{Files, Reading, at_start, file_at}

-- no two files have the same name
abbrev pub HaveDistinctNames : List (List ℕ × List ℕ) → Type 0
HaveDistinctNames files = AllPairs (λ a b. a.0 ≢ b.0) files

-- the files of a list, by name
abbrev pub files_of : List (List ℕ × List ℕ) → Files
files_of files = from_entries files

-- the name of the file at a place of the list
abbrev pub name_at : List (List ℕ × List ℕ) → ℕ → List ℕ
name_at files i = (slice_index_or files i ([], [])).0

-- the bytes of the file at a place of the list
abbrev pub bytes_at : List (List ℕ × List ℕ) → ℕ → List ℕ
bytes_at files i = (slice_index_or files i ([], [])).1

-- what is open, by the place of its file in the list
abbrev pub reading_of : List (List ℕ × List ℕ) → Opened → Reading
reading_of files opened = record { name = name_at files opened.index; place = opened.place }

-- the name of the file that is being written, which is the first of the list
abbrev pub writing_of : Bool → List (List ℕ × List ℕ) → Option (List ℕ)
writing_of is_writing files = if is_writing then Some (name_at files 0) else None

-- the files, where a piece was appended to the first
abbrev pub with_first_longer : List (List ℕ × List ℕ) → List ℕ → List (List ℕ × List ℕ)
with_first_longer [] piece = []
with_first_longer (file ∷ files) piece = (file.0, file.1 ++ piece) ∷ files

-- the file has this name
abbrev pub has_name : List ℕ → List ℕ × List ℕ → Bool
has_name name file = bytes_eq file.0 name

-- the file at this place of the list is the first of its name, and the place in it is not past its end
pub record IsOpened (files : List (List ℕ × List ℕ)) (opened : Opened) : Type 0 where
  pub within : opened.index < length files
  pub place : opened.place ≤ length (bytes_at files opened.index)
  pub first : file_at (files_of files) (name_at files opened.index) ≡ Some (bytes_at files opened.index)
  pub earliest : position_or_len (has_name (name_at files opened.index)) files ≡ opened.index

-- the file of this name is open at its first byte
pub record OpensFile (files : List (List ℕ × List ℕ)) (name : List ℕ) (opened : Opened) : Type 0 where
  pub is_opened : IsOpened files opened
  pub reading : reading_of files opened ≡ at_start name
  pub there : IsSome (file_at (files_of files) name)
