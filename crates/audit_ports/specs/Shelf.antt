-- What is known of a place with files: its counts, its files where it tells them, the file that is open for reading, and the one that
-- is being written.
use Rattle.std.specs.Prelude.{◌≡◌, ◌≢◌, ◌⊎◌, ℕ, ◌+◌, ◌-◌, ◌^◌, ◌<◌, ◌≤◌, ◌↔◌, min, List, [], ◌++◌, take, drop, length, Option, Some, None, IsSome, IfSome, ⊤, Result, OnOk, IfOk, IsErrOf, OnErr}
use Rattle.std.specs.FinMap.{FinMap, get}
use Rattle.std.specs.Cmp.Lexicographic.{slice_cmp}
use Rattle.std.specs.Ordering.{nat_cmp}
use Rattle.audit_ports.specs.declared.OpenFault.{OpenFault}
use Rattle.audit_ports.specs.declared.OpenFault.TheVariants.{Missing, Failed}

-- files: a finite map from names to bytes
abbrev pub Files : Type 0
Files = FinMap (slice_cmp nat_cmp) (List ℕ)

-- the bytes of the file of this name, if there is one
abbrev pub file_at : Files → List ℕ → Option (List ℕ)
file_at files name = get files name

-- the name of the file that is open for reading, and the place in it, which is how many of its bytes were read
pub record Reading : Type 0 where
  pub name : List ℕ
  pub place : ℕ

-- a file that is open at its first byte
abbrev pub at_start : List ℕ → Reading
at_start name = record { name = name; place = 0 }

-- what is known of a shelf: its faults of reading and of writing, its misses, its files where it tells them, what is open for reading,
-- and the name of the file that is being written
pub record Shown : Type 0 where
  pub read_faults : ℕ
  pub write_faults : ℕ
  pub misses : ℕ
  pub files : Option Files
  pub reading : Option Reading
  pub writing : Option (List ℕ)

-- what is known of a shelf with these files at first: no count has risen, and nothing is open or being written
abbrev pub fresh : Option Files → Shown
fresh files = record { read_faults = 0; write_faults = 0; misses = 0; files = files; reading = None; writing = None }

-- the count is greater than before, or stands at its type's end
abbrev pub Rose : ℕ → ℕ → Type 0
Rose old new = (old < new) ⊎ (new ≡ 2 ^ 64 - 1)

-- the files are the same, and no count fell
pub record KeepsFiles (old new : Shown) : Type 0 where
  pub files : new.files ≡ old.files
  pub read_faults : old.read_faults ≤ new.read_faults
  pub write_faults : old.write_faults ≤ new.write_faults
  pub misses : old.misses ≤ new.misses

-- no count changed
pub record KeepsCounts (old new : Shown) : Type 0 where
  pub read_faults : new.read_faults ≡ old.read_faults
  pub write_faults : new.write_faults ≡ old.write_faults
  pub misses : new.misses ≡ old.misses

-- the file of this name is open at its first byte, and where files are told it is among them
pub record IsOpenAtStart (name : List ℕ) (new : Shown) : Type 0 where
  pub reading : new.reading ≡ Some (at_start name)
  pub there : IfSome new.files (λ files. IsSome (file_at files name))

-- a file was not there: the misses rose and no other count, and where files are told it isn't among them
pub record Misses (name : List ℕ) (old new : Shown) : Type 0 where
  pub misses : Rose old.misses new.misses
  pub read_faults : new.read_faults ≡ old.read_faults
  pub write_faults : new.write_faults ≡ old.write_faults
  pub absent : IfSome new.files (λ files. file_at files name ≡ None)

-- a call of reading failed: its faults rose and no other count
pub record FailsReading (old new : Shown) : Type 0 where
  pub read_faults : Rose old.read_faults new.read_faults
  pub write_faults : new.write_faults ≡ old.write_faults
  pub misses : new.misses ≡ old.misses

-- n bytes of the open file were read to the front of this buffer; no bytes exactly at the file's end
pub record TakesBytes (into : List ℕ) (old new : Shown) (n : ℕ) (reading : Reading) : Type 0 where
  pub within : n ≤ length into
  pub place : new.reading ≡ Some (record reading { place = min (reading.place + n) (2 ^ 64 - 1) })
  pub bytes : IfSome old.files (λ files. IfSome (file_at files reading.name) (λ bytes.
      (take n into ≡ take n (drop reading.place bytes)) × ((n ≡ 0) ↔ (length bytes ≤ reading.place))))

-- opening the file of this name, with this result
pub record Opens {T : Type 0} (name : List ℕ) (old : Shown) (result : Result T OpenFault) (new : Shown) : Type 0 where
  pub keeps : KeepsFiles old new
  pub writing : new.writing ≡ old.writing
  pub ok : OnOk result (IsOpenAtStart name new)
  pub counts : OnOk result (KeepsCounts old new)
  pub refused : OnErr result (new.reading ≡ None)
  pub missing : IsErrOf result Missing → Misses name old new
  pub failed : IsErrOf result Failed → FailsReading old new

-- reading the next bytes of the open file into a buffer, with this result
pub record Reads {E : Type 0} (into : List ℕ) (old : Shown) (result : Result ℕ E) (new : Shown) : Type 0 where
  pub keeps : KeepsFiles old new
  pub writing : new.writing ≡ old.writing
  pub ok : IfOk result (λ n. IfSome old.reading (TakesBytes into old new n))
  pub counts : OnOk result (KeepsCounts old new)
  pub refused : OnErr result (new.reading ≡ None)
  pub failed : OnErr result (FailsReading old new)

-- a relation between files, where they are told before and after
abbrev pub WhereTold : (Files → Files → Type 0) → Option Files → Option Files → Type 0
WhereTold Relates None None = ⊤
WhereTold Relates (Some old) (Some new) = Relates old new
WhereTold Relates _ _ = ⊥

-- the file of this name has these bytes, and every other file is as before
pub record Sets (name bytes : List ℕ) (old new : Files) : Type 0 where
  pub there : file_at new name ≡ Some bytes
  pub others : (other : List ℕ) → other ≢ name → file_at new other ≡ file_at old other

-- this piece was appended to the file of this name, and every other file is as before
pub record Extends (name piece : List ℕ) (old new : Files) : Type 0 where
  pub bytes : List ℕ
  pub was : file_at old name ≡ Some bytes
  pub sets : Sets name (bytes ++ piece) old new

-- some prefix of this piece was appended to the file of this name, where files are told
abbrev pub ExtendsByPrefix : List ℕ → List ℕ → Option Files → Option Files → Type 0
ExtendsByPrefix name piece old new = (n : ℕ) × WhereTold (Extends name (take n piece)) old new

-- a call of writing failed: its faults rose and no other count, and nothing is being written
pub record FailsWriting (old new : Shown) : Type 0 where
  pub write_faults : Rose old.write_faults new.write_faults
  pub keeps : old.write_faults ≤ new.write_faults
  pub read_faults : new.read_faults ≡ old.read_faults
  pub misses : new.misses ≡ old.misses
  pub writing : new.writing ≡ None

-- the file of this name is being written, and where files are told it is empty and all others are as before
pub record IsCreated (name : List ℕ) (old new : Shown) : Type 0 where
  pub writing : new.writing ≡ Some name
  pub files : WhereTold (Sets name []) old.files new.files

-- creating the file of this name, with this result: nothing is open for reading, and a failure may empty that file
pub record Creates {T E : Type 0} (name : List ℕ) (old : Shown) (result : Result T E) (new : Shown) : Type 0 where
  pub reading : new.reading ≡ None
  pub ok : OnOk result (IsCreated name old new)
  pub counts : OnOk result (KeepsCounts old new)
  pub refused : OnErr result ((new.files ≡ old.files) ⊎ WhereTold (Sets name []) old.files new.files)
  pub failed : OnErr result (FailsWriting old new)

-- appending this piece to the file that is being written, with this result
pub record WritesPiece {T E : Type 0} (piece : List ℕ) (old : Shown) (result : Result T E) (new : Shown) : Type 0 where
  pub reading : new.reading ≡ old.reading
  pub ok : OnOk result (IfSome old.writing (λ name. WhereTold (Extends name piece) old.files new.files))
  pub writing : OnOk result (new.writing ≡ old.writing)
  pub counts : OnOk result (KeepsCounts old new)
  pub refused : OnErr result (IfSome old.writing (λ name. ExtendsByPrefix name piece old.files new.files))
  pub failed : OnErr result (FailsWriting old new)

-- ending the file that is being written, with this result: no file changes, and nothing is being written
pub record Finishes {T E : Type 0} (old : Shown) (result : Result T E) (new : Shown) : Type 0 where
  pub files : new.files ≡ old.files
  pub reading : new.reading ≡ old.reading
  pub writing : new.writing ≡ None
  pub counts : OnOk result (KeepsCounts old new)
  pub failed : OnErr result (FailsWriting old new)
