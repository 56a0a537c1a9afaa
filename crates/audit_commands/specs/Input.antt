-- Taking an input file whole, and what shows that it is longer than its limit.
use Rattle.std.specs.Prelude.{◌≡◌, ℕ, ◌<◌, ◌≤◌, List, length, Some, IfSome, IsSomeAnd}
use Rattle.audit_ports.specs.Shelf.{Shown, KeepsCounts, file_at}

-- the file of this name was taken: these are all its bytes, no more than the limit, it is open behind the last of them, and no file and no count
-- changed
pub record TakesInput (limit : ℕ) (name : List ℕ) (old new : Shown) (bytes : List ℕ) : Type 0 where
  pub within : length bytes ≤ limit
  pub files : new.files ≡ old.files
  pub told : IfSome old.files (λ files. file_at files name ≡ Some bytes)
  pub reading : new.reading ≡ Some (record { name = name; place = length bytes })
  pub counts : KeepsCounts old new

-- more bytes than the limit were taken from the file of this name, which is open behind the last of them, and no count changed
pub record IsTooLong (limit : ℕ) (name : List ℕ) (old new : Shown) : Type 0 where
  pub place : ℕ
  pub more : limit < place
  pub longer : IfSome old.files (λ files. IsSomeAnd (file_at files name) (λ bytes. limit < length bytes))
  pub reading : new.reading ≡ Some (record { name = name; place = place })
  pub counts : KeepsCounts old new
