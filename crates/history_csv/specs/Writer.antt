-- What serves the code alone: a writer of records to memory.
use Rattle.std.specs.Prelude.{◌≡◌, ℕ, false, List, ◌++◌, Vec}
use Rattle.csv.specs.Writing.{default_writer, fields_written, has_written, writer_pending, writer_setup, writer_under}
use Rattle.csv.specs.declared.writer.Writer.{Writer}

-- the bytes that a writer has written, with those that it still holds back
abbrev pub bytes_written : {A : Type 0} → Writer (Vec ℕ A) → List ℕ
bytes_written writer = (writer_under writer).items ++ writer_pending writer

-- a writer with the defaults has begun no record since the last one
pub record IsBetweenRecords {A : Type 0} (writer : Writer (Vec ℕ A)) : Type 0 where
  pub default : writer_setup writer ≡ default_writer
  pub fieldless : fields_written writer ≡ 0
  pub unwritten : has_written writer ≡ false
