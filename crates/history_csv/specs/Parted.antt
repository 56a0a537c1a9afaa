-- What serves the code alone: a history as its entries come, parted by their keys.
use Rattle.std.specs.Prelude.{◌≡◌, List, length, count_by}
use Rattle.history_csv.specs.declared.parts.PartedBuilder.{PartedBuilder}
use Rattle.history_csv.specs.Entries.{Entry}
use Rattle.history_csv.specs.Numbering.{is_skipped, kept}
use Rattle.history_csv.specs.Parting.{parts_of}

-- these are the entries so far
pub record IsParted (builder : PartedBuilder) (entries : List Entry) : Type 0 where
  pub parts : builder.parts.items ≡ parts_of (kept entries)
  pub records : builder.records ≡ length entries
  pub skipped : builder.skipped ≡ count_by is_skipped entries
