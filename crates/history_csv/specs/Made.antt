-- What serves the code alone: a history as its entries come, in either form.
use Rattle.std.specs.Prelude.{◌≡◌, ℕ, List, Ok}
use Rattle.history_csv.specs.declared.builder.Builder.{Builder}
use Rattle.history_csv.specs.declared.builder.Builder.TheVariants.{ByKeys, ByParts}
use Rattle.history_csv.specs.declared.header.Columns.{Columns}
use Rattle.history_csv.specs.Entries.{Entry, entries_from}
use Rattle.history_csv.specs.Numbering.{history_of}
use Rattle.history_csv.specs.Parted.{IsParted}

-- these are the entries so far
abbrev pub Makes : Builder → List Entry → Type 0
Makes (ByKeys builder) entries = builder ≡ history_of entries
Makes (ByParts builder) entries = IsParted builder entries

-- records have no fault, and their entries were taken
pub record TookAll (columns : Columns) (records : List (List (List ℕ))) (builder : Builder) : Type 0 where
  pub entries : List Entry
  pub said : entries_from columns 1 records ≡ Ok entries
  pub made : Makes builder entries
