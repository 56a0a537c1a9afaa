-- Serves the code alone: what is kept of each value, and how an operation changes it.
use Rattle.std.specs.Prelude.{◌≡◌, ◌⊎◌, ℕ, ◌+◌, ◌≤◌, ◌==◌, max, List, count_by, Option, Some, None}
use Rattle.stale_model.specs.declared.Op.{Op}
use Rattle.stale_model.specs.declared.Kind.{Kind}
use Rattle.stale_model.specs.declared.Kind.TheVariants.{Read, Write}
use Rattle.stale_model.specs.Operations.{earliest_start, latest_finish}
use Rattle.stale_model.specs.Faults.{IsWriteOf}
use Rattle.stale_model.specs.Clusters.{IsOfValue, IsReadOf}
use Rattle.stale_model.specs.Orders.{StandsAt}
use Rattle.live_score.specs.declared.places.Place.{Place}
use Rattle.live_score.specs.declared.rows.Row.{Row}

-- the write of a value has this record and this earliest start, or there is none
abbrev pub IsWriteKept : List Op → ℕ → ℕ → Option ℕ → Type 0
IsWriteKept ops value start None = (w : Op) → IsWriteOf ops value w → ⊥
IsWriteKept ops value start (Some rec) = (w : Op) × IsWriteOf ops value w × (w.rec ≡ rec) × (earliest_start w ≡ start)

-- f is the least latest finish of the operations of a value
pub record IsFinishOf (ops : List Op) (value f : ℕ) : Type 0 where
  pub there : (a : Op) × IsOfValue ops value a × (latest_finish a ≡ f)
  pub least : (a : Op) → IsOfValue ops value a → f ≤ latest_finish a

-- a value without a place has no operation; of another, f is the least latest finish
abbrev pub IsFinishKept : List Op → ℕ → ℕ → Option ℕ → Type 0
IsFinishKept ops value f None = (a : Op) → IsOfValue ops value a → ⊥
IsFinishKept ops value f (Some at) = IsFinishOf ops value f

-- s is the greatest earliest start of the reads of a value, or 0 without reads
pub record IsStartKept (ops : List Op) (value s : ℕ) : Type 0 where
  pub there : (s ≡ 0) ⊎ ((r : Op) × IsReadOf ops value r × (earliest_start r ≡ s))
  pub greatest : (r : Op) → IsReadOf ops value r → earliest_start r ≤ s

-- the row is what these operations say of this value
pub record IsRowOf (ops : List Op) (value : ℕ) (row : Row) : Type 0 where
  pub write : IsWriteKept ops value row.place.w row.write
  pub finish : IsFinishKept ops value row.place.f row.at
  pub start : IsStartKept ops value row.place.s

-- each row is that of its value
abbrev pub AreRows : List Op → List Row → Type 0
AreRows ops rows = (value : ℕ) (row : Row) → StandsAt rows value row → IsRowOf ops value row

-- how many operations have this value
abbrev pub count_of : List Op → ℕ → ℕ
count_of fed value = count_by (λ a. a.value == value) fed

-- each row has the number of the operations of its value
abbrev pub AreCounts : List Op → List Row → Type 0
AreCounts fed rows = (value : ℕ) (row : Row) → StandsAt rows value row → row.count ≡ count_of fed value

-- the least latest finish of a value after an operation that finishes at `finish`: that of its first one
abbrev pub first_finish : Option ℕ → ℕ → ℕ → ℕ
first_finish None f finish = finish
first_finish (Some at) f finish = f

-- a row with one more operation, whatever its kind, of a value at this place
abbrev pub placed_row : Row → Op → ℕ → Row
placed_row row op at = record {
  at = Some at;
  write = row.write;
  place = record row.place { f = first_finish row.at row.place.f (latest_finish op) };
  count = row.count + 1;
}

-- what an operation of this kind adds to a row besides
abbrev pub row_with : Kind → Row → Op → Row
row_with Read row op = record row { place = record row.place { s = max row.place.s (earliest_start op) } }
row_with Write row op = record row { write = Some op.rec; place = record row.place { w = earliest_start op } }

-- the row of an operation's value after it, at this place
abbrev pub row_after : Row → Op → ℕ → Row
row_after row op at = row_with op.kind (placed_row row op at) op

-- how many places are taken after an operation of a value with this place
abbrev pub taken_after : Option ℕ → ℕ → ℕ
taken_after None taken = taken + 1
taken_after (Some at) taken = taken

-- what stands at the place of a value: its numbers once they count, else its f alone
abbrev pub shown : Option ℕ → Place → Place
shown None place = record { f = place.f; w = 0; s = 0 }
shown (Some rec) place = place
