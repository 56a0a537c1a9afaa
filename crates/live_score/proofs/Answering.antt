-- What an operation is answered, by the record of its value's write.
use Rattle.std.proofs.Common.{◌≡◌, ℕ, List, [], ◌∷◌, ◌++◌, Option, Some, None, refl, ◌∙◌}
use Rattle.std.proofs.lemmas.Bool.{both_ways}
use Rattle.stale_model.specs.declared.Op.{Op}
use Rattle.stale_model.specs.declared.Kind.{Kind}
use Rattle.stale_model.specs.declared.Kind.TheVariants.{Read, Write}
use Rattle.stale_model.specs.Operations.{initial_write}
use Rattle.stale_model.specs.Counted.{counts}
use Rattle.live_score.specs.declared.live.Fed.{Fed}
use Rattle.live_score.specs.declared.live.Fed.TheVariants.{Counted, Waiting, Duplicate}
use Rattle.live_score.specs.Answers.{answer_of}
use Rattle.live_score.specs.Feeding.{IsFedAs, fed_after}
use Rattle.live_score.specs.Rows.{IsWriteKept}
use Rattle.live_score.proofs.Counting.{counts_written, counts_unwritten}

answered_by : (fed : List Op) (op : Op) (kind : Kind) (kept : Option ℕ) (start : ℕ) → op.kind ≡ kind → IsWriteKept (initial_write ∷ fed) op.value start kept → IsFedAs fed op (answer_of kind kept)
answered_by fed op Read None start kind h = record { kind = kind; unwritten = counts_unwritten fed op kind h }
answered_by fed op Read (Some rec) start kind h = (λ r s. (let writes = s.kind in cc), λ e. both_ways (counts fed op) e.unwritten (counts_written fed op h.0 h.1))
answered_by fed op Write None start kind h = (λ r s. h s.first.0 s.first.1, λ e. (let reads = e.kind in cc))
answered_by fed op Write (Some rec) start kind h = record { kind = kind; first = (h.0, h.1, h.2) }

-- the answer is as said
pub answered : (fed : List Op) (op : Op) (kept : Option ℕ) (start : ℕ) → IsWriteKept (initial_write ∷ fed) op.value start kept → IsFedAs fed op (answer_of op.kind kept)
answered fed op kept start h = answered_by fed op op.kind kept start refl h

first_by : (kind : Kind) (kept : Option ℕ) → ((rec : ℕ) → answer_of kind kept ≡ Duplicate rec → ⊥) → kind ≡ Write → kept ≡ None
first_by kind None not_duplicate e = refl
first_by Write (Some rec) not_duplicate e = absurd (not_duplicate rec refl)
first_by Read (Some rec) not_duplicate e = cc

-- a write that is taken in is the first of its value
pub first_write : (kind : Kind) (kept : Option ℕ) (answer : Fed) → answer ≡ answer_of kind kept → ((rec : ℕ) → answer ≡ Duplicate rec → ⊥) → kind ≡ Write → kept ≡ None
first_write kind kept answer is not_duplicate e = first_by kind kept (λ rec d. not_duplicate rec (is ∙ d)) e

-- what is no second write stands last
pub fed_last : (fed : List Op) (op : Op) (answer : Fed) → ((rec : ℕ) → answer ≡ Duplicate rec → ⊥) → fed_after fed op answer ≡ fed ++ op ∷ []
fed_last fed op (Duplicate rec) not_duplicate = absurd (not_duplicate rec refl)
fed_last fed op Counted not_duplicate = refl
fed_last fed op Waiting not_duplicate = refl
