-- The replies of a call, by their tickets.
use Rattle.std.proofs.Common.{◌≡◌, ℕ, List, [], ◌∷◌, map, Option, refl, ap, ap₂}
use Rattle.std.specs.Prelude.{unwrap_or}
use Rattle.stale_model.specs.declared.store.JournalEntry.{JournalEntry}
use Rattle.stale_model.specs.declared.store.Took.{Took}
use Rattle.trace_check.specs.Reading.{reply_at}

-- where the reply at each ticket is found, so are those of a call
pub found_for : (lines : List JournalEntry) (found : ℕ → Option Took) → ((ticket : ℕ) → found ticket ≡ reply_at lines ticket) → (ts : List Took)
    → map (λ t. unwrap_or (found t.serve) t) ts ≡ map (λ t. unwrap_or (reply_at lines t.serve) t) ts
found_for lines found is [] = refl
found_for lines found is (t ∷ ts) = ap₂ (λ u us. u ∷ us) (ap (λ o. unwrap_or o t) (is t.serve)) (found_for lines found is ts)
