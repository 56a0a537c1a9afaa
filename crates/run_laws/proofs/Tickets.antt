-- The tickets of a run.
use Rattle.std.proofs.Common.{◌≡◌, ℕ, zero, suc, ◌+◌, List, [], ◌∷◌, ◌++◌, map, arith}
use Rattle.std.specs.Prelude.{flat_map}
use Rattle.std.proofs.lemmas.List.Sorted.{IsPermutation-append_left}
use Rattle.stale_model.specs.declared.store.JournalEntry.{JournalEntry}
use Rattle.stale_model.specs.declared.store.Entry.{Entry}
use Rattle.stale_model.specs.Orders.{StandsAt, IsWithoutRepeats}
use Rattle.stale_model.specs.RecordedRuns.{tickets_of}
use Rattle.run_laws.specs.Parts.{all_calls, TicketsAreOfParts}
use Rattle.run_laws.proofs.Permuted.{permuted_flattened}

-- the start and the finish of each entry
abbrev bounds : List Entry → List ℕ
bounds es = flat_map (λ e. e.start ∷ e.finish ∷ []) es

-- each serve of the journals
abbrev serves : List (List JournalEntry) → List ℕ
serves journals = flat_map (λ js. map (λ j. j.reply.serve) js) journals

-- the start of each entry stands at an even place
start_stands : (es : List Entry) (ns : List ℕ) (i x : ℕ) → StandsAt (map (λ e. e.start) es) i x → StandsAt (bounds es ++ ns) (i + i) x
start_stands [] ns i x at = absurd (cc at)
start_stands (e ∷ es) ns zero x at = at
start_stands (e ∷ es) ns (suc i) x at =
    let place : suc i + suc i ≡ suc (suc (i + i)) = omega arith in
    rw place (start_stands es ns i x at)

-- where no ticket stands twice, no start does
pub starts_apart : (es : List Entry) (journals : List (List JournalEntry)) → IsWithoutRepeats (tickets_of es journals) → IsWithoutRepeats (map (λ e. e.start) es)
starts_apart es journals once i j x p q =
    let e : i + i ≡ j + j = once (i + i) (j + j) x (start_stands es (serves journals) i x p) (start_stands es (serves journals) j x q) in
    omega arith

pub tickets_of_parts : TicketsAreOfParts
tickets_of_parts settings calls journals entries same =
    IsPermutation-append_left (serves journals) (bounds (all_calls settings calls)) (bounds entries)
    (permuted_flattened (λ (e : Entry). e.start ∷ e.finish ∷ []) (all_calls settings calls) entries same)
