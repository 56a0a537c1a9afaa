-- The journals of a file: their lines, one journal after the other, and each journal again.
use Rattle.std.proofs.Common.{◌≡◌, ◌<◌, ◌≤◌, ◌+◌, ◌==◌, ℕ, zero, suc, List, [], ◌∷◌, ◌++◌, map, filter, length, get_or, refl, sym, ◌∙◌, ap, ap₂, arith, append-nil, eq-eqb}
use Rattle.std.specs.Prelude.{All}
use Rattle.std.specs.List.{flat_map, range_with_len}
use Rattle.std.proofs.lemmas.Bool.{ne_eqb}
use Rattle.std.proofs.lemmas.List.{map-append, ext_get_or}
use Rattle.std.proofs.lemmas.List.Concat.{flat_map-append}
use Rattle.std.proofs.lemmas.List.Elements.{All-head, All-tail, All-weaker, filter-append}
use Rattle.std.proofs.lemmas.List.FromFn.{length-map-range_with_len, get_or-map-range_with_len}
use Rattle.stale_model.specs.declared.store.JournalEntry.{JournalEntry}
use Rattle.stale_model.specs.Orders.{IsWithoutRepeats}
use Rattle.stale_model.specs.Texts.{record_text, journal_fields, journals_from}
use Rattle.stale_model.proofs.Sorted.{no_repeats_tail}
use Rattle.trace_check.specs.Reading.{journals_of}
use Rattle.trace_laws.proofs.EntryLines.{entry_fields, AreOrdered}

-- the entries of all journals, one journal after the other
abbrev pub all_entries : List (List JournalEntry) → List JournalEntry
all_entries journals = flat_map (λ js. js) journals

-- each journal is of the replica with its number, counted from this one on
abbrev pub AreOf : ℕ → List (List JournalEntry) → Type 0
AreOf k [] = Unit {0}
AreOf k (js ∷ rest) = All (λ j. j.reply.replica ≡ k) js × AreOf (k + 1) rest

pub are_of : (k : ℕ) (journals : List (List JournalEntry)) → ((i : ℕ) → i < length journals → All (λ j. j.reply.replica ≡ k + i) (get_or journals i [])) → AreOf k journals
are_of k [] each = tt
are_of k (js ∷ rest) each = (
  All-weaker (λ (j : JournalEntry). j.reply.replica ≡ k + 0) (λ (j : JournalEntry). j.reply.replica ≡ k) (λ j e. omega arith) js (each 0 (omega arith)),
  are_of (k + 1) rest (λ i low. All-weaker (λ (j : JournalEntry). j.reply.replica ≡ k + suc i) (λ (j : JournalEntry). j.reply.replica ≡ k + 1 + i) (λ j e. omega arith) (get_or rest i []) (each (suc i) (omega arith))),
)

same_text : (k : ℕ) (js : List JournalEntry) → All (λ j. j.reply.replica ≡ k) js
    → flat_map (λ j. record_text (journal_fields k j)) js ≡ flat_map (λ j. record_text (entry_fields j)) js
same_text k [] own = refl
same_text k (j ∷ js) own =
    ap₂ (λ (a b : List ℕ). a ++ b) (ap (λ (r : ℕ). record_text (journal_fields r j)) (sym (All-head (λ (i : JournalEntry). i.reply.replica ≡ k) j js own)))
    (same_text k js (All-tail (λ (i : JournalEntry). i.reply.replica ≡ k) j js own))

-- the text of the journals is that of all entries
pub journals_text : (k : ℕ) (journals : List (List JournalEntry)) → AreOf k journals → journals_from k journals ≡ flat_map (λ j. record_text (entry_fields j)) (all_entries journals)
journals_text k [] own = refl
journals_text k (js ∷ rest) (first, later) =
    ap₂ (λ (a b : List ℕ). a ++ b) (same_text k js first) (journals_text (k + 1) rest later)
    ∙ sym (flat_map-append (λ (j : JournalEntry). record_text (entry_fields j)) js (all_entries rest))

ordered_before : (k least : ℕ) (js after : List JournalEntry) → All (λ j. j.reply.replica ≡ k) js → least ≤ k → ((l : ℕ) → l ≤ k → AreOrdered l after) → AreOrdered least (js ++ after)
ordered_before k least [] after own low next = next least low
ordered_before k least (j ∷ js) after own low next =
    let is = All-head (λ (i : JournalEntry). i.reply.replica ≡ k) j js own in
    (omega arith, ordered_before k j.reply.replica js after (All-tail (λ (i : JournalEntry). i.reply.replica ≡ k) j js own) (omega arith) next)

-- their replicas don't fall
pub all_ordered : (k least : ℕ) (journals : List (List JournalEntry)) → AreOf k journals → least ≤ k → AreOrdered least (all_entries journals)
all_ordered k least [] own low = tt
all_ordered k least (js ∷ rest) (first, later) low = ordered_before k least js (all_entries rest) first low (λ l below. all_ordered (k + 1) l rest later (omega arith))

all_kept : (r : ℕ) (js : List JournalEntry) → All (λ j. j.reply.replica ≡ r) js → filter (λ j. j.reply.replica == r) js ≡ js
all_kept r [] own = refl
all_kept r (j ∷ js) own =
    rw (eq-eqb j.reply.replica r (All-head (λ (i : JournalEntry). i.reply.replica ≡ r) j js own))
    (ap (λ (l : List JournalEntry). j ∷ l) (all_kept r js (All-tail (λ (i : JournalEntry). i.reply.replica ≡ r) j js own)))

none_kept : (k r : ℕ) (js : List JournalEntry) → (k ≡ r → ⊥) → All (λ j. j.reply.replica ≡ k) js → filter (λ j. j.reply.replica == r) js ≡ []
none_kept k r [] apart own = refl
none_kept k r (j ∷ js) apart own =
    let is = All-head (λ (i : JournalEntry). i.reply.replica ≡ k) j js own in
    rw (ne_eqb j.reply.replica r (λ e. apart (sym is ∙ e))) (none_kept k r js apart (All-tail (λ (i : JournalEntry). i.reply.replica ≡ k) j js own))

-- of later replicas, none is kept
later_kept : (k r : ℕ) (journals : List (List JournalEntry)) → AreOf k journals → r < k → filter (λ j. j.reply.replica == r) (all_entries journals) ≡ []
later_kept k r [] own low = refl
later_kept k r (js ∷ rest) (first, later) low =
    filter-append (λ (j : JournalEntry). j.reply.replica == r) js (all_entries rest)
    ∙ ap₂ (λ (a b : List JournalEntry). a ++ b) (none_kept k r js (λ e. omega arith) first) (later_kept (k + 1) r rest later (omega arith))

-- of one replica, its journal is kept
own_kept : (k i : ℕ) (journals : List (List JournalEntry)) → AreOf k journals → i < length journals
    → filter (λ j. j.reply.replica == (k + i)) (all_entries journals) ≡ get_or journals i []
own_kept k i [] own low = absurd (omega arith)
own_kept k zero (js ∷ rest) (first, later) low =
    let own = All-weaker (λ (j : JournalEntry). j.reply.replica ≡ k) (λ (j : JournalEntry). j.reply.replica ≡ k + 0) (λ j e. omega arith) js first in
    filter-append (λ (j : JournalEntry). j.reply.replica == (k + 0)) js (all_entries rest)
    ∙ ap₂ (λ (a b : List JournalEntry). a ++ b) (all_kept (k + 0) js own) (later_kept (k + 1) (k + 0) rest later (omega arith))
    ∙ append-nil js
own_kept k (suc i) (js ∷ rest) (first, later) low =
    let next : k + suc i ≡ k + 1 + i = omega arith in
    filter-append (λ (j : JournalEntry). j.reply.replica == (k + suc i)) js (all_entries rest)
    ∙ ap₂ (λ (a b : List JournalEntry). a ++ b) (none_kept k (k + suc i) js (λ e. omega arith) first)
    (ap (λ (r : ℕ). filter (λ j. j.reply.replica == r) (all_entries rest)) next ∙ own_kept (k + 1) i rest later (omega arith))

-- the journals are found again among all entries
pub journals_found : (replicas : ℕ) (journals : List (List JournalEntry)) → length journals ≡ replicas → AreOf 0 journals → journals_of replicas (all_entries journals) ≡ journals
journals_found replicas journals many own =
    let kept : ℕ → List JournalEntry = λ r. filter (λ (j : JournalEntry). j.reply.replica == r) (all_entries journals) in
    let long : length (map kept (range_with_len 0 replicas)) ≡ replicas = length-map-range_with_len kept 0 replicas in
    ext_get_or [] (map kept (range_with_len 0 replicas)) journals (omega arith)
    (λ i low. get_or-map-range_with_len kept 0 replicas i (0 + i) [] (omega arith) refl ∙ own_kept 0 i journals own (omega arith))

-- the serve tickets of the journals are those of all entries
pub serves_are : (journals : List (List JournalEntry)) → flat_map (λ js. map (λ j. j.reply.serve) js) journals ≡ map (λ j. j.reply.serve) (all_entries journals)
serves_are [] = refl
serves_are (js ∷ rest) =
    ap (λ (ns : List ℕ). map (λ (j : JournalEntry). j.reply.serve) js ++ ns) (serves_are rest) ∙ sym (map-append (λ (j : JournalEntry). j.reply.serve) js (all_entries rest))

-- what stands after other numbers is without repeats where all are
pub no_repeats_after : (xs ys : List ℕ) → IsWithoutRepeats (xs ++ ys) → IsWithoutRepeats ys
no_repeats_after [] ys once = once
no_repeats_after (x ∷ xs) ys once = no_repeats_after xs ys (no_repeats_tail x (xs ++ ys) once)
