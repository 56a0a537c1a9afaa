-- The journals of the first replicas, one more at a time.
use Rattle.std.proofs.Common.{◌≡◌, ℕ, ◌+◌, ◌<◌, ◌++◌, List, [], ◌∷◌, length, get_or, take, sym, ◌∙◌, ap, arith}
use Rattle.std.specs.List.{flat_map}
use Rattle.std.proofs.lemmas.List.{append_assoc, append-nil, length-take, take_more}
use Rattle.stale_model.specs.declared.store.JournalEntry.{JournalEntry}
use Rattle.stale_model.specs.Texts.{journal_fields, journals_from, record_text}

-- the records of the journal of a replica
abbrev journal_records : ℕ → List JournalEntry → List ℕ
journal_records replica js = flat_map (λ j. record_text (journal_fields replica j)) js

-- a journal stands behind those of the replicas before it
journals_from-push : (replica : ℕ) (journals : List (List JournalEntry)) (js : List JournalEntry)
    → journals_from replica (journals ++ js ∷ []) ≡ journals_from replica journals ++ journal_records (replica + length journals) js
journals_from-push replica [] js =
    let number : replica ≡ replica + length {A = List JournalEntry} [] = omega arith in
    append-nil (journal_records replica js) ∙ ap (λ (n : ℕ). journal_records n js) number
journals_from-push replica (first ∷ journals) js =
    let number : replica + 1 + length journals ≡ replica + length (first ∷ journals) = omega arith in
    ap (λ (text : List ℕ). journal_records replica first ++ text)
    (journals_from-push (replica + 1) journals js ∙ ap (λ (n : ℕ). journals_from (replica + 1) journals ++ journal_records n js) number)
    ∙ sym (append_assoc (journal_records replica first) (journals_from (replica + 1) journals) (journal_records (replica + length (first ∷ journals)) js))

-- what was written with the journal of this replica behind those before it
pub journals_from-more : (journals : List (List JournalEntry)) (replica : ℕ) (js : List JournalEntry) (old before after : List ℕ) → replica < length journals → js ≡ get_or journals replica js
    → before ≡ old ++ journals_from 0 (take replica journals) → after ≡ before ++ journal_records replica js → after ≡ old ++ journals_from 0 (take (replica + 1) journals)
journals_from-more journals replica js old before after stands is first then =
    let number : 0 + length (take replica journals) ≡ replica = omega (arith, length-take replica journals) in
    let all : journals_from 0 (take (replica + 1) journals) ≡ journals_from 0 (take replica journals) ++ journal_records replica js =
    ap (journals_from 0) (take_more journals replica js stands ∙ ap (λ (j : List JournalEntry). take replica journals ++ j ∷ []) (sym is))
    ∙ journals_from-push 0 (take replica journals) js
    ∙ ap (λ (n : ℕ). journals_from 0 (take replica journals) ++ journal_records n js) number in
    rw (then, first, all) (append_assoc old (journals_from 0 (take replica journals)) (journal_records replica js))
