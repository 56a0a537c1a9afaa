use Rattle.std.proofs.Common.{◌≡◌, ◌+◌, not, length, count_by, sym, ◌∙◌, ap, arith}
use Rattle.std.proofs.lemmas.List.Sums.{count_by-le-length}
use Rattle.stale_model.specs.declared.History.{History}
use Rattle.history_csv.specs.Entries.{Entry}
use Rattle.history_csv.specs.Numbering.{is_skipped, kept, keys_of}
use Rattle.history_csv.specs.Building.{keys_shown}
use Rattle.history_csv.proofs.KeyFacts.{filter-shorter}
use Rattle.history_csv.proofs.HistoryFacts.{history-keys, history-records, history-skipped, history-skip, history-take}
use Rattle.history_csv.proofs.numbering.HistoryBuilder.add.Goals as goal
use Rattle.history_csv.proofs.numbering.HistoryBuilder.add.Goals.{then-is_skipped, else-is_skipped+in_ok-add_to_key}

pub overflow_add-self : goal.overflow_add-self
overflow_add-self c =
    let (entries, shown, few) = c.requires in
    let skipped : c.self.inside.skipped ≡ count_by is_skipped entries = ap (λ (h : History). h.skipped) (c.self.view_is ∙ shown) ∙ history-skipped entries in
    omega (arith, count_by-le-length is_skipped entries)

pub add_to_key-requires : goal.add_to_key-requires
add_to_key-requires c =
    let (entries, shown, few) = c.requires in
    let keys : keys_shown c.self.inside.keys.entries ≡ keys_of (kept entries) = ap (λ (h : History). h.keys) (c.self.view_is ∙ shown) ∙ history-keys entries in
    let fewer = filter-shorter (λ (x : Entry). not (is_skipped x)) entries in
    (kept entries, keys, omega arith)

pub overflow_add-self-2 : goal.overflow_add-self-2
overflow_add-self-2 c =
    let (entries, shown, few) = c.requires in
    let records : c.self.inside.records ≡ length entries = ap (λ (h : History). h.records) (c.self.view_is ∙ shown) ∙ history-records entries in
    elim c.if-is_skipped.branch [
      | then-is_skipped w ↦ rw w.self-inside-is (omega arith)
      | else-is_skipped+in_ok-add_to_key w ↦ rw w.self-inside-is (omega arith)
    ]

pub returns : goal.returns
returns c = λ entries shown.
    let was = c.self.view_is ∙ shown in
    let keys = ap (λ (h : History). h.keys) was in
    let records = ap (λ (h : History). h.records) was in
    let skipped = ap (λ (h : History). h.skipped) was in
    elim c.if-is_skipped.branch [
      | then-is_skipped w ↦ rw w.self-inside-is (history-skip entries c.args.entry.now _ (sym c.is_skipped.ensures ∙ w.if-is_skipped.true) keys (ap (λ n. n + 1) records) (ap (λ n. n + 1) skipped))
      | else-is_skipped+in_ok-add_to_key w ↦ rw w.self-inside-is (history-take entries c.args.entry.now _ (sym c.is_skipped.ensures ∙ w.if-is_skipped.false) (w.in_ok-add_to_key.ensures (kept entries) (keys ∙ history-keys entries)) (ap (λ n. n + 1) records) skipped)
    ]
