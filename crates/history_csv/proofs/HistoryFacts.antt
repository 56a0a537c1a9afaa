-- A history with one more entry.
use Rattle.std.proofs.Common.{◌≡◌, ◌+◌, Bool, true, false, not, List, [], ◌∷◌, ◌++◌, filter, length, count_by, refl, sym, ◌∙◌, ap, arith, if◌then◌else◌}
use Rattle.std.proofs.lemmas.List.{append-nil, length_push}
use Rattle.std.proofs.lemmas.List.Elements.{filter-append}
use Rattle.std.proofs.lemmas.List.Sums.{sum_by_push}
use Rattle.stale_model.specs.declared.History.{History}
use Rattle.history_csv.specs.Entries.{Entry}
use Rattle.history_csv.specs.Numbering.{history_of, is_skipped, kept, keys_of}

-- the history of no entries
pub history-empty : history_of [] ≡ record { keys = []; records = 0; skipped = 0 }
unfolding history_of
history-empty = refl

same_history : (a b : History) → a.keys ≡ b.keys → a.records ≡ b.records → a.skipped ≡ b.skipped → a ≡ b
same_history a b keys records skipped = λ i. record { keys = keys i; records = records i; skipped = skipped i }

-- a history that is made of the keys of entries
pub history-is : (es : List Entry) (h : History) → h.keys ≡ keys_of (kept es) → h.records ≡ length es → h.skipped ≡ count_by is_skipped es → h ≡ history_of es
unfolding history_of
history-is es h keys records skipped = same_history h (history_of es) keys records skipped

-- the parts of a history
pub history-keys : (es : List Entry) → (history_of es).keys ≡ keys_of (kept es)
unfolding history_of
history-keys es = refl

pub history-records : (es : List Entry) → (history_of es).records ≡ length es
unfolding history_of
history-records es = refl

pub history-skipped : (es : List Entry) → (history_of es).skipped ≡ count_by is_skipped es
unfolding history_of
history-skipped es = refl

kept-push : (es : List Entry) (e : Entry) → kept (es ++ e ∷ []) ≡ kept es ++ filter (λ x. not (is_skipped x)) (e ∷ [])
kept-push es e = filter-append (λ (x : Entry). not (is_skipped x)) es (e ∷ [])

skipped-push : (es : List Entry) (e : Entry) (b : Bool) → is_skipped e ≡ b → count_by is_skipped (es ++ e ∷ []) ≡ count_by is_skipped es + (if b then 1 else 0)
skipped-push es e b is = sum_by_push (λ x. if is_skipped x then 1 else 0) es e ∙ rw is refl

-- an entry that is left out
pub history-skip : (es : List Entry) (e : Entry) (h : History) → is_skipped e ≡ true → h.keys ≡ (history_of es).keys → h.records ≡ (history_of es).records + 1 → h.skipped ≡ (history_of es).skipped + 1 → h ≡ history_of (es ++ e ∷ [])
unfolding history_of
history-skip es e h is keys records skipped =
    let kept_is : kept (es ++ e ∷ []) ≡ kept es = kept-push es e ∙ rw is (append-nil (kept es)) in
    same_history _ _ (keys ∙ ap keys_of (sym kept_is)) (records ∙ sym (length_push es e)) (skipped ∙ sym (skipped-push es e true is))

-- an entry that stays
pub history-take : (es : List Entry) (e : Entry) (h : History) → is_skipped e ≡ false → h.keys ≡ keys_of (kept es ++ e ∷ []) → h.records ≡ (history_of es).records + 1 → h.skipped ≡ (history_of es).skipped → h ≡ history_of (es ++ e ∷ [])
unfolding history_of
history-take es e h is keys records skipped =
    let kept_is : kept (es ++ e ∷ []) ≡ kept es ++ e ∷ [] = kept-push es e ∙ rw is refl in
    let none : count_by is_skipped (es ++ e ∷ []) ≡ count_by is_skipped es = let more = skipped-push es e false is in omega (arith, more) in
    same_history _ _ (keys ∙ ap keys_of (sym kept_is)) (records ∙ sym (length_push es e)) (skipped ∙ sym none)
