-- The parts of entries, one more entry at a time, and the history that they make.
use Rattle.std.proofs.Common.{◌≡◌, ℕ, zero, suc, ◌+◌, ◌<◌, ◌≤◌, List, [], ◌∷◌, ◌++◌, All, Some, false, true, length, get_or, map, set, slice_get, replicate, refl, sym, ◌∙◌, ap, inl, inr, arith, count_by}
use Rattle.std.specs.Prelude.{◌==◌, slice_index_or, not}
use Rattle.std.specs.Ordering.{is_lt, nat_cmp, on}
use Rattle.std.specs.List.{flat_map, range_with_len}
use Rattle.std.specs.List.Sorted.{IsNonDecreasingBy, IsPermutation, IsSorted}
use Rattle.std.proofs.lemmas.Bool.{cases_Bool, eq-eqb, le-ltb, ne_eqb}
use Rattle.std.proofs.lemmas.List.{append-nil, append_assoc, length-map, map-append}
use Rattle.std.proofs.lemmas.List.FromFn.{length-range_with_len}
use Rattle.std.proofs.lemmas.Option.{get_or_from_slice_get}
use Rattle.std.proofs.lemmas.List.Elements.{All-map, filter-append}
use Rattle.std.proofs.lemmas.List.Folds.{flat_map-map}
use Rattle.stale_model.specs.declared.History.{History}
use Rattle.stale_model.specs.declared.KeyOps.{KeyOps}
use Rattle.history_csv.specs.Entries.{Entry}
use Rattle.history_csv.specs.Numbering.{history_of, is_skipped, kept, keys_of}
use Rattle.history_csv.specs.Parting.{Rise, entries_in, part_count, part_of, parts_of, with_first}
use Rattle.history_csv.proofs.HistoryFacts.{history-is}
use Rattle.history_csv.proofs.KeyFacts.{filter-shorter}
use Rattle.history_csv.proofs.RangeLists.{made-get, made-set}
use Rattle.history_csv.proofs.PartedKeys.{parted-keys, rise-filter}

module _ (part : List ℕ → ℕ) where
  no-entries : (a n : ℕ) → map (entries_in part []) (range_with_len a n) ≡ replicate n []
  no-entries a zero = refl
  no-entries a (suc n) = ap (λ l. [] ∷ l) (no-entries (a + 1) n)

  entries-in-other : (es : List Entry) (e : Entry) (i : ℕ) → (i ≡ part e.key → ⊥) → entries_in part (es ++ e ∷ []) i ≡ entries_in part es i
  entries-in-other es e i differs =
      let test : (part e.key == i) ≡ false = ne_eqb (part e.key) i (λ same. differs (sym same)) in
      filter-append (λ (x : Entry). part x.key == i) es (e ∷ []) ∙ rw (test, append-nil (entries_in part es i)) refl

  entries-in-own : (es : List Entry) (e : Entry) → entries_in part (es ++ e ∷ []) (part e.key) ≡ entries_in part es (part e.key) ++ e ∷ []
  entries-in-own es e =
      let test : (part e.key == part e.key) ≡ true = eq-eqb (part e.key) (part e.key) refl in
      filter-append (λ (x : Entry). part x.key == part e.key) es (e ∷ []) ∙ rw test refl

-- ---- the parts

-- each key has one of the parts
pub part-within : (name : List ℕ) → part_of name < part_count
unfolding part_of part_count
part-within name = omega arith

pub parts-none : parts_of [] ≡ replicate part_count []
unfolding parts_of
parts-none = no-entries part_of 0 part_count

pub part-at : (es : List Entry) (name : List ℕ) → slice_get (parts_of es) (part_of name) ≡ Some (entries_in part_of es (part_of name))
unfolding parts_of
part-at es name = made-get (entries_in part_of es) 0 part_count (part_of name) (part_of name) (omega arith) (part-within name)

-- one more entry goes into its part
pub parts-push : (es : List Entry) (e : Entry) → parts_of (es ++ e ∷ []) ≡ set (parts_of es) (part_of e.key) (entries_in part_of es (part_of e.key) ++ e ∷ [])
unfolding parts_of
parts-push es e =
    made-set (entries_in part_of es) (entries_in part_of (es ++ e ∷ [])) 0 part_count (part_of e.key) (part_of e.key) (omega arith) (part-within e.key) (entries-in-other part_of es e)
    ∙ ap (set (parts_of es) (part_of e.key)) (entries-in-own part_of es e)

pub parts-length : (es : List Entry) → length (parts_of es) ≡ part_count
unfolding parts_of
parts-length es = length-map (range_with_len 0 part_count) (entries_in part_of es) ∙ length-range_with_len 0 part_count

-- the step of the code: the entry is put to the end of the part of its key
pub parts-step : (parts : List (List Entry)) (es : List Entry) (e : Entry) (place : ℕ) (part pushed : List Entry) → parts ≡ parts_of es → place ≡ part_of e.key → part ≡ get_or parts place part → pushed ≡ part ++ e ∷ [] → set parts place pushed ≡ parts_of (es ++ e ∷ [])
parts-step parts es e place part pushed are at held is =
    let old = entries_in part_of es (part_of e.key) in
    let part_is : part ≡ old = held ∙ rw (are, at) (get_or_from_slice_get (parts_of es) (part_of e.key) old part (part-at es e.key)) in
    rw (are, at, is, part_is) (sym (parts-push es e))

-- a part has at most as many entries as there are
pub parts-few : (es : List Entry) (most : ℕ) → length es ≤ most → All (λ (part : List Entry). length part ≤ most) (parts_of es)
unfolding parts_of
parts-few es most few =
    All-map (λ (part : List Entry). length part ≤ most) (entries_in part_of es) (range_with_len 0 part_count) (λ k d h. let fewer = filter-shorter (λ (x : Entry). part_of x.key == slice_index_or (range_with_len 0 part_count) k d) es in omega arith)

parts-keys : (es : List Entry) → flat_map keys_of (parts_of es) ≡ flat_map (λ i. keys_of (entries_in part_of es i)) (range_with_len 0 part_count)
unfolding parts_of
parts-keys es = flat_map-map keys_of (entries_in part_of es) (range_with_len 0 part_count)

-- the keys of the next part are put behind those found so far
pub keys-next : (found new all : List (ℕ × KeyOps)) (part : List Entry) (rest left : List (List Entry)) → left ≡ part ∷ rest → new ≡ found ++ map with_first (keys_of part) → found ++ map with_first (flat_map keys_of left) ≡ all → new ++ map with_first (flat_map keys_of rest) ≡ all
keys-next found new all part rest left next is so_far =
    rw is (append_assoc found (map with_first (keys_of part)) (map with_first (flat_map keys_of rest)) ∙ ap (λ l. found ++ l) (sym (map-append with_first (keys_of part) (flat_map keys_of rest))) ∙ ap (λ l. found ++ map with_first (flat_map keys_of l)) (sym next) ∙ so_far)

not-less : (a b : ℕ) → a ≤ b → is_lt (nat_cmp b a) ≡ false
not-less a b order = elim (cases_Bool (b == a)) [
  | inl same ↦ rw (le-ltb b a order, same) refl
  | inr differs ↦ rw (le-ltb b a order, differs) refl
]

-- a list whose numbers do not fall is sorted by them
sorted-by-first : {X : Type 0} (f : X → ℕ) (xs : List X) → IsNonDecreasingBy f xs → IsSorted (on f nat_cmp) xs
sorted-by-first f xs up k d low high = not-less (f (slice_index_or xs k d)) (f (slice_index_or xs (k + 1) d)) (up k (k + 1) d (omega arith) high)

-- the keys of the parts of the entries, put in order, make the history of the entries
pub history-parted : (es : List Entry) (history : History) (found sorted : List (ℕ × KeyOps)) (parts : List (List Entry)) → Rise es → parts ≡ parts_of (kept es) → found ≡ map with_first (flat_map keys_of parts)
    → IsPermutation found sorted → IsNonDecreasingBy (λ (x : ℕ × KeyOps). x.0) sorted → history.keys ≡ map (λ (x : ℕ × KeyOps). x.1) sorted → history.records ≡ length es → history.skipped ≡ count_by is_skipped es → history ≡ history_of es
history-parted es history found sorted parts rise parts_are found_is permuted up keys records skipped =
    let rest = rise-filter (λ (x : Entry). not (is_skipped x)) es rise in
    let from_parts = found_is ∙ ap (λ l. map with_first (flat_map keys_of l)) parts_are ∙ ap (map with_first) (parts-keys (kept es)) in
    let whole = parted-keys part_of part_count part-within (kept es) rest found sorted from_parts permuted (sorted-by-first (λ (x : ℕ × KeyOps). x.0) sorted up) in
    history-is es history (keys ∙ whole) records skipped
