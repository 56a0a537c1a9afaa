-- How many operations the keys of entries have.
use Rattle.std.proofs.Common.{◌≡◌, ℕ, ◌+◌, Bool, true, false, not, List, [], ◌∷◌, ◌++◌, map, length, count_by, sum_by, if◌then◌else◌, refl, ◌∙◌, inl, inr, arith}
use Rattle.std.proofs.lemmas.Bool.{cases_Bool}
use Rattle.std.proofs.lemmas.List.{append_assoc, length-map}
use Rattle.std.proofs.lemmas.List.Filters.{length-filter_both}
use Rattle.std.proofs.lemmas.List.Sums.{length-filter, sum_by-cons}
use Rattle.std.specs.List.{AllByRecursion, IsDistinct, list_any}
use Rattle.std.specs.Str.{bytes_eq}
use Rattle.stale_model.specs.declared.KeyOps.{KeyOps}
use Rattle.history_csv.specs.Entries.{Entry}
use Rattle.history_csv.specs.Numbering.{distinct, entries_on, history_of, is_skipped, kept, key_ops, keys_of, op_of, values_of}
use Rattle.history_csv.specs.Parting.{names_in}
use Rattle.history_csv.proofs.Distinct.{any-distinct, bytes_eq-flip, bytes_eq-itself, same_text}
use Rattle.history_csv.proofs.HistoryFacts.{history-keys, history-records, history-skipped}
use Rattle.history_csv.proofs.MapFacts.{IsDistinct-distinct}

sum-zero : {X : Type 0} (xs : List X) → sum_by (λ _. 0) xs ≡ 0
sum-zero [] = refl
sum-zero (x ∷ xs) = let more = sum_by-cons (λ _. 0) x xs in let none = sum-zero xs in omega arith

sum-plus : {X : Type 0} (f g : X → ℕ) (xs : List X) → sum_by (λ x. f x + g x) xs ≡ sum_by f xs + sum_by g xs
sum-plus f g [] = refl
sum-plus f g (x ∷ xs) = rw (sum_by-cons (λ y. f y + g y) x xs, sum_by-cons f x xs, sum_by-cons g x xs, sum-plus f g xs) (omega arith)

sum-same : {X : Type 0} (f g : X → ℕ) → ((x : X) → f x ≡ g x) → (xs : List X) → sum_by f xs ≡ sum_by g xs
sum-same f g same [] = refl
sum-same f g same (x ∷ xs) = rw (sum_by-cons f x xs, sum_by-cons g x xs, same x, sum-same f g same xs) refl

sum-of-map : {X Y : Type 0} (f : Y → ℕ) (g : X → Y) (xs : List X) → sum_by f (map g xs) ≡ sum_by (λ x. f (g x)) xs
sum-of-map f g [] = refl
sum-of-map f g (x ∷ xs) = rw (sum_by-cons f (g x) (map g xs), sum_by-cons (λ y. f (g y)) x xs, sum-of-map f g xs) refl

-- 1 where it is true
abbrev one_if : Bool → ℕ
one_if b = if b then 1 else 0

-- ---- a name stands once among distinct ones

count-none : (k : List ℕ) (ns : List (List ℕ)) → AllByRecursion (λ n. bytes_eq n k ≡ false) ns → sum_by (λ n. one_if (bytes_eq n k)) ns ≡ 0
count-none k [] all = refl
count-none k (n ∷ ns) all = rw (sum_by-cons (λ m. one_if (bytes_eq m k)) n ns, all.0, count-none k ns all.1) refl

differ-from : (n k : List ℕ) → k ≡ n → (ns : List (List ℕ)) → AllByRecursion (λ m. bytes_eq n m ≡ false) ns → AllByRecursion (λ m. bytes_eq m k ≡ false) ns
differ-from n k same [] all = tt
differ-from n k same (m ∷ ns) all = (bytes_eq-flip m k ∙ rw same all.0, differ-from n k same ns all.1)

count-once : (k : List ℕ) (ns : List (List ℕ)) → IsDistinct bytes_eq ns → list_any (bytes_eq k) ns ≡ true → sum_by (λ n. one_if (bytes_eq n k)) ns ≡ 1
unfolding IsDistinct
count-once k [] d there = cc
count-once k (n ∷ ns) d there = elim (cases_Bool (bytes_eq k n)) [
  | inl e ↦
      let flipped = bytes_eq-flip n k ∙ e in
      let none = count-none k ns (differ-from n k (same_text k n e) ns d.0) in
      rw (sum_by-cons (λ m. one_if (bytes_eq m k)) n ns, flipped, none) refl
  | inr e ↦
      let flipped = bytes_eq-flip n k ∙ e in
      let rest = count-once k ns d.1 (rw e at there) in
      rw (sum_by-cons (λ m. one_if (bytes_eq m k)) n ns, flipped, rest) refl
]

-- each entry is on exactly one of the distinct names
counts-on : (ns : List (List ℕ)) → IsDistinct bytes_eq ns → (es : List Entry) → AllByRecursion (λ e. list_any (bytes_eq e.key) ns ≡ true) es
    → sum_by (λ n. count_by (λ (e : Entry). bytes_eq n e.key) es) ns ≡ length es
counts-on ns d [] all = sum-zero ns
counts-on ns d (e ∷ es) all =
    let split : sum_by (λ n. count_by (λ (x : Entry). bytes_eq n x.key) (e ∷ es)) ns ≡ sum_by (λ n. one_if (bytes_eq n e.key) + count_by (λ (x : Entry). bytes_eq n x.key) es) ns =
    sum-same _ _ (λ n. sum_by-cons (λ (x : Entry). one_if (bytes_eq n x.key)) e es) ns in
    let one = count-once e.key ns d all.0 in
    let rest = counts-on ns d es all.1 in
    split ∙ sum-plus (λ n. one_if (bytes_eq n e.key)) (λ n. count_by (λ (x : Entry). bytes_eq n x.key) es) ns ∙ rw (one, rest) (omega arith)

any-name : (e : Entry) (front es : List Entry) → list_any (bytes_eq e.key) (names_in (front ++ e ∷ es)) ≡ true
any-name e [] es = rw (bytes_eq-itself e.key) refl
any-name e (x ∷ front) es = elim (cases_Bool (bytes_eq e.key x.key)) [
  | inl h ↦ rw h refl
  | inr h ↦ rw h (any-name e front es)
]

-- the name of each entry is among the distinct names, where more entries come before them
pub each-named : (front es : List Entry) → AllByRecursion (λ e. list_any (bytes_eq e.key) (distinct (names_in (front ++ es))) ≡ true) es
each-named front [] = tt
each-named front (e ∷ es) =
    let here = any-distinct e.key (names_in (front ++ e ∷ es)) ∙ any-name e front es in
    let rest = each-named (front ++ e ∷ []) es in
    (here, rw (append_assoc front (e ∷ []) es) at rest)

-- the keys have one operation for each entry
pub ops-as-many : (es : List Entry) → sum_by (λ key. length key.ops) (keys_of es) ≡ length es
ops-as-many es =
    let ns = distinct (names_in es) in
    sum-of-map (λ (k : KeyOps). length k.ops) (key_ops es) ns
    ∙ sum-same _ _ (λ n. length-map (entries_on n es) (op_of (values_of (entries_on n es))) ∙ length-filter (λ (e : Entry). bytes_eq n e.key) es) ns
    ∙ counts-on ns (IsDistinct-distinct (names_in es)) es (each-named [] es)

-- and each record leaves an operation or was skipped
pub skipped-and-kept : (es : List Entry) → (history_of es).skipped + sum_by (λ key. length key.ops) (history_of es).keys ≡ (history_of es).records
skipped-and-kept es =
    let both = length-filter_both is_skipped (λ (x : Entry). not (is_skipped x)) (λ _. refl) es in
    let skips = length-filter is_skipped es in
    rw (history-keys es, history-skipped es, history-records es, ops-as-many (kept es)) (omega arith)
