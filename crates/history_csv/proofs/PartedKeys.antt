-- The keys of entries are the keys of their parts, in the order of their first records.
use Rattle.std.proofs.Common.{◌≡◌, ℕ, zero, suc, ◌+◌, ◌<◌, ◌≤◌, Bool, true, false, not, List, [], ◌∷◌, ◌++◌, map, filter, refl, sym, ◌∙◌, ap, inl, inr, subst, arith}
use Rattle.std.specs.Prelude.{◌==◌}
use Rattle.std.specs.List.{AllByRecursion, flat_map, range_with_len}
use Rattle.std.specs.List.Sorted.{IsPermutation, IsSorted, IsStrictlyIncreasing}
use Rattle.std.specs.Ordering.{nat_cmp, on}
use Rattle.std.specs.Str.{bytes_eq}
use Rattle.std.proofs.lemmas.Bool.{cases_Bool, eqb-true, ne_eqb, eq-eqb, both_ways}
use Rattle.std.proofs.lemmas.Cmp.{nat_cmp_total, on_total, ranked}
use Rattle.std.proofs.lemmas.List.{map-append}
use Rattle.std.proofs.lemmas.List.Sorted.{IsPermutation-append_right, IsPermutation-filter_both, IsPermutation-map, IsPermutation-refl, IsPermutation-trans}
use Rattle.stale_model.specs.declared.KeyOps.{KeyOps}
use Rattle.stale_model.proofs.Sorted.{rising_no_repeats, rising_sorted, sorted_orders_are_one}
use Rattle.history_csv.specs.Entries.{Entry}
use Rattle.history_csv.specs.Numbering.{contents_of, distinct, entries_on, key_ops, keys_of, named, op_of, values_of}
use Rattle.history_csv.specs.Parting.{Rise, entries_in, first_record, names_in, with_first}
use Rattle.history_csv.proofs.Distinct.{bytes_eq-flip, bytes_eq-itself, same_text}
use Rattle.history_csv.proofs.MapFacts.{all-filter}

-- ---- lists that are filtered

-- a second test that holds wherever the first does keeps the same
filter-within : {X : Type 0} (p q : X → Bool) → ((x : X) → p x ≡ true → q x ≡ true) → (xs : List X) → filter p (filter q xs) ≡ filter p xs
filter-within p q within [] = refl
filter-within p q within (x ∷ xs) = elim (cases_Bool (q x)) [
  | inl kept ↦ rw (kept, filter-within p q within xs) refl
  | inr left ↦ elim (cases_Bool (p x)) [
    | inl passes ↦ let no = within x passes in cc
    | inr fails ↦ rw (left, fails) (filter-within p q within xs)
  ]
]

filter-swap : {X : Type 0} (p q : X → Bool) (xs : List X) → filter p (filter q xs) ≡ filter q (filter p xs)
filter-swap p q [] = refl
filter-swap p q (x ∷ xs) = elim (cases_Bool (p x)) [
  | inl holds ↦ elim (cases_Bool (q x)) [
    | inl kept ↦ rw (holds, kept, holds, filter-swap p q xs) refl
    | inr left ↦ rw (holds, left) (filter-swap p q xs)
  ]
  | inr fails ↦ elim (cases_Bool (q x)) [
    | inl kept ↦ rw (fails, kept, fails) (filter-swap p q xs)
    | inr left ↦ rw (fails, left) (filter-swap p q xs)
  ]
]

map-filtered : {X Y : Type 0} (f g : X → Y) (p : X → Bool) → ((x : X) → p x ≡ true → f x ≡ g x) → (xs : List X) → map f (filter p xs) ≡ map g (filter p xs)
map-filtered f g p same [] = refl
map-filtered f g p same (x ∷ xs) = elim (cases_Bool (p x)) [
  | inl holds ↦ rw (holds, same x holds, map-filtered f g p same xs) refl
  | inr fails ↦ rw fails (map-filtered f g p same xs)
]

-- ---- elements dealt by a number

module _ {X : Type 0} (number : X → ℕ) where
  -- the elements of each number from a on
  abbrev dealt : ℕ → ℕ → List X → List X
  dealt a n xs = flat_map (λ i. filter (λ x. number x == i) xs) (range_with_len a n)

  -- an element with a number from a on, and before n more
  abbrev IsWithin : ℕ → ℕ → X → Type 0
  IsWithin a n x = (a ≤ number x) × (number x < a + n)

  others-within : (a n : ℕ) (xs : List X) → AllByRecursion (IsWithin a (suc n)) xs → AllByRecursion (IsWithin (a + 1) n) (filter (λ x. not (number x == a)) xs)
  others-within a n [] all = tt
  others-within a n (x ∷ xs) all = elim (cases_Bool (number x == a)) [
    | inl same ↦ rw same (others-within a n xs all.1)
    | inr differs ↦
        let (low, high) = all.0 in
        let apart : (number x ≡ a) → ⊥ = λ e. both_ways (number x == a) differs (eq-eqb (number x) a e) in
        let above : a + 1 ≤ number x = grind (arith, apart) in
        rw differs ((above, omega arith), others-within a n xs all.1)
  ]

  -- what was taken before is missed by none of the later numbers
  dealt-others : (a b n : ℕ) (xs : List X) → a < b → dealt b n (filter (λ x. not (number x == a)) xs) ≡ dealt b n xs
  dealt-others a b zero xs before = refl
  dealt-others a b (suc n) xs before =
      let here : filter (λ x. number x == b) (filter (λ x. not (number x == a)) xs) ≡ filter (λ x. number x == b) xs =
      filter-within (λ x. number x == b) (λ x. not (number x == a)) (λ x is. let e = eqb-true (number x) b is in let differs = ne_eqb (number x) a (λ f. omega (arith, e, f)) in rw differs refl) xs in
      rw (here, dealt-others a (b + 1) n xs (omega arith)) refl

  dealt-permutes : (n a : ℕ) (xs : List X) → AllByRecursion (IsWithin a n) xs → IsPermutation xs (dealt a n xs)
  dealt-permutes zero a [] all = IsPermutation-refl []
  dealt-permutes zero a (x ∷ xs) all = absurd (let (low, high) = all.0 in omega arith)
  dealt-permutes (suc n) a xs all =
      let is : X → Bool = λ x. number x == a in
      let isnt : X → Bool = λ x. not (number x == a) in
      let both = IsPermutation-filter_both is isnt (λ x. refl) xs in
      let rest = dealt-permutes n (a + 1) (filter isnt xs) (others-within a n xs all) in
      let rest_all = subst (λ (ys : List X). IsPermutation (filter isnt xs) ys) (dealt-others a (a + 1) n xs (omega arith)) rest in
      IsPermutation-trans xs (filter is xs ++ filter isnt xs) (filter is xs ++ dealt (a + 1) n xs) both (IsPermutation-append_right (filter is xs) (filter isnt xs) (dealt (a + 1) n xs) rest_all)

map-flat_map : {I X Y : Type 0} (f : X → Y) (g : I → List X) (is : List I) → map f (flat_map g is) ≡ flat_map (λ i. map f (g i)) is
map-flat_map f g [] = refl
map-flat_map f g (i ∷ is) = rw (← map-flat_map f g is) (map-append f (g i) (flat_map g is))

flat_map-agree : {I X : Type 0} (f g : I → List X) → ((i : I) → f i ≡ g i) → (is : List I) → flat_map f is ≡ flat_map g is
flat_map-agree f g same [] = refl
flat_map-agree f g same (i ∷ is) = rw (same i, flat_map-agree f g same is) refl

-- ---- the first entry of each key

-- whether an entry is on another key
abbrev is_other : Entry → Entry → Bool
is_other e x = not (bytes_eq e.key x.key)

-- the first entry of each key, in order
abbrev pub firsts : List Entry → List Entry
firsts [] = []
firsts (e ∷ es) = e ∷ filter (is_other e) (firsts es)

all-firsts : (P : Entry → Type 0) (es : List Entry) → AllByRecursion P es → AllByRecursion P (firsts es)
all-firsts P [] all = tt
all-firsts P (e ∷ es) all = (all.0, all-filter P (is_other e) (firsts es) (all-firsts P es all.1))

names-others : (e : Entry) (es : List Entry) → filter (λ other. not (bytes_eq e.key other)) (names_in es) ≡ names_in (filter (is_other e) es)
names-others e [] = refl
names-others e (x ∷ es) = elim (cases_Bool (bytes_eq e.key x.key)) [
  | inl same ↦ rw same (names-others e es)
  | inr differs ↦ rw (differs, names-others e es) refl
]

-- the names of the keys are those of their first entries
names-firsts : (es : List Entry) → distinct (names_in es) ≡ names_in (firsts es)
names-firsts [] = refl
names-firsts (e ∷ es) = rw (names-firsts es, names-others e (firsts es)) refl

map-map : {X Y Z : Type 0} (g : Y → Z) (f : X → Y) (xs : List X) → map g (map f xs) ≡ map (λ x. g (f x)) xs
map-map g f [] = refl
map-map g f (x ∷ xs) = rw (map-map g f xs) refl

-- the key that an entry is on
abbrev key_at : List Entry → Entry → KeyOps
key_at es f = key_ops es f.key

keys-firsts : (es : List Entry) → keys_of es ≡ map (key_at es) (firsts es)
keys-firsts es = ap (map (key_ops es)) (names-firsts es) ∙ map-map (key_ops es) (λ (x : Entry). x.key) (firsts es)

-- the first entry of a key is the first of the entries on it
abbrev IsFirst : List Entry → Entry → Type 0
IsFirst es f = (rest : List Entry) × (entries_on f.key es ≡ f ∷ rest)

first-later : (e : Entry) (es fs : List Entry) → AllByRecursion (IsFirst es) fs → AllByRecursion (IsFirst (e ∷ es)) (filter (is_other e) fs)
first-later e es [] all = tt
first-later e es (f ∷ fs) all = elim (cases_Bool (bytes_eq e.key f.key)) [
  | inl same ↦ rw same (first-later e es fs all.1)
  | inr differs ↦
      let back : bytes_eq f.key e.key ≡ false = bytes_eq-flip f.key e.key ∙ differs in
      rw (differs, back) (all.0, first-later e es fs all.1)
]

firsts-are : (es : List Entry) → AllByRecursion (IsFirst es) (firsts es)
firsts-are [] = tt
firsts-are (e ∷ es) =
    let own : bytes_eq e.key e.key ≡ true = bytes_eq-itself e.key in
    ((entries_on e.key es, rw own refl), first-later e es (firsts es) (firsts-are es))

-- ---- entries whose records rise

pub rise-filter : (p : Entry → Bool) (es : List Entry) → Rise es → Rise (filter p es)
rise-filter p [] rise = tt
rise-filter p (e ∷ es) rise = elim (cases_Bool (p e)) [
  | inl holds ↦ rw holds (all-filter (λ x. e.rec < x.rec) p es rise.0, rise-filter p es rise.1)
  | inr fails ↦ rw fails (rise-filter p es rise.1)
]

rise-firsts : (es : List Entry) → Rise es → Rise (firsts es)
rise-firsts [] rise = tt
rise-firsts (e ∷ es) rise = (
  all-filter (λ x. e.rec < x.rec) (is_other e) (firsts es) (all-firsts (λ x. e.rec < x.rec) es rise.0),
  rise-filter (is_other e) (firsts es) (rise-firsts es rise.1),
)

rising : (f : Entry → ℕ) → (es : List Entry) → AllByRecursion (λ e. f e ≡ e.rec) es → Rise es → IsStrictlyIncreasing (map f es)
rising f [] at rise k h = absurd (omega arith)
rising f (e ∷ []) at rise k h = absurd (omega arith)
rising f (e ∷ g ∷ es) at rise zero h = let a = at.0 in let b = at.1.0 in let l = rise.0.0 in omega arith
rising f (e ∷ g ∷ es) at rise (suc k) h = let next : suc k + 1 ≡ suc (k + 1) = omega arith in rw next (rising f (g ∷ es) at.1 rise.1 k (omega arith))

-- ---- the parts

module _ (part : List ℕ → ℕ) where
  module _ (i : ℕ) where
    -- whether an entry is in the part
    abbrev is_in : Entry → Bool
    is_in e = part e.key == i

    firsts-in : (es : List Entry) → firsts (entries_in part es i) ≡ filter is_in (firsts es)
    firsts-in [] = refl
    firsts-in (e ∷ es) = elim (cases_Bool (part e.key == i)) [
      | inl holds ↦ rw (holds, firsts-in es, filter-swap (is_other e) is_in (firsts es)) refl
      | inr fails ↦
          let others : filter is_in (filter (is_other e) (firsts es)) ≡ filter is_in (firsts es) =
          filter-within is_in (is_other e) (λ x is. elim (cases_Bool (bytes_eq e.key x.key)) [
            | inl same ↦ let is_no = rw (← same_text e.key x.key same) at is in cc
            | inr differs ↦ rw differs refl
          ]) (firsts es) in
          rw (fails, others) (firsts-in es)
    ]

    entries-on-in : (es : List Entry) (n : List ℕ) → (part n == i) ≡ true → entries_on n (entries_in part es i) ≡ entries_on n es
    entries-on-in es n holds = filter-within (λ (x : Entry). bytes_eq n x.key) is_in (λ x same. rw (← same_text n x.key same) holds) es

    key-in : (es : List Entry) (e : Entry) → is_in e ≡ true → key_at (entries_in part es i) e ≡ key_at es e
    key-in es e holds = ap (λ l. named e.key (contents_of l)) (entries-on-in es e.key holds)

    keys-in : (es : List Entry) → keys_of (entries_in part es i) ≡ map (key_at es) (filter is_in (firsts es))
    keys-in es = keys-firsts (entries_in part es i) ∙ ap (map (key_at (entries_in part es i))) (firsts-in es) ∙ map-filtered (key_at (entries_in part es i)) (key_at es) is_in (key-in es) (firsts es)

  -- a key beside its first record
  abbrev first_at : List Entry → Entry → ℕ × KeyOps
  first_at es f = with_first (key_at es f)

  all-parts : (es : List Entry) (count : ℕ)
      → map with_first (flat_map (λ i. keys_of (entries_in part es i)) (range_with_len 0 count)) ≡ map (first_at es) (flat_map (λ i. filter (is_in i) (firsts es)) (range_with_len 0 count))
  all-parts es count =
      let is = range_with_len 0 count in
      ap (map with_first) (flat_map-agree (λ i. keys_of (entries_in part es i)) (λ i. map (key_at es) (filter (is_in i) (firsts es))) (λ i. keys-in i es) is ∙ sym (map-flat_map (key_at es) (λ i. filter (is_in i) (firsts es)) is))
      ∙ map-map with_first (key_at es) (flat_map (λ i. filter (is_in i) (firsts es)) is)

  all-within : (count : ℕ) → ((name : List ℕ) → part name < count) → (es : List Entry) → AllByRecursion (IsWithin (λ (e : Entry). part e.key) 0 count) es
  all-within count few [] = tt
  all-within count few (e ∷ es) = ((omega arith, let l = few e.key in omega arith), all-within count few es)

  parts-permute : (count : ℕ) → ((name : List ℕ) → part name < count) → (es : List Entry)
      → IsPermutation (map (first_at es) (firsts es)) (map with_first (flat_map (λ i. keys_of (entries_in part es i)) (range_with_len 0 count)))
  parts-permute count few es =
      rw (all-parts es count) (IsPermutation-map (first_at es) (firsts es) _ (dealt-permutes (λ (e : Entry). part e.key) count 0 (firsts es) (all-within count few (firsts es))))

  record-at : (es : List Entry) (fs : List Entry) → AllByRecursion (IsFirst es) fs → AllByRecursion (λ f. first_record (key_at es f).ops ≡ f.rec) fs
  record-at es [] all = tt
  record-at es (f ∷ fs) all =
      let (rest, is) = all.0 in
      (ap (λ l. first_record (map (op_of (values_of (entries_on f.key es))) l)) is, record-at es fs all.1)

  -- the keys of all parts, in the order of their first records, are the keys of the entries
  pub parted-keys : (count : ℕ) → ((name : List ℕ) → part name < count) → (es : List Entry) → Rise es → (found sorted : List (ℕ × KeyOps))
      → found ≡ map with_first (flat_map (λ i. keys_of (entries_in part es i)) (range_with_len 0 count)) → IsPermutation found sorted → IsSorted (on (λ (x : ℕ × KeyOps). x.0) nat_cmp) sorted → map (λ (x : ℕ × KeyOps). x.1) sorted ≡ keys_of es
  parted-keys count few es rise found sorted are permuted up =
      let first : ℕ × KeyOps → ℕ = λ x. x.0 in
      let keyed = map (first_at es) (firsts es) in
      let records : map first keyed ≡ map (λ f. first_record (key_at es f).ops) (firsts es) = map-map first (first_at es) (firsts es) in
      let rises : IsStrictlyIncreasing (map first keyed) = rw records (rising (λ f. first_record (key_at es f).ops) (firsts es) (record-at es (firsts es) (firsts-are es)) (rise-firsts es rise)) in
      let from_keyed = IsPermutation-trans keyed _ sorted (parts-permute count few es) (rw are at permuted) in
      let one : sorted ≡ keyed = sorted_orders_are_one (on first nat_cmp) first (on_total first nat_cmp_total) (λ x y e. ranked x.0 y.0 _ (sym e)) keyed sorted keyed (rising_no_repeats (map first keyed) rises) from_keyed (IsPermutation-refl keyed) up (rising_sorted first keyed rises) in
      ap (map (λ (x : ℕ × KeyOps). x.1)) one ∙ map-map (λ (x : ℕ × KeyOps). x.1) (first_at es) (firsts es) ∙ sym (keys-firsts es)
