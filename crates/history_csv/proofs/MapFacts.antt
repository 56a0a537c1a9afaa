-- The keys of a map, and the keys of the entries so far with one more.
use Rattle.std.proofs.Common.{◌≡◌, ℕ, suc, ◌+◌, Bool, true, false, not, List, [], ◌∷◌, ◌++◌, Some, map, filter, set, slice_get, refl, sym, ◌∙◌, ap, inl, inr, arith}
use Rattle.std.proofs.lemmas.Bool.{cases_Bool}
use Rattle.std.proofs.lemmas.List.{append-nil, map_push}
use Rattle.std.proofs.lemmas.List.Elements.{filter-append}
use Rattle.std.specs.List.{AllByRecursion, IsDistinct, list_any, position_or_len}
use Rattle.std.specs.Str.{bytes_eq}
use Rattle.stale_model.specs.declared.KeyOps.{KeyOps}
use Rattle.history_csv.specs.Entries.{Entry}
use Rattle.history_csv.specs.Numbering.{contents_of, distinct, entries_on, key_ops, keys_of, named}
use Rattle.history_csv.specs.Building.{with_key, with_text}
use Rattle.history_csv.specs.Parting.{names_in}
use Rattle.history_csv.proofs.Distinct.{any-distinct, bytes_eq-flip, bytes_eq-itself, distinct-push, same_text}
use Rattle.history_csv.proofs.KeyFacts.{map-agree}
use Rattle.history_csv.proofs.Places.{list_any-map, position_or_len-map}

-- ---- distinct names differ

others-differ : (n : List ℕ) (xs : List (List ℕ)) → AllByRecursion (λ y. bytes_eq n y ≡ false) (filter (λ o. not (bytes_eq n o)) xs)
others-differ n [] = tt
others-differ n (x ∷ xs) = elim (cases_Bool (bytes_eq n x)) [
  | inl e ↦ rw e (others-differ n xs)
  | inr e ↦ rw e (e, others-differ n xs)
]

pub all-filter : {X : Type 0} (P : X → Type 0) (p : X → Bool) (xs : List X) → AllByRecursion P xs → AllByRecursion P (filter p xs)
all-filter P p [] all = tt
all-filter P p (x ∷ xs) all = elim (cases_Bool (p x)) [
  | inl e ↦ rw e (all.0, all-filter P p xs all.1)
  | inr e ↦ rw e (all-filter P p xs all.1)
]

distinct-filter : (p : List ℕ → Bool) (xs : List (List ℕ)) → IsDistinct bytes_eq xs → IsDistinct bytes_eq (filter p xs)
unfolding IsDistinct
distinct-filter p [] d = tt
distinct-filter p (x ∷ xs) d = elim (cases_Bool (p x)) [
  | inl e ↦ rw e (all-filter (λ y. bytes_eq x y ≡ false) p xs d.0, distinct-filter p xs d.1)
  | inr e ↦ rw e (distinct-filter p xs d.1)
]

pub IsDistinct-distinct : (ns : List (List ℕ)) → IsDistinct bytes_eq (distinct ns)
unfolding IsDistinct
IsDistinct-distinct [] = tt
IsDistinct-distinct (n ∷ ns) = (others-differ n (distinct ns), distinct-filter (λ o. not (bytes_eq n o)) (distinct ns) (IsDistinct-distinct ns))

-- ---- one entry more changes the key of its name alone

entries-on-other : (es : List Entry) (e : Entry) (n : List ℕ) → bytes_eq n e.key ≡ false → entries_on n (es ++ e ∷ []) ≡ entries_on n es
entries-on-other es e n differs = filter-append (λ (x : Entry). bytes_eq n x.key) es (e ∷ []) ∙ rw differs (append-nil (entries_on n es))

pub entries-on-own : (es : List Entry) (e : Entry) → entries_on e.key (es ++ e ∷ []) ≡ entries_on e.key es ++ e ∷ []
entries-on-own es e = filter-append (λ (x : Entry). bytes_eq e.key x.key) es (e ∷ []) ∙ rw (bytes_eq-itself e.key) refl

entries-on-none : (es : List Entry) (n : List ℕ) → list_any (bytes_eq n) (names_in es) ≡ false → entries_on n es ≡ []
entries-on-none [] n none = refl
entries-on-none (e ∷ es) n none = elim (cases_Bool (bytes_eq n e.key)) [
  | inl h ↦ let no = rw h at none in cc
  | inr h ↦ let rest = entries-on-none es n (rw h at none) in rw h rest
]

pub key-other : (es : List Entry) (e : Entry) (n : List ℕ) → bytes_eq n e.key ≡ false → key_ops (es ++ e ∷ []) n ≡ key_ops es n
key-other es e n differs = ap (λ l. named n (contents_of l)) (entries-on-other es e n differs)

-- ---- the place of a name among keys that are made of distinct names

-- a list of keys made of names by g, where f makes the same keys of all names but k
pub set-there : (f g : List ℕ → KeyOps) (k : List ℕ) → ((n : List ℕ) → bytes_eq n k ≡ false → g n ≡ f n) → (ns : List (List ℕ)) → IsDistinct bytes_eq ns → list_any (bytes_eq k) ns ≡ true
    → map g ns ≡ set (map f ns) (position_or_len (bytes_eq k) ns) (g k)
unfolding IsDistinct
set-there f g k same [] d there = cc
set-there f g k same (n ∷ ns) d there = elim (cases_Bool (bytes_eq k n)) [
  | inl e ↦
      let is_k : k ≡ n = same_text k n e in
      let rest : map g ns ≡ map f ns = map-agree g f (λ y. bytes_eq n y ≡ false) (λ y differs. same y (bytes_eq-flip y k ∙ rw is_k differs)) ns d.0 in
      rw (e, is_k, rest) refl
  | inr e ↦
      let first : g n ≡ f n = same n (bytes_eq-flip n k ∙ e) in
      let rest = set-there f g k same ns d.1 (rw e at there) in
      let next : 1 + position_or_len (bytes_eq k) ns ≡ suc (position_or_len (bytes_eq k) ns) = omega arith in
      rw (e, next, first, rest) refl
]

set-new : (f g : List ℕ → KeyOps) (k : List ℕ) → ((n : List ℕ) → bytes_eq n k ≡ false → g n ≡ f n) → (ns : List (List ℕ)) → list_any (bytes_eq k) ns ≡ false → (x : KeyOps)
    → map g (ns ++ k ∷ []) ≡ set (map f ns ++ x ∷ []) (position_or_len (bytes_eq k) ns) (g k)
set-new f g k same [] new x = refl
set-new f g k same (n ∷ ns) new x = elim (cases_Bool (bytes_eq k n)) [
  | inl e ↦ let no = rw e at new in cc
  | inr e ↦
      let first : g n ≡ f n = same n (bytes_eq-flip n k ∙ e) in
      let rest = set-new f g k same ns (rw e at new) x in
      let next : 1 + position_or_len (bytes_eq k) ns ≡ suc (position_or_len (bytes_eq k) ns) = omega arith in
      rw (e, next, first, rest) refl
]

pub get-there : (f : List ℕ → KeyOps) (k : List ℕ) (ns : List (List ℕ)) → list_any (bytes_eq k) ns ≡ true → slice_get (map f ns) (position_or_len (bytes_eq k) ns) ≡ Some (f k)
get-there f k [] there = cc
get-there f k (n ∷ ns) there = elim (cases_Bool (bytes_eq k n)) [
  | inl e ↦ rw e (ap (λ m. Some (f m)) (sym (same_text k n e)))
  | inr e ↦
      let next : 1 + position_or_len (bytes_eq k) ns ≡ suc (position_or_len (bytes_eq k) ns) = omega arith in
      rw (e, next) (get-there f k ns (rw e at there))
]

get-new : (f : List ℕ → KeyOps) (k : List ℕ) (ns : List (List ℕ)) → list_any (bytes_eq k) ns ≡ false → (x : KeyOps) → slice_get (map f ns ++ x ∷ []) (position_or_len (bytes_eq k) ns) ≡ Some x
get-new f k [] new x = refl
get-new f k (n ∷ ns) new x = elim (cases_Bool (bytes_eq k n)) [
  | inl e ↦ let no = rw e at new in cc
  | inr e ↦
      let next : 1 + position_or_len (bytes_eq k) ns ≡ suc (position_or_len (bytes_eq k) ns) = omega arith in
      rw (e, next) (get-new f k ns (rw e at new) x)
]

-- ---- the keys of the entries so far

-- whether a key has this name
abbrev pub is_named : List ℕ → KeyOps → Bool
is_named name key = bytes_eq name key.name

-- the place of a name among the keys of entries
abbrev pub key_place : List Entry → List ℕ → ℕ
key_place es k = position_or_len (is_named k) (keys_of es)

place-of-name : (es : List Entry) (k : List ℕ) → key_place es k ≡ position_or_len (bytes_eq k) (distinct (names_in es))
place-of-name es k = position_or_len-map (is_named k) (key_ops es) (distinct (names_in es))

any-of-name : (es : List Entry) (k : List ℕ) → list_any (is_named k) (keys_of es) ≡ list_any (bytes_eq k) (distinct (names_in es))
any-of-name es k = list_any-map (is_named k) (key_ops es) (distinct (names_in es))

pub names-push : (es : List Entry) (e : Entry) → distinct (names_in (es ++ e ∷ [])) ≡ with_text (distinct (names_in es)) e.key
names-push es e = ap distinct (map_push (λ (x : Entry). x.key) es e) ∙ distinct-push (names_in es) e.key

-- the key of a new name holds nothing
new-key : (es : List Entry) (k : List ℕ) → list_any (bytes_eq k) (distinct (names_in es)) ≡ false → key_ops es k ≡ named k (contents_of [])
new-key es k none = ap (λ l. named k (contents_of l)) (entries-on-none es k (sym (any-distinct k (names_in es)) ∙ none))

-- the key of the next entry, before it
pub key-before : (es : List Entry) (k : List ℕ) → slice_get (with_key (keys_of es) k) (key_place es k) ≡ Some (key_ops es k)
key-before es k = elim (cases_Bool (list_any (bytes_eq k) (distinct (names_in es)))) [
  | inl h ↦ rw (any-of-name es k, h, place-of-name es k) (get-there (key_ops es) k (distinct (names_in es)) h)
  | inr h ↦ rw (any-of-name es k, h, place-of-name es k, new-key es k h) (get-new (key_ops es) k (distinct (names_in es)) h (named k (contents_of [])))
]

-- and after it
pub keys-push : (es : List Entry) (e : Entry) → keys_of (es ++ e ∷ []) ≡ set (with_key (keys_of es) e.key) (key_place es e.key) (key_ops (es ++ e ∷ []) e.key)
keys-push es e = elim (cases_Bool (list_any (bytes_eq e.key) (distinct (names_in es)))) [
  | inl h ↦
      let names : distinct (names_in (es ++ e ∷ [])) ≡ distinct (names_in es) = names-push es e ∙ rw h refl in
      rw (names, any-of-name es e.key, h, place-of-name es e.key) (set-there (key_ops es) (key_ops (es ++ e ∷ [])) e.key (key-other es e) (distinct (names_in es)) (IsDistinct-distinct (names_in es)) h)
  | inr h ↦
      let names : distinct (names_in (es ++ e ∷ [])) ≡ distinct (names_in es) ++ e.key ∷ [] = names-push es e ∙ rw h refl in
      rw (names, any-of-name es e.key, h, place-of-name es e.key) (set-new (key_ops es) (key_ops (es ++ e ∷ [])) e.key (key-other es e) (distinct (names_in es)) h (named e.key (contents_of [])))
]
