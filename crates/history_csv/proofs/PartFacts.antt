-- The names of the keys of a part, and its keys, one more entry at a time.
use Rattle.std.proofs.Common.{◌≡◌, ℕ, zero, suc, ◌+◌, ◌<◌, Bool, true, List, [], ◌∷◌, ◌++◌, All, Bor, Some, length, map, set, take, get_or, slice_get, refl, sym, ◌∙◌, ap, subst, inl, inr, add-one}
use Rattle.std.proofs.lemmas.Bool.{cases_Bool}
use Rattle.std.proofs.lemmas.List.{get_or-map, map_push}
use Rattle.std.proofs.lemmas.List.Elements.{All-from_recursion, All-map}
use Rattle.std.proofs.lemmas.Option.{get_or_from_slice_get}
use Rattle.std.specs.List.{AllByRecursion, list_any, position_or_len}
use Rattle.std.specs.Str.{bytes_eq}
use Rattle.stale_model.specs.declared.KeyOps.{KeyOps}
use Rattle.stale_model.specs.declared.Op.{Op}
use Rattle.history_csv.specs.Entries.{Entry}
use Rattle.history_csv.specs.Numbering.{contents_of, distinct, entries_on, key_ops, named, value_number}
use Rattle.history_csv.specs.Building.{op_numbered, with_text, with_value}
use Rattle.history_csv.specs.Parting.{names_in, place_in, slices_shown}
use Rattle.history_csv.proofs.Counts.{each-named}
use Rattle.history_csv.proofs.Distinct.{bytes_eq-itself}
use Rattle.history_csv.proofs.KeyFacts.{contents-grow, map-agree, position-of-last, position-stays}
use Rattle.history_csv.proofs.MapFacts.{IsDistinct-distinct, entries-on-own, get-there, key-other, names-push, set-there}
use Rattle.history_csv.proofs.MapShown.{contents_in}
use Rattle.history_csv.proofs.Places.{place-within, some_of}

-- ---- places among names

place-stays : (ns : List (List ℕ)) (t n : List ℕ) → list_any (bytes_eq n) ns ≡ true → position_or_len (bytes_eq n) (with_text ns t) ≡ position_or_len (bytes_eq n) ns
place-stays ns t n there = elim (cases_Bool (list_any (bytes_eq t) ns)) [
  | inl h ↦ rw h refl
  | inr h ↦ rw h (position-stays (bytes_eq n) ns t there)
]

place-of-new : (ns : List (List ℕ)) (t : List ℕ) → position_or_len (bytes_eq t) (with_text ns t) ≡ position_or_len (bytes_eq t) ns
place-of-new ns t = elim (cases_Bool (list_any (bytes_eq t) ns)) [
  | inl h ↦ rw h refl
  | inr h ↦ rw h (position-of-last (bytes_eq t) ns t (bytes_eq-itself t))
]

-- an entry whose key has one of these names
abbrev pub IsNamed : List (List ℕ) → Entry → Type 0
IsNamed ns e = list_any (bytes_eq e.key) ns ≡ true

-- one more entry: its name, and the places
pub places-push : (es : List Entry) (e : Entry) (ns : List (List ℕ)) → ns ≡ distinct (names_in es) → map (place_in (with_text ns e.key)) (es ++ e ∷ []) ≡ map (place_in ns) es ++ place_in ns e ∷ []
places-push es e ns are =
    let before : map (place_in (with_text ns e.key)) es ≡ map (place_in ns) es =
    map-agree (place_in (with_text ns e.key)) (place_in ns) (IsNamed ns) (λ x named. place-stays ns e.key x.key named) es (rw are (each-named [] es)) in
    map_push (place_in (with_text ns e.key)) es e ∙ rw (before, place-of-new ns e.key) refl

at-recursion : {X : Type 0} (P : X → Type 0) (xs : List X) (i : ℕ) (x : X) → AllByRecursion P xs → slice_get xs i ≡ Some x → P x
at-recursion P [] i x all at = cc
at-recursion P (y ∷ ys) zero x all at = subst P (some_of y x at) all.0
at-recursion P (y ∷ ys) (suc i) x all at = at-recursion P ys i x all.1 at

mapped-at : {X Y : Type 0} (f : X → Y) (xs : List X) (i : ℕ) (x : X) (d : Y) → slice_get xs i ≡ Some x → get_or (map f xs) i d ≡ f x
mapped-at f [] i x d at = cc
mapped-at f (y ∷ ys) zero x d at = ap f (some_of y x at)
mapped-at f (y ∷ ys) (suc i) x d at = mapped-at f ys i x d at

taken-next : {X : Type 0} (xs : List X) (i : ℕ) (x : X) → slice_get xs i ≡ Some x → take (suc i) xs ≡ take i xs ++ x ∷ []
taken-next [] i x at = cc
taken-next (y ∷ ys) zero x at = ap (λ z. z ∷ []) (some_of y x at)
taken-next (y ∷ ys) (suc i) x at = ap (λ l. y ∷ l) (taken-next ys i x at)

taken-more : {X : Type 0} (xs : List X) (i : ℕ) (x : X) → slice_get xs i ≡ Some x → take (i + 1) xs ≡ take i xs ++ x ∷ []
taken-more xs i x at = rw add-one (taken-next xs i x at)

-- the places of all entries are among the names
pub all-low : (es : List Entry) → All (λ place. place < length (distinct (names_in es))) (map (place_in (distinct (names_in es))) es)
all-low es =
    let ns = distinct (names_in es) in
    let named = All-from_recursion (IsNamed ns) es (each-named [] es) in
    All-map (λ place. place < length ns) (place_in ns) es (λ k d h. place-within (bytes_eq (get_or es k d).key) ns (named k d h))

-- ---- a loop over entries, at its next entry

module _ (es : List Entry) (i : ℕ) (e : Entry) (at : slice_get es i ≡ Some e) where
  -- the names, and the places among them
  pub names-taken : (old new : List (List ℕ)) → old ≡ distinct (names_in (take i es)) → new ≡ with_text old e.key → new ≡ distinct (names_in (take (i + 1) es))
  names-taken old new were are = rw (taken-more es i e at) (are ∙ ap (λ ns. with_text ns e.key) were ∙ sym (names-push (take i es) e))

  pub places-taken : (old : List (List ℕ)) (places : List ℕ) (place : ℕ) → old ≡ distinct (names_in (take i es)) → places ≡ map (place_in (distinct (names_in (take i es)))) (take i es) → place ≡ position_or_len (bytes_eq e.key) old
      → places ++ place ∷ [] ≡ map (place_in (distinct (names_in (take (i + 1) es)))) (take (i + 1) es)
  places-taken old places place were are is =
      let ns = distinct (names_in (take i es)) in
      rw (taken-more es i e at, names-push (take i es) e) (ap (λ l. l ++ place ∷ []) are ∙ ap (λ p. map (place_in ns) (take i es) ++ p ∷ []) (is ∙ ap (position_or_len (bytes_eq e.key)) were) ∙ sym (places-push (take i es) e ns refl))

  -- the keys of all names, with the entries so far
  there : list_any (bytes_eq e.key) (distinct (names_in es)) ≡ true
  there = at-recursion (IsNamed (distinct (names_in es))) es i e (each-named [] es) at

  pub place-at : get_or (map (place_in (distinct (names_in es))) es) i 0 ≡ place_in (distinct (names_in es)) e
  place-at = mapped-at (place_in (distinct (names_in es))) es i e 0 at

  pub place-low : place_in (distinct (names_in es)) e < length (distinct (names_in es))
  place-low = place-within (bytes_eq e.key) (distinct (names_in es)) there

  pub key-held : (keys : List KeyOps) (place : ℕ) (key : KeyOps) → keys ≡ map (key_ops (take i es)) (distinct (names_in es)) → place ≡ place_in (distinct (names_in es)) e → key ≡ get_or keys place key → key ≡ key_ops (take i es) e.key
  key-held keys place key are is held =
      held ∙ rw (are, is) (get_or_from_slice_get (map (key_ops (take i es)) (distinct (names_in es))) (place_in (distinct (names_in es)) e) (key_ops (take i es) e.key) key (get-there (key_ops (take i es)) e.key (distinct (names_in es)) there))

  pub keys-taken : (keys : List KeyOps) (place : ℕ) (key : KeyOps) → keys ≡ map (key_ops (take i es)) (distinct (names_in es)) → place ≡ place_in (distinct (names_in es)) e
      → key ≡ named e.key (contents_of (entries_on e.key (take i es) ++ e ∷ [])) → set keys place key ≡ map (key_ops (take (i + 1) es)) (distinct (names_in es))
  keys-taken keys place key are is grown =
      let front = take i es in
      let own : key ≡ key_ops (front ++ e ∷ []) e.key = grown ∙ sym (ap (λ l. named e.key (contents_of l)) (entries-on-own front e)) in
      let after = set-there (key_ops front) (key_ops (front ++ e ∷ [])) e.key (key-other front e) (distinct (names_in es)) (IsDistinct-distinct (names_in es)) there in
      rw (are, is, own, taken-more es i e at) (sym after)

-- ---- one more entry of a key

pub key-grow : (old new key : KeyOps) (number : ℕ) (items : List Op) (name : List ℕ) (es : List Entry) (e : Entry) → old ≡ named name (contents_of es) → new.values ≡ with_value old.values e.value → new.ops ≡ old.ops → new.name ≡ old.name → number ≡ value_number old.values e.value
    → items ≡ new.ops ++ op_numbered number e ∷ [] → key.name ≡ new.name → key.values ≡ new.values → key.ops ≡ items → key ≡ named name (contents_of (es ++ e ∷ []))
key-grow old new key number items name es e shown values ops names numbered pushed name_stays values_stay ops_are =
    let grown = contents-grow (contents_in old) (contents_in new) number items es e (ap contents_in shown) values ops numbered pushed (contents_in key) values_stay ops_are in
    let own : key.name ≡ name = name_stays ∙ names ∙ ap (λ (k : KeyOps). k.name) shown in
    ap (named key.name) grown ∙ ap (λ n. named n (contents_of (es ++ e ∷ []))) own

-- ---- texts that slices lend

pub shown-at : (text : List ℕ) (texts : List (Bor (List ℕ))) (i : ℕ) (b : Bool) (d : Bor (List ℕ)) → i < length texts → b ≡ bytes_eq text (get_or texts i d).now → b ≡ bytes_eq text (get_or (slices_shown texts) i [])
shown-at text texts i b d low is = is ∙ ap (bytes_eq text) (sym (get_or-map (λ (slice : Bor (List ℕ)). slice.now) texts i d [] low))
