-- What a key holds, one more entry at a time.
use Rattle.std.proofs.Common.{◌≡◌, ℕ, ◌≤◌, Bool, true, false, not, ◌||◌, List, [], ◌∷◌, ◌++◌, map, filter, length, unwrap_or, refl, sym, ◌∙◌, ap, inl, inr, arith}
use Rattle.std.proofs.lemmas.Bool.{cases_Bool}
use Rattle.std.proofs.lemmas.List.{append-nil, append_assoc, map-append, map_push, length-map}
use Rattle.std.proofs.lemmas.List.Elements.{filter-append}
use Rattle.std.proofs.lemmas.List.Folds.{list_any-append}
use Rattle.std.proofs.lemmas.List.Sums.{count_by-le-length, length-filter}
use Rattle.std.specs.List.{AllByRecursion, list_any, position_or_len}
use Rattle.std.specs.Str.{bytes_eq}
use Rattle.stale_model.specs.declared.Op.{Op}
use Rattle.history_csv.specs.Entries.{Entry}
use Rattle.history_csv.specs.Numbering.{Contents, contents_of, distinct, is_filled, never, op_of, ops_of, value_number, values_of}
use Rattle.history_csv.specs.Building.{with_value}
use Rattle.history_csv.proofs.Distinct.{any-distinct, bytes_eq-itself, distinct-push}

-- the value that an entry writes or reads
abbrev value_in : Entry → List ℕ
value_in entry = entry.value

-- ---- the values

filled-push : (xs : List (List ℕ)) (v : List ℕ) → distinct (filter is_filled (xs ++ v ∷ [])) ≡ with_value (distinct (filter is_filled xs)) v
filled-push xs [] = ap distinct (filter-append is_filled xs ([] ∷ []) ∙ append-nil (filter is_filled xs))
filled-push xs (b ∷ v) = ap distinct (filter-append is_filled xs ((b ∷ v) ∷ [])) ∙ distinct-push (filter is_filled xs) (b ∷ v)

pub values-push : (es : List Entry) (e : Entry) → values_of (es ++ e ∷ []) ≡ with_value (values_of es) e.value
values-push es e = ap (λ vs. distinct (filter is_filled vs)) (map_push (λ (x : Entry). x.value) es e) ∙ filled-push (map value_in es) e.value

-- ---- a number stays where more values come

pub position-stays : {X : Type 0} (p : X → Bool) (xs : List X) (y : X) → list_any p xs ≡ true → position_or_len p (xs ++ y ∷ []) ≡ position_or_len p xs
position-stays p [] y h = cc
position-stays p (x ∷ xs) y h = elim (cases_Bool (p x)) [
  | inl e ↦ rw e refl
  | inr e ↦ rw (e, position-stays p xs y (rw e at h)) refl
]

pub position-of-last : {X : Type 0} (p : X → Bool) (xs : List X) (y : X) → p y ≡ true → position_or_len p (xs ++ y ∷ []) ≡ position_or_len p xs
position-of-last p [] y h = rw h refl
position-of-last p (x ∷ xs) y h = elim (cases_Bool (p x)) [
  | inl e ↦ rw e refl
  | inr e ↦ rw (e, position-of-last p xs y h) refl
]

-- a value that is among these, or empty
abbrev pub IsKnown : List (List ℕ) → List ℕ → Type 0
IsKnown vs v = is_filled v ≡ true → list_any (bytes_eq v) vs ≡ true

number-stays : (vs : List (List ℕ)) (v w : List ℕ) → IsKnown vs w → value_number (with_value vs v) w ≡ value_number vs w
number-stays vs v [] known = refl
number-stays vs [] (b ∷ w) known = refl
number-stays vs (a ∷ v) (b ∷ w) known = elim (cases_Bool (list_any (bytes_eq (a ∷ v)) vs)) [
  | inl h ↦ rw h refl
  | inr h ↦ rw (h, position-stays (bytes_eq (b ∷ w)) vs (a ∷ v) (known refl)) refl
]

number-of-new : (vs : List (List ℕ)) (v : List ℕ) → value_number (with_value vs v) v ≡ value_number vs v
number-of-new vs [] = refl
number-of-new vs (b ∷ v) = elim (cases_Bool (list_any (bytes_eq (b ∷ v)) vs)) [
  | inl h ↦ rw h refl
  | inr h ↦ rw (h, position-of-last (bytes_eq (b ∷ v)) vs (b ∷ v) (bytes_eq-itself (b ∷ v))) refl
]

-- ---- the operations

pub map-agree : {X Y : Type 0} (f g : X → Y) (P : X → Type 0) → ((x : X) → P x → f x ≡ g x) → (xs : List X) → AllByRecursion P xs → map f xs ≡ map g xs
map-agree f g P same [] all = refl
map-agree f g P same (x ∷ xs) all = rw (same x all.0, map-agree f g P same xs all.1) refl

or-true' : (a : Bool) → (a || true) ≡ true
or-true' true = refl
or-true' false = refl

value-known : (front : List Entry) (e : Entry) (es : List Entry) → IsKnown (values_of (front ++ e ∷ es)) e.value
value-known front e es filled =
    let vs = map value_in (front ++ e ∷ es) in
    let split : filter is_filled vs ≡ filter is_filled (map value_in front) ++ filter is_filled (map value_in (e ∷ es)) =
    ap (filter is_filled) (map-append (λ (x : Entry). x.value) front (e ∷ es)) ∙ filter-append is_filled (map value_in front) (map value_in (e ∷ es)) in
    let head : filter is_filled (map value_in (e ∷ es)) ≡ e.value ∷ filter is_filled (map value_in es) = rw filled refl in
    let there : list_any (bytes_eq e.value) (e.value ∷ filter is_filled (map value_in es)) ≡ true = rw (bytes_eq-itself e.value) refl in
    any-distinct e.value (filter is_filled vs) ∙ rw (split, head, list_any-append (bytes_eq e.value) (filter is_filled (map value_in front)) (e.value ∷ filter is_filled (map value_in es)), there) (or-true' (list_any (bytes_eq e.value) (filter is_filled (map value_in front))))

-- each value of the entries is among their values, where more entries come before them
pub each-known : (front es : List Entry) → AllByRecursion (λ e. IsKnown (values_of (front ++ es)) e.value) es
each-known front [] = tt
each-known front (e ∷ es) =
    let here : IsKnown (values_of (front ++ e ∷ es)) e.value = value-known front e es in
    let rest = each-known (front ++ e ∷ []) es in
    (here, rw (append_assoc front (e ∷ []) es) at rest)

op-stays : (vs : List (List ℕ)) (v : List ℕ) (e : Entry) → IsKnown vs e.value → op_of (with_value vs v) e ≡ op_of vs e
op-stays vs v e known = rw (number-stays vs v e.value known) refl

ops-push : (es : List Entry) (e : Entry) → ops_of (es ++ e ∷ []) ≡ ops_of es ++ op_of (values_of es) e ∷ []
ops-push es e =
    let vs = values_of es in
    let more : values_of (es ++ e ∷ []) ≡ with_value vs e.value = values-push es e in
    let before : map (op_of (with_value vs e.value)) es ≡ map (op_of vs) es =
    map-agree (op_of (with_value vs e.value)) (op_of vs) (λ x. IsKnown vs x.value) (op-stays vs e.value) es (each-known [] es) in
    let last : op_of (with_value vs e.value) e ≡ op_of vs e = rw (number-of-new vs e.value) refl in
    rw more (map_push (op_of (with_value vs e.value)) es e ∙ rw (before, last) refl)

same_contents : (a b : Contents) → a.values ≡ b.values → a.ops ≡ b.ops → a ≡ b
same_contents a b values ops = λ i. record { values = values i; ops = ops i }

-- one more entry of a key
pub contents-push : (es : List Entry) (e : Entry) → contents_of (es ++ e ∷ []) ≡ record { values = with_value (values_of es) e.value; ops = ops_of es ++ op_of (values_of es) e ∷ [] }
contents-push es e = same_contents _ _ (values-push es e) (ops-push es e)

-- the step of the code: the value is numbered first, and then the operation is put to the end
pub contents-grow : (old new : Contents) (number : ℕ) (items : List Op) (es : List Entry) (e : Entry) → old ≡ contents_of es → new.values ≡ with_value old.values e.value → new.ops ≡ old.ops → number ≡ value_number old.values e.value
    → items ≡ new.ops ++ record { rec = e.rec; client = e.client; kind = e.kind; value = number; start = e.start; finish = unwrap_or e.finish never; slack = e.slack } ∷ []
    → (c : Contents) → c.values ≡ new.values → c.ops ≡ items → c ≡ contents_of (es ++ e ∷ [])
contents-grow old new number items es e shown values ops numbered pushed c values_stay ops_are =
    let old_values = ap (λ (k : Contents). k.values) shown in
    let old_ops = ap (λ (k : Contents). k.ops) shown in
    same_contents _ _ (values_stay ∙ values ∙ rw old_values refl) (ops_are ∙ pushed ∙ rw (ops, old_ops, numbered, old_values) refl) ∙ sym (contents-push es e)

-- ---- how many values

pub filter-shorter : {X : Type 0} (p : X → Bool) (xs : List X) → length (filter p xs) ≤ length xs
filter-shorter p xs = omega (arith, length-filter p xs, count_by-le-length p xs)

pub distinct-shorter : (ns : List (List ℕ)) → length (distinct ns) ≤ length ns
distinct-shorter [] = omega arith
distinct-shorter (n ∷ ns) =
    let rest = distinct-shorter ns in
    let others = filter-shorter (λ o. not (bytes_eq n o)) (distinct ns) in
    omega arith

-- a key has at most as many values as entries
pub values-few : (es : List Entry) → length (values_of es) ≤ length es
values-few es =
    let names = distinct-shorter (filter is_filled (map value_in es)) in
    let filled = filter-shorter is_filled (map value_in es) in
    let mapped : length (map value_in es) ≡ length es = length-map es (λ (x : Entry). x.value) in
    omega arith
