-- The operations of a key of the history of calls: each is of a call on the key, and each call on the key has one.
use Rattle.std.proofs.Common.{◌≡◌, ℕ, zero, suc, ◌+◌, ◌^◌, ◌<◌, true, false, not, ◌&&◌, List, [], ◌∷◌, get_or, map, refl, sym, ◌∙◌, ap, subst, inl, inr, arith}
use Rattle.std.specs.Prelude.{Contains}
use Rattle.std.specs.List.{position_or_len}
use Rattle.std.specs.Str.{bytes_eq}
use Rattle.std.proofs.lemmas.List.Elements.{All-contains, All-from_recursion}
use Rattle.std.proofs.lemmas.List.Sums.{passes_at_first}
use Rattle.std.proofs.lemmas.Option.{same_Some}
use Rattle.stale_model.specs.declared.Kind.{Kind}
use Rattle.stale_model.specs.declared.Kind.TheVariants.{Read, Write}
use Rattle.stale_model.specs.declared.Op.{Op}
use Rattle.stale_model.specs.declared.store.Entry.{Entry}
use Rattle.stale_model.specs.Orders.{StandsAt}
use Rattle.stale_model.specs.Texts.{key_text, line_of, value_text}
use Rattle.stale_model.proofs.Members.{before_mapped, contains_first, empty_has_none, kept_from, kept_is_there, kept_passes, mapped_from}
use Rattle.stale_model.proofs.Sorted.{contains_later, first_or_later}
use Rattle.history_csv.specs.Entries.{Entry as Recorded}
use Rattle.history_csv.specs.Numbering.{entries_on, is_read, is_skipped, kept, op_of, ops_of, value_number, values_of}
use Rattle.history_csv.specs.Written.{entries_of_lines, entry_of_line}
use Rattle.history_csv.proofs.Distinct.{bytes_eq-itself, same_text}
use Rattle.history_csv.proofs.KeyFacts.{IsKnown, each-known}
use Rattle.history_csv.proofs.Places.{place-within}
use Rattle.recorded_laws.proofs.Texts.{absent_value, same_value}

-- ---- the numbers of values

module _ (vs : List (List ℕ)) where
  -- a known value stands at the place that its number says
  found : (a : ℕ) (v : List ℕ) → IsKnown vs (a ∷ v) → get_or vs (position_or_len (bytes_eq (a ∷ v)) vs) [] ≡ a ∷ v
  found a v known =
      let passes = passes_at_first (bytes_eq (a ∷ v)) vs [] (place-within (bytes_eq (a ∷ v)) vs (known refl)) in
      sym (same_text (a ∷ v) (get_or vs (position_or_len (bytes_eq (a ∷ v)) vs) []) passes)

  -- a value whose number is 0 is empty
  none_numbered : (v : List ℕ) → value_number vs v ≡ 0 → v ≡ []
  none_numbered [] e = refl
  none_numbered (a ∷ v) e = absurd (omega arith)

  -- values of one number are one
  one_numbered : (v w : List ℕ) → IsKnown vs v → IsKnown vs w → value_number vs v ≡ value_number vs w → v ≡ w
  one_numbered [] w kv kw e = sym (none_numbered w (sym e))
  one_numbered (a ∷ v) [] kv kw e = absurd (omega arith)
  one_numbered (a ∷ v) (b ∷ w) kv kw e =
      let same : position_or_len (bytes_eq (a ∷ v)) vs ≡ position_or_len (bytes_eq (b ∷ w)) vs = omega arith in
      sym (found a v kv) ∙ ap (λ (i : ℕ). get_or vs i []) same ∙ found b w kw

-- ---- the records of calls

-- the records of calls, numbered from rec on
abbrev pub records_from : ℕ → List Entry → List Recorded
records_from rec es = entries_of_lines rec (map line_of es)

-- a record is of the call at its place
of_a_call : (rec : ℕ) (es : List Entry) (x : Recorded) → Contains (records_from rec es) x
    → (i : ℕ) × (e : Entry) × StandsAt es i e × (x ≡ entry_of_line (rec + i) (line_of e))
of_a_call rec [] x c = absurd (empty_has_none x c)
of_a_call rec (e ∷ es) x c = elim (first_or_later (entry_of_line rec (line_of e)) x (records_from (rec + 1) es) c) [
  | inl is ↦ let number : rec ≡ rec + 0 = omega arith in (zero, e, refl, sym is ∙ ap (λ (n : ℕ). entry_of_line n (line_of e)) number)
  | inr later ↦
      let (i, f, at, is) = of_a_call (rec + 1) es x later in
      let number : rec + 1 + i ≡ rec + suc i = omega arith in
      (suc i, f, at, is ∙ ap (λ (n : ℕ). entry_of_line n (line_of f)) number)
]

-- and each call has its record
has_a_record : (rec : ℕ) (es : List Entry) (i : ℕ) (e : Entry) → StandsAt es i e → Contains (records_from rec es) (entry_of_line (rec + i) (line_of e))
has_a_record rec [] i e at = absurd (cc at)
has_a_record rec (f ∷ es) zero e at =
    let same : f ≡ e = same_Some f e at in
    let number : rec ≡ rec + 0 = omega arith in
    let first = contains_first (entry_of_line rec (line_of f)) (records_from (rec + 1) es) in
    let here = subst (λ (x : Entry). Contains (records_from rec (f ∷ es)) (entry_of_line rec (line_of x))) same first in
    subst (λ (n : ℕ). Contains (records_from rec (f ∷ es)) (entry_of_line n (line_of e))) number here
has_a_record rec (f ∷ es) (suc i) e at =
    let number : rec + 1 + i ≡ rec + suc i = omega arith in
    subst (λ (n : ℕ). Contains (records_from rec (f ∷ es)) (entry_of_line n (line_of e))) number
    (contains_later (entry_of_line rec (line_of f)) _ (records_from (rec + 1) es) (has_a_record (rec + 1) es i e at))

finished : (kind : Kind) → not (is_read kind && false) ≡ true
finished Read = refl
finished Write = refl

-- ---- the operations of a key

module _ (entries : List Entry) (name : List ℕ) where
  -- the records on the key
  abbrev pub on_key : List Recorded
  on_key = entries_on name (kept (records_from 1 entries))

  -- the operation of a call
  abbrev pub op_at : ℕ → Entry → Op
  op_at place e = op_of (values_of on_key) (entry_of_line (1 + place) (line_of e))

-- a call on the key, and its operation
pub record IsOpOf (entries : List Entry) (name : List ℕ) (a : Op) : Type 0 where
  pub call : Entry
  pub place : ℕ
  pub at : StandsAt entries place call
  pub key : name ≡ key_text call.key
  pub there : Contains (on_key entries name) (entry_of_line (1 + place) (line_of call))
  pub is : a ≡ op_at entries name place call

module _ (entries : List Entry) (name : List ℕ) where
  -- each call on the key has an operation
  pub has_op : (place : ℕ) (e : Entry) → StandsAt entries place e → name ≡ key_text e.key → Contains (ops_of (on_key entries name)) (op_at entries name place e)
  has_op place e at key =
      let x = entry_of_line (1 + place) (line_of e) in
      let stays = kept_from (λ (y : Recorded). not (is_skipped y)) (records_from 1 entries) x (has_a_record 1 entries place e at) (finished e.kind) in
      let passes = subst (λ (n : List ℕ). bytes_eq name n ≡ true) key (bytes_eq-itself name) in
      let there = kept_from (λ (y : Recorded). bytes_eq name y.key) (kept (records_from 1 entries)) x stays passes in
      mapped_from (op_of (values_of (on_key entries name))) (on_key entries name) x there

  -- and each operation is of a call on the key
  pub op_is : (a : Op) → Contains (ops_of (on_key entries name)) a → IsOpOf entries name a
  op_is a c =
      let (x, there, made) = before_mapped (op_of (values_of (on_key entries name))) (on_key entries name) a c in
      let stays = kept_is_there (λ (y : Recorded). bytes_eq name y.key) (kept (records_from 1 entries)) x there in
      let passes = kept_passes (λ (y : Recorded). bytes_eq name y.key) (kept (records_from 1 entries)) x there in
      let (i, e, at, is) = of_a_call 1 entries x (kept_is_there (λ (y : Recorded). not (is_skipped y)) (records_from 1 entries) x stays) in
      record {
        call = e;
        place = i;
        at = at;
        key = same_text name x.key passes ∙ ap (λ (y : Recorded). y.key) is;
        there = subst (λ (y : Recorded). Contains (on_key entries name) y) is there;
        is = sym made ∙ ap (op_of (values_of (on_key entries name))) is;
      }

  known : (a : Op) (o : IsOpOf entries name a) → IsKnown (values_of (on_key entries name)) (value_text o.call.value)
  known a o =
      let vs = values_of (on_key entries name) in
      All-contains (λ (x : Recorded). IsKnown vs x.value) (on_key entries name) (entry_of_line (1 + o.place) (line_of o.call))
      (All-from_recursion (λ (x : Recorded). IsKnown vs x.value) (on_key entries name) (each-known [] (on_key entries name))) o.there

  number_is : (a : Op) (o : IsOpOf entries name a) → a.value ≡ value_number (values_of (on_key entries name)) (value_text o.call.value)
  number_is a o = ap (λ (x : Op). x.value) o.is

  -- an operation of value 0 is of a call of value 0
  pub absent_call : (a : Op) (o : IsOpOf entries name a) → a.value ≡ 0 → o.call.value ≡ 0
  absent_call a o e = absent_value o.call.value (none_numbered (values_of (on_key entries name)) (value_text o.call.value) (sym (number_is a o) ∙ e))

  -- operations of one value are of calls of one value
  pub same_call_value : (a b : Op) (o : IsOpOf entries name a) (p : IsOpOf entries name b) → o.call.value < 2 ^ 32 → p.call.value < 2 ^ 32 → a.value ≡ b.value
      → o.call.value ≡ p.call.value
  same_call_value a b o p lo lp e =
      same_value o.call.value p.call.value lo lp
      (one_numbered (values_of (on_key entries name)) (value_text o.call.value) (value_text p.call.value) (known a o) (known b p) (sym (number_is a o) ∙ e ∙ number_is b p))

  -- an operation has the number of its call's value, which is 0 for 0
  pub op_value : (a : Op) (o : IsOpOf entries name a) (n : ℕ) → o.call.value ≡ n → a.value ≡ value_number (values_of (on_key entries name)) (value_text n)
  op_value a o n e = number_is a o ∙ ap (λ (m : ℕ). value_number (values_of (on_key entries name)) (value_text m)) e
