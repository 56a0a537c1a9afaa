-- Which operations count, and how many reads wait, after one more.
use Rattle.std.proofs.Common.{◌≡◌, ◌≢◌, ℕ, ◌+◌, ◌-◌, ◌≤◌, ◌==◌, Bool, true, false, cond, max, not, ◌&&◌, ◌||◌, List, [], ◌∷◌, ◌++◌, Option, Some, None, length, set, refl, sym, ◌∙◌, ap, inl, inr, subst, arith, eq-eqb}
use Rattle.std.specs.Prelude.{Contains}
use Rattle.std.specs.List.{sum_by, filter}
use Rattle.std.proofs.lemmas.Bool.{cond_both, eqb-true, ne_eqb, cases_eq, or_from, or_left, or_right, and_from, and_left, and_parts, false_from_ne_true}
use Rattle.std.proofs.lemmas.Option.{none-some, slice_get_within}
use Rattle.std.proofs.lemmas.List.Folds.{list_any-append, list_any_at, Any-from_list_any}
use Rattle.std.proofs.lemmas.List.Sums.{sum_by-cons, sum_by_push, count_by-le-length}
use Rattle.stale_model.specs.declared.Op.{Op}
use Rattle.stale_model.specs.declared.Kind.{Kind}
use Rattle.stale_model.specs.declared.Kind.TheVariants.{Read, Write}
use Rattle.stale_model.specs.Operations.{IsRead, IsWrite, is_write, is_write_kind, initial_write, earliest_start, latest_finish}
use Rattle.stale_model.specs.Valid.{IsValidOp}
use Rattle.stale_model.specs.Faults.{IsWriteOf}
use Rattle.stale_model.specs.Orders.{StandsAt}
use Rattle.stale_model.specs.Counted.{is_written, counts, counted, waiting}
use Rattle.stale_model.proofs.Members.{contains_first, kept_is_there}
use Rattle.stale_model.proofs.ReadsAndWrites.{kind_is_write}
use Rattle.stale_model.proofs.Sorted.{first_or_later, contains_later}
use Rattle.live_score.specs.declared.rows.Row.{Row}
use Rattle.live_score.specs.Answers.{waiting_after}
use Rattle.live_score.specs.Rows.{IsWriteKept, AreCounts, count_of, placed_row, row_with, row_after}
use Rattle.live_score.proofs.Stands.{after_write}

-- a write among the operations writes its value
written_by : (fed : List Op) (w : Op) → Contains fed w → IsWrite w → is_written fed w.value ≡ true
written_by fed w (k, within, e) kind =
    let test : Op → Bool = λ a. is_write a && (a.value == w.value) in
    list_any_at test fed k w within (ap test e ∙ and_from (is_write w) (w.value == w.value) (ap is_write_kind kind) (eq-eqb w.value w.value refl))

-- where a value is written, one of the operations writes it
pub writer_of : (fed : List Op) (value : ℕ) → is_written fed value ≡ true → (w : Op) × Contains fed w × IsWrite w × (w.value ≡ value)
writer_of fed value t =
    let test : Op → Bool = λ a. is_write a && (a.value == value) in
    let (k, w, within, e, passes) = Any-from_list_any test fed t in
    let both = and_parts (is_write w) (w.value == value) passes in
    (w, (k, within, e), kind_is_write w.kind both.0, eqb-true w.value value both.1)

-- what counts was fed, or is the initial write
pub counted_is_fed : (fed : List Op) (a : Op) → Contains (counted fed) a → Contains (initial_write ∷ fed) a
counted_is_fed fed a c = elim (first_or_later initial_write a (filter (counts fed) fed) c) [
  | inl same ↦ subst (λ (x : Op). Contains (initial_write ∷ fed) x) same (contains_first initial_write fed)
  | inr there ↦ contains_later initial_write a fed (kept_is_there (counts fed) fed a there)
]

-- a valid operation starts no later than it finishes
pub starts_by_finish : (values : ℕ) (a : Op) → IsValidOp values a → earliest_start a ≤ latest_finish a
starts_by_finish values a v =
    let starts = v.starts in
    let ordered = v.ordered in
    cond_both (a.rec == 0) 0 (max 1 (a.start - a.slack)) (λ n. n ≤ latest_finish a) (λ _. omega arith) (λ _. omega arith)

-- what has a write counts
pub counts_written : (fed : List Op) (a w : Op) → IsWriteOf (initial_write ∷ fed) a.value w → counts fed a ≡ true
counts_written fed a w h = elim (first_or_later initial_write w fed h.there) [
  | inl same ↦
      let absent : a.value ≡ 0 = sym h.value_is ∙ sym (ap (λ (x : Op). x.value) same) in
      or_left (is_write a || (a.value == 0)) (is_written fed a.value) (or_right (is_write a) (a.value == 0) (eq-eqb a.value 0 absent))
  | inr there ↦ or_right (is_write a || (a.value == 0)) (is_written fed a.value) (ap (is_written fed) (sym h.value_is) ∙ written_by fed w there h.kind)
]

-- a value without a write is not absent, and is not written
module _ (fed : List Op) (value : ℕ) (none : (w : Op) → IsWriteOf (initial_write ∷ fed) value w → ⊥) where
  not_absent : value ≢ 0
  not_absent e = none initial_write (record { there = contains_first initial_write fed; kind = refl; value_is = sym e })

  not_written : is_written fed value ≡ false
  not_written = false_from_ne_true (is_written fed value) (λ t.
      let (w, there, kind, value_is) = writer_of fed value t in
      none w (record { there = contains_later initial_write w fed there; kind = kind; value_is = value_is }))

  not_written_by : (a : Op) → Contains fed a → a.value ≡ value → is_write a ≡ false
  not_written_by a there e = false_from_ne_true (is_write a) (λ t. none a (record { there = contains_later initial_write a fed there; kind = kind_is_write a.kind t; value_is = e }))

-- a read without a write waits
pub counts_unwritten : (fed : List Op) (a : Op) → IsRead a → ((w : Op) → IsWriteOf (initial_write ∷ fed) a.value w → ⊥) → counts fed a ≡ false
counts_unwritten fed a read none =
    or_from (is_write a || (a.value == 0)) (is_written fed a.value)
    (or_from (is_write a) (a.value == 0) (ap is_write_kind read) (ne_eqb a.value 0 (not_absent fed a.value none)))
    (not_written fed a.value none)

last_false : (b c : Bool) → c ≡ false → (b || c) ≡ b
last_false true c e = refl
last_false false c e = e

eqb_flips : (m n : ℕ) → (m == n) ≡ (n == m)
eqb_flips m n = elim (cases_eq m n) [
  | inl e ↦ eq-eqb m n e ∙ sym (eq-eqb n m (sym e))
  | inr apart ↦ ne_eqb m n apart ∙ sym (ne_eqb n m (λ e. apart (sym e)))
]

-- what is written after a read, and after a write
written_after_read : (fed : List Op) (op : Op) (value : ℕ) → IsRead op → is_written (fed ++ op ∷ []) value ≡ is_written fed value
written_after_read fed op value read =
    let test : Op → Bool = λ a. is_write a && (a.value == value) in
    let last : (test op || false) ≡ false = or_from (test op) false (and_left (is_write op) (op.value == value) (ap is_write_kind read)) refl in
    list_any-append test fed (op ∷ []) ∙ last_false (is_written fed value) (test op || false) last

written_after_write : (fed : List Op) (op : Op) (value : ℕ) → IsWrite op → is_written (fed ++ op ∷ []) value ≡ (is_written fed value || (value == op.value))
written_after_write fed op value write =
    let test : Op → Bool = λ a. is_write a && (a.value == value) in
    let kind : is_write op ≡ true = ap is_write_kind write in
    let last : (test op || false) ≡ (value == op.value) = ap (λ (b : Bool). (b && (op.value == value)) || false) kind ∙ (last_false (op.value == value) false refl ∙ eqb_flips op.value value) in
    list_any-append test fed (op ∷ []) ∙ ap (λ (b : Bool). is_written fed value || b) last

-- sums of parts
sum_splits : (f g h : Op → ℕ) (xs : List Op) → ((x : Op) → Contains xs x → f x ≡ g x + h x) → sum_by f xs ≡ sum_by g xs + sum_by h xs
sum_splits f g h [] each = refl
sum_splits f g h (x ∷ xs) each =
    let rest = sum_splits f g h xs (λ y c. each y (contains_later x y xs c)) in
    let here = each x (contains_first x xs) in
    let ef = sum_by-cons f x xs in
    let eg = sum_by-cons g x xs in
    let eh = sum_by-cons h x xs in
    omega arith

sum_same : (f g : Op → ℕ) (xs : List Op) → ((x : Op) → f x ≡ g x) → sum_by f xs ≡ sum_by g xs
sum_same f g [] each = refl
sum_same f g (x ∷ xs) each =
    let rest = sum_same f g xs each in
    let here = each x in
    let ef = sum_by-cons f x xs in
    let eg = sum_by-cons g x xs in
    omega arith

-- 1 for an operation that waits
abbrev waits : List Op → Op → ℕ
waits fed a = cond (not (counts fed a)) 1 0

module _ (fed : List Op) (op : Op) where
  waits_after_read : (a : Op) → IsRead op → waits (fed ++ op ∷ []) a ≡ waits fed a
  waits_after_read a read = ap (λ (b : Bool). cond (not ((is_write a || (a.value == 0)) || b)) 1 0) (written_after_read fed op a.value read)

  waiting_with_read : IsRead op → waiting (fed ++ op ∷ []) ≡ waiting fed + waits fed op
  waiting_with_read read =
      let last = sum_by_push (waits (fed ++ op ∷ [])) fed op in
      let before = sum_same (waits (fed ++ op ∷ [])) (waits fed) fed (λ a. waits_after_read a read) in
      let itself = waits_after_read op read in
      omega arith

  one_waits : counts fed op ≡ false → waits fed op ≡ 1
  one_waits e = ap (λ (b : Bool). cond (not b) 1 0) e

  none_waits : counts fed op ≡ true → waits fed op ≡ 0
  none_waits e = ap (λ (b : Bool). cond (not b) 1 0) e

-- an operation of a value that gets its write no longer waits
split_by : (write absent written same : Bool) → (same ≡ true → (write ≡ false) × (absent ≡ false) × (written ≡ false))
    → cond (not ((write || absent) || written)) 1 0 ≡ cond (not ((write || absent) || (written || same))) 1 0 + cond same 1 0
split_by write absent written true only = let (a, b, c) = only refl in rw (a, b, c) refl
split_by true absent written false only = refl
split_by false true written false only = refl
split_by false false true false only = refl
split_by false false false false only = refl

module _ (fed : List Op) (op : Op) (write : IsWrite op) (none : (w : Op) → IsWriteOf (initial_write ∷ fed) op.value w → ⊥) where
  waits_after_write : (a : Op) → Contains fed a → waits fed a ≡ waits (fed ++ op ∷ []) a + cond (a.value == op.value) 1 0
  waits_after_write a there =
      split_by (is_write a) (a.value == 0) (is_written fed a.value) (a.value == op.value) (λ t.
      let e = eqb-true a.value op.value t in (
        not_written_by fed op.value none a there e,
        ne_eqb a.value 0 (λ absent. not_absent fed op.value none (sym e ∙ absent)),
        ap (is_written fed) e ∙ not_written fed op.value none,
      ))
      ∙ ap (λ (b : Bool). cond (not ((is_write a || (a.value == 0)) || b)) 1 0 + cond (a.value == op.value) 1 0) (sym (written_after_write fed op a.value write))

  itself_counts : waits (fed ++ op ∷ []) op ≡ 0
  itself_counts = ap (λ (b : Bool). cond (not ((b || (op.value == 0)) || is_written (fed ++ op ∷ []) op.value)) 1 0) (let e : is_write op ≡ true = ap is_write_kind write in e)

  -- those that waited for this write no longer do
  pub waiting_splits : waiting fed ≡ waiting (fed ++ op ∷ []) + count_of fed op.value
  waiting_splits =
      let parts = sum_splits (waits fed) (waits (fed ++ op ∷ [])) (λ a. cond (a.value == op.value) 1 0) fed waits_after_write in
      let last = sum_by_push (waits (fed ++ op ∷ [])) fed op in
      let itself = itself_counts in
      omega arith

waiting_by : (fed : List Op) (op : Op) (kind : Kind) (kept : Option ℕ) (start before count : ℕ) → op.kind ≡ kind → (IsWrite op → kept ≡ None) → IsWriteKept (initial_write ∷ fed) op.value start kept
    → before ≡ waiting fed → count ≡ count_of fed op.value → waiting_after kind kept before count ≡ waiting (fed ++ op ∷ [])
waiting_by fed op Read None start before count kind_is first h b n =
    let more = waiting_with_read fed op kind_is in
    let one = one_waits fed op (counts_unwritten fed op kind_is h) in
    omega arith
waiting_by fed op Read (Some rec) start before count kind_is first h b n =
    let more = waiting_with_read fed op kind_is in
    let none = none_waits fed op (counts_written fed op h.0 h.1) in
    omega arith
waiting_by fed op Write None start before count kind_is first h b n =
    let parts = waiting_splits fed op kind_is h in
    omega arith
waiting_by fed op Write (Some rec) start before count kind_is first h b n = absurd (none-some rec (sym (first kind_is)))

-- how many reads wait after an operation that is taken in
pub waiting_grows : (fed : List Op) (op : Op) (kept : Option ℕ) (start before count : ℕ) → (IsWrite op → kept ≡ None) → IsWriteKept (initial_write ∷ fed) op.value start kept
    → before ≡ waiting fed → count ≡ count_of fed op.value → waiting_after op.kind kept before count ≡ waiting (fed ++ op ∷ [])
waiting_grows fed op kept start before count first h b n = waiting_by fed op op.kind kept start before count refl first h b n

count_waits : (fed : List Op) (op : Op) (kept : Option ℕ) (start : ℕ) → IsWrite op → kept ≡ None → IsWriteKept (initial_write ∷ fed) op.value start kept → count_of fed op.value ≤ waiting fed
count_waits fed op None start write e h = let parts = waiting_splits fed op write h in omega arith
count_waits fed op (Some rec) start write e h = absurd (none-some rec (sym e))

-- as many as have the value of a write waited for it
pub count_within : (fed : List Op) (op : Op) (kept : Option ℕ) (start before count : ℕ) → IsWrite op → kept ≡ None → IsWriteKept (initial_write ∷ fed) op.value start kept
    → before ≡ waiting fed → count ≡ count_of fed op.value → count ≤ before
count_within fed op kept start before count write e h b n = let le = count_waits fed op kept start write e h in omega arith

-- no more wait, or have a value, than were fed
pub waiting_few : (fed : List Op) → waiting fed ≤ length fed
waiting_few fed = count_by-le-length (λ a. not (counts fed a)) fed

pub count_few : (fed : List Op) (value : ℕ) → count_of fed value ≤ length fed
count_few fed value = count_by-le-length (λ a. a.value == value) fed

row_count_by : (kind : Kind) (row : Row) (op : Op) → (row_with kind row op).count ≡ row.count
row_count_by Read row op = refl
row_count_by Write row op = refl

-- rows have the numbers of operations after one more
pub counts_grow : (fed : List Op) (op : Op) (rows : List Row) (row : Row) (at : ℕ) → StandsAt rows op.value row → AreCounts fed rows → AreCounts (fed ++ op ∷ []) (set rows op.value (row_after row op at))
counts_grow fed op rows row at here are value other stands = elim (after_write rows op.value (row_after row op at) value other (slice_get_within rows op.value row here) stands) [
  | inl (value_is, row_is) ↦
      let e = ap (λ (r : Row). r.count) row_is in
      let f = row_count_by op.kind (placed_row row op at) op in
      let before = are op.value row here in
      let more = sum_by_push (λ (a : Op). cond (a.value == op.value) 1 0) fed op in
      let one : cond {A = ℕ} (op.value == op.value) 1 0 ≡ 1 = ap (λ (b : Bool). cond b 1 0) (eq-eqb op.value op.value refl) in
      let this : other.count ≡ count_of (fed ++ op ∷ []) op.value = omega arith in
      subst (λ (v : ℕ). other.count ≡ count_of (fed ++ op ∷ []) v) (sym value_is) this
  | inr (apart, before) ↦
      let is = are value other before in
      let more = sum_by_push (λ (a : Op). cond (a.value == value) 1 0) fed op in
      let none : cond {A = ℕ} (op.value == value) 1 0 ≡ 0 = ap (λ (b : Bool). cond b 1 0) (ne_eqb op.value value (λ e. apart (sym e))) in
      omega arith
]
