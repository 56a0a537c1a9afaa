-- Where operations stand in a list that is sorted by the operation order.
use Rattle.std.proofs.Common.{◌≡◌, ℕ, suc, ◌+◌, ◌-◌, ◌<◌, ◌≤◌, Bool, true, false, cond, List, [], ◌∷◌, length, get_or, drop, refl, sym, ◌∙◌, ap, inl, inr, arith}
use Rattle.std.specs.Prelude.{slice_range, count_by, Contains}
use Rattle.std.specs.declared.cmp.Ordering.TheVariants.{Less}
use Rattle.std.specs.Ordering.{is_lt}
use Rattle.std.specs.List.Sorted.{IsPermutation, IsSorted}
use Rattle.std.proofs.lemmas.Bool.{cases_lt, cases_Bool, both_ways, false_from_ne_true}
use Rattle.std.proofs.lemmas.Option.{slice_get_within, get_or_from_slice_get}
use Rattle.std.proofs.lemmas.List.{get_or-take, get_or-drop, length-take, length-drop, length-map}
use Rattle.std.proofs.lemmas.List.Sums.{sum_by-le, sum_by-cons}
use Rattle.std.proofs.lemmas.List.Sorted.{Contains-permutation, IsPermutation-sym, sorted_far, ranks_by}
use Rattle.stale_model.specs.declared.Op.{Op}
use Rattle.stale_model.specs.Operations.{IsRead, IsWrite, records_of, earliest_start}
use Rattle.stale_model.specs.NamedWrites.{RecordsDiffer}
use Rattle.stale_model.specs.Orders.{StandsAt, StandsBefore}
use Rattle.stale_model.specs.OperationOrders.{segment, operation_order}
use Rattle.stale_model.proofs.Places.{at_its_place, something_at, same_at, contains_at, record_stands}
use Rattle.stale_model.proofs.Comparisons.{nat_less, nat_same}
use Rattle.model_laws.proofs.One.{operation_order-total}

-- x stands between two places, and at this place of the part between them
record StandsInPart (xs : List ℕ) (i j k d : ℕ) : Type 0 where
  x : ℕ
  at : StandsAt xs (i + 1 + k) x
  below : i + 1 + k < j
  is : get_or (slice_range xs (i + 1) j) k d ≡ x

part_at : (xs : List ℕ) (i j k x d : ℕ) → k < j - (i + 1) → StandsAt xs (i + 1 + k) x → get_or (slice_range xs (i + 1) j) k d ≡ x
part_at xs i j k x d within at =
    get_or-take (j - (i + 1)) (drop (i + 1) xs) k d within ∙ get_or-drop (i + 1) xs k d ∙ get_or_from_slice_get xs (i + 1 + k) x d at

stands_in_part : (xs : List ℕ) (i j k d : ℕ) → k < length (slice_range xs (i + 1) j) → StandsInPart xs i j k d
stands_in_part xs i j k d within =
    let long = simp (length-take, length-drop) at within in
    let (x, at) = something_at xs (i + 1 + k) (omega arith) in
    record { x = x; at = at; below = omega arith; is = part_at xs i j k x d (omega arith) at }

counts_nothing : (b : Bool) → b ≡ false → cond {A = ℕ} b 1 0 ≤ 0
counts_nothing true e = absurd (both_ways _ e refl)
counts_nothing false e = omega arith

-- numbers that fail a test at each place between two places don't count there
pub none_counts_between : (p : ℕ → Bool) (xs : List ℕ) (i j : ℕ) → ((l x : ℕ) → i < l → l < j → StandsAt xs l x → p x ≡ false) → count_by p (slice_range xs (i + 1) j) < 1
none_counts_between p xs i j none =
    let fails = λ (k d : ℕ) (in_part : StandsInPart xs i j k d). counts_nothing (p (get_or (slice_range xs (i + 1) j) k d))
    (ap p in_part.is ∙ none (i + 1 + k) in_part.x (omega arith) in_part.below in_part.at) in
    let most = sum_by-le (λ x. cond (p x) 1 0) 0 (slice_range xs (i + 1) j) (λ k d within. fails k d (stands_in_part xs i j k d within)) in
    omega arith

-- a test that passes at one place at most counts once at most
counts_at_most_one : (p : ℕ → Bool) (xs : List ℕ) → ((k l d : ℕ) → k < length xs → l < length xs → p (get_or xs k d) ≡ true → p (get_or xs l d) ≡ true → k ≡ l) → count_by p xs ≤ 1
counts_at_most_one p [] one = omega arith
counts_at_most_one p (x ∷ xs) one =
    let count = λ (y : ℕ). cond {A = ℕ} (p y) 1 0 in
    let all : count_by p (x ∷ xs) ≡ cond {A = ℕ} (p x) 1 0 + count_by p xs = sum_by-cons count x xs in
    elim (cases_Bool (p x)) [
      | inl counts ↦
          let first : cond {A = ℕ} (p x) 1 0 ≡ 1 = ap (λ (b : Bool). cond {A = ℕ} b 1 0) counts in
          let rest = sum_by-le count 0 xs
          (λ k d within. counts_nothing (p (get_or xs k d)) (false_from_ne_true _ (λ t. let e = one 0 (suc k) d (omega arith) (omega arith) counts t in absurd (omega arith)))) in
          omega arith
      | inr fails ↦
          let first : cond {A = ℕ} (p x) 1 0 ≡ 0 = ap (λ (b : Bool). cond {A = ℕ} b 1 0) fails in
          let rest : count_by p xs ≤ 1 = counts_at_most_one p xs (λ k l d low high tk tl. let e = one (suc k) (suc l) d (omega arith) (omega arith) tk tl in omega arith) in
          omega arith
    ]

-- numbers between two places, of which at most one passes a test, count there less than two times
pub one_counts_between : (p : ℕ → Bool) (xs : List ℕ) (i j : ℕ)
    → ((l m x y : ℕ) → i < l → l < j → i < m → m < j → StandsAt xs l x → StandsAt xs m y → p x ≡ true → p y ≡ true → l ≡ m) → count_by p (slice_range xs (i + 1) j) < 2
one_counts_between p xs i j one =
    let most = counts_at_most_one p (slice_range xs (i + 1) j)
    (λ k l d low high tk tl.
    let at_k = stands_in_part xs i j k d low in
    let at_l = stands_in_part xs i j l d high in
    let below_k = at_k.below in
    let below_l = at_l.below in
    let e = one (i + 1 + k) (i + 1 + l) at_k.x at_l.x (omega arith) below_k (omega arith) below_l at_k.at at_l.at (ap p (sym at_k.is) ∙ tk) (ap p (sym at_l.is) ∙ tl) in
    omega arith) in
    omega arith

module _ (ops : List Op) (d k : ℕ) (writes : List ℕ) where
  -- an operation is less than those of later segments
  pub less_by_segment : (a b : Op) → segment ops d k writes a < segment ops d k writes b → operation_order ops d k writes a b ≡ Less
  less_by_segment a b less = rw (nat_less (segment ops d k writes a) (segment ops d k writes b) less) refl

  -- a write is less than the reads of its segment
  pub write_is_less : (a b : Op) → segment ops d k writes a ≡ segment ops d k writes b → IsWrite a → IsRead b → operation_order ops d k writes a b ≡ Less
  write_is_less a b same write read = rw (nat_same (segment ops d k writes a) (segment ops d k writes b) same, write, read) refl

  -- a read is less than those of its segment that start later
  pub earlier_is_less : (a b : Op) → segment ops d k writes a ≡ segment ops d k writes b → IsRead a → IsRead b → earliest_start a < earliest_start b
      → operation_order ops d k writes a b ≡ Less
  earlier_is_less a b same reads read less = rw (nat_same (segment ops d k writes a) (segment ops d k writes b) same, reads, read, nat_less (earliest_start a) (earliest_start b) less) refl

  module _ (sorted : List Op) (each : IsPermutation ops sorted) (up : IsSorted (operation_order ops d k writes) sorted) where
    -- nothing stands after what is greater
    pub not_less_later : (i j : ℕ) (a b : Op) → StandsAt sorted i a → StandsAt sorted j b → i ≤ j → operation_order ops d k writes b a ≡ Less → ⊥
    not_less_later i j a b ati atj le less =
        let no = sorted_far (λ x y. is_lt (operation_order ops d k writes x y)) (ranks_by (operation_order-total ops d k writes) (λ x. x)) sorted up i j a le (slice_get_within sorted j b atj) in
        let e = get_or_from_slice_get sorted i a a ati in
        let f = get_or_from_slice_get sorted j b a atj in
        both_ways _ (rw (e, f) at no) (ap is_lt less)

    -- what is less stands before
    pub less_stands_before : (a b : Op) → Contains ops a → Contains ops b → operation_order ops d k writes a b ≡ Less → StandsBefore (records_of sorted) a.rec b.rec
    less_stands_before a b ca cb less =
        let ma = Contains-permutation ops sorted a each ca in
        let mb = Contains-permutation ops sorted b each cb in
        let ati = at_its_place sorted a ma in
        let atj = at_its_place sorted b mb in
        elim (cases_lt ma.0 mb.0) [
          | inl low ↦ record { place = ma.0; later = mb.0; rises = low; first = record_stands sorted ma.0 a ati; second = record_stands sorted mb.0 b atj }
          | inr high ↦ absurd (not_less_later mb.0 ma.0 b a atj ati high less)
        ]

    -- so the operation of a record that stands at a place stands there
    pub operation_at : RecordsDiffer ops → (i rec : ℕ) (a : Op) → Contains ops a → a.rec ≡ rec → StandsAt (records_of sorted) i rec → StandsAt sorted i a
    operation_at differ i rec a there is at =
        let long = slice_get_within (records_of sorted) i rec at in
        let (b, at_b) = something_at sorted i (simp length-map at long) in
        let same : b.rec ≡ a.rec = same_at (records_of sorted) i b.rec rec (record_stands sorted i b at_b) at ∙ sym is in
        let e : b ≡ a = differ b a (Contains-permutation sorted ops b (IsPermutation-sym ops sorted each) (contains_at sorted i b at_b)) there same in
        rw e at at_b
