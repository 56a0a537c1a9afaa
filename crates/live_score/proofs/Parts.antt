-- An order of operations, without those that are not of a part of them, is an order of the part.
use Rattle.std.proofs.Common.{◌≡◌, ℕ, ◌+◌, ◌-◌, ◌<◌, ◌≤◌, Bool, true, false, cond, List, [], ◌∷◌, length, get_or, drop, refl, sym, ◌∙◌, ap, subst, inl, inr, arith}
use Rattle.std.specs.Prelude.{Contains, slice_range, count_by, ◌==◌, ◌&&◌}
use Rattle.std.specs.List.{filter}
use Rattle.std.proofs.lemmas.Bool.{cases_order, cases_Bool}
use Rattle.std.proofs.lemmas.List.{get_or-take, get_or-drop, length-take, length-drop}
use Rattle.std.proofs.lemmas.List.Sums.{sum_by-append}
use Rattle.std.proofs.lemmas.Option.{slice_get_read}
use Rattle.std.proofs.lemmas.Map.Keys.{any_passes_from_place}
use Rattle.stale_model.specs.declared.Op.{Op}
use Rattle.stale_model.specs.Operations.{is_write, records_of}
use Rattle.stale_model.specs.Faults.{IsWriteOf, IsReadIn}
use Rattle.stale_model.specs.NamedWrites.{WritesDiffer}
use Rattle.stale_model.specs.Orders.{StandsAt, StandsBefore, IsWithoutRepeats, is_write_record, IsAmongLast, IsOrder}
use Rattle.stale_model.proofs.Places.{place_of, contains_at, counts_between}
use Rattle.stale_model.proofs.Sorted.{first_or_later, contains_later}
use Rattle.stale_model.proofs.Members.{empty_has_none, contains_first, kept_passes, kept_from}
use Rattle.model_laws.proofs.Tests.{has, has_contains, contains_has, some_passes}
use Rattle.model_laws.proofs.Listings.{origin, origin_rises, origin_stands}
use Rattle.model_laws.proofs.OrderPlaces.{record_is_known}

-- none passes: none is counted
none_counted_by : (b : Bool) → b ≡ false → ◌≡◌ {A = ℕ} (cond b 1 0) 0
none_counted_by b e = rw e refl

none_counted : (p : ℕ → Bool) (xs : List ℕ) → ((x : ℕ) → Contains xs x → p x ≡ false) → count_by p xs ≡ 0
none_counted p [] none = refl
none_counted p (x ∷ xs) none =
    let first = none_counted_by (p x) (none x (contains_first x xs)) in
    let rest = none_counted p xs (λ y c. none y (contains_later x y xs c)) in
    omega (arith, sum_by-append (λ (y : ℕ). cond (p y) 1 0) (x ∷ []) xs)

-- what is in a part of a list stands between its ends
within_part : (xs : List ℕ) (a b x : ℕ) → Contains (slice_range xs a b) x → (m : ℕ) × (a ≤ m) × (m < b) × StandsAt xs m x
within_part xs a b x (k, l, e) =
    let short = length-take (b - a) (drop a xs) in
    let left = length-drop a xs in
    let low : k < b - a = omega arith in
    let within : a + k < length xs = omega arith in
    let same : get_or xs (a + k) x ≡ x = sym (get_or-drop a xs k x) ∙ sym (get_or-take (b - a) (drop a xs) k x low) ∙ e in
    (a + k, omega arith, omega arith, slice_get_read xs (length xs) (a + k) x refl within (sym same))

module _ (passes : ℕ → Bool) (order : List ℕ) (once : IsWithoutRepeats order) where
  -- what stands at a place of those that pass stood at its origin
  origin_is : (i j x : ℕ) → StandsAt (filter passes order) i x → StandsAt order j x → origin passes order i ≡ j
  origin_is i j x at there = once (origin passes order i) j x (origin_stands passes order i x at) there

  -- what stood before another still does
  kept_before : (a b : ℕ) → passes a ≡ true → passes b ≡ true → StandsBefore order a b → StandsBefore (filter passes order) a b
  kept_before a b pa pb s =
      let (i, at) = place_of (filter passes order) a (kept_from passes order a (contains_at order s.place a s.first) pa) in
      let (j, there) = place_of (filter passes order) b (kept_from passes order b (contains_at order s.later b s.second) pb) in
      let first = origin_is i s.place a at s.first in
      let second = origin_is j s.later b there s.second in
      let rises = s.rises in
      record {
        place = i;
        later = j;
        first = at;
        second = there;
        rises = elim (cases_order i j) [
          | inl same ↦ absurd (let e : origin passes order i ≡ origin passes order j = ap (λ (n : ℕ). origin passes order n) same in omega arith)
          | inr less ↦ elim less [
            | inl low ↦ low
            | inr low ↦ absurd (let r = origin_rises passes order j i low in omega arith)
          ]
        ];
      }

  -- nothing that counts stands between, where nothing did
  none_between : (q t : ℕ → Bool) (a b : ℕ) (s : StandsBefore order a b) (kept : StandsBefore (filter passes order) a b) → ((x : ℕ) → t x ≡ true → q x ≡ true)
      → count_by q (slice_range order (s.place + 1) s.later) < 1 → count_by t (slice_range (filter passes order) (kept.place + 1) kept.later) < 1
  none_between q t a b s kept weaker none =
      let first = origin_is kept.place s.place a kept.first s.first in
      let second = origin_is kept.later s.later b kept.second s.second in
      let each : (x : ℕ) → Contains (slice_range (filter passes order) (kept.place + 1) kept.later) x → t x ≡ false =
      λ x c.
      let (m, low, high, at) = within_part (filter passes order) (kept.place + 1) kept.later x c in
      let above = origin_rises passes order kept.place m (omega arith) in
      let below = origin_rises passes order m kept.later high in
      elim (cases_Bool (t x)) [
        | inl passed ↦
            let some = counts_between q order s.place s.later (origin passes order m) x (origin_stands passes order m x at) (omega arith) (omega arith) (weaker x passed) in
            absurd (omega arith)
        | inr failed ↦ failed
      ]
      in
      let zeroth = none_counted t (slice_range (filter passes order) (kept.place + 1) kept.later) each in
      omega arith

-- a record is that of some operation
op_of_record : (ops : List Op) (rec : ℕ) → Contains (records_of ops) rec → (a : Op) × Contains ops a × (a.rec ≡ rec)
op_of_record [] rec c = absurd (empty_has_none rec c)
op_of_record (a ∷ ops) rec c = elim (first_or_later a.rec rec (records_of ops) c) [
  | inl e ↦ (a, contains_first a ops, e)
  | inr d ↦ let (b, there, e) = op_of_record ops rec d in (b, contains_later a b ops there, e)
]

module _ (ops part : List Op) (within : (a : Op) → Contains part a → Contains ops a) where
  -- a write of the part is one of all
  part_write : (rec : ℕ) → is_write_record part rec ≡ true → is_write_record ops rec ≡ true
  part_write rec t =
      let (a, there, test) = some_passes (λ (x : Op). (x.rec == rec) && is_write x) part t in
      let (i, at) = place_of ops a (within a there) in
      any_passes_from_place (λ (x : Op). (x.rec == rec) && is_write x) ops i a at test

  -- the records of the part, in their order
  abbrev pub part_order : List ℕ → List ℕ
  part_order order = filter (has (records_of part)) order

  is_of_part : (a : Op) → Contains part a → has (records_of part) a.rec ≡ true
  is_of_part a c = contains_has (records_of part) a.rec (record_is_known part a c)

  part_among : (order : List ℕ) (w r : Op) → IsWithoutRepeats order → Contains part w → Contains part r → IsAmongLast ops 1 order w r → IsAmongLast part 1 (part_order order) w r
  part_among order w r once cw cr among =
      let kept = kept_before (has (records_of part)) order once w.rec r.rec (is_of_part w cw) (is_of_part r cr) among.before in
      record {
        before = kept;
        few = none_between (has (records_of part)) order once (is_write_record ops) (is_write_record part) w.rec r.rec among.before kept part_write among.few;
      }

  -- the record of an operation of the part is one of all
  part_record : (rec : ℕ) → Contains (records_of part) rec → Contains (records_of ops) rec
  part_record rec c =
      let (a, there, e) = op_of_record part rec c in
      subst (λ (n : ℕ). Contains (records_of ops) n) e (record_is_known ops a (within a there))

  pub orders_of_part : (d : ℕ) (order : List ℕ) → WritesDiffer ops → ((r : Op) → IsReadIn part r → (w : Op) × IsWriteOf part r.value w) → IsOrder ops d 1 order → IsOrder part d 1 (part_order order)
  orders_of_part d order differ written o =
      let passes = has (records_of part) in
      let once = o.each_once.once in
      record {
        each_once = record {
          known = λ rec c. has_contains (records_of part) rec (kept_passes passes order rec c);
          whole = λ rec c. kept_from passes order rec (o.each_once.whole rec (part_record rec c)) (contains_has (records_of part) rec c);
          once = λ i j x ati atj.
              let e = once (origin passes order i) (origin passes order j) x (origin_stands passes order i x ati) (origin_stands passes order j x atj) in
              elim (cases_order i j) [
                | inl same ↦ same
                | inr less ↦ elim less [
                  | inl low ↦ absurd (let r = origin_rises passes order i j low in omega arith)
                  | inr low ↦ absurd (let r = origin_rises passes order j i low in omega arith)
                ]
              ];
        };
        extends = λ a b ca cb p. kept_before passes order once a.rec b.rec (is_of_part a ca) (is_of_part b cb) (o.extends a b (within a ca) (within b cb) p);
        returns = λ r rr.
            let (w, ww) = written r rr in
            let (v, vv, among) = o.returns r (record { there = within r rr.there; kind = rr.kind }) in
            let same : v ≡ w = differ r.value v w vv (record { there = within w ww.there; kind = ww.kind; value_is = ww.value_is }) in
            (w, ww, part_among order w r once ww.there rr.there (subst (λ (u : Op). IsAmongLast ops 1 order u r) same among));
      }
