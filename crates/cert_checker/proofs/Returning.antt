-- What reads return in a list that is walked to one of its places, by how many writes stand up to each write.
use Rattle.std.proofs.Common.{◌≡◌, ◌≢◌, ◌⊎◌, inl, inr, ℕ, ◌+◌, ◌-◌, ◌<◌, ◌≤◌, Bool, false, List, cond, length, get_or, set, take, drop, sym, ◌∙◌, ap, subst, arith}
use Rattle.std.specs.Prelude.{Contains, slice_range, count_by, ◌==◌, ◌&&◌}
use Rattle.std.proofs.lemmas.Bool.{cases_eq, cases_Bool, and_parts, eqb-true}
use Rattle.std.proofs.lemmas.List.{take-take, drop-take}
use Rattle.std.proofs.lemmas.List.Sums.{sum_by-take-drop, count_by_more_yes, count_by_more_no}
use Rattle.std.proofs.lemmas.Option.{slice_get_within, get_or_from_slice_get}
use Rattle.stale_model.specs.declared.Op.{Op}
use Rattle.stale_model.specs.Operations.{IsRead, IsWrite, is_write}
use Rattle.stale_model.specs.Faults.{IsReadIn, IsWriteOf}
use Rattle.stale_model.specs.NamedWrites.{NamesItsWrites}
use Rattle.stale_model.specs.Orders.{StandsAt, IsWithoutRepeats, is_write_record, IsAmongLast}
use Rattle.stale_model.proofs.ReadsAndWrites.{kind_is_write}
use Rattle.stale_model.proofs.Places.{same_at}
use Rattle.model_laws.proofs.Tests.{some_passes}
use Rattle.model_laws.proofs.OrderPlaces.{write_is_known}
use Rattle.cert_checker.specs.OrderFaults.{StandsTo, IsUnreturned}
use Rattle.cert_checker.specs.Steps.{Returns}
use Rattle.cert_checker.proofs.Starts.{below_or_at}
use Rattle.cert_checker.proofs.Marks.{set_at, set_back}

-- how many pass up to one place, and from there to another
pub count_between : (p : ℕ → Bool) (xs : List ℕ) (i j : ℕ) → i ≤ j → count_by p (take i xs) + count_by p (slice_range xs i j) ≡ count_by p (take j xs)
count_between p xs i j le =
    let width : i + (j - i) ≡ j = omega arith in
    let split = sum_by-take-drop (λ x. cond (p x) 1 0) (take j xs) i in
    let front : take i (take j xs) ≡ take i xs = take-take i j xs le in
    let back : drop i (take j xs) ≡ take (j - i) (drop i xs) = subst (λ n. drop i (take n xs) ≡ take (j - i) (drop i xs)) width (drop-take i (j - i) xs) in
    rw (front, back) at split

module _ (ops : List Op) (order : List ℕ) where
  -- the write of this value stands before place n, and m writes up to it
  pub record IsPassed (n value m : ℕ) : Type 0 where
    pub w : Op
    pub write : IsWriteOf ops value w
    pub place : ℕ
    pub before : place < n
    pub there : StandsAt order place w.rec
    pub count : m ≡ count_by (is_write_record ops) (take (place + 1) order)
    pub some : 0 < m

  -- no write of this value stands before place n
  pub record IsAhead (n value m : ℕ) : Type 0 where
    pub none : m ≡ 0
    pub ahead : (w : Op) → IsWriteOf ops value w → StandsTo order n w.rec → ⊥

  abbrev pub IsSlot : ℕ → ℕ → ℕ → Type 0
  IsSlot n value m = IsAhead n value m ⊎ IsPassed n value m

  -- each slot says so of its value
  abbrev pub AreSlots : ℕ → List ℕ → Type 0
  AreSlots n table = (value m : ℕ) → StandsAt table value m → IsSlot n value m

  -- each read before place n returns one of the last k writes
  abbrev pub AreReturned : ℕ → ℕ → Type 0
  AreReturned k n = (r : Op) → IsReadIn ops r → StandsTo order n r.rec → Returns ops k order r

module _ (ops : List Op) (names : NamesItsWrites ops) where
  -- a read is not known as a write by its record
  pub read_is_none : (r : Op) → Contains ops r → IsRead r → is_write_record ops r.rec ≡ false
  read_is_none r c kind = elim (cases_Bool (is_write_record ops r.rec)) [
    | inl t ↦
        let (a, there, passes) = some_passes (λ (x : Op). (x.rec == r.rec) && is_write x) ops t in
        let (same, write) = and_parts (a.rec == r.rec) (is_write a) passes in
        let e : a ≡ r = names.records a r there c (eqb-true a.rec r.rec same) in
        let k = kind_is_write a.kind write in
        let l = ap (λ (x : Op). x.kind) e in
        absurd (cc)
    | inr f ↦ f
  ]

  module _ (order : List ℕ) (once : IsWithoutRepeats order) where
    pub none_before : (k n : ℕ) → AreReturned ops order k n → (p : ℕ) → p < n → IsUnreturned ops k order p → ⊥
    none_before k n returned p low u =
        let (w, write, among) = returned u.r u.read (record { earlier = p; before = low; there = u.there }) in
        u.unreturned w write among

    -- the operation at place n
    module _ (n : ℕ) (a : Op) (c : Contains ops a) (at : StandsAt order n a.rec) where
      is_here : (w : Op) (p : ℕ) → Contains ops w → p ≡ n → StandsAt order p w.rec → w ≡ a
      is_here w p there e stands = names.records w a there c (same_at order n w.rec a.rec (subst (λ q. StandsAt order q w.rec) e stands) at)

      -- what it doesn't write stays as it is
      pub still : (value m : ℕ) → ((w : Op) → IsWriteOf ops value w → w ≡ a → ⊥) → IsSlot ops order n value m → IsSlot ops order (n + 1) value m
      still value m free (inl h) = inl (record {
        none = h.none;
        ahead = λ w write s. elim (below_or_at s.earlier n s.before) [
          | inl low ↦ h.ahead w write (record { earlier = s.earlier; before = low; there = s.there })
          | inr e ↦ free w write (is_here w s.earlier write.there e s.there)
        ];
      })
      still value m free (inr h) = inr (record {
        w = h.w;
        write = h.write;
        place = h.place;
        before = (let b = h.before in omega arith);
        there = h.there;
        count = h.count;
        some = h.some;
      })

      within : n < length order
      within = slice_get_within order n a.rec at

      here : get_or order n 0 ≡ a.rec
      here = get_or_from_slice_get order n a.rec 0 at

      pub count_write : IsWrite a → count_by (is_write_record ops) (take (n + 1) order) ≡ count_by (is_write_record ops) (take n order) + 1
      count_write kind = count_by_more_yes (is_write_record ops) order n 0 within (ap (is_write_record ops) here ∙ write_is_known ops a c kind)

      pub count_read : IsRead a → count_by (is_write_record ops) (take (n + 1) order) ≡ count_by (is_write_record ops) (take n order)
      count_read kind = count_by_more_no (is_write_record ops) order n 0 within (ap (is_write_record ops) here ∙ read_is_none a c kind)

      -- after a write its value has passed
      pub slots_write : (table : List ℕ) (m : ℕ) → IsWrite a → a.value < length table → m ≡ count_by (is_write_record ops) (take (n + 1) order)
          → AreSlots ops order n table → AreSlots ops order (n + 1) (set table a.value m)
      slots_write table m kind wide count slots value x stands = elim (cases_eq value a.value) [
        | inl e ↦
            let same : x ≡ m = same_at (set table a.value m) a.value x m (subst (λ v. StandsAt (set table a.value m) v x) e stands) (set_at table a.value m 0 wide) in
            let more = count_write kind in
            inr (record {
              w = a;
              write = record { there = c; kind = kind; value_is = sym e };
              place = n;
              before = omega arith;
              there = at;
              count = same ∙ count;
              some = omega arith;
            })
        | inr apart ↦ still value x (λ w write e. apart (sym write.value_is ∙ ap (λ (y : Op). y.value) e)) (slots value x (set_back table a.value m 0 value x apart stands))
      ]

      -- a read changes none
      pub slots_read : (table : List ℕ) → IsRead a → AreSlots ops order n table → AreSlots ops order (n + 1) table
      slots_read table kind slots value m stands =
          still value m (λ w write e. let k = write.kind in let l = ap (λ (y : Op). y.kind) e in absurd (cc)) (slots value m stands)

      pub returned_more : (k : ℕ) → AreReturned ops order k n → (IsRead a → Returns ops k order a) → AreReturned ops order k (n + 1)
      returned_more k returned now r read s = elim (below_or_at s.earlier n s.before) [
        | inl low ↦ returned r read (record { earlier = s.earlier; before = low; there = s.there })
        | inr e ↦
            let same : r ≡ a = is_here r s.earlier read.there e s.there in
            subst (Returns ops k order) (sym same) (now (subst IsRead same read.kind))
      ]

      -- how many writes stand between a write that has passed and this place
      between : (value m writes : ℕ) (h : IsPassed ops order n value m) → writes ≡ count_by (is_write_record ops) (take n order)
          → count_by (is_write_record ops) (slice_range order (h.place + 1) n) + m ≡ writes
      between value m writes h count =
          let low = h.before in
          let is = h.count in
          let split = count_between (is_write_record ops) order (h.place + 1) n (omega arith) in
          omega arith

      -- a read of a value that has passed, with fewer than k writes since, returns one of the last k
      pub returns_here : (k m writes : ℕ) → writes ≡ count_by (is_write_record ops) (take n order) → IsSlot ops order n a.value m → m ≢ 0 → writes - m < k → Returns ops k order a
      returns_here k m writes count (inl h) some few = absurd (some h.none)
      returns_here k m writes count (inr h) some few = (
        h.w,
        h.write,
        record {
          before = record { place = h.place; later = n; rises = h.before; first = h.there; second = at };
          few = let b = between a.value m writes h count in omega arith;
        },
      )

      -- any other doesn't
      pub unreturned_here : (k m writes : ℕ) → IsRead a → writes ≡ count_by (is_write_record ops) (take n order) → IsSlot ops order n a.value m → (m ≡ 0) ⊎ (k ≤ writes - m) → IsUnreturned ops k order n
      unreturned_here k m writes kind count slot why = record {
        r = a;
        read = record { there = c; kind = kind };
        there = at;
        unreturned = λ w write among. never w write among (once among.before.later n a.rec among.before.second at) slot why;
      } where
        never : (w : Op) (write : IsWriteOf ops a.value w) (among : IsAmongLast ops k order w a) → among.before.later ≡ n → IsSlot ops order n a.value m → (m ≡ 0) ⊎ (k ≤ writes - m) → ⊥
        never w write among e (inl h) any =
            let r = among.before.rises in
            h.ahead w write (record { earlier = among.before.place; before = omega arith; there = among.before.first })
        never w write among e (inr h) (inl none) = let some = h.some in omega arith
        never w write among e (inr h) (inr many) =
            let same : w ≡ h.w = names.once a.value w h.w write h.write in
            let f : among.before.place ≡ h.place = once among.before.place h.place h.w.rec (subst (λ (x : Op). StandsAt order among.before.place x.rec) same among.before.first) h.there in
            let few = among.few in
            let less : count_by (is_write_record ops) (slice_range order (h.place + 1) n) < k = rw (f, e) at few in
            let b = between a.value m writes h count in
            omega arith

-- no more writes stand up to a write that has passed than up to this place
pub passed_le : (ops : List Op) (order : List ℕ) (n value m writes : ℕ) → IsSlot ops order n value m → writes ≡ count_by (is_write_record ops) (take n order) → m ≤ writes
passed_le ops order n value m writes (inl h) count = let e = h.none in omega arith
passed_le ops order n value m writes (inr h) count =
    let low = h.before in
    let is = h.count in
    let split = count_between (is_write_record ops) order (h.place + 1) n (omega arith) in
    omega arith
