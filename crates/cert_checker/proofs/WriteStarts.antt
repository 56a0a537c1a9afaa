-- The earliest starts of the writes of a key up to one of its places, and what they tell of its faults.
use Rattle.std.proofs.Common.{◌≡◌, ◌⊎◌, ℕ, ◌+◌, ◌<◌, ◌≤◌, List, Option, Some, None, length, get_or, set, replicate, refl, sym, ◌∙◌, ap, inl, inr, subst, arith, add-one}
use Rattle.std.specs.Prelude.{Contains, slice_get}
use Rattle.std.proofs.lemmas.Bool.{cases_eq}
use Rattle.std.proofs.lemmas.List.{length-replicate, get_or-replicate}
use Rattle.std.proofs.lemmas.Option.{slice_get-get_or, slice_get_within, get_or_from_slice_get, slice_get_read}
use Rattle.stale_model.specs.declared.Op.{Op}
use Rattle.stale_model.specs.declared.KeyOps.{KeyOps}
use Rattle.stale_model.specs.Operations.{IsRead, IsWrite, initial_write, operations, earliest_start, latest_finish}
use Rattle.stale_model.specs.Orders.{StandsAt}
use Rattle.stale_model.specs.Valid.{IsValidKey}
use Rattle.stale_model.specs.Faults.{IsReadIn, IsWriteOf, IsDuplicate, IsUnmatched, IsEarly, IsDuplicateKey, IsLeastRecord, HasNone}
use Rattle.stale_model.proofs.Places.{contains_at, at_its_place, same_at}
use Rattle.cert_checker.specs.States.{IsStart, AreStarts}
use Rattle.cert_checker.proofs.Lookups.{in_slots}
use Rattle.cert_checker.proofs.Marks.{set_at, set_back}
use Rattle.cert_checker.proofs.Starts.{below_or_at}
use Rattle.cert_checker.proofs.InOrder.{no_op}
use Rattle.cert_checker.proofs.FirstFaults.{read_writes_not, stands_here, known_here, least_here, free_next, IsFreeTo, stands_below, record_below, first_is_least}

-- w writes this value, and stands before place n
pub record IsWriteTo (ops : List Op) (n value : ℕ) (w : Op) : Type 0 where
  pub place : ℕ
  pub before : place < n
  pub there : StandsAt ops place w
  pub kind : IsWrite w
  pub value_is : w.value ≡ value

-- each slot has the earliest start of the one write of its value before place n
abbrev pub AreStartsTo : List Op → ℕ → List (Option ℕ) → Type 0
AreStartsTo ops n starts = (value : ℕ) (slot : Option ℕ) → StandsAt starts value slot → IsStart (IsWriteTo ops n value) slot

-- what is said of one such operation is said of the same operations
pub same_start : (Is Other : Op → Type 0) → ((w : Op) → Is w → Other w) → ((w : Op) → Other w → Is w) → (slot : Option ℕ) → IsStart Is slot → IsStart Other slot
same_start Is Other there back None none = λ w o. none w (back w o)
same_start Is Other there back (Some start) (w, h) = (w, record { is = there w h.is; only = λ x o. h.only x (back x o); start_is = h.start_is })

-- two such operations are one
pub one_start : (Is : Op → Type 0) (slot : Option ℕ) (a b : Op) → IsStart Is slot → Is a → Is b → a ≡ b
one_start Is None a b none p q = absurd (none a p)
one_start Is (Some start) a b (w, h) p q = h.only a p ∙ sym (h.only b q)

module _ (ops : List Op) (n : ℕ) (a : Op) (at : StandsAt ops n a) where
  is_here : (p : ℕ) (w : Op) → p ≡ n → StandsAt ops p w → w ≡ a
  is_here p w e stands = same_at ops n w a (subst (λ q. StandsAt ops q w) e stands) at

  still_before : (value : ℕ) (w : Op) → IsWriteTo ops n value w → IsWriteTo ops (n + 1) value w
  still_before value w h = record { place = h.place; before = (let b = h.before in omega arith); there = h.there; kind = h.kind; value_is = h.value_is }

  was_before : (value : ℕ) (w : Op) → IsWriteTo ops (n + 1) value w → IsWriteTo ops n value w ⊎ (w ≡ a)
  was_before value w h = elim (below_or_at h.place n h.before) [
    | inl low ↦ inl (record { place = h.place; before = low; there = h.there; kind = h.kind; value_is = h.value_is })
    | inr e ↦ inr (is_here h.place w e h.there)
  ]

  -- a value that it does not write keeps its slot
  still : (value : ℕ) → ((w : Op) → w ≡ a → IsWrite w → w.value ≡ value → ⊥) → (slot : Option ℕ) → IsStart (IsWriteTo ops n value) slot → IsStart (IsWriteTo ops (n + 1) value) slot
  still value free slot h =
      same_start (IsWriteTo ops n value) (IsWriteTo ops (n + 1) value) (still_before value)
      (λ w g. elim (was_before value w g) [ inl before ↦ before | inr same ↦ absurd (free w same g.kind g.value_is) ]) slot h

  -- a read changes no slot
  pub starts_read : (starts : List (Option ℕ)) → (IsWrite a → ⊥) → AreStartsTo ops n starts → AreStartsTo ops (n + 1) starts
  starts_read starts reads slots value slot stands =
      still value (λ w same kind _. reads (subst IsWrite same kind)) slot (slots value slot stands)

  -- the first write of a value fills its slot
  pub starts_write : (starts : List (Option ℕ)) → IsWrite a → StandsAt starts a.value None → AreStartsTo ops n starts → AreStartsTo ops (n + 1) (set starts a.value (Some (earliest_start a)))
  starts_write starts kind empty slots value slot stands = elim (cases_eq value a.value) [
    | inl e ↦
        let here : slot ≡ Some (earliest_start a) = same_at (set starts a.value (Some (earliest_start a))) a.value slot (Some (earliest_start a))
        (subst (λ v. StandsAt (set starts a.value (Some (earliest_start a))) v slot) e stands)
        (set_at starts a.value (Some (earliest_start a)) None (slice_get_within starts a.value None empty)) in
        subst (λ s. IsStart (IsWriteTo ops (n + 1) value) s) (sym here) (
          a,
          record {
            is = record { place = n; before = omega arith; there = at; kind = kind; value_is = sym e };
            only = λ x g. elim (was_before value x g) [
              | inl before ↦ absurd (slots a.value None empty x (subst (λ v. IsWriteTo ops n v x) e before))
              | inr same ↦ same
            ];
            start_is = refl;
          },
        )
    | inr apart ↦
        still value (λ w same _ is. apart (sym is ∙ ap (λ (x : Op). x.value) same)) slot
        (slots value slot (set_back starts a.value (Some (earliest_start a)) None value slot apart stands))
  ]

-- before the first operation all slots are empty
starts_none : (ops : List Op) (count : ℕ) → AreStartsTo ops 0 (replicate count None)
starts_none ops count value slot stands =
    let within : value < length (replicate {A = Option ℕ} count None) = slice_get_within (replicate count None) value slot stands in
    let low : value < count = (let n = length-replicate {A = Option ℕ} count None in omega arith) in
    let empty : slot ≡ None = sym (get_or_from_slice_get (replicate count None) value slot slot stands) ∙ get_or-replicate count value None slot low in
    subst (λ s. IsStart (IsWriteTo ops 0 value) s) (sym empty) (λ w h. let b = h.before in omega arith)

-- the initial write fills the slot of value 0
pub starts_first : (ops : List Op) (starts : List (Option ℕ)) (values start : ℕ) → StandsAt ops 0 initial_write → starts ≡ replicate (values + 1) None → start ≡ earliest_start initial_write
    → AreStartsTo ops 1 (set starts 0 (Some start))
starts_first ops starts values start first empty is =
    subst (λ s. AreStartsTo ops 1 (set starts 0 (Some s))) (sym is)
    (starts_write ops 0 initial_write first starts refl
    (ap (λ (t : List (Option ℕ)). slice_get t 0) empty ∙ ap (λ (n : ℕ). slice_get (replicate {A = Option ℕ} n None) 0) (add-one values))
    (subst (λ t. AreStartsTo ops 0 t) (sym empty) (starts_none ops (values + 1))))

module _ (key : KeyOps) (valid : IsValidKey key) where
  -- an operation has a slot
  slot_of : (starts : List (Option ℕ)) (a : Op) → length starts ≡ length key.values + 1 → Contains (operations key) a → StandsAt starts a.value (get_or starts a.value None)
  slot_of starts a size c = slice_get-get_or starts a.value None (let low = in_slots key valid a c in omega arith)

  -- what the slot of an operation was read as
  item_is : (starts : List (Option ℕ)) (a : Op) (read slot : Option ℕ) → length starts ≡ length key.values + 1 → Contains (operations key) a → read ≡ get_or starts a.value read → read ≡ slot
      → StandsAt starts a.value slot
  item_is starts a read slot size c here is =
      slice_get_read starts (length starts) a.value read refl (let low = in_slots key valid a c in omega arith) here ∙ ap (λ s. Some s) is

  module _ (n : ℕ) (starts : List (Option ℕ)) (size : length starts ≡ length key.values + 1) (slots : AreStartsTo (operations key) n starts) where
    -- where each slot has one write at most, none of the writes is a duplicate
    pub no_duplicate_to : IsFreeTo (IsDuplicate (operations key)) (operations key) n
    no_duplicate_to p b low at d =
        let (w, write, less) = d.earlier in
        let stands = at_its_place (operations key) w write.there in
        let before : write.there.0 < p = stands_below key valid write.there.0 p w b less stands at in
        let same : w ≡ b = one_start (IsWriteTo (operations key) n b.value) (get_or starts b.value None) w b (slots b.value (get_or starts b.value None) (slot_of starts b size d.there))
        (record { place = write.there.0; before = omega arith; there = stands; kind = write.kind; value_is = write.value_is })
        (record { place = p; before = low; there = at; kind = d.kind; value_is = refl }) in
        let e = ap (λ (x : Op). x.rec) same in
        omega arith

    -- a write whose slot is taken is the duplicate of the least record
    pub duplicate_here : (a : Op) (start : ℕ) → StandsAt (operations key) n a → IsWrite a → StandsAt starts a.value (Some start) → IsDuplicateKey (operations key) a.rec
    duplicate_here a start at kind taken =
        let (w, h) = slots a.value (Some start) taken in
        first_is_least key valid (IsDuplicate (operations key)) (λ b d. d.there) n a no_duplicate_to at
        (record {
          there = contains_at (operations key) n a at;
          kind = kind;
          earlier = (
            w,
            record { there = contains_at (operations key) h.is.place w h.is.there; kind = h.is.kind; value_is = h.is.value_is },
            record_below key valid h.is.place n w a h.is.before h.is.there at,
          );
        })

    -- after the last operation the slots are those of the key
    pub starts_all : length (operations key) ≤ n → AreStarts key starts
    starts_all past = record {
      size = size;
      slots = λ value slot stands.
          same_start (IsWriteTo (operations key) n value) (IsWriteOf (operations key) value)
          (λ w h. record { there = contains_at (operations key) h.place w h.there; kind = h.kind; value_is = h.value_is })
          (λ w h. record {
            place = h.there.0;
            before = (let within = h.there.1 in omega arith);
            there = at_its_place (operations key) w h.there;
            kind = h.kind;
            value_is = h.value_is;
          })
          slot (slots value slot stands);
    }

  -- where there are such slots no value is written twice
  pub no_duplicate : (starts : List (Option ℕ)) → AreStarts key starts → HasNone (IsDuplicate (operations key))
  no_duplicate starts h a d =
      let (w, write, less) = d.earlier in
      let same : w ≡ a = one_start (IsWriteOf (operations key) a.value) (get_or starts a.value None) w a (h.slots a.value (get_or starts a.value None) (slot_of starts a h.size d.there))
      write (record { there = d.there; kind = d.kind; value_is = refl }) in
      let e = ap (λ (x : Op). x.rec) same in
      omega arith

-- what the slots tell of the operation that a loop over those of a key is at, and how it changes them
module _ (key : KeyOps) (valid : IsValidKey key) (items : List Op) (i : ℕ) (same : items ≡ key.ops) (within : i < length items)
    (starts : List (Option ℕ)) (size : length starts ≡ length key.values + 1) (slots : AreStartsTo (operations key) (i + 1) starts) (read : Option ℕ)
    (here : read ≡ get_or starts (get_or items i no_op).value read) where
  item_here : (slot : Option ℕ) → read ≡ slot → StandsAt starts (get_or items i no_op).value slot
  item_here slot is = item_is key valid starts (get_or items i no_op) read slot size (known_here key items i same within) here is

  pub taken_here : (start : ℕ) → IsWrite (get_or items i no_op) → read ≡ Some start → IsDuplicateKey (operations key) (get_or items i no_op).rec
  taken_here start kind is =
      duplicate_here key valid (i + 1) starts size slots (get_or items i no_op) start (stands_here key items i same within) kind (item_here (Some start) is)

  pub next_read : IsRead (get_or items i no_op) → AreStartsTo (operations key) (i + 1 + 1) starts
  next_read kind =
      starts_read (operations key) (i + 1) (get_or items i no_op) (stands_here key items i same within) starts (read_writes_not (get_or items i no_op) kind) slots

  pub next_write : (start : ℕ) → IsWrite (get_or items i no_op) → read ≡ None → start ≡ earliest_start (get_or items i no_op)
      → AreStartsTo (operations key) (i + 1 + 1) (set starts (get_or items i no_op).value (Some start))
  next_write start kind is start_is =
      rw start_is (starts_write (operations key) (i + 1) (get_or items i no_op) (stands_here key items i same within) starts kind (item_here None is) slots)

-- what the slot tells of the operation that a loop over those of a key is at
module _ (key : KeyOps) (valid : IsValidKey key) (starts : List (Option ℕ)) (h : AreStarts key starts) (items : List Op) (i : ℕ) (same : items ≡ key.ops) (within : i < length items) where
  slot_here : (slot : Option ℕ) → get_or starts (get_or items i no_op).value None ≡ slot → StandsAt starts (get_or items i no_op).value slot
  slot_here slot is = slot_of key valid starts (get_or items i no_op) h.size (known_here key items i same within) ∙ ap (λ s. Some s) is

  read_here : IsRead (get_or items i no_op) → IsReadIn (operations key) (get_or items i no_op)
  read_here kind = record { there = known_here key items i same within; kind = kind }

  module _ (free : IsFreeTo (IsUnmatched (operations key)) (operations key) (i + 1)) where
    -- a read whose slot is empty is unmatched
    pub unmatched_here : IsRead (get_or items i no_op) → get_or starts (get_or items i no_op).value None ≡ None → IsLeastRecord (IsUnmatched (operations key)) (get_or items i no_op).rec
    unmatched_here kind is =
        least_here key items i same (IsUnmatched (operations key)) (λ b f. f.read) free within valid
        (record { read = read_here kind; unwritten = h.slots (get_or items i no_op).value None (slot_here None is) })

    -- an operation whose slot is taken is not
    pub matched_here : (start : ℕ) → get_or starts (get_or items i no_op).value None ≡ Some start → IsFreeTo (IsUnmatched (operations key)) (operations key) (i + 1 + 1)
    matched_here start is = free_next key items i same (IsUnmatched (operations key)) (λ b f. f.read) free within
        (λ f. let (w, only) = h.slots (get_or items i no_op).value (Some start) (slot_here (Some start) is) in f.unwritten w only.is)

  module _ (free : IsFreeTo (IsEarly (operations key)) (operations key) (i + 1)) where
    -- a read that has finished before its write starts is early
    pub early_here : (start : ℕ) → IsRead (get_or items i no_op) → get_or starts (get_or items i no_op).value None ≡ Some start → latest_finish (get_or items i no_op) < start
        → IsLeastRecord (IsEarly (operations key)) (get_or items i no_op).rec
    early_here start kind is less =
        let (w, only) = h.slots (get_or items i no_op).value (Some start) (slot_here (Some start) is) in
        let e = only.start_is in
        least_here key items i same (IsEarly (operations key)) (λ b f. f.read) free within valid (record { read = read_here kind; before = (w, only.is, omega arith) })

    -- any other is not
    pub timely_here : (start : ℕ) → get_or starts (get_or items i no_op).value None ≡ Some start → start ≤ latest_finish (get_or items i no_op) → IsFreeTo (IsEarly (operations key)) (operations key) (i + 1 + 1)
    timely_here start is le = free_next key items i same (IsEarly (operations key)) (λ b f. f.read) free within
        (λ f.
        let (w, only) = h.slots (get_or items i no_op).value (Some start) (slot_here (Some start) is) in
        let (x, write, less) = f.before in
        let e = only.start_is in
        let g = ap earliest_start (only.only x write) in
        omega arith)

    -- nor is one whose slot is empty
    pub unwritten_here : get_or starts (get_or items i no_op).value None ≡ None → IsFreeTo (IsEarly (operations key)) (operations key) (i + 1 + 1)
    unwritten_here is = free_next key items i same (IsEarly (operations key)) (λ b f. f.read) free within
        (λ f. let (w, write, less) = f.before in h.slots (get_or items i no_op).value None (slot_here None is) w write)
