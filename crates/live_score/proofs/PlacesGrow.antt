-- Places and rows after one more operation.
use Rattle.std.proofs.Common.{◌≡◌, ◌≢◌, ◌⊎◌, ℕ, ◌+◌, ◌<◌, ◌≤◌, List, Option, Some, None, length, set, get_or, refl, sym, ◌∙◌, ap, inl, inr, subst, arith}
use Rattle.std.specs.Prelude.{Contains}
use Rattle.std.proofs.lemmas.Bool.{cases_eq}
use Rattle.std.proofs.lemmas.Option.{slice_get_within, slice_get-get_or, get_or_from_slice_get, none-some, same_Some}
use Rattle.stale_model.specs.declared.Op.{Op}
use Rattle.stale_model.specs.declared.Kind.{Kind}
use Rattle.stale_model.specs.declared.Kind.TheVariants.{Read, Write}
use Rattle.stale_model.specs.Operations.{IsWrite, latest_finish}
use Rattle.stale_model.specs.Orders.{StandsAt}
use Rattle.stale_model.proofs.Places.{something_at, same_at}
use Rattle.live_score.specs.declared.places.Place.{Place}
use Rattle.live_score.specs.declared.rows.Row.{Row}
use Rattle.live_score.specs.Places.{AreRising, unused, unbounded}
use Rattle.live_score.specs.Rows.{IsFinishOf, IsFinishKept, AreRows, first_finish, placed_row, row_with, row_after, shown}
use Rattle.live_score.specs.Placing.{IsVacant, IsShown, IsOfRow, ArePlaced, IsRaised}
use Rattle.live_score.proofs.Stands.{after_write, written, unwritten}

-- what is shown has the f of the row
pub shown_f : (write : Option ℕ) (place : Place) → (shown write place).f ≡ place.f
shown_f None place = refl
shown_f (Some rec) place = refl

pub shown_vacant : (write : Option ℕ) (place : Place) → write ≡ None → IsVacant (shown write place)
shown_vacant None place e = record { write = refl; reads = refl }
shown_vacant (Some rec) place e = absurd (none-some rec (sym e))

pub shown_counted : (write : Option ℕ) (place : Place) (rec : ℕ) → write ≡ Some rec → shown write place ≡ place
shown_counted None place rec e = absurd (none-some rec e)
shown_counted (Some r) place rec e = refl

row_at_by : (kind : Kind) (row : Row) (op : Op) (at : ℕ) → (row_with kind row op).at ≡ row.at
row_at_by Read row op at = refl
row_at_by Write row op at = refl

pub row_at : (row : Row) (op : Op) (at : ℕ) → (row_after row op at).at ≡ Some at
row_at row op at = row_at_by op.kind (placed_row row op at) op at

row_f_by : (kind : Kind) (row : Row) (op : Op) → (row_with kind row op).place.f ≡ row.place.f
row_f_by Read row op = refl
row_f_by Write row op = refl

row_f : (row : Row) (op : Op) (at : ℕ) → (row_after row op at).place.f ≡ first_finish row.at row.place.f (latest_finish op)
row_f row op at = row_f_by op.kind (placed_row row op at) op

old_f : (kept : Option ℕ) (f finish at : ℕ) → kept ≡ Some at → first_finish kept f finish ≡ f
old_f None f finish at e = absurd (none-some at e)
old_f (Some k) f finish at e = refl

new_f : (kept : Option ℕ) (f finish : ℕ) → kept ≡ None → first_finish kept f finish ≡ finish
new_f None f finish e = refl
new_f (Some k) f finish e = absurd (none-some k (sym e))

raised_by : (kind : Kind) (row : Row) (op : Op) (at : ℕ) (write : Option ℕ) → row.write ≡ write → row.at ≡ Some at → (kind ≡ Write → row.write ≡ None)
    → IsRaised (shown row.write row.place) (shown (row_with kind (placed_row row op at) op).write (row_with kind (placed_row row op at) op).place)
raised_by kind row op at None write_is at_is first = inl (shown_vacant row.write row.place write_is)
raised_by Write row op at (Some rec) write_is at_is first = absurd (none-some rec (sym (first refl) ∙ write_is))
raised_by Read row op at (Some rec) write_is at_is first =
    let next : Place = (row_with Read (placed_row row op at) op).place in
    let old_is = shown_counted row.write row.place rec write_is in
    let new_is = shown_counted row.write next rec write_is in
    let f_is = old_f row.at row.place.f (latest_finish op) at at_is in
    let P : Place → Place → Type 0 = λ a b. IsRaised a b in
    subst (λ (a : Place). P a (shown row.write next)) (sym old_is)
    (subst (λ (b : Place). P row.place b) (sym new_is) (inr (record { f = sym f_is; w = refl; s = omega arith })))

-- the number of the place of a value: its own, or the first that is not taken
pub record IsPlaceFor (kept : Option ℕ) (taken at next : ℕ) : Type 0 where
  pub own : (k : ℕ) → kept ≡ Some k → k ≡ at
  pub kept_or_next : ((kept ≡ Some at) × (next ≡ taken)) ⊎ ((kept ≡ None) × (at ≡ taken) × (next ≡ taken + 1))

module _ (rows : List Row) (taken : ℕ) (places : List Place) (placed : ArePlaced rows taken places) where
  shown_taken : (row : Row) (kept : Option ℕ) (k : ℕ) → kept ≡ Some k → IsShown places taken row kept → (k < taken) × StandsAt places k (shown row.write row.place)
  shown_taken row None k e h = absurd (none-some k e)
  shown_taken row (Some at) k e h =
      let k_is : at ≡ k = same_Some at k e in
      subst (λ (n : ℕ). (n < taken) × StandsAt places n (shown row.write row.place)) k_is (h.0, h.1)

  -- what stands at the place of a row
  pub shown_at : (value : ℕ) (row : Row) (k : ℕ) → StandsAt rows value row → row.at ≡ Some k → (k < taken) × StandsAt places k (shown row.write row.place)
  shown_at value row k stands e = shown_taken row row.at k e (placed.shows value row stands)

  module _ (value at next : ℕ) (row new : Row) (here : StandsAt rows value row) (at_is : IsPlaceFor row.at taken at next) (new_at : new.at ≡ Some at) (within : at < length places) where
    row_within : value < length rows
    row_within = slice_get_within rows value row here

    below : at < next
    below = elim at_is.kept_or_next [
      | inl kept ↦ let l = (shown_at value row at here kept.0).0 in let e = kept.1 in omega arith
      | inr fresh ↦ let e = fresh.1 in let f = fresh.2 in omega arith
    ]

    more : taken ≤ next
    more = elim at_is.kept_or_next [ inl kept ↦ let e = kept.1 in omega arith | inr fresh ↦ let e = fresh.2 in omega arith ]

    -- no other value has this place
    only : (u : ℕ) (other : Row) → StandsAt rows u other → other.at ≡ Some at → u ≡ value
    only u other stands e = elim at_is.kept_or_next [
      | inl kept ↦ placed.apart u value at other row stands here e kept.0
      | inr fresh ↦ let l = (shown_at u other at stands e).0 in let f = fresh.1 in absurd (omega arith)
    ]

    shown_stays : (other : Row) (kept : Option ℕ) → ((k : ℕ) → kept ≡ Some k → k ≢ at) → IsShown places taken other kept → IsShown (set places at (shown new.write new.place)) next other kept
    shown_stays other None apart h = tt
    shown_stays other (Some k) apart h =
        let l = h.0 in
        let m = more in
        ((let low : k < next = omega arith in low), unwritten places at (shown new.write new.place) k (shown other.write other.place) (apart k refl) h.1)

    shown_new : (kept : Option ℕ) → kept ≡ Some at → IsShown (set places at (shown new.write new.place)) next new kept
    shown_new None e = absurd (none-some at e)
    shown_new (Some k) e =
        let k_is : at ≡ k = sym (same_Some k at e) in
        subst (λ (n : ℕ). (n < next) × StandsAt (set places at (shown new.write new.place)) n (shown new.write new.place)) k_is (below, written places at (shown new.write new.place) within)

    shows_after : (v : ℕ) (other : Row) → StandsAt (set rows value new) v other → IsShown (set places at (shown new.write new.place)) next other other.at
    shows_after v other stands = elim (after_write rows value new v other row_within stands) [
      | inl (v_is, is_new) ↦ subst (λ (r : Row). IsShown (set places at (shown new.write new.place)) next r r.at) (sym is_new) (shown_new new.at new_at)
      | inr (v_other, before) ↦ shown_stays other other.at (λ k e same. v_other (only v other before (e ∙ ap Some same))) (placed.shows v other before)
    ]

    new_is_at : (k : ℕ) (r : Row) → r ≡ new → r.at ≡ Some k → Some at ≡ Some k
    new_is_at k r e f = sym new_at ∙ ap (λ (x : Row). x.at) (sym e) ∙ f

    apart_after : (v u k : ℕ) (a b : Row) → StandsAt (set rows value new) v a → StandsAt (set rows value new) u b → a.at ≡ Some k → b.at ≡ Some k → v ≡ u
    apart_after v u k a b ata atb e f = elim (after_write rows value new v a row_within ata) [
      | inl (v_is, a_new) ↦ elim (after_write rows value new u b row_within atb) [
        | inl (u_is, b_new) ↦ v_is ∙ sym u_is
        | inr (u_other, before) ↦ absurd (u_other (only u b before (f ∙ sym (new_is_at k a a_new e))))
      ]
      | inr (v_other, a_before) ↦ elim (after_write rows value new u b row_within atb) [
        | inl (u_is, b_new) ↦ absurd (v_other (only v a a_before (e ∙ sym (new_is_at k b b_new f))))
        | inr (u_other, b_before) ↦ placed.apart v u k a b a_before b_before e f
      ]
    ]

    owned_before : (k : ℕ) → k < next → k ≢ at → k < taken
    owned_before k l other = elim at_is.kept_or_next [ inl kept ↦ let e = kept.1 in omega arith | inr fresh ↦ let e = fresh.1 in let f = fresh.2 in omega arith ]

    owned_after : (k : ℕ) → k < next → IsOfRow (set rows value new) k
    owned_after k l = elim (cases_eq k at) [
      | inl same ↦ record { value = value; row = new; stands = written rows value new row_within; at_is = new_at ∙ ap Some (sym same) }
      | inr other ↦
          let h = placed.owned k (owned_before k l other) in
          let differs : h.value ≢ value = λ e.
          let row_is : h.row ≡ row = same_at rows value h.row row (subst (λ (n : ℕ). StandsAt rows n h.row) e h.stands) here in
          other (at_is.own k (ap (λ (r : Row). r.at) (sym row_is) ∙ h.at_is)) in
          record { value = h.value; row = h.row; stands = unwritten rows value new h.value h.row differs h.stands; at_is = h.at_is }
    ]

    rest_after : (k : ℕ) (place : Place) → next ≤ k → StandsAt (set places at (shown new.write new.place)) k place → place ≡ unused
    rest_after k place le stands = elim (after_write places at (shown new.write new.place) k place within stands) [
      | inl (same, e) ↦ let l = below in absurd (omega arith)
      | inr (other, before) ↦ let m = more in placed.rest k place (omega arith) before
    ]

    -- rows and places belong together as before
    pub placed_grow : ArePlaced (set rows value new) next (set places at (shown new.write new.place))
    placed_grow = record { shows = shows_after; apart = apart_after; owned = owned_after; rest = rest_after }

-- f rises along the places, by what stands there
rising_at : (places : List Place) (i j : ℕ) (a b : Place) → AreRising places → i ≤ j → StandsAt places i a → StandsAt places j b → a.f ≤ b.f
rising_at places i j a b rising le ati atj =
    let h = rising i j a le (slice_get_within places j b atj) in
    let e = ap (λ (p : Place). p.f) (get_or_from_slice_get places i a a ati) in
    let g = ap (λ (p : Place). p.f) (get_or_from_slice_get places j b a atj) in
    omega arith

rising_from : (places : List Place) → ((i j : ℕ) (a b : Place) → i ≤ j → StandsAt places i a → StandsAt places j b → a.f ≤ b.f) → AreRising places
rising_from places each = λ i j d le l. each i j (get_or places i d) (get_or places j d) le (slice_get-get_or places i d (omega arith)) (slice_get-get_or places j d l)

-- a place whose f is between those before and those behind it
pub rising_grows : (places : List Place) (k : ℕ) (y : Place) → k < length places → AreRising places → ((i : ℕ) (a : Place) → i < k → StandsAt places i a → a.f ≤ y.f) → ((j : ℕ) (b : Place) → k < j → StandsAt places j b → y.f ≤ b.f)
    → AreRising (set places k y)
rising_grows places k y within rising before behind = rising_from (set places k y) (λ i j a b le ati atj. elim (after_write places k y i a within ati) [
  | inl (i_is, a_is) ↦
      let e = ap (λ (p : Place). p.f) a_is in
      elim (after_write places k y j b within atj) [
        | inl (j_is, b_is) ↦ let f = ap (λ (p : Place). p.f) b_is in omega arith
        | inr (j_other, b_before) ↦ let h = behind j b (omega arith) b_before in omega arith
      ]
  | inr (i_other, a_before) ↦ elim (after_write places k y j b within atj) [
    | inl (j_is, b_is) ↦ let f = ap (λ (p : Place). p.f) b_is in let h = before i a (omega arith) a_before in omega arith
    | inr (j_other, b_before) ↦ rising_at places i j a b rising le a_before b_before
  ]
])

pub finish_of : (ops : List Op) (value f : ℕ) (kept : Option ℕ) (at : ℕ) → kept ≡ Some at → IsFinishKept ops value f kept → IsFinishOf ops value f
finish_of ops value f None at e h = absurd (none-some at e)
finish_of ops value f (Some k) at e h = h

module _ (ops : List Op) (op : Op) (last : (a : Op) → Contains ops a → latest_finish a ≤ latest_finish op) (fits : latest_finish op ≤ unbounded)
    (rows : List Row) (taken : ℕ) (places : List Place) (are : AreRows ops rows) (placed : ArePlaced rows taken places) (rising : AreRising places) where
  taken_f : (i : ℕ) (a : Place) → i < taken → StandsAt places i a → a.f ≤ latest_finish op
  taken_f i a l stands =
      let own = placed.owned i l in
      let shows = (shown_at rows taken places placed own.value own.row i own.stands own.at_is).1 in
      let e = ap (λ (p : Place). p.f) (same_at places i a (shown own.row.write own.row.place) stands shows) in
      let f = shown_f own.row.write own.row.place in
      let h = finish_of ops own.value own.row.place.f own.row.at i own.at_is (are own.value own.row own.stands).finish in
      let is = h.there.2 in
      let le = last h.there.0 h.there.1.there in
      omega arith

  -- f still rises, whatever of w and s stands at the place of the operation's value
  pub rising_stays : (value at next : ℕ) (row : Row) (y : Place) → StandsAt rows value row → IsPlaceFor row.at taken at next → at < length places
      → y.f ≡ first_finish row.at row.place.f (latest_finish op) → AreRising (set places at y)
  rising_stays value at next row y here at_is within f_is = elim at_is.kept_or_next [
    | inl kept ↦
        let e = old_f row.at row.place.f (latest_finish op) at kept.0 in
        let shows = (shown_at rows taken places placed value row at here kept.0).1 in
        let f = shown_f row.write row.place in
        rising_grows places at y within rising
        (λ i a l stands. let h = rising_at places i at a (shown row.write row.place) rising (omega arith) stands shows in omega arith)
        (λ j b l stands. let h = rising_at places at j (shown row.write row.place) b rising (omega arith) shows stands in omega arith)
    | inr fresh ↦
        let e = new_f row.at row.place.f (latest_finish op) fresh.0 in
        let at_is = fresh.1 in
        rising_grows places at y within rising
        (λ i a l stands. let h = taken_f i a (omega arith) stands in omega arith)
        (λ j b l stands. let h = ap (λ (p : Place). p.f) (placed.rest j b (omega arith) stands) in omega arith)
  ]

-- what stood at the place of the operation's value, and that it only rises
pub raised_there : (rows : List Row) (taken : ℕ) (places : List Place) → ArePlaced rows taken places → (value at next : ℕ) (row : Row) (op : Op) → StandsAt rows value row → IsPlaceFor row.at taken at next
    → at < length places → (IsWrite op → row.write ≡ None) → (old : Place) × StandsAt places at old × IsRaised old (shown (row_after row op at).write (row_after row op at).place)
raised_there rows taken places placed value at next row op here at_is within first = elim at_is.kept_or_next [
  | inl kept ↦ (
    shown row.write row.place,
    (shown_at rows taken places placed value row at here kept.0).1,
    raised_by op.kind row op at row.write refl kept.0 first,
  )
  | inr fresh ↦
      let (old, stands) = something_at places at within in
      let e = placed.rest at old (let f = fresh.1 in omega arith) stands in
      let vacant : IsVacant old = record { write = ap (λ (p : Place). p.w) e; reads = ap (λ (p : Place). p.s) e } in
      (old, stands, inl vacant)
]

-- what is shown after an operation has the f of its value
pub shown_f_after : (row : Row) (op : Op) (at : ℕ) → (shown (row_after row op at).write (row_after row op at).place).f ≡ first_finish row.at row.place.f (latest_finish op)
shown_f_after row op at = shown_f (row_after row op at).write (row_after row op at).place ∙ row_f row op at
