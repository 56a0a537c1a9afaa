-- The ticks of single operations, and the greatest of them up to a place.
use Rattle.std.proofs.Common.{◌≡◌, ℕ, zero, suc, ◌-◌, ◌<◌, ◌≤◌, min, max, List, [], ◌∷◌, ◌++◌, length, get_or, refl, sym, ◌∙◌, ap, inl, inr, arith}
use Rattle.std.proofs.lemmas.List.{length_push}
use Rattle.std.proofs.lemmas.Option.{slice_get_within, slice_get-get_or}
use Rattle.std.proofs.lemmas.Bool.{cases_lt}
use Rattle.stale_model.specs.declared.Op.{Op}
use Rattle.stale_model.specs.Operations.{earliest_start}
use Rattle.stale_model.specs.Orders.{StandsAt}
use Rattle.stale_model.proofs.Places.{same_at}
use Rattle.order_moments.specs.Moments.{IsLatest, IsOwnTick, IsMoment, AreMoments}
use Rattle.order_moments.proofs.Latest.{latest_one, latest_at, latest_there}
use Rattle.order_moments.proofs.Grown.{past_end, stood_or_last}

-- there is one tick at a place
pub own_one : (ordered : List Op) (place tick other : ℕ) → IsOwnTick ordered place tick → IsOwnTick ordered place other → tick ≡ other
own_one ordered place tick other t u =
    let latest = latest_one ordered place t.latest u.latest t.latest_is u.latest_is in
    let start : earliest_start t.op ≡ earliest_start u.op = ap earliest_start (same_at ordered place t.op u.op t.stands u.stands) in
    let e = t.lesser in
    let f = u.lesser in
    omega arith

-- the tick of a place, computed
abbrev pub own_at : List Op → ℕ → ℕ
own_at ordered place = min (earliest_start (get_or ordered place past_end)) (latest_at ordered (length ordered - suc place) place)

pub own_at_is : (ordered : List Op) (place : ℕ) → place < length ordered → IsOwnTick ordered place (own_at ordered place)
own_at_is ordered place within = record {
  op = get_or ordered place past_end;
  stands = slice_get-get_or ordered place past_end within;
  latest = latest_at ordered (length ordered - suc place) place;
  latest_is = latest_there ordered place within;
  lesser = refl;
}

-- so each place has a tick
pub own_there : (ordered : List Op) (place : ℕ) (a : Op) → StandsAt ordered place a → (latest : ℕ) × IsLatest ordered place latest × IsOwnTick ordered place (min (earliest_start a) latest)
own_there ordered place a at =
    let latest = latest_at ordered (length ordered - suc place) place in
    let is = latest_there ordered place (slice_get_within ordered place a at) in
    (latest, is, record { op = a; stands = at; latest = latest; latest_is = is; lesser = refl })

-- the greatest tick before a place; 0 where none stands before it
pub record IsGreatestBefore (ordered : List Op) (place moment : ℕ) : Type 0 where
  pub none : place ≡ 0 → moment ≡ 0
  pub reached : 0 < place → (at : ℕ) × (at < place) × IsOwnTick ordered at moment
  pub greatest : (earlier tick : ℕ) → earlier < place → IsOwnTick ordered earlier tick → tick ≤ moment

pub none_before : (ordered : List Op) → IsGreatestBefore ordered 0 0
none_before ordered = record { none = λ _. refl; reached = λ l. absurd (omega arith); greatest = λ earlier tick l t. absurd (omega arith) }

-- the moment of one more place
pub moment_more : (ordered : List Op) (place before tick moment : ℕ) → IsGreatestBefore ordered place before → IsOwnTick ordered place tick → moment ≡ max tick before → IsMoment ordered place moment
moment_more ordered place before tick moment b t is = elim (cases_lt tick before) [
  | inl less ↦
      let some : 0 < place = elim (cases_lt 0 place) [
        | inl l ↦ l
        | inr g ↦ absurd (let h = b.none (omega arith) in omega arith)
      ] in
      let (at, low, own) = b.reached some in
      let e : before ≡ moment = omega arith in
      record { at = at; up_to = omega arith; reached = rw e at own; greatest = bound (omega arith) (omega arith) }
  | inr more ↦
      let e : tick ≡ moment = omega arith in
      record { at = place; up_to = omega arith; reached = rw e at t; greatest = bound (omega arith) (omega arith) }
] where
  bound : tick ≤ moment → before ≤ moment → (earlier other : ℕ) → earlier ≤ place → IsOwnTick ordered earlier other → other ≤ moment
  bound here low earlier other le own = elim (cases_lt earlier place) [
    | inl less ↦ let h = b.greatest earlier other less own in omega arith
    | inr last ↦
        let e : earlier ≡ place = omega arith in
        let same = own_one ordered place other tick (rw e at own) t in
        omega arith
  ]

-- a moment is the greatest tick before the next place
pub greatest_from_moment : (ordered : List Op) (place moment : ℕ) → IsMoment ordered place moment → IsGreatestBefore ordered (suc place) moment
greatest_from_moment ordered place moment m = record {
  none = λ e. absurd (omega arith);
  reached = λ _. (m.at, (let low = m.up_to in omega arith), m.reached);
  greatest = λ earlier tick l t. m.greatest earlier tick (omega arith) t;
}

-- the moment of a place, computed
abbrev pub moment_at : List Op → ℕ → ℕ
moment_at ordered zero = own_at ordered zero
moment_at ordered (suc place) = max (own_at ordered (suc place)) (moment_at ordered place)

pub moment_at_is : (ordered : List Op) (place : ℕ) → place < length ordered → IsMoment ordered place (moment_at ordered place)
moment_at_is ordered zero within = moment_more ordered zero 0 (own_at ordered zero) (own_at ordered zero) (none_before ordered) (own_at_is ordered zero within) (omega arith)
moment_at_is ordered (suc place) within =
    moment_more ordered (suc place) (moment_at ordered place) (own_at ordered (suc place)) (moment_at ordered (suc place))
    (greatest_from_moment ordered place (moment_at ordered place) (moment_at_is ordered place (omega arith))) (own_at_is ordered (suc place) within) refl

-- the moments of so many places
abbrev pub moments_to : List Op → ℕ → List ℕ
moments_to ordered zero = []
moments_to ordered (suc n) = moments_to ordered n ++ moment_at ordered n ∷ []

length-moments_to : (ordered : List Op) (n : ℕ) → length (moments_to ordered n) ≡ n
length-moments_to ordered zero = refl
length-moments_to ordered (suc n) = let h = length-moments_to ordered n in let g = length_push (moments_to ordered n) (moment_at ordered n) in omega arith

each_to : (ordered : List Op) (n : ℕ) → n ≤ length ordered → (place moment : ℕ) → StandsAt (moments_to ordered n) place moment → IsMoment ordered place moment
each_to ordered zero le place moment at = absurd (let within = slice_get_within [] place moment at in omega arith)
each_to ordered (suc n) le place moment at = elim (stood_or_last (moments_to ordered n) (moment_at ordered n) place moment at) [
  | inl stood ↦ each_to ordered n (omega arith) place moment stood
  | inr last ↦
      let e : place ≡ n = last.0 ∙ length-moments_to ordered n in
      rw (e, sym last.1) (moment_at_is ordered n (omega arith))
]

-- all of them are the moments
pub moments_are : (ordered : List Op) → AreMoments ordered (moments_to ordered (length ordered))
moments_are ordered = record { as_many = length-moments_to ordered (length ordered); each = each_to ordered (length ordered) (omega arith) }
