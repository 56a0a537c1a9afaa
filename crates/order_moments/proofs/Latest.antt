-- The least latest finish from a place on.
use Rattle.std.proofs.Common.{◌≡◌, ℕ, zero, suc, ◌+◌, ◌-◌, ◌<◌, ◌≤◌, min, List, length, get_or, refl, ap, inl, inr, arith}
use Rattle.std.proofs.lemmas.Bool.{cases_lt}
use Rattle.std.proofs.lemmas.Option.{slice_get_within, slice_get-get_or}
use Rattle.stale_model.specs.declared.Op.{Op}
use Rattle.stale_model.specs.Operations.{latest_finish}
use Rattle.stale_model.specs.Orders.{StandsAt}
use Rattle.stale_model.proofs.Places.{same_at}
use Rattle.order_moments.specs.Moments.{StandsFrom, IsLatest}
use Rattle.order_moments.proofs.Grown.{past_end}

-- there is one latest at a place
pub latest_one : (ordered : List Op) (place latest other : ℕ) → IsLatest ordered place latest → IsLatest ordered place other → latest ≡ other
latest_one ordered place latest other l m =
    let low = l.least m.op m.there in
    let high = m.least l.op l.there in
    let e = l.finish_is in
    let f = m.finish_is in
    omega arith

-- what stands from a place on stands there, or from the next place on
here_or_later : (ordered : List Op) (place : ℕ) (a b : Op) → StandsAt ordered place a → (from : StandsFrom ordered place b) → place ≡ from.at → a ≡ b
here_or_later ordered place a b at from e = same_at ordered place a b at (rw e from.stands)

-- this finish is no later than any from a place on, and is one of them where there is any
pub record IsLeastFrom (ordered : List Op) (place finish : ℕ) : Type 0 where
  pub least : (b : Op) → StandsFrom ordered place b → finish ≤ latest_finish b
  pub reached : place < length ordered → (op : Op) × StandsFrom ordered place op × (latest_finish op ≡ finish)

-- past the end any finish is
pub least_past : (ordered : List Op) (place finish : ℕ) → length ordered ≤ place → IsLeastFrom ordered place finish
least_past ordered place finish past = record {
  least = λ b from. absurd (let within = slice_get_within ordered from.at b from.stands in let low = from.from in omega arith);
  reached = λ within. absurd (omega arith);
}

later_from : (ordered : List Op) (place : ℕ) (b : Op) → StandsFrom ordered (suc place) b → StandsFrom ordered place b
later_from ordered place b from = record { at = from.at; from = (let low = from.from in omega arith); stands = from.stands }

-- with one more operation in front
pub latest_more : (ordered : List Op) (place : ℕ) (a : Op) (finish least : ℕ) → StandsAt ordered place a → IsLeastFrom ordered (suc place) finish
    → (length ordered ≤ suc place → latest_finish a ≤ finish) → least ≡ min finish (latest_finish a) → IsLatest ordered place least
latest_more ordered place a finish least at from past is = elim (cases_lt finish (latest_finish a)) [
  | inl less ↦
      let within : suc place < length ordered = elim (cases_lt (suc place) (length ordered)) [
        | inl l ↦ l
        | inr g ↦ absurd (let h = past g in omega arith)
      ] in
      let (op, there, finish_is) = from.reached within in
      record { op = op; there = later_from ordered place op there; finish_is = omega arith; least = bound (omega arith) (omega arith) }
  | inr more ↦ record {
    op = a;
    there = record { at = place; from = omega arith; stands = at };
    finish_is = omega arith;
    least = bound (omega arith) (omega arith);
  }
] where
  bound : least ≤ finish → least ≤ latest_finish a → (b : Op) → StandsFrom ordered place b → least ≤ latest_finish b
  bound low here b there = elim (cases_lt place there.at) [
    | inl later ↦ let h = from.least b (record { at = there.at; from = omega arith; stands = there.stands }) in omega arith
    | inr first ↦
        let start = there.from in
        let same : a ≡ b = here_or_later ordered place a b at there (omega arith) in
        let e : latest_finish a ≡ latest_finish b = ap latest_finish same in
        omega arith
  ]

-- the latest of a place is the least finish from there on
pub least_from_latest : (ordered : List Op) (place latest : ℕ) → IsLatest ordered place latest → IsLeastFrom ordered place latest
least_from_latest ordered place latest l = record { least = l.least; reached = λ _. (l.op, l.there, l.finish_is) }

-- the least latest finish of so many operations after the one at a place, and of that one
abbrev pub latest_at : List Op → ℕ → ℕ → ℕ
latest_at ordered zero place = latest_finish (get_or ordered place past_end)
latest_at ordered (suc left) place = min (latest_at ordered left (suc place)) (latest_finish (get_or ordered place past_end))

-- with as many as there are, that is the latest
pub latest_at_is : (ordered : List Op) (left place : ℕ) → place + suc left ≡ length ordered → IsLatest ordered place (latest_at ordered left place)
latest_at_is ordered zero place e =
    let a : Op = get_or ordered place past_end in
    latest_more ordered place a (latest_finish a) (latest_finish a) (slice_get-get_or ordered place past_end (omega arith)) (least_past ordered (suc place) (latest_finish a) (omega arith))
    (λ _. omega arith) (omega arith)
latest_at_is ordered (suc left) place e =
    let a : Op = get_or ordered place past_end in
    let latest = latest_at ordered left (suc place) in
    latest_more ordered place a latest (min latest (latest_finish a)) (slice_get-get_or ordered place past_end (omega arith))
    (least_from_latest ordered (suc place) latest (latest_at_is ordered left (suc place) (omega arith))) (λ past. absurd (omega arith)) refl

-- so each place has a latest
pub latest_there : (ordered : List Op) (place : ℕ) → place < length ordered → IsLatest ordered place (latest_at ordered (length ordered - suc place) place)
latest_there ordered place within = latest_at_is ordered (length ordered - suc place) place (omega arith)
