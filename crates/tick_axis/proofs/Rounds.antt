-- The round numbers: they rise, and they are all of 1, 2 and 5 times a power of ten.
use Rattle.std.proofs.Common.{◌≡◌, ℕ, zero, suc, ◌+◌, ◌-◌, ◌*◌, ◌/◌, ◌%◌, ◌^◌, ◌<◌, ◌≤◌, inl, inr, [], ◌∷◌, get_or, refl, sym, ap, ◌∙◌, arith, lit<, Fits, w64, rules}
use Rattle.std.proofs.Math.Nat.{pow-suc, one-le-pow, pow-le-pow_right}
use Rattle.std.proofs.lemmas.Nat.{mul-le}
use Rattle.std.proofs.lemmas.Bool.{cases_lt}
use Rattle.tick_axis.specs.Marks.{round_number}
use Rattle.tick_axis.specs.Laws.{IsRound}

-- the digit at a place, and the power
at_place : (place d k : ℕ) → place % 3 ≡ d → place / 3 ≡ k → round_number place ≡ get_or (1 ∷ 2 ∷ 5 ∷ []) d 0 * 10 ^ k
at_place place d k e f = cc

pub one_at : (place k : ℕ) → place ≡ 3 * k → round_number place ≡ 10 ^ k
one_at place k e = at_place place 0 k (omega arith) (omega arith) ∙ omega arith

pub two_at : (place k : ℕ) → place ≡ 3 * k + 1 → round_number place ≡ 2 * 10 ^ k
two_at place k e = at_place place 1 k (omega arith) (omega arith)

pub five_at : (place k : ℕ) → place ≡ 3 * k + 2 → round_number place ≡ 5 * 10 ^ k
five_at place k e = at_place place 2 k (omega arith) (omega arith)

-- each place is one of three
pub data Place (place : ℕ) : Type 0 where
  one : (k : ℕ) → place ≡ 3 * k → Place place
  two : (k : ℕ) → place ≡ 3 * k + 1 → Place place
  five : (k : ℕ) → place ≡ 3 * k + 2 → Place place

pub place_of : (place : ℕ) → Place place
place_of place =
    elim (cases_lt (place % 3) 1) [
      | inl a ↦ one (place / 3) (omega arith)
      | inr a ↦ elim (cases_lt (place % 3) 2) [
        | inl b ↦ two (place / 3) (omega arith)
        | inr b ↦ five (place / 3) (omega arith)
      ]
    ]

pub positive : (place : ℕ) → 0 < round_number place
positive place = elim (place_of place) [
  | one k e ↦ omega (arith, one_at place k e, one-le-pow k 10)
  | two k e ↦ omega (arith, two_at place k e, one-le-pow k 10)
  | five k e ↦ omega (arith, five_at place k e, one-le-pow k 10)
]

pub rises_by_one : (place : ℕ) → round_number place < round_number (place + 1)
rises_by_one place = elim (place_of place) [
  | one k e ↦ omega (arith, one_at place k e, two_at (place + 1) k (omega arith), one-le-pow k 10)
  | two k e ↦ omega (arith, two_at place k e, five_at (place + 1) k (omega arith), one-le-pow k 10)
  | five k e ↦ omega (arith, five_at place k e, one_at (place + 1) (suc k) (omega arith), pow-suc 10 k, one-le-pow k 10)
]

pub rises_little : (place : ℕ) → round_number (place + 1) ≤ 3 * round_number place
rises_little place = elim (place_of place) [
  | one k e ↦ omega (arith, one_at place k e, two_at (place + 1) k (omega arith))
  | two k e ↦ omega (arith, two_at place k e, five_at (place + 1) k (omega arith))
  | five k e ↦ omega (arith, five_at place k e, one_at (place + 1) (suc k) (omega arith), pow-suc 10 k)
]

rises_by : (place more : ℕ) → round_number place ≤ round_number (place + more)
rises_by place zero =
    let e : place ≡ place + 0 = omega arith in
    omega (arith, ap (λ n. round_number n) e)
rises_by place (suc more) =
    let e : (place + more) + 1 ≡ place + suc more = omega arith in
    omega (arith, ap (λ n. round_number n) e, rises_by place more, rises_by_one (place + more))

pub rises : (early late : ℕ) → early ≤ late → round_number early ≤ round_number late
rises early late h =
    let e : early + (late - early) ≡ late = omega arith in
    omega (arith, ap (λ n. round_number n) e, rises_by early (late - early))

pub is_round : (place : ℕ) → IsRound (round_number place)
is_round place = elim (place_of place) [
  | one k e ↦ (k, inl (one_at place k e))
  | two k e ↦ (k, inr (inl (two_at place k e)))
  | five k e ↦ (k, inr (inr (five_at place k e)))
]

pub place_of_round : (n : ℕ) → IsRound n → (place : ℕ) × (n ≡ round_number place)
place_of_round n (k, h) = elim h [
  | inl e ↦ (3 * k, e ∙ sym (one_at (3 * k) k refl))
  | inr h ↦ elim h [
    | inl e ↦ (3 * k + 1, e ∙ sym (two_at (3 * k + 1) k refl))
    | inr e ↦ (3 * k + 2, e ∙ sym (five_at (3 * k + 2) k refl))
  ]
]

-- a digit times a power that is at most the greatest fits, and isn't 0
pub digit_fits : (digit power : ℕ) → digit ≤ 5 → power ≤ 10 ^ 18 → Fits w64 (digit * power)
digit_fits digit power h k = let most : digit * power ≤ 5 * 10 ^ 18 = mul-le digit power 5 (10 ^ 18) h k in search (rules)

pub digit_positive : (digit power : ℕ) → 0 < digit → 0 < power → 0 < digit * power
digit_positive digit power h k = let least : 1 * 1 ≤ digit * power = mul-le 1 1 digit power h k in omega arith

pub power_within : (place : ℕ) → place < 56 → 10 ^ (place / 3) ≤ 10 ^ 18
power_within place h = let low : place / 3 ≤ 18 = omega arith in pow-le-pow_right (lit< tt) low
