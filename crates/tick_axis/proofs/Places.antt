-- Where ticks stand: on the axis, and its ends at its ends.
use Rattle.std.proofs.Common.{◌≡◌, ℕ, ◌+◌, ◌-◌, ◌*◌, ◌/◌, ◌<◌, ◌≤◌, eqb, refl, ap, ◌∙◌, arith}
use Rattle.std.proofs.Math.Nat.{mul-le-mul_right, mul-div_right, div-le_of_le-mul, zero-div, zero-mul}
use Rattle.std.proofs.lemmas.Bool.{cond_both, eqb-true, eqb-false}
use Rattle.tick_axis.specs.declared.Scale.{Scale}
use Rattle.tick_axis.specs.Places.{IsScale, tick_within, tick_place}
use Rattle.tick_axis.specs.Laws.{IsOnAxis, HasEnds}

-- a part of the span has at most the width
part_fits : (part span width : ℕ) → part ≤ span → part * width / span ≤ width
part_fits part span width h = div-le_of_le-mul span (mul-le-mul_right width h)

-- what holds of both cases of a place holds of it
by_cases : (s : Scale) (tick : ℕ) (P : ℕ → Type 0) → (s.first ≡ s.last → P s.left) → ((s.first ≡ s.last → ⊥) → P (s.left + (tick_within s tick - s.first) * s.width / (s.last - s.first))) → P (tick_place s tick)
by_cases s tick P one more =
    cond_both (eqb s.first s.last) s.left (s.left + (tick_within s tick - s.first) * s.width / (s.last - s.first)) P
    (λ e. one (eqb-true s.first s.last e)) (λ e. more (eqb-false s.first s.last e))

pub on_axis : (s : Scale) (tick : ℕ) → IsScale s → IsOnAxis s (tick_place s tick)
on_axis s tick scale =
    by_cases s tick (λ place. IsOnAxis s place)
    (λ _. record { from_left = omega arith; to_right = omega arith })
    (λ _. record { from_left = omega arith; to_right = omega (arith, part_fits (tick_within s tick - s.first) (s.last - s.first) s.width (omega (arith, scale.ordered))) })

first_part : (s : Scale) (part : ℕ) → part ≡ 0 → s.left + part * s.width / (s.last - s.first) ≡ s.left
first_part s part e =
    ap (λ n. s.left + n * s.width / (s.last - s.first)) e
    ∙ omega (arith, ap (λ n. n / (s.last - s.first)) (zero-mul s.width), zero-div (s.last - s.first))

last_part : (s : Scale) (part : ℕ) → s.first < s.last → part ≡ s.last - s.first → s.left + part * s.width / (s.last - s.first) ≡ s.left + s.width
last_part s part more e =
    ap (λ n. s.left + n * s.width / (s.last - s.first)) e ∙ ap (λ n. s.left + n) (mul-div_right s.width (omega arith))

pub has_ends : (s : Scale) → IsScale s → HasEnds s
has_ends s scale = record {
  left_end = by_cases s s.first (λ place. place ≡ s.left) (λ _. refl) (λ _. first_part s (tick_within s s.first - s.first) (omega arith));
  right_end = λ more. by_cases s s.last (λ place. place ≡ s.left + s.width) (λ one. absurd (omega arith)) (λ _. last_part s (tick_within s s.last - s.first) more (omega arith));
}
