-- The marks: which ticks they are, and from which tick they count.
use Rattle.std.proofs.Common.{◌≡◌, ℕ, ◌+◌, ◌-◌, ◌*◌, ◌/◌, ◌%◌, ◌^◌, ◌<◌, ◌≤◌, List, [], ◌∷◌, ◌++◌, map, get_or, ltb, inl, inr, refl, sym, ap, ◌∙◌, subst, arith}
use Rattle.std.specs.List.{range_with_len, Contains}
use Rattle.std.specs.List.Sorted.{IsStrictlyIncreasing}
use Rattle.std.specs.Int.{div_ceil}
use Rattle.std.proofs.Math.Nat.{mul-le-mul_right, mul-mod_left, div-mul-le_self}
use Rattle.std.proofs.lemmas.Nat.{le-div, div-add-mod'}
use Rattle.std.proofs.lemmas.Bool.{cases_lt, lt-ltb, le-ltb, cond-true, cond-false}
use Rattle.std.proofs.lemmas.List.FromFn.{length-map-range_with_len, get_or-map-range_with_len, map-range_with_len_more}
use Rattle.tick_axis.specs.declared.Scale.{Scale}
use Rattle.tick_axis.specs.Places.{IsScale}
use Rattle.tick_axis.specs.Marks.{mark_count, step_of, multiples, marks_of, base_of}
use Rattle.tick_axis.specs.Laws.{AreMarks, IsBase}
use Rattle.tick_axis.proofs.Multiples.{ceil_least, ceil_reaches, span_of_few}
use Rattle.tick_axis.proofs.Stepping.{is_step, step_positive, some_marks}

-- what stands at a place of a list of multiples
multiple_at : (step from count k d : ℕ) → k < count → get_or (map (λ n. n * step) (range_with_len from count)) k d ≡ (from + k) * step
multiple_at step from count k d h = get_or-map-range_with_len (λ n. n * step) from count k (from + k) d h refl

rising : (step from count : ℕ) → 0 < step → IsStrictlyIncreasing (map (λ n. n * step) (range_with_len from count))
rising step from count positive k h =
    let within : k + 1 < count = omega (arith, h, length-map-range_with_len (λ n. n * step) from count) in
    omega (arith, multiple_at step from count k 0 (omega arith), multiple_at step from count (k + 1) 0 within)

-- each of the multiples is one from the first tick to the last
pub in_range : (s : Scale) (step tick : ℕ) → 0 < step → s.first ≤ s.last → Contains (multiples s step) tick → (s.first ≤ tick) × (tick ≤ s.last) × (tick % step ≡ 0)
in_range s step tick positive ordered (k, h, e) =
    let within : k < mark_count s step = omega (arith, h, length-map-range_with_len (λ n. n * step) (div_ceil s.first step) (mark_count s step)) in
    let is : tick ≡ (div_ceil s.first step + k) * step = sym e ∙ multiple_at step (div_ceil s.first step) (mark_count s step) k tick within in
    let most : (div_ceil s.first step + k) * step ≤ s.last / step * step = mul-le-mul_right step (omega arith) in (
      omega (arith, ceil_reaches s.first step (div_ceil s.first step + k) positive (omega arith)),
      omega (arith, div-mul-le_self s.last step),
      ap (λ t. t % step) is ∙ mul-mod_left (div_ceil s.first step + k) step,
    )

-- and each multiple from the first tick to the last is one of them
pub all_in_range : (s : Scale) (step tick : ℕ) → 0 < step → s.first ≤ tick → tick ≤ s.last → tick % step ≡ 0 → Contains (multiples s step) tick
all_in_range s step tick positive low high e =
    let is : tick / step * step ≡ tick = omega (arith, div-add-mod' tick step) in
    let above : div_ceil s.first step ≤ tick / step = ceil_least s.first step (tick / step) positive (omega arith) in
    let below : tick / step ≤ s.last / step = le-div (tick / step) s.last step positive (omega arith) in
    let within : tick / step - div_ceil s.first step < mark_count s step = omega arith in
    let which : (div_ceil s.first step + (tick / step - div_ceil s.first step)) * step ≡ tick / step * step = ap (λ n. n * step) (omega arith) in (
      tick / step - div_ceil s.first step,
      omega (arith, length-map-range_with_len (λ n. n * step) (div_ceil s.first step) (mark_count s step)),
      multiple_at step (div_ceil s.first step) (mark_count s step) (tick / step - div_ceil s.first step) tick within ∙ which ∙ is,
    )

pub are_marks : (s : Scale) → IsScale s → s.last < 2 ^ 64 → AreMarks s (marks_of s)
are_marks s scale fits =
    let positive : 0 < step_of s = step_positive s fits in
    let few : mark_count s (step_of s) ≤ 10 = (is_step s fits).few in
    record {
      some = omega (arith, some_marks s scale.ordered fits, length-map-range_with_len (λ n. n * step_of s) (div_ceil s.first (step_of s)) (mark_count s (step_of s)));
      few = omega (arith, length-map-range_with_len (λ n. n * step_of s) (div_ceil s.first (step_of s)) (mark_count s (step_of s)));
      rising = rising (step_of s) (div_ceil s.first (step_of s)) (mark_count s (step_of s)) positive;
      all = λ tick. (in_range s (step_of s) tick positive scale.ordered, λ h. all_in_range s (step_of s) tick positive h.0 h.1 h.2);
    }

-- the greatest multiple that isn't after a tick is at most that, and not much less
multiple_before : (tick many : ℕ) → 0 < many → (tick - tick % many ≤ tick) × (tick < (tick - tick % many) + many) × (tick - tick % many ≡ tick / many * many)
multiple_before tick many positive = (omega arith, omega arith, omega (arith, div-add-mod' tick many))

-- a multiple of a hundred steps is one of a step
round_hundreds : (n step : ℕ) → (n * (100 * step)) % step ≡ 0
round_hundreds n step =
    let e : n * (100 * step) ≡ n * 100 * step = omega arith in
    ap (λ t. t % step) e ∙ mul-mod_left (n * 100) step

-- the greatest multiple of a hundred steps before the first tick
later_base : (s : Scale) (step : ℕ) → step ≡ step_of s → 0 < step → mark_count s step ≤ 10 → IsBase s (s.first - s.first % (100 * step))
later_base s step is positive few =
    let parts : (s.first - s.first % (100 * step) ≤ s.first) × (s.first < (s.first - s.first % (100 * step)) + 100 * step) × (s.first - s.first % (100 * step) ≡ s.first / (100 * step) * (100 * step)) = multiple_before s.first (100 * step) (omega arith) in
    record {
      before = parts.0;
      round = ap (λ m. (s.first - s.first % (100 * step)) % m) (sym is) ∙ ap (λ t. t % step) parts.2 ∙ round_hundreds (s.first / (100 * step)) step;
      short = λ tick within. omega (arith, span_of_few s step positive few);
    }

no_base : (s : Scale) (step : ℕ) → step ≡ step_of s → 0 < step → s.last < 1000 * step → IsBase s 0
no_base s step is positive few = record {
  before = omega arith;
  round = omega arith;
  short = λ tick within. omega arith;
}

pub is_base : (s : Scale) → s.last < 2 ^ 64 → IsBase s (base_of s)
is_base s fits =
    let positive : 0 < step_of s = step_positive s fits in
    let few : mark_count s (step_of s) ≤ 10 = (is_step s fits).few in
    let P : ℕ → Type 0 = λ base. IsBase s base in
    elim (cases_lt s.last (1000 * step_of s)) [
      | inl early ↦ subst P (sym (cond-true (ltb s.last (1000 * step_of s)) 0 (s.first - s.first % (100 * step_of s)) (lt-ltb s.last (1000 * step_of s) early))) (no_base s (step_of s) refl positive early)
      | inr late ↦ subst P (sym (cond-false (ltb s.last (1000 * step_of s)) 0 (s.first - s.first % (100 * step_of s)) (le-ltb s.last (1000 * step_of s) late))) (later_base s (step_of s) refl positive few)
    ]

-- before the first multiple there are none
pub none_so_far : (marks : List ℕ) (step from number : ℕ) → number ≡ from → marks ≡ [] → marks ≡ map (λ n. n * step) (range_with_len from (number - from))
none_so_far marks step from number e empty =
    let none : 0 ≡ number - from = omega arith in
    empty ∙ ap (λ many. map (λ n. n * step) (range_with_len from many)) none

-- one more mark behind those before a number of steps
pub one_more : (marks more : List ℕ) (step from number : ℕ) → from ≤ number → marks ≡ map (λ n. n * step) (range_with_len from (number - from)) → more ≡ marks ++ (number * step) ∷ [] → more ≡ map (λ n. n * step) (range_with_len from (number + 1 - from))
one_more marks more step from number started so_far pushed =
    let count : (number - from) + 1 ≡ number + 1 - from = omega arith in
    pushed ∙ ap (λ front. front ++ (number * step) ∷ []) so_far
    ∙ sym (map-range_with_len_more (λ n. n * step) from (number - from) number (omega arith))
    ∙ ap (λ many. map (λ n. n * step) (range_with_len from many)) count

-- those before the first multiple after the last tick are all
pub all_marks : (s : Scale) (marks : List ℕ) (step number : ℕ) → step ≡ step_of s → number ≡ s.last / step + 1 → marks ≡ map (λ n. n * step) (range_with_len (div_ceil s.first step) (number - div_ceil s.first step)) → marks ≡ marks_of s
all_marks s marks step number exact e so_far =
    so_far ∙ ap (λ end. map (λ n. n * step) (range_with_len (div_ceil s.first step) (end - div_ceil s.first step))) e
    ∙ ap (λ n. multiples s n) exact
