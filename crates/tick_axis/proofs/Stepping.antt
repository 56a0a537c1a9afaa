-- The step: where the first round number that gives few marks stands.
use Rattle.std.proofs.Common.{◌≡◌, ℕ, zero, suc, ◌+◌, ◌^◌, ◌<◌, ◌≤◌, inl, inr, Bool, true, false, Some, map, refl, sym, ap, ◌∙◌, subst, below_more, arith}
use Rattle.std.specs.Prelude.{find, nat_le, unwrap_or}
use Rattle.std.specs.List.{range_with_len}
use Rattle.std.proofs.lemmas.Bool.{cases_lt, cases_eq, cond-true, cond-false, le-leb, lt-leb}
use Rattle.tick_axis.specs.declared.Scale.{Scale}
use Rattle.tick_axis.specs.Marks.{mark_count, round_number, step_of}
use Rattle.tick_axis.specs.Laws.{IsStep}
use Rattle.tick_axis.proofs.Rounds.{positive, rises, rises_little, is_round, place_of_round}
use Rattle.tick_axis.proofs.Multiples.{few_marks, span_of_many, some_mark}

-- the first of the images that passes
find_first : (test : ℕ → Bool) (f : ℕ → ℕ) (from target count : ℕ) → from ≤ target → target < from + count
    → ((k : ℕ) → from ≤ k → k < target → test (f k) ≡ false) → test (f target) ≡ true
    → find test (map f (range_with_len from count)) ≡ Some (f target)
find_first test f from target zero low high fail pass = absurd (omega arith)
find_first test f from target (suc count) low high fail pass =
    elim (cases_eq from target) [
      | inl e ↦
          let passes : test (f from) ≡ true = ap (λ k. test (f k)) e ∙ pass in
          cond-true (test (f from)) (Some (f from)) (find test (map f (range_with_len (from + 1) count))) passes ∙ ap (λ k. Some (f k)) e
      | inr ne ↦
          cond-false (test (f from)) (Some (f from)) (find test (map f (range_with_len (from + 1) count))) (fail from (omega arith) (omega arith))
          ∙ find_first test f (from + 1) target count (omega arith) (omega arith) (λ k above below. fail k (omega arith) below) pass
    ]

pub step_at : (s : Scale) (place : ℕ) → place ≤ 55 → ((k : ℕ) → k < place → 10 < mark_count s (round_number k)) → mark_count s (round_number place) ≤ 10 → step_of s ≡ round_number place
unfolding step_of
step_at s place within many few =
    ap (λ o. unwrap_or o 0)
    (find_first (λ step. nat_le (mark_count s step) 10) round_number 0 place 57 (omega arith) (omega arith)
    (λ k above below. lt-leb (mark_count s (round_number k)) 10 (many k below))
    (le-leb (mark_count s (round_number place)) 10 few))

-- the last round number but one gives few marks on each scale
pub last_gives_few : (s : Scale) → s.last < 2 ^ 64 → mark_count s (round_number 55) ≤ 10
last_gives_few s h = few_marks s (round_number 55) (positive 55) (omega arith)

pub goes_on : (s : Scale) (place : ℕ) → s.last < 2 ^ 64 → place ≤ 55 → 10 < mark_count s (round_number place) → place < 55
goes_on s place h within many =
    elim (cases_lt place 55) [
      | inl below ↦ below
      | inr above ↦
          let e : place ≡ 55 = omega arith in
          absurd (omega (arith, ap (λ k. mark_count s (round_number k)) e, last_gives_few s h))
    ]

-- the first place whose round number gives few marks
pub record FirstPlace (s : Scale) : Type 0 where
  pub place : ℕ
  pub within : place ≤ 55
  pub few : mark_count s (round_number place) ≤ 10
  pub many : (k : ℕ) → k < place → 10 < mark_count s (round_number k)

search_from : (s : Scale) (left place : ℕ) → s.last < 2 ^ 64 → place + left ≡ 55 → ((k : ℕ) → k < place → 10 < mark_count s (round_number k)) → FirstPlace s
search_from s zero place h e many =
    let last : place ≡ 55 = omega arith in
    record { place = place; within = omega arith; few = omega (arith, ap (λ k. mark_count s (round_number k)) last, last_gives_few s h); many = many }
search_from s (suc left) place h e many =
    elim (cases_lt 10 (mark_count s (round_number place))) [
      | inl more ↦ search_from s left (place + 1) h (omega arith) (below_more (λ k. 10 < mark_count s (round_number k)) place many more)
      | inr few ↦ record { place = place; within = omega arith; few = few; many = many }
    ]

pub first_place : (s : Scale) → s.last < 2 ^ 64 → FirstPlace s
first_place s h = search_from s 55 0 h refl (λ k below. absurd (omega arith))

pub is_step : (s : Scale) → s.last < 2 ^ 64 → IsStep s (step_of s)
is_step s h =
    let f : FirstPlace s = first_place s h in
    let e : step_of s ≡ round_number f.place = step_at s f.place f.within f.many f.few in
    let P : ℕ → Type 0 = λ step. IsStep s step in
    subst P (sym e) (record {
      round = is_round f.place;
      few = f.few;
      least = λ smaller round below.
          let found : (k : ℕ) × (smaller ≡ round_number k) = place_of_round smaller round in
          elim (cases_lt found.0 f.place) [
            | inl before ↦ omega (arith, f.many found.0 before, ap (λ step. mark_count s step) found.1)
            | inr after ↦ absurd (omega (arith, found.1, rises f.place found.0 after))
          ];
    })

pub step_positive : (s : Scale) → s.last < 2 ^ 64 → 0 < step_of s
step_positive s h =
    let f : FirstPlace s = first_place s h in
    omega (arith, step_at s f.place f.within f.many f.few, positive f.place)

-- there is a mark: the step is 1, or at most three times a round number that gives many
some_at : (s : Scale) (place : ℕ) → s.first ≤ s.last → ((k : ℕ) → k < place → 10 < mark_count s (round_number k)) → 0 < mark_count s (round_number place)
some_at s zero ordered many = some_mark s (round_number 0) (positive 0) (omega arith)
some_at s (suc before) ordered many =
    let e : before + 1 ≡ suc before = omega arith in
    some_mark s (round_number (suc before)) (positive (suc before))
    (omega (arith, ap (λ n. round_number n) e, rises_little before, positive before, span_of_many s (round_number before) (positive before) (many before (omega arith))))

pub some_marks : (s : Scale) → s.first ≤ s.last → s.last < 2 ^ 64 → 0 < mark_count s (step_of s)
some_marks s ordered h =
    let f : FirstPlace s = first_place s h in
    let e : step_of s ≡ round_number f.place = step_at s f.place f.within f.many f.few in
    omega (arith, ap (λ n. mark_count s n) e, some_at s f.place ordered f.many)
