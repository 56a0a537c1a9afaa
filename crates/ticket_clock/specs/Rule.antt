-- The rule over the clock's word and what its seats know, and what each step tells its seat.
use Rattle.std.specs.Prelude.{◌≡◌, ℕ, ◌+◌, ◌-◌, ◌<◌, ◌≤◌, List, [], ◌∷◌, ◌++◌, length, sum_by}
use mathlib.Core.Option.{some}
use lib.ListN.{get_elem?}
use Rattle.atomic_table.specs.Table.{State, Me, Step}
use Rattle.ticket_clock.specs.declared.rule.Known.{Known}
use Rattle.ticket_clock.specs.Seats.{times, HasNoneTwice, IsOneToLength}

-- what a seat knows
abbrev pub known : List ℕ → ℕ → ℕ → Known
known drawn left seen = record { drawn = drawn; left = left; seen = seen }

-- how often the ticket x was drawn, by all seats together
abbrev pub times_drawn : ℕ → List Known → ℕ
times_drawn x seats = sum_by (λ (v : Known). times x v.drawn) seats

-- how many tickets all seats together may still draw
abbrev pub total_left : List Known → ℕ
total_left seats = sum_by (λ (v : Known). v.left) seats

-- the tickets drawn are below the word, and none is 0 or drawn twice; no seat has seen past the word; those given and those left are the budget
pub record IsKept (budget word : ℕ) (seats : List Known) : Type 0 where
  pub begun : 1 ≤ word
  pub drawn : (id : ℕ) (v : Known) → get_elem? seats id ≡ some v → (x : ℕ) → 0 < times x v.drawn → (1 ≤ x) × (x < word)
  pub once : (x : ℕ) → times_drawn x seats ≤ 1
  pub seen : (id : ℕ) (v : Known) → get_elem? seats id ≡ some v → v.seen ≤ word
  pub counted : (word - 1) + total_left seats ≡ budget

-- the rule: there is one word, and it is kept
abbrev pub Keeps : ℕ → State Unit Known → Type 0
Keeps budget s = (word : ℕ) × (s.words ≡ word ∷ []) × IsKept budget word s.views

-- a draw: the number found is the ticket
abbrev pub Draws : Step Unit → Me Unit Known → ℕ → Me Unit Known → Type 0
Draws s me found after = (1 ≤ found) × (me.0.seen ≤ found) × (after ≡ (known (me.0.drawn ++ found ∷ []) (me.0.left - 1) (found + 1), me.1))

-- a look: the number found was seen, and the seat's tickets differ; where they and those left to it are the budget, they are all below the number
abbrev pub Looks : ℕ → Step Unit → Me Unit Known → ℕ → Me Unit Known → Type 0
Looks budget s me found after =
    (me.0.seen ≤ found)
    × (after ≡ (known me.0.drawn me.0.left found, me.1))
    × HasNoneTwice me.0.drawn
    × (length me.0.drawn + me.0.left ≡ budget → IsOneToLength me.0.drawn × (found ≡ length me.0.drawn + 1))

-- the load after a join: nothing changes, and the seat's tickets differ
abbrev pub Tells : Step Unit → Me Unit Known → ℕ → Me Unit Known → Type 0
Tells s me found after = (after ≡ me) × HasNoneTwice me.0.drawn
