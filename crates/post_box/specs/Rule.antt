-- The rule of a box, over the letters in it and what its passes know.
use Rattle.std.specs.Prelude.{◌≡◌, ℕ, ◌+◌, ◌<◌, ◌≤◌, ◌⊎◌, true, false, cond, List, [], ◌∷◌, ◌++◌, length, sum_by}
use mathlib.Core.Option.{some}
use lib.ListN.{get_elem?}
use Rattle.ticket_clock.specs.Seats.{times}
use Rattle.post_box.specs.declared.view.View.{View}
use Rattle.post_box.specs.Boxes.{letters_of}
use Rattle.post_box.specs.Views.{unopened}

module _ {M : Type 0} where
  -- how often this pass gave the number s out
  abbrev pub given_by : ℕ → View M → ℕ
  given_by s v = times s v.given

  -- how often this pass has the sender of number s
  abbrev pub held_by : ℕ → View M → ℕ
  held_by s v = times s v.held

  -- 1 for the whole, else 0
  abbrev pub whole_part : View M → ℕ
  whole_part v = cond v.is_whole 1 0

  -- 1 for a pass that takes, else 0
  abbrev pub taker_part : View M → ℕ
  taker_part v = cond v.takes 1 0

  -- how many letters this pass may still send or give out
  abbrev pub budget_part : View M → ℕ
  budget_part v = v.budget

module _ {M : Type 0} (from : M → ℕ) where
  -- what one pass knows is so, where the log is all that was sent and gone is what was taken of it
  pub record Fits (log gone : List M) (capacity : ℕ) (v : View M) : Type 0 where
    pub made : v.unopened ≡ false
    pub sized : v.live ≡ true → v.capacity ≡ capacity
    pub sent : (s : ℕ) → 0 < held_by s v → letters_of from s v.sent ≡ letters_of from s log
    pub sent_none : (s : ℕ) → held_by s v ≡ 0 → letters_of from s v.sent ≡ []
    pub given : v.is_whole ≡ false → v.given ≡ []
    pub taken : v.takes ≡ true → v.taken ≡ gone
    pub taken_none : v.takes ≡ false → v.taken ≡ []

  -- a box with these letters in it is open: each pass fits; each letter's sender was given out; each number given out is with one pass; one pass is the whole, and one takes; letters and budgets fill the capacity
  pub record IsOpen (items : List M) (views : List (View M)) (gone : List M) (capacity : ℕ) : Type 0 where
    pub fits : (id : ℕ) (v : View M) → get_elem? views id ≡ some v → Fits (gone ++ items) gone capacity v
    pub known : (s : ℕ) → 0 < length (letters_of from s (gone ++ items)) → 0 < sum_by (given_by s) views
    pub held : (s : ℕ) → sum_by (held_by s) views ≡ sum_by (given_by s) views
    pub once : (s : ℕ) → sum_by (given_by s) views ≤ 1
    pub one_whole : sum_by whole_part views ≡ 1
    pub one_taker : sum_by taker_part views ≡ 1
    pub room : (length items + length gone) + sum_by budget_part views ≡ capacity

  -- the rule: the queue was just made, or the box is open
  abbrev pub Keeps : List M → List (View M) → Type 0
  Keeps items views = ((items ≡ []) × (views ≡ unopened ∷ [])) ⊎ ((gone : List M) × (capacity : ℕ) × IsOpen items views gone capacity)

  -- what a pass learns where these letters are in the box: of each sender that it has, beside the taker, what was sent is what was taken and then what is there; and the whole gave out each sender that it took of
  abbrev pub Tells : View M → List M → Type 0
  Tells v items =
      (v.live ≡ true → v.takes ≡ true → length v.taken + length items ≤ v.capacity)
      × (v.takes ≡ true → (s : ℕ) → 0 < held_by s v → letters_of from s v.sent ≡ letters_of from s v.taken ++ letters_of from s items)
      × (v.takes ≡ true → v.is_whole ≡ true → (s : ℕ) → 0 < length (letters_of from s v.taken) → 0 < given_by s v)
      × ((s : ℕ) → held_by s v ≡ 0 → letters_of from s v.sent ≡ [])
      × ((s : ℕ) → held_by s v ≤ 1)
