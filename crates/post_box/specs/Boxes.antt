-- A box and its passes, as a caller's contract sees them.
use Rattle.std.specs.Prelude.{ℕ, Bool, List, ◌==◌, filter}
use Rattle.atomic_table.specs.Seated.{TableId}

-- a box: which one it is, and how many letters it has room for
pub record BoxView : Type 0 where
  pub id : TableId
  pub capacity : ℕ

-- the pass of a sender: its box, its number, what it sent, and how many letters it may still send
pub record SenderView (M : Type 0) : Type 0 where
  pub box : BoxView
  pub number : ℕ
  pub sent : List M
  pub budget : ℕ

-- the pass of the taker: its box, what it took, and how often it found none
pub record TakerView (M : Type 0) : Type 0 where
  pub box : BoxView
  pub taken : List M
  pub empties : ℕ

-- the whole: the budget and the numbers that it gave out; the numbers that came back and what these sent; whether the taker was ever split off, and whether it is here
pub record WholeView (M : Type 0) : Type 0 where
  pub box : BoxView
  pub budget : ℕ
  pub numbers : List ℕ
  pub gathered : List ℕ
  pub sent : List M
  pub split : Bool
  pub takes : Bool
  pub taken : List M
  pub empties : ℕ

-- the letters of the sender s, in their order
abbrev pub letters_of : {M : Type 0} → (M → ℕ) → ℕ → List M → List M
letters_of from s xs = filter (λ x. from x == s) xs
