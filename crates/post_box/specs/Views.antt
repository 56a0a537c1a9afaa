-- What a pass knows, and what each step makes of it.
use Rattle.std.specs.Prelude.{◌≡◌, ℕ, ◌+◌, ◌-◌, ◌<◌, ◌≤◌, Bool, true, false, List, [], ◌∷◌, ◌++◌, length}
use Rattle.post_box.specs.declared.view.View.{View}

module _ {M : Type 0} where
  -- a pass that knows nothing
  abbrev pub blank : Bool → View M
  blank unopened = record {
    unopened = unopened;
    live = false;
    capacity = 0;
    budget = 0;
    is_whole = false;
    given = [];
    split = false;
    number = 0;
    held = [];
    sent = [];
    takes = false;
    taken = [];
    empties = 0;
  }

  -- the only pass of a queue that was just made
  abbrev pub unopened : View M
  unopened = blank true

  -- a pass that has given all that it had
  abbrev pub spent : View M
  spent = blank false

  -- the pass of a sender
  abbrev pub sender : ℕ → ℕ → List M → ℕ → View M
  sender capacity number sent budget = record {
    unopened = false;
    live = true;
    capacity = capacity;
    budget = budget;
    is_whole = false;
    given = [];
    split = false;
    number = number;
    held = number ∷ [];
    sent = sent;
    takes = false;
    taken = [];
    empties = 0;
  }

  -- the pass of the taker
  abbrev pub taker : ℕ → List M → ℕ → View M
  taker capacity taken empties = record {
    unopened = false;
    live = true;
    capacity = capacity;
    budget = 0;
    is_whole = false;
    given = [];
    split = false;
    number = 0;
    held = [];
    sent = [];
    takes = true;
    taken = taken;
    empties = empties;
  }

  -- the whole
  abbrev pub whole : ℕ → ℕ → List ℕ → Bool → List ℕ → List M → Bool → List M → ℕ → View M
  whole capacity budget given split held sent takes taken empties = record {
    unopened = false;
    live = true;
    capacity = capacity;
    budget = budget;
    is_whole = true;
    given = given;
    split = split;
    number = 0;
    held = held;
    sent = sent;
    takes = takes;
    taken = taken;
    empties = empties;
  }

  -- it is the pass of a sender
  abbrev pub IsSender : View M → Type 0
  IsSender v = v ≡ sender v.capacity v.number v.sent v.budget

  -- it is the pass of the taker
  abbrev pub IsTaker : View M → Type 0
  IsTaker v = v ≡ taker v.capacity v.taken v.empties

  -- it is the whole
  abbrev pub IsWhole : View M → Type 0
  IsWhole v = v ≡ whole v.capacity v.budget v.given v.split v.held v.sent v.takes v.taken v.empties

  -- the whole of a box that was just opened
  abbrev pub first_whole : ℕ → View M
  first_whole capacity = whole capacity capacity [] false [] [] true [] 0

  -- the whole, once it gave this number out with this budget
  abbrev pub without_sender : ℕ → ℕ → View M → View M
  without_sender number budget v = record v { budget = v.budget - budget; given = v.given ++ number ∷ [] }

  -- the sender that it gave out
  abbrev pub new_sender : ℕ → ℕ → View M → View M
  new_sender number budget v = sender v.capacity number [] budget

  -- the whole, once it gave the taker out
  abbrev pub without_taker : View M → View M
  without_taker v = record v { split = true; takes = false; taken = []; empties = 0 }

  -- the taker that it gave out
  abbrev pub new_taker : View M → View M
  new_taker v = taker v.capacity v.taken v.empties

  -- the pass that found none once more
  abbrev pub one_more_empty : View M → View M
  one_more_empty v = record v { empties = v.empties + 1 }

  -- the whole, once it took in a sender
  abbrev pub with_sender : View M → View M → View M
  with_sender v w = record v { budget = v.budget + w.budget; held = v.held ++ w.held; sent = v.sent ++ w.sent }

  -- the whole, once it took in the taker
  abbrev pub with_taker : View M → View M → View M
  with_taker v w = record v { takes = true; taken = w.taken; empties = w.empties }

  -- a push: the letter stands last in what was sent, and the budget is one less
  abbrev pub Sends : View M → M → View M → Type 0
  Sends v x w = w ≡ record v { budget = v.budget - 1; sent = v.sent ++ x ∷ [] }

  -- the box has room where the pass has a budget
  abbrev pub HasRoom : View M → List M → Type 0
  HasRoom v items = v.live ≡ true → 0 < v.budget → length items < v.capacity

  -- a pop: the letter stands last in what was taken, which is no longer than the capacity
  abbrev pub Takes : View M → M → View M → Type 0
  Takes v x w = (w ≡ record v { taken = v.taken ++ x ∷ [] }) × (length w.taken ≤ v.capacity)
