-- What is known of boxes and routes while a run is prepared, with one sender more.
use Rattle.std.proofs.Common.{◌≡◌, ℕ, zero, suc, ◌+◌, ◌-◌, ◌<◌, ◌≤◌, Bool, false, cond, eqb, List, [], ◌∷◌, ◌++◌, length, map, take, drop, get_or, refl, ap, ◌∙◌, arith}
use Rattle.std.specs.List.{range_with_len}
use Rattle.std.proofs.lemmas.Bool.{ne_eqb}
use Rattle.std.proofs.lemmas.List.Sums.{sum_by-cons}
use Rattle.ticket_clock.specs.Seats.{times}
use Rattle.post_box.specs.Boxes.{BoxView, WholeView}
use Rattle.bench_run.specs.Openings.{without_sender, CanSplit, IsGiven}

-- numbers from k on do not stand in a range below k
none_from : (k a n : ℕ) → a + n ≤ k → times k (range_with_len a n) ≡ 0
none_from k a zero below = refl
none_from k a (suc n) below =
    let apart : eqb a k ≡ false = ne_eqb a k (λ e. omega arith) in
    let rest = none_from k (a + 1) n (omega arith) in
    sum_by-cons (λ (y : ℕ). cond (eqb y k) 1 0) a (range_with_len (a + 1) n)
    ∙ (ap (λ (b : Bool). cond b 1 0 + times k (range_with_len (a + 1) n)) apart ∙ omega (arith, rest))

-- a number that was not given out yet
pub none_yet : (k : ℕ) → times k (range_with_len 0 k) ≡ 0
none_yet k = none_from k 0 k (omega arith)

-- a range with one number more
range_more_from : (a n : ℕ) → range_with_len a n ++ (a + n) ∷ [] ≡ range_with_len a (suc n)
range_more_from a zero = ap (λ (m : ℕ). m ∷ []) (omega arith)
range_more_from a (suc n) =
    let e : a + suc n ≡ a + 1 + n = omega arith in
    ap (λ (xs : List ℕ). a ∷ xs) (ap (λ (m : ℕ). range_with_len (a + 1) n ++ m ∷ []) e ∙ range_more_from (a + 1) n)

-- the senders that were given out, and the next one
pub range_more : (k : ℕ) → range_with_len 0 k ++ k ∷ [] ≡ range_with_len 0 (k + 1)
range_more k =
    let here : k ≡ 0 + k = omega arith in
    let next : suc k ≡ k + 1 = omega arith in
    ap (λ (n : ℕ). range_with_len 0 k ++ n ∷ []) here ∙ (range_more_from 0 k ∙ ap (λ (n : ℕ). range_with_len 0 n) next)

-- a box can give the sender of the next number, where so much budget is left
pub can_split : {M : Type 0} (k budget left : ℕ) (box : BoxView) (w : WholeView M) → IsGiven M k left box w → budget ≤ left → CanSplit M k budget box w
can_split k budget left box w given fits = record {
  own = given.own;
  new = ap (λ (xs : List ℕ). times k xs) given.numbers ∙ none_yet k;
  budget = let b = given.budget in omega arith;
}

-- a box after it gave the sender of the next number
pub given_more : {M : Type 0} (k budget left : ℕ) (box : BoxView) (w : WholeView M) → IsGiven M k left box w → IsGiven M (k + 1) (left - budget) box (without_sender k budget w)
given_more k budget left box w given = record {
  own = given.own;
  numbers = ap (λ (xs : List ℕ). xs ++ k ∷ []) given.numbers ∙ range_more k;
  gathered = given.gathered;
  sent = given.sent;
  budget = ap (λ (n : ℕ). n - budget) given.budget;
}

-- the element that a loop over a list comes to is as it was
pub at_place : {X : Type 0} (f : X → X) (xs : List X) (i : ℕ) (d : X) → i < length xs → get_or (map f (take i xs) ++ drop i xs) i d ≡ get_or xs i d
at_place f [] i d less = absurd (omega arith)
at_place f (x ∷ xs) zero d less = refl
at_place f (x ∷ xs) (suc i) d less = at_place f xs i d (omega arith)
