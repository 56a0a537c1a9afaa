-- What moments show of an order.
use Rattle.std.specs.Prelude.{◌≡◌, ℕ, ◌+◌, ◌<◌, ◌≤◌, List}
use Rattle.stale_model.specs.declared.Op.{Op}
use Rattle.stale_model.specs.Operations.{earliest_start, latest_finish}
use Rattle.stale_model.specs.Precedence.{moved}
use Rattle.stale_model.specs.Orders.{StandsAt, IsOrder}
use Rattle.order_moments.specs.InOrder.{AreInOrder, ExtendsPrecedence}
use Rattle.order_moments.specs.Moments.{IsMoment, AreMoments}

-- any operations have moments
abbrev pub MomentsExist : Type 0
MomentsExist = (ordered : List Op) → (moments : List ℕ) × AreMoments ordered moments

-- and only one list of them
abbrev pub MomentsAreOne : Type 0
MomentsAreOne = (ordered : List Op) (moments others : List ℕ) → AreMoments ordered moments → AreMoments ordered others → moments ≡ others

-- moments rise along the order: none is less than an earlier one
abbrev pub MomentsRise : Type 0
MomentsRise = (ordered : List Op) (place later moment other : ℕ) → place ≤ later → IsMoment ordered place moment → IsMoment ordered later other → moment ≤ other

-- no moment is after its operation's latest finish
abbrev pub MomentsEndByFinishes : Type 0
MomentsEndByFinishes = (ordered : List Op) (place moment : ℕ) (a : Op) → StandsAt ordered place a → IsMoment ordered place moment → moment ≤ latest_finish a

-- in an order at d no moment is before its operation's earliest start, a read's taken d earlier
abbrev pub MomentsFollowStarts : Type 0
MomentsFollowStarts = (ordered : List Op) (d place moment : ℕ) (a : Op) → ExtendsPrecedence d ordered → StandsAt ordered place a → IsMoment ordered place moment
    → earliest_start a ≤ moment + moved d a.kind

-- b stands later than this place, and has certainly finished before a starts
pub record FinishesLater (ordered : List Op) (place : ℕ) (a b : Op) : Type 0 where
  pub later : ℕ
  pub rises : place < later
  pub stands : StandsAt ordered later b
  pub finishes : latest_finish b < earliest_start a

-- a moment before its operation's earliest start has its reason: some later operation of the order finished before that start
abbrev pub MomentsBeforeStartsAreForced : Type 0
MomentsBeforeStartsAreForced = (ordered : List Op) (place moment : ℕ) (a : Op) → StandsAt ordered place a → earliest_start a ≤ latest_finish a
    → IsMoment ordered place moment → moment < earliest_start a → (b : Op) × FinishesLater ordered place a b

-- ticks that rise along a list, each within its operation's times, a read's start taken d earlier
pub record AreWithinTimes (d : ℕ) (ordered : List Op) (ticks : List ℕ) : Type 0 where
  pub there : (place : ℕ) (a : Op) → StandsAt ordered place a → (tick : ℕ) × StandsAt ticks place tick
  pub rise : (place later tick other : ℕ) → place ≤ later → StandsAt ticks place tick → StandsAt ticks later other → tick ≤ other
  pub starts : (place tick : ℕ) (a : Op) → StandsAt ordered place a → StandsAt ticks place tick → earliest_start a ≤ tick + moved d a.kind
  pub finishes : (place tick : ℕ) (a : Op) → StandsAt ordered place a → StandsAt ticks place tick → tick ≤ latest_finish a

-- where there are such ticks, the list extends precedence at d: whoever sees them has seen it
abbrev pub TicksShowPrecedence : Type 0
TicksShowPrecedence = (d : ℕ) (ordered : List Op) (ticks : List ℕ) → AreWithinTimes d ordered ticks → ExtendsPrecedence d ordered

-- the moments of a list that extends precedence at d are such ticks
abbrev pub MomentsAreWithinTimes : Type 0
MomentsAreWithinTimes = (d : ℕ) (ordered : List Op) (moments : List ℕ) → ExtendsPrecedence d ordered → AreMoments ordered moments → AreWithinTimes d ordered moments

-- operations that are put into an order of theirs at d extend precedence at d
abbrev pub OrdersExtendPrecedence : Type 0
OrdersExtendPrecedence = (ops : List Op) (d k : ℕ) (order : List ℕ) (ordered : List Op) → IsOrder ops d k order → AreInOrder ops order ordered
    → ExtendsPrecedence d ordered
