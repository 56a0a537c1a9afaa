-- The laws of moments.
use Rattle.std.proofs.Common.{◌≡◌, ℕ, ◌+◌, min, List, get_or, sym, ap, inl, inr, subst, arith}
use Rattle.std.proofs.lemmas.Bool.{cases_lt}
use Rattle.std.proofs.lemmas.Option.{slice_get_within, slice_get-get_or}
use Rattle.std.proofs.lemmas.List.{same_lists}
use Rattle.std.proofs.lemmas.List.Sorted.{Contains-permutation, IsPermutation-sym}
use Rattle.stale_model.specs.declared.Op.{Op}
use Rattle.stale_model.specs.Operations.{earliest_start, latest_finish}
use Rattle.stale_model.specs.Precedence.{moved}
use Rattle.stale_model.specs.Orders.{StandsAt}
use Rattle.stale_model.proofs.Places.{same_at, something_at, contains_at, record_stands}
use Rattle.order_moments.specs.Moments.{IsMoment}
use Rattle.order_moments.specs.Laws.{MomentsAreOne, MomentsRise, MomentsEndByFinishes, MomentsFollowStarts, MomentsBeforeStartsAreForced, MomentsAreWithinTimes, OrdersExtendPrecedence}
use Rattle.order_moments.proofs.OwnTicks.{own_there}

pub moments_rise : MomentsRise
moments_rise ordered place later moment other le m n = n.greatest m.at moment (let low = m.up_to in omega arith) m.reached

moment_one : (ordered : List Op) (place moment other : ℕ) → IsMoment ordered place moment → IsMoment ordered place other → moment ≡ other
moment_one ordered place moment other m n =
    let low = moments_rise ordered place place moment other (omega arith) m n in
    let high = moments_rise ordered place place other moment (omega arith) n m in
    omega arith

pub moments_are_one : MomentsAreOne
moments_are_one ordered moments others m n =
    let many = m.as_many in
    let as_many = n.as_many in
    same_lists moments others (omega arith)
    (λ k d within.
    moment_one ordered k (get_or moments k d) (get_or others k d) (m.each k (get_or moments k d) (slice_get-get_or moments k d within))
    (n.each k (get_or others k d) (slice_get-get_or others k d (omega arith))))

pub moments_end_by_finishes : MomentsEndByFinishes
moments_end_by_finishes ordered place moment a at m =
    let own = m.reached in
    let lesser = own.lesser in
    let bound = own.latest_is.least a (record { at = place; from = m.up_to; stands = at }) in
    omega arith

pub moments_follow_starts : MomentsFollowStarts
moments_follow_starts ordered d place moment a extends at m =
    let (latest, is, own) = own_there ordered place a at in
    let low = m.greatest place (min (earliest_start a) latest) (omega arith) own in
    let finish = is.finish_is in
    let from = is.there.from in
    elim (cases_lt (latest_finish is.op + moved d a.kind) (earliest_start a)) [
      | inl before ↦ absurd (let rises = extends is.there.at place is.op a is.there.stands at before in omega arith)
      | inr not ↦ omega arith
    ]

pub moments_before_starts_are_forced : MomentsBeforeStartsAreForced
moments_before_starts_are_forced ordered place moment a at ends m before =
    let (latest, is, own) = own_there ordered place a at in
    let low = m.greatest place (min (earliest_start a) latest) (omega arith) own in
    let finish = is.finish_is in
    let from = is.there.from in
    elim (cases_lt place is.there.at) [
      | inl later ↦ (is.op, record { later = is.there.at; rises = later; stands = is.there.stands; finishes = omega arith })
      | inr here ↦
          let place_is : is.there.at ≡ place = omega arith in
          let there : StandsAt ordered place is.op = rw place_is at is.there.stands in
          let same : latest_finish is.op ≡ latest_finish a = ap latest_finish (same_at ordered place is.op a there at) in
          absurd (omega arith)
    ]

pub moments_are_within_times : MomentsAreWithinTimes
moments_are_within_times d ordered moments extends m = record {
  there = λ place a at.
      let within = slice_get_within ordered place a at in
      let many = m.as_many in
      something_at moments place (omega arith);
  rise = λ place later tick other le t o. moments_rise ordered place later tick other le (m.each place tick t) (m.each later other o);
  starts = λ place tick a at t. moments_follow_starts ordered d place tick a extends at (m.each place tick t);
  finishes = λ place tick a at t. moments_end_by_finishes ordered place tick a at (m.each place tick t);
}

pub orders_extend_precedence : OrdersExtendPrecedence
orders_extend_precedence ops d k order ordered o listed place later a b ata atb p =
    let back = IsPermutation-sym ops ordered listed.each_once in
    let there = λ (x : Op) (i : ℕ) (at : StandsAt ordered i x). Contains-permutation ordered ops x back (contains_at ordered i x at) in
    let before = o.extends a b (there a place ata) (there b later atb) p in
    let stands = λ (x : Op) (i : ℕ) (at : StandsAt ordered i x). subst (λ (l : List ℕ). StandsAt l i x.rec) (sym listed.records) (record_stands ordered i x at) in
    let first = o.each_once.once before.place place a.rec before.first (stands a place ata) in
    let second = o.each_once.once before.later later b.rec before.second (stands b later atb) in
    let rises = before.rises in
    omega arith
