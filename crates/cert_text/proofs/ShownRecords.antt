-- The records of a verdict that is shown are those of operations.
use Rattle.std.proofs.Common.{◌≡◌, ◌<◌, ◌^◌, ℕ, true, List, Option, Some, None, refl, arith}
use Rattle.std.specs.Prelude.{Contains, nat_le}
use Rattle.std.proofs.lemmas.Bool.{le-leb, and_from}
use Rattle.std.proofs.lemmas.List.{length-map}
use Rattle.stale_model.specs.declared.Op.{Op}
use Rattle.stale_model.specs.declared.End.{End}
use Rattle.stale_model.specs.declared.End.TheVariants.{Hard, Soft}
use Rattle.stale_model.specs.declared.Try.{Try}
use Rattle.stale_model.specs.declared.Four.{Four}
use Rattle.stale_model.specs.declared.TwoPart.{TwoPart}
use Rattle.stale_model.specs.declared.TwoPart.TheVariants.{Yes, No}
use Rattle.stale_model.specs.Operations.{records_of}
use Rattle.stale_model.specs.Orders.{IsOrder}
use Rattle.stale_model.specs.Refutations.{IsOfRecord, EndHolds, TryHolds}
use Rattle.stale_model.specs.Shown.{FourShow, ShowsTwo}
use Rattle.stale_model.proofs.Places.{at_its_place, something_at, same_at, record_stands, contains_at}
use Rattle.cert_text.specs.Numbers.{most_record}
use Rattle.cert_text.specs.Laws.{records_fit, four_fits, end_fits, try_fits, two_fits}
use Rattle.cert_text.proofs.ShownChains.{all_pass, try_holds}

module _ (ops : List Op) (low : (a : Op) → Contains ops a → a.rec < 2 ^ 32) where
  pub record_fits : (rec : ℕ) (a : Op) → IsOfRecord ops rec a → nat_le rec most_record ≡ true
  record_fits rec a is = le-leb rec most_record (let below = low a is.there in let same = is.record_is in omega arith)

  -- the record of an operation
  known_fits : (rec : ℕ) → Contains (records_of ops) rec → nat_le rec most_record ≡ true
  known_fits rec c =
      let stands = at_its_place (records_of ops) rec c in
      let (a, there) = something_at ops c.0 (simp length-map at c.1) in
      le-leb rec most_record
      (let below = low a (contains_at ops c.0 a there) in
      let same : a.rec ≡ rec = same_at (records_of ops) c.0 a.rec rec (record_stands ops c.0 a there) stands in
      omega arith)

  pub order_fits : (d k : ℕ) (order : List ℕ) → IsOrder ops d k order → records_fit order ≡ true
  order_fits d k order o = all_pass (λ rec. nat_le rec most_record) order (λ rec c. known_fits rec (o.each_once.known rec c))

  pub four_records_fit : (delta : ℕ) (four : Option Four) → FourShow ops delta four → four_fits four ≡ true
  four_records_fit delta None shown = refl
  four_records_fit delta (Some four) shown =
      let hold = shown.1 in
      and_from _ _ (record_fits four.p hold.p hold.p_is)
      (and_from _ _ (record_fits four.q hold.q hold.q_is)
      (and_from _ _ (record_fits four.q2 hold.q2 hold.q2_is)
      (and_from _ _ (record_fits four.p2 hold.p2 hold.p2_is) refl)))

  end_records_fit : (d : ℕ) (stuck chain : List ℕ) (c : ℕ) (end : End) → EndHolds ops d stuck chain c end → end_fits end ≡ true
  end_records_fit d stuck chain c (Hard p u) holds =
      and_from _ _ (record_fits p holds.late.a holds.late.a_is) (and_from _ _ (record_fits u holds.late.b holds.late.b_is) refl)
  end_records_fit d stuck chain c (Soft p q q2) holds =
      and_from _ _ (record_fits p holds.late.a holds.late.a_is)
      (and_from _ _ (record_fits q holds.late.b holds.late.b_is) (and_from _ _ (record_fits q2 holds.late2.b holds.late2.b_is) refl))

  -- a try whose members are those of `stuck`
  try_records_fit : (d : ℕ) (stuck : List ℕ) (member : ℕ) (attempt : Try) → ((c : ℕ) → Contains stuck c → nat_le c most_record ≡ true)
      → TryHolds ops d stuck member attempt → try_fits attempt ≡ true
  try_records_fit d stuck member attempt each holds =
      and_from _ _ (all_pass (λ rec. nat_le rec most_record) attempt.chain (λ c there. each c (holds.members c there)))
      (end_records_fit d stuck attempt.chain holds.last attempt.end holds.end)

  pub two_records_fit : (part : TwoPart) → ShowsTwo ops part → two_fits part ≡ true
  two_records_fit (Yes order) shown = order_fits 0 2 order shown
  two_records_fit (No refutation) shown =
      let each : (c : ℕ) → Contains refutation.stuck c → nat_le c most_record ≡ true = λ c there.
      let (w, is, _) = shown.writes c there in record_fits c w is in
      and_from _ _ (all_pass (λ rec. nat_le rec most_record) refutation.stuck each)
      (all_pass try_fits refutation.tries (λ attempt there.
      let (member, holds) = try_holds ops 0 refutation shown attempt there in
      try_records_fit 0 refutation.stuck member attempt each holds))
