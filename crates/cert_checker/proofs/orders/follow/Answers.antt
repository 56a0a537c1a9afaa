use Rattle.std.proofs.Common.{rules, ◌≡◌, inl, inr, ◌<◌, ℕ, Bool, true, false, List, get_or, subst, sym, ap, ◌∙◌, Some, arith}
use Rattle.std.specs.Prelude.{Contains, is_ok}
use Rattle.std.proofs.lemmas.List.{length-set}
use Rattle.std.proofs.lemmas.Option.{slice_get-get_or, slice_get_within}
use Rattle.stale_model.specs.declared.Op.{Op}
use Rattle.stale_model.specs.Operations.{operations, records_of}
use Rattle.stale_model.specs.Orders.{StandsAt}
use Rattle.stale_model.proofs.Places.{contains_at}
use Rattle.cert_checker.specs.declared.records.Placed.{Placed}
use Rattle.cert_checker.specs.Records.{IsPlaced, IsFound}
use Rattle.cert_checker.specs.OrderFaults.{StandsTo}
use Rattle.cert_checker.proofs.Lookups.{of_record, record_at, no_record}
use Rattle.cert_checker.proofs.Marks.{Rises, good_more, marks_more, first_stray, fresh_at, read_is, key_rises, listed_more, known_to_end}
use Rattle.cert_checker.proofs.orders.follow.Goals as goal

pub returns-in_default : goal.returns-in_default
returns-in_default c = first_stray ops order n rec c.loop-rec.invariant.good (slice_get-get_or order n 0 c.loop-rec-test.true) (inr stands)
  where
    ops : List Op
    ops = operations c.args.key.now

    order : List ℕ
    order = c.args.order.now

    n : ℕ
    n = c.loop-rec.rec-index

    rec : ℕ
    rec = get_or order n 0

    found : Placed
    found = c.in-Some.found

    marks : List Bool
    marks = c.loop-rec.marks.items

    is : IsPlaced ops rec found
    is = subst (IsFound ops rec) c.in-Some.is c.find.ensures

    stands : StandsTo order n rec
    stands =
        c.loop-rec.invariant.marked.only found.place rec (record_at ops rec found is)
        (slice_get-get_or marks found.place true (subst (λ k. found.place < k) (sym c.loop-rec.invariant.one_each) (slice_get_within ops found.place found.op is.there))
        ∙ ap (λ x. Some x) (read_is marks found.place c.index.result.now true c.index.ensures c.if-not-index.false))

pub returns-in_default-2 : goal.returns-in_default-2
returns-in_default-2 c =
    let ops : List Op = operations c.args.key.now in
    let rec : ℕ = get_or c.args.order.now c.loop-rec.rec-index 0 in
    first_stray ops c.args.order.now c.loop-rec.rec-index rec c.loop-rec.invariant.good (slice_get-get_or c.args.order.now c.loop-rec.rec-index 0 c.loop-rec-test.true)
    (inl (no_record ops rec (subst (IsFound ops rec) c.in_default.is c.find.ensures)))

pub index-requires : goal.index-requires
index-requires c =
    let ops : List Op = operations c.args.key.now in
    let is : IsPlaced ops (get_or c.args.order.now c.loop-rec.rec-index 0) c.in-Some.found = subst (IsFound ops (get_or c.args.order.now c.loop-rec.rec-index 0)) c.in-Some.is c.find.ensures in
    let size = c.loop-rec.invariant.one_each in
    let low = slice_get_within ops c.in-Some.found.place c.in-Some.found.op is.there in
    omega arith

pub index_mut-requires : goal.index_mut-requires
index_mut-requires c =
    let ops : List Op = operations c.args.key.now in
    let is : IsPlaced ops (get_or c.args.order.now c.loop-rec.rec-index 0) c.in-Some.found = subst (IsFound ops (get_or c.args.order.now c.loop-rec.rec-index 0)) c.in-Some.is c.find.ensures in
    let size = c.loop-rec.invariant.one_each in
    let low = slice_get_within ops c.in-Some.found.place c.in-Some.found.op is.there in
    omega arith

pub loop-rec-preserved : goal.loop-rec-preserved
loop-rec-preserved c =
    let went : is_ok c.push.result ≡ true = sym c.map_err-in-Some.ensures.variant ∙ ap is_ok c.in_ok-map_err-in-Some.was in
    let pushed = rw went at c.push.ensures.items in
    record {
      one_each = length-set c.loop-rec.marks.items c.in-Some.found.place true ∙ c.loop-rec.invariant.one_each;
      good = good_more order n rec at (Contains (records_of ops)) (contains_at (records_of ops) c.in-Some.found.place rec there) c.loop-rec.invariant.good
          (fresh_at c.loop-rec.marks.items (records_of ops) order n c.in-Some.found.place rec c.loop-rec.invariant.marked there
          (read_is c.loop-rec.marks.items c.in-Some.found.place c.index.result.now false c.index.ensures c.if-not-index.true));
      marked = marks_more (records_of ops) order n rec c.in-Some.found.place rises at there c.loop-rec.marks.items
          (subst (λ k. c.in-Some.found.place < k) (sym c.loop-rec.invariant.one_each) (slice_get_within ops c.in-Some.found.place c.in-Some.found.op is.there)) c.loop-rec.invariant.marked;
      in_order = rw pushed
          (listed_more ops order n c.loop-rec.ops.items c.in-Some.found.op (of_record ops rec c.in-Some.found is).there
          (subst (StandsAt order n) (sym is.record_is) at) c.loop-rec.invariant.in_order);
    }
  where
    ops : List Op
    ops = operations c.args.key.now

    order : List ℕ
    order = c.args.order.now

    n : ℕ
    n = c.loop-rec.rec-index

    rec : ℕ
    rec = get_or order n 0

    rises : Rises (records_of ops)
    rises = key_rises c.args.key.now c.requires

    at : StandsAt order n rec
    at = slice_get-get_or order n 0 c.loop-rec-test.true

    is : IsPlaced ops rec c.in-Some.found
    is = subst (IsFound ops rec) c.in-Some.is c.find.ensures

    there : StandsAt (records_of ops) c.in-Some.found.place rec
    there = record_at ops rec c.in-Some.found is

pub returns : goal.returns
returns c =
    known_to_end (operations c.args.key.now) c.args.order.now c.loop-rec.rec-index c.loop-rec.ops.items c.loop-rec.marks.items (search rules) (search rules)
    c.loop-rec.invariant.one_each c.loop-rec.invariant.good c.loop-rec.invariant.marked c.loop-rec.invariant.in_order
