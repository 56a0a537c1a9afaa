use Rattle.std.proofs.Common.{◌≡◌, ◌≢◌, ◌⊎◌, inl, inr, ◌<◌, ◌≤◌, ◌+◌, ◌-◌, ℕ, List, length, get_or, take, refl, ◌∙◌, arith}
use Rattle.std.specs.Prelude.{Contains, count_by}
use Rattle.std.proofs.lemmas.List.{length-set, length-map}
use Rattle.std.proofs.lemmas.Option.{slice_get-get_or, slice_get_read}
use Rattle.stale_model.specs.declared.Op.{Op}
use Rattle.stale_model.specs.declared.KeyOps.{KeyOps}
use Rattle.stale_model.specs.Operations.{operations, records_of}
use Rattle.stale_model.specs.Orders.{StandsAt, is_write_record}
use Rattle.stale_model.specs.NamedWrites.{NamesItsWrites}
use Rattle.stale_model.proofs.Places.{record_stands, at_its_place, same_at}
use Rattle.model_laws.proofs.Named.{matched_keys_name_their_writes}
use Rattle.cert_checker.specs.OrderFaults.{IsUnreturned}
use Rattle.cert_checker.proofs.Lookups.{in_slots}
use Rattle.cert_checker.proofs.InOrder.{no_op, known_at, not_below}
use Rattle.cert_checker.proofs.Returning.{none_before, count_write, count_read, slots_write, slots_read, returned_more, returns_here, unreturned_here, passed_le}
use Rattle.cert_checker.proofs.orders.first_unreturned.Goals.{then-index-eq0-via-then-index-eq0, then-index-eq0-via-else-index-eq0+then-writes-index, in-Write, in-Read+else-index-eq0+else-writes-index}
use Rattle.cert_checker.proofs.orders.first_unreturned.Goals as goal

-- what a slot was read as
slot_read : (table : List ℕ) (i m : ℕ) → i < length table → m ≡ get_or table i m → StandsAt table i m
slot_read table i m low e = slice_get_read table (length table) i m refl low e

pub index_mut-requires : goal.index_mut-requires
index_mut-requires c =
    let size = c.loop-op.invariant.size in
    let low = in_slots c.args.key.now c.requires.valid (get_or c.args.listed.now c.loop-op.op-index no_op)
    (known_at c.args.key.now c.requires.valid c.args.listed.now c.requires.listed c.loop-op.op-index _ (slice_get-get_or c.args.listed.now c.loop-op.op-index no_op c.loop-op-test.true)) in
    omega arith

pub index-requires : goal.index-requires
index-requires c =
    let size = c.loop-op.invariant.size in
    let low = in_slots c.args.key.now c.requires.valid (get_or c.args.listed.now c.loop-op.op-index no_op)
    (known_at c.args.key.now c.requires.valid c.args.listed.now c.requires.listed c.loop-op.op-index _ (slice_get-get_or c.args.listed.now c.loop-op.op-index no_op c.loop-op-test.true)) in
    omega arith

pub index-requires-else-index-eq0 : goal.index-requires-else-index-eq0
index-requires-else-index-eq0 c =
    let size = c.loop-op.invariant.size in
    let low = in_slots c.args.key.now c.requires.valid (get_or c.args.listed.now c.loop-op.op-index no_op)
    (known_at c.args.key.now c.requires.valid c.args.listed.now c.requires.listed c.loop-op.op-index _ (slice_get-get_or c.args.listed.now c.loop-op.op-index no_op c.loop-op-test.true)) in
    omega arith

pub overflow_sub-writes : goal.overflow_sub-writes
overflow_sub-writes c = passed_le (operations key) order n a.value m c.loop-op.writes (c.loop-op.invariant.slots a.value m (slot_read c.loop-op.written.items a.value m wide c.index-else-index-eq0.ensures)) c.loop-op.invariant.count
  where
    key : KeyOps
    key = c.args.key.now

    order : List ℕ
    order = records_of c.args.listed.now

    n : ℕ
    n = c.loop-op.op-index

    a : Op
    a = get_or c.args.listed.now n no_op

    m : ℕ
    m = c.index-else-index-eq0.result.now

    wide : a.value < length c.loop-op.written.items
    wide =
        let size = c.loop-op.invariant.size in
        let low = in_slots key c.requires.valid a (known_at key c.requires.valid c.args.listed.now c.requires.listed n a (slice_get-get_or c.args.listed.now n no_op c.loop-op-test.true)) in
        omega arith

pub returns-then-index-eq0 : goal.returns-then-index-eq0
returns-then-index-eq0 c = record {
  place = n;
  there = at;
  wrong = elim c.then-index-eq0.branch [
    | then-index-eq0-via-then-index-eq0 w ↦ wrong c.index.result.now c.index.ensures (inl w.if-index-eq0.true)
    | then-index-eq0-via-else-index-eq0+then-writes-index w ↦ wrong w.index-else-index-eq0.result.now w.index-else-index-eq0.ensures (inr w.if-writes-index.true)
  ];
  first = not_below (IsUnreturned (operations key) c.args.k order) n (none_before (operations key) names order c.requires.each_once.once c.args.k n c.loop-op.invariant.returned);
}
  where
    key : KeyOps
    key = c.args.key.now

    names : NamesItsWrites (operations key)
    names = matched_keys_name_their_writes key c.requires.valid c.requires.matched

    order : List ℕ
    order = records_of c.args.listed.now

    n : ℕ
    n = c.loop-op.op-index

    a : Op
    a = get_or c.args.listed.now n no_op

    stands : StandsAt c.args.listed.now n a
    stands = slice_get-get_or c.args.listed.now n no_op c.loop-op-test.true

    known : Contains (operations key) a
    known = known_at key c.requires.valid c.args.listed.now c.requires.listed n a stands

    at : StandsAt order n a.rec
    at = record_stands c.args.listed.now n a stands

    wide : a.value < length c.loop-op.written.items
    wide = let size = c.loop-op.invariant.size in let low = in_slots key c.requires.valid a known in omega arith

    wrong : (m : ℕ) → m ≡ get_or c.loop-op.written.items a.value m → (m ≡ 0) ⊎ (c.args.k ≤ c.loop-op.writes - m) → IsUnreturned (operations key) c.args.k order n
    wrong m read why =
        unreturned_here (operations key) names order c.requires.each_once.once n a known at c.args.k m c.loop-op.writes c.in-Read.is c.loop-op.invariant.count
        (c.loop-op.invariant.slots a.value m (slot_read c.loop-op.written.items a.value m wide read)) why

pub loop-op-preserved : goal.loop-op-preserved
loop-op-preserved c = elim c.match-op.branch [
  | in-Write w ↦
      let e = w.writes-is in
      let counted : c.loop-op.writes + 1 ≡ count_by (is_write_record (operations key)) (take (n + 1) order) =
      let f = c.loop-op.invariant.count in let g = count_write (operations key) names order c.requires.each_once.once n a known at w.in-Write.is in omega arith in
      record {
        few = let b = c.loop-op.invariant.few in omega arith;
        count = e ∙ counted;
        size = rw w.written-is (length-set c.loop-op.written.items a.value (c.loop-op.writes + 1) ∙ c.loop-op.invariant.size);
        slots = rw w.written-is
            (slots_write (operations key) names order c.requires.each_once.once n a known at c.loop-op.written.items (c.loop-op.writes + 1) w.in-Write.is wide counted c.loop-op.invariant.slots);
        returned = returned_more (operations key) names order c.requires.each_once.once n a known at c.args.k c.loop-op.invariant.returned
            (λ read. let kind = w.in-Write.is in absurd (cc));
      }
  | in-Read+else-index-eq0+else-writes-index w ↦
      let e = w.writes-is in
      record {
        few = let b = c.loop-op.invariant.few in omega arith;
        count = let f = c.loop-op.invariant.count in let g = count_read (operations key) names order c.requires.each_once.once n a known at w.in-Read.is in omega arith;
        size = rw w.written-is c.loop-op.invariant.size;
        slots = rw w.written-is
            (slots_read (operations key) names order c.requires.each_once.once n a known at c.loop-op.written.items w.in-Read.is c.loop-op.invariant.slots);
        returned = returned_more (operations key) names order c.requires.each_once.once n a known at c.args.k c.loop-op.invariant.returned
            (λ read. returns_here (operations key) names order c.requires.each_once.once n a known at c.args.k w.index-else-index-eq0.result.now c.loop-op.writes c.loop-op.invariant.count
            (c.loop-op.invariant.slots a.value w.index-else-index-eq0.result.now (slot_read c.loop-op.written.items a.value _ wide w.index-else-index-eq0.ensures))
            (some w.index.result.now w.index-else-index-eq0.result.now w.index.ensures w.index-else-index-eq0.ensures w.if-index-eq0.false) w.if-writes-index.false);
      }
]
  where
    key : KeyOps
    key = c.args.key.now

    names : NamesItsWrites (operations key)
    names = matched_keys_name_their_writes key c.requires.valid c.requires.matched

    order : List ℕ
    order = records_of c.args.listed.now

    n : ℕ
    n = c.loop-op.op-index

    a : Op
    a = get_or c.args.listed.now n no_op

    stands : StandsAt c.args.listed.now n a
    stands = slice_get-get_or c.args.listed.now n no_op c.loop-op-test.true

    known : Contains (operations key) a
    known = known_at key c.requires.valid c.args.listed.now c.requires.listed n a stands

    at : StandsAt order n a.rec
    at = record_stands c.args.listed.now n a stands

    wide : a.value < length c.loop-op.written.items
    wide = let size = c.loop-op.invariant.size in let low = in_slots key c.requires.valid a known in omega arith

    same_slot : (x y : ℕ) → x ≡ get_or c.loop-op.written.items a.value x → y ≡ get_or c.loop-op.written.items a.value y → x ≡ y
    same_slot x y p q = same_at c.loop-op.written.items a.value x y (slot_read c.loop-op.written.items a.value x wide p) (slot_read c.loop-op.written.items a.value y wide q)

    some : (x y : ℕ) → x ≡ get_or c.loop-op.written.items a.value x → y ≡ get_or c.loop-op.written.items a.value y → x ≢ 0 → y ≢ 0
    some x y p q apart e = apart (same_slot x y p q ∙ e)

pub returns : goal.returns
returns c = λ r read there.
    let past = c.loop-op-test.false in
    let low : there.0 < length c.args.listed.now = simp length-map at there.1 in
    c.loop-op.invariant.returned r read (record { earlier = there.0; before = omega arith; there = at_its_place (records_of c.args.listed.now) r.rec there })
