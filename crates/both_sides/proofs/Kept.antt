-- Operations that are changed in their ticks alone keep their names, and their orders are side orders where precedence is as on both sides.
use Rattle.std.proofs.Common.{◌≡◌, ℕ, ◌+◌, ◌<◌, Bool, List, [], ◌∷◌, map, refl, sym, ◌∙◌, ap, subst}
use Rattle.std.proofs.Math.Path.{fun_ext}
use Rattle.std.specs.Prelude.{◌==◌, ◌&&◌, ◌↔◌, slice_range, count_by, Contains}
use Rattle.std.specs.List.{list_any}
use Rattle.stale_model.specs.declared.Op.{Op}
use Rattle.stale_model.specs.Operations.{is_write, records_of}
use Rattle.stale_model.specs.Faults.{IsWriteOf, IsReadIn}
use Rattle.stale_model.specs.NamedWrites.{NamesItsWrites}
use Rattle.stale_model.specs.Orders.{StandsAt, StandsBefore, ListsEachOnce, is_write_record, IsAmongLast, IsOrder}
use Rattle.stale_model.specs.OperationOrders.{is_write_of}
use Rattle.stale_model.specs.Precedence.{Precedes}
use Rattle.stale_model.specs.Sides.{IsBeforeOnBothSides, IsSideOrder}
use Rattle.stale_model.proofs.Members.{mapped_from, before_mapped}

-- f leaves the record, the kind and the value of every operation as they are
pub record KeepsNames (f : Op → Op) : Type 0 where
  pub record_is : (a : Op) → (f a).rec ≡ a.rec
  pub kind_is : (a : Op) → (f a).kind ≡ a.kind
  pub value_is : (a : Op) → (f a).value ≡ a.value

any_mapped : {X Y : Type 0} (f : Y → X) (p : X → Bool) (q : Y → Bool) → ((y : Y) → p (f y) ≡ q y) → (ys : List Y) → list_any p (map f ys) ≡ list_any q ys
any_mapped f p q same [] = refl
any_mapped f p q same (y ∷ ys) = rw (same y, any_mapped f p q same ys) refl

-- w still stands before r as one of the last, where their records and the writes' are as before
among_kept : (ops others : List Op) (k : ℕ) (order : List ℕ) (w r v s : Op) → w.rec ≡ v.rec → r.rec ≡ s.rec → is_write_record ops ≡ is_write_record others
    → IsAmongLast ops k order w r → IsAmongLast others k order v s
among_kept ops others k order w r v s ew er writes among =
    let b = among.before in
    record {
      before = record {
        place = b.place;
        later = b.later;
        rises = b.rises;
        first = subst (λ (n : ℕ). StandsAt order b.place n) ew b.first;
        second = subst (λ (n : ℕ). StandsAt order b.later n) er b.second;
      };
      few = subst (λ (p : ℕ → Bool). count_by p (slice_range order (b.place + 1) b.later) < k) writes among.few;
    }

module _ (f : Op → Op) (keeps : KeepsNames f) where
  pub records_kept : (ops : List Op) → records_of (map f ops) ≡ records_of ops
  records_kept [] = refl
  records_kept (a ∷ ops) = rw (keeps.record_is a, records_kept ops) refl

  pub write_records_kept : (ops : List Op) → is_write_record (map f ops) ≡ is_write_record ops
  write_records_kept ops = fun_ext (λ (rec : ℕ).
      any_mapped f (λ (a : Op). (a.rec == rec) && is_write a) (λ (a : Op). (a.rec == rec) && is_write a) (λ (a : Op). rw (keeps.record_is a, keeps.kind_is a) refl) ops)

  pub writes_of_value_kept : (ops : List Op) (value : ℕ) → is_write_of (map f ops) value ≡ is_write_of ops value
  writes_of_value_kept ops value = fun_ext (λ (rec : ℕ).
      any_mapped f (λ (a : Op). (a.rec == rec) && (a.value == value) && is_write a) (λ (a : Op). (a.rec == rec) && (a.value == value) && is_write a)
      (λ (a : Op). rw (keeps.record_is a, keeps.value_is a, keeps.kind_is a) refl) ops)

  module _ (ops : List Op) where
    -- what holds of each operation once it is changed holds of each changed one
    pub each_changed : (P : Op → Type 0) → ((a : Op) → Contains ops a → P (f a)) → (b : Op) → Contains (map f ops) b → P b
    each_changed P all b c = let (a, there, e) = before_mapped f ops b c in subst P e (all a there)

    pub write_changed : (value : ℕ) (w : Op) → IsWriteOf ops value w → IsWriteOf (map f ops) value (f w)
    write_changed value w is = record { there = mapped_from f ops w is.there; kind = keeps.kind_is w ∙ is.kind; value_is = keeps.value_is w ∙ is.value_is }

    -- a write among the changed operations was one
    pub write_unchanged : (value : ℕ) (x : Op) → IsWriteOf (map f ops) value x → (w : Op) × IsWriteOf ops value w × (f w ≡ x)
    write_unchanged value x is =
        let (w, there, e) = before_mapped f ops x is.there in
        (w, record { there = there; kind = sym (keeps.kind_is w) ∙ ap (λ (a : Op). a.kind) e ∙ is.kind; value_is = sym (keeps.value_is w) ∙ ap (λ (a : Op). a.value) e ∙ is.value_is }, e)

    pub read_changed : (r : Op) → IsReadIn ops r → IsReadIn (map f ops) (f r)
    read_changed r is = record { there = mapped_from f ops r is.there; kind = keeps.kind_is r ∙ is.kind }

    -- a read among them was one
    pub read_unchanged : (x : Op) → IsReadIn (map f ops) x → (r : Op) × IsReadIn ops r × (f r ≡ x)
    read_unchanged x is =
        let (r, there, e) = before_mapped f ops x is.there in
        (r, record { there = there; kind = sym (keeps.kind_is r) ∙ ap (λ (a : Op). a.kind) e ∙ is.kind }, e)

    pub names_kept : NamesItsWrites ops → NamesItsWrites (map f ops)
    names_kept names = record {
      records = λ a b ca cb e.
          let (x, cx, ex) = before_mapped f ops a ca in
          let (y, cy, ey) = before_mapped f ops b cb in
          let same : x.rec ≡ y.rec = sym (keeps.record_is x) ∙ ap (λ (z : Op). z.rec) ex ∙ e ∙ sym (ap (λ (z : Op). z.rec) ey) ∙ keeps.record_is y in
          sym ex ∙ ap f (names.records x y cx cy same) ∙ ey;
      written = each_changed (λ (b : Op). (w : Op) × IsWriteOf (map f ops) b.value w) (λ a there.
          let (w, is) = names.written a there in
          (f w, write_changed (f a).value w (rw (keeps.value_is a) is)));
      once = λ value v w vv ww.
          let (x, xx, ex) = write_unchanged value v vv in
          let (y, yy, ey) = write_unchanged value w ww in
          sym ex ∙ ap f (names.once value x y xx yy) ∙ ey;
    }

    module _ (g : ℕ) (same : (a b : Op) → Contains ops a → Contains ops b → IsBeforeOnBothSides g a b ↔ Precedes 0 (f a) (f b)) where
      order_of_side_order : (order : List ℕ) → IsSideOrder ops g order → IsOrder (map f ops) 0 1 order
      order_of_side_order order is = record {
        each_once = rw (records_kept ops) is.each_once;
        extends = λ a b ca cb precedes.
            let (x, cx, ex) = before_mapped f ops a ca in
            let (y, cy, ey) = before_mapped f ops b cb in
            let before : Precedes 0 (f x) (f y) = rw (ex, ey) precedes in
            let ra : x.rec ≡ a.rec = sym (keeps.record_is x) ∙ ap (λ (z : Op). z.rec) ex in
            let rb : y.rec ≡ b.rec = sym (keeps.record_is y) ∙ ap (λ (z : Op). z.rec) ey in
            subst (λ (m : ℕ). StandsBefore order m b.rec) ra (subst (λ (n : ℕ). StandsBefore order x.rec n) rb (is.extends x y cx cy ((same x y cx cy).1 before)));
        returns = λ b rr.
            let (r, read, e) = read_unchanged b rr in
            let (w, ww, among) = is.returns r read in
            let value : r.value ≡ b.value = sym (keeps.value_is r) ∙ ap (λ (z : Op). z.value) e in
            let rec : r.rec ≡ b.rec = sym (keeps.record_is r) ∙ ap (λ (z : Op). z.rec) e in (
              f w,
              write_changed b.value w (subst (λ (v : ℕ). IsWriteOf ops v w) value ww),
              among_kept ops (map f ops) 1 order w r (f w) b (sym (keeps.record_is w)) rec (sym (write_records_kept ops)) among,
            );
      }

      side_order_of_order : (order : List ℕ) → IsOrder (map f ops) 0 1 order → IsSideOrder ops g order
      side_order_of_order order is = record {
        each_once = subst (λ (all : List ℕ). ListsEachOnce all order) (records_kept ops) is.each_once;
        extends = λ a b ca cb before.
            let stands = is.extends (f a) (f b) (mapped_from f ops a ca) (mapped_from f ops b cb) ((same a b ca cb).0 before) in
            subst (λ (m : ℕ). StandsBefore order m b.rec) (keeps.record_is a) (subst (λ (n : ℕ). StandsBefore order (f a).rec n) (keeps.record_is b) stands);
        returns = λ r rr.
            let (x, xx, among) = is.returns (f r) (read_changed r rr) in
            let (w, ww, e) = write_unchanged (f r).value x xx in
            let rec : x.rec ≡ w.rec = sym (ap (λ (z : Op). z.rec) e) ∙ keeps.record_is w in (
              w,
              subst (λ (v : ℕ). IsWriteOf ops v w) (keeps.value_is r) ww,
              among_kept (map f ops) ops 1 order x (f r) w r rec (keeps.record_is r) (write_records_kept ops) among,
            );
      }

      -- the side orders are the orders of the changed operations
      pub side_orders_are_orders : (order : List ℕ) → IsSideOrder ops g order ↔ IsOrder (map f ops) 0 1 order
      side_orders_are_orders order = (order_of_side_order order, side_order_of_order order)
