-- Orders of rearranged operations.
use Rattle.std.proofs.Common.{◌≡◌, ℕ, ◌+◌, ◌<◌, Bool, List, subst}
use Rattle.std.proofs.Math.Path.{fun_ext}
use Rattle.std.specs.Prelude.{Contains, ◌==◌, ◌&&◌, count_by, slice_range}
use Rattle.std.specs.List.Sorted.{IsPermutation}
use Rattle.std.proofs.lemmas.List.Sorted.{list_any-IsPermutation, Contains-permutation, IsPermutation-sym, IsPermutation-map}
use Rattle.stale_model.specs.declared.Op.{Op}
use Rattle.stale_model.specs.Operations.{is_write, records_of}
use Rattle.stale_model.specs.Orders.{is_write_record, IsAmongLast, IsOrder}
use Rattle.model_laws.specs.Laws.{OrdersStayOfRearranged}

-- the records of writes stay
write_records_stay : (ops others : List Op) → IsPermutation ops others → is_write_record ops ≡ is_write_record others
write_records_stay ops others same = fun_ext (λ (rec : ℕ). list_any-IsPermutation (λ (a : Op). (a.rec == rec) && is_write a) ops others same)

among_stays : (ops others : List Op) (k : ℕ) (order : List ℕ) (w r : Op) → is_write_record ops ≡ is_write_record others
    → IsAmongLast ops k order w r → IsAmongLast others k order w r
among_stays ops others k order w r same among = record { before = among.before; few = subst (λ (p : ℕ → Bool). count_by p (slice_range order (among.before.place + 1) among.before.later) < k) same among.few }

module _ (ops others : List Op) (same : IsPermutation ops others) where
  back : (a : Op) → Contains others a → Contains ops a
  back a there = Contains-permutation others ops a (IsPermutation-sym ops others same) there

order_stays : (ops others : List Op) (d k : ℕ) (order : List ℕ) → IsPermutation ops others → IsOrder ops d k order → IsOrder others d k order
order_stays ops others d k order same o =
    let records = IsPermutation-map (λ (a : Op). a.rec) ops others same in
    record {
      each_once = record {
        known = λ rec c. Contains-permutation (records_of ops) (records_of others) rec records (o.each_once.known rec c);
        whole = λ rec c. o.each_once.whole rec (Contains-permutation (records_of others) (records_of ops) rec (IsPermutation-sym (records_of ops) (records_of others) records) c);
        once = o.each_once.once;
      };
      extends = λ a b ca cb p. o.extends a b (back ops others same a ca) (back ops others same b cb) p;
      returns = λ r rr.
          let (w, ww, among) = o.returns r (record { there = back ops others same r rr.there; kind = rr.kind }) in
          (w, record { there = Contains-permutation ops others w same ww.there; kind = ww.kind; value_is = ww.value_is }, among_stays ops others k order w r (write_records_stay ops others same) among);
    }

pub orders_stay_of_rearranged : OrdersStayOfRearranged
orders_stay_of_rearranged ops others d k order same = (order_stays ops others d k order same, order_stays others ops d k order (IsPermutation-sym ops others same))
