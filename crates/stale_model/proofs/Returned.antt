-- In an order each read returns the write of its value, where no value is written twice.
use Rattle.std.proofs.Common.{ℕ, List}
use Rattle.stale_model.specs.declared.Op.{Op}
use Rattle.stale_model.specs.Faults.{IsWriteOf, IsReadIn}
use Rattle.stale_model.specs.NamedWrites.{WritesDiffer}
use Rattle.stale_model.specs.Orders.{IsAmongLast, IsOrder}

pub returns_its_write : (ops : List Op) (d k : ℕ) (order : List ℕ) → WritesDiffer ops → IsOrder ops d k order
    → (w r : Op) → IsWriteOf ops r.value w → IsReadIn ops r → IsAmongLast ops k order w r
returns_its_write ops d k order differ o w r ww rr =
    let (v, vv, among) = o.returns r rr in
    rw (differ r.value v w vv ww) at among
