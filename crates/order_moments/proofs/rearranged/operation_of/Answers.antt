use Rattle.std.proofs.Common.{rules}
use Rattle.std.proofs.lemmas.Fn.{always_returns_same}
use Rattle.order_moments.proofs.Rearranging.{found, not_missing}
use Rattle.order_moments.proofs.rearranged.operation_of.Goals as goal

pub unreachable-requires : goal.unreachable-requires
unreachable-requires c =
    let same = c.as_slice-ops.ensures in
    let parted = c.in-Err.ensures.position (λ a. a.rec) (always_returns_same _ _ _ (λ a r f k. search rules)) in
    not_missing c.args.key.now c.args.rec c.requires.valid c.in-Err.field-0 (rw same at parted) c.if-rec-eq0.false c.requires.known

pub returns : goal.returns
returns c =
    let same = c.as_slice-ops.ensures in
    let within = c.in-Ok.ensures.bound in
    let at = c.in-Ok.ensures.position (λ a. a.rec) (always_returns_same _ _ _ (λ a r f k. search rules)) in
    rw same (found c.args.key.now c.args.rec c.in-Ok.place _ (rw same at within) (rw same at at))
