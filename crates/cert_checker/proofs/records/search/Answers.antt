use Rattle.std.proofs.Common.{rules}
use Rattle.std.proofs.lemmas.Fn.{always_returns_same}
use Rattle.cert_checker.proofs.Lookups.{found, missing}
use Rattle.cert_checker.proofs.records.search.Goals as goal

pub returns-in-Ok : goal.returns-in-Ok
returns-in-Ok c =
    let same = c.as_slice-ops.ensures in
    let within = c.in-Ok.ensures.bound in
    let hit = c.in-Ok.ensures.position (λ a. a.rec) (always_returns_same _ _ _ (λ a r f k. search rules)) in
    rw same (found c.args.key.now c.requires c.args.rec c.in-Ok.place _ (rw same at within) (rw same at hit))

pub returns-in-Err : goal.returns-in-Err
returns-in-Err c =
    let same = c.as_slice-ops.ensures in
    let parted = c.in-Err.ensures.position (λ a. a.rec) (always_returns_same _ _ _ (λ a r f k. search rules)) in
    missing c.args.key.now c.requires c.args.rec c.in-Err.field-0 c.if-rec-eq0.false (rw same at parted)
