use Rattle.std.proofs.Common.{rules}
use Rattle.std.proofs.lemmas.Fn.{always_returns_same}
use Rattle.stale_model.specs.Operations.{initial_write}
use Rattle.stale_model.proofs.Lookup.{found_value, missing_value}
use Rattle.stale_model.proofs.KeyOps.value_of.Goals as goal

pub returns-in-Ok : goal.returns-in-Ok
returns-in-Ok c =
    let same = c.as_slice-ops.ensures in
    let within = c.in-Ok.ensures.bound in
    let found = c.in-Ok.ensures.position (λ a. a.rec) (always_returns_same _ _ _ (λ a r f k. search rules)) in
    rw same (found_value c.args.self.now c.args.rec c.requires c.in-Ok.place _ (rw same at within) (rw same at found))

pub returns-in-Err : goal.returns-in-Err
returns-in-Err c =
    let same = c.as_slice-ops.ensures in
    let parted = c.in-Err.ensures.position (λ a. a.rec) (always_returns_same _ _ _ (λ a r f k. search rules)) in
    missing_value c.args.self.now c.args.rec c.requires c.in-Err.field-0 initial_write (rw same at parted)
