use Rattle.std.proofs.Common.{rules, arith, ◌≡◌, ℕ, length, sym, subst}
use Rattle.std.specs.Prelude.{All}
use Rattle.std.proofs.lemmas.List.Elements.{All-from_recursion}
use Rattle.stale_model.specs.Valid.{IsValidOp}
use Rattle.mode_texts.proofs.tests.key_of.Goals as goal

pub returns-clause-valid : goal.returns-clause-valid
returns-clause-valid c =
    let all = All-from_recursion (IsValidOp 3) c.args.ops.now c.requires.ops in
    let same : c.from_vec-2.result ≡ c.args.ops.now = search rules in
    let three : length c.from_vec.result ≡ 3 = search rules in
    rw same (record { ops = subst (λ (values : ℕ). All (IsValidOp values) c.args.ops.now) (sym three) all; rising = c.requires.rising; few = (let few = c.requires.few in omega arith) })
