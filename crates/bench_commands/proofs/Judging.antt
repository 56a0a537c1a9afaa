-- Where no key has a fault, each verdict is a judgement.
use Rattle.std.proofs.Common.{List, get_or, arith}
use Rattle.std.specs.Prelude.{All}
use Rattle.std.proofs.lemmas.List.Elements.{All-contains}
use Rattle.std.proofs.lemmas.Option.{slice_get-get_or}
use Rattle.stale_model.specs.declared.Op.{Op}
use Rattle.stale_model.specs.declared.KeyOps.{KeyOps}
use Rattle.stale_model.specs.declared.Verdict.{Verdict}
use Rattle.stale_model.specs.declared.Verdict.TheVariants.{Duplicate, Unmatched, Infinite, Judged}
use Rattle.stale_model.specs.Operations.{operations}
use Rattle.stale_model.specs.Faults.{IsClearKey}
use Rattle.stale_model.specs.Truth.{EachKeyHas, IsTrueOf}
use Rattle.stale_model.proofs.Places.{contains_at, something_at}
use Rattle.bench_commands.specs.Made.{IsJudged}

-- a true verdict of operations without a fault is a judgement
judged_one : (ops : List Op) (v : Verdict) → IsClearKey ops → IsTrueOf ops v → IsJudged v
judged_one ops (Duplicate rec) clear true_of = let (a, fault, _) = true_of.at in absurd (clear.matched.no_duplicate a fault)
judged_one ops (Unmatched rec) clear true_of = let (a, fault, _) = true_of.unmatched.at in absurd (clear.matched.no_unmatched a fault)
judged_one ops (Infinite rec) clear true_of = let (a, fault, _) = true_of.early.early.at in absurd (clear.no_early a fault)
judged_one ops (Judged judgement) clear true_of = tt

pub judged_all : (keys : List KeyOps) (verdicts : List Verdict) → All (λ key. IsClearKey (operations key)) keys → EachKeyHas IsTrueOf keys verdicts → All IsJudged verdicts
judged_all keys verdicts clear truth k d lt =
    let as_many = truth.as_many in
    let (key, at) = something_at keys k (omega arith) in
    let of_key = All-contains (λ (x : KeyOps). IsClearKey (operations x)) keys key clear (contains_at keys k key at) in
    judged_one (operations key) (get_or verdicts k d) of_key (truth.each k key (get_or verdicts k d) at (slice_get-get_or verdicts k d lt))
