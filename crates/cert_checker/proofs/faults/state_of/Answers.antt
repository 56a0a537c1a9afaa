use Rattle.std.proofs.Common.{◌≡◌, ℕ, List, Option, None, subst}
use Rattle.stale_model.specs.declared.KeyOps.{KeyOps}
use Rattle.stale_model.specs.Operations.{operations}
use Rattle.stale_model.specs.Valid.{IsValidKey}
use Rattle.stale_model.specs.Faults.{HasNone, IsDuplicate}
use Rattle.cert_checker.specs.States.{AreWrites}
use Rattle.cert_checker.proofs.WriteStarts.{no_duplicate}
use Rattle.cert_checker.proofs.faults.state_of.Goals as goal

-- where no duplicate is found there is none
none_found : (key : KeyOps) (starts : List (Option ℕ)) (found : Option ℕ) → IsValidKey key → found ≡ None → AreWrites key starts found → HasNone (IsDuplicate (operations key))
none_found key starts found valid none are = no_duplicate key valid starts (subst (AreWrites key starts) none are)

pub returns-in-Some-first_unmatched : goal.returns-in-Some-first_unmatched
returns-in-Some-first_unmatched c =
    let all = rw c.in_ok-rec.was at c.first_duplicate.ensures in
    record {
      no_duplicate = none_found c.args.key.now c.first_duplicate.new.starts.items c.in_ok-rec.field-0 c.requires c.in_default.is all;
      unmatched = c.in-Some-first_unmatched.ensures;
    }

pub returns-in-Some-first_early : goal.returns-in-Some-first_early
returns-in-Some-first_early c =
    let all = rw c.in_ok-rec.was at c.first_duplicate.ensures in
    record {
      matched = record {
        no_duplicate = none_found c.args.key.now c.first_duplicate.new.starts.items c.in_ok-rec.field-0 c.requires c.in_default.is all;
        no_unmatched = c.in_default-first_unmatched.ensures;
      };
      early = c.in-Some-first_early.ensures;
    }

pub returns-in-None : goal.returns-in-None
returns-in-None c =
    let all = rw c.in_ok-rec.was at c.first_duplicate.ensures in
    record {
      matched = record {
        no_duplicate = none_found c.args.key.now c.first_duplicate.new.starts.items c.in_ok-rec.field-0 c.requires c.in_default.is all;
        no_unmatched = c.in_default-first_unmatched.ensures;
      };
      no_early = c.in-None.ensures;
    }
