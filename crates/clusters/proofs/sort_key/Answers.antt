use Rattle.std.proofs.Common.{List, length, subst}
use Rattle.std.proofs.lemmas.Option.{MatchOption-at_some, MatchOption-at_none}
use Rattle.stale_model.specs.declared.KeyOps.{KeyOps}
use Rattle.stale_model.specs.Operations.{operations}
use Rattle.stale_model.specs.Valid.{IsValidKey}
use Rattle.stale_model.specs.Faults.{IsDuplicate, HasNone}
use Rattle.clusters.specs.Tables.{IsLone, AreWrites, IsWriteTable}
use Rattle.clusters.proofs.Growing.{none_duplicate}
use Rattle.clusters.proofs.Records.{values_of}
use Rattle.clusters.proofs.sort_key.Goals as goal

no_duplicate : (key : KeyOps) (table : List _) → IsValidKey key → IsWriteTable key table → HasNone (IsDuplicate (operations key))
no_duplicate key table valid h = none_duplicate IsLone (operations key) (length key.values) table h (values_of key valid)

pub returns-in-Unmatched : goal.returns-in-Unmatched
returns-in-Unmatched c = record {
  no_duplicate = no_duplicate c.args.key.now c.in-Table.table.items c.requires (subst (AreWrites c.args.key.now) c.in-Table.is c.in_ok-rec.ensures);
  unmatched = c.in-Unmatched.ensures;
}

pub returns-in-Some : goal.returns-in-Some
returns-in-Some c =
    let gathered = c.in-Matched.ensures in (
      record {
        matched = record {
          no_duplicate = no_duplicate c.args.key.now c.in-Table.table.items c.requires (subst (AreWrites c.args.key.now) c.in-Table.is c.in_ok-rec.ensures);
          no_unmatched = gathered.no_unmatched;
        };
        early = MatchOption-at_some _ _ c.in-Some.rec c.in-Some.is gathered.first_early;
      },
      c.in_ok-clusters.ensures,
    )

pub returns : goal.returns
returns c =
    let gathered = c.in-Matched.ensures in (
      record {
        matched = record {
          no_duplicate = no_duplicate c.args.key.now c.in-Table.table.items c.requires (subst (AreWrites c.args.key.now) c.in-Table.is c.in_ok-rec.ensures);
          no_unmatched = gathered.no_unmatched;
        };
        no_early = MatchOption-at_none _ _ c.in-None.is gathered.first_early;
      },
      c.in_ok-clusters.ensures,
    )
