-- The text of a report.
use Rattle.std.specs.Prelude.{ℕ, ◌==◌, ◌&&◌, max, Bool, true, false, List, [], ◌∷◌, ◌++◌, codes, length, sum_by, count_by, fold, find, Option, Some, None}
use Rattle.std.specs.Option.{option_map_or}
use Rattle.std.specs.Fmt.{decimal}
use Rattle.stale_model.specs.declared.Op.{Op}
use Rattle.stale_model.specs.declared.Four.{Four}
use Rattle.stale_model.specs.declared.KeyOps.{KeyOps}
use Rattle.stale_model.specs.declared.History.{History}
use Rattle.stale_model.specs.declared.TwoPart.{TwoPart}
use Rattle.stale_model.specs.declared.TwoPart.TheVariants.{Yes, No}
use Rattle.stale_model.specs.declared.Verdict.{Verdict}
use Rattle.stale_model.specs.declared.Verdict.TheVariants.{Duplicate, Unmatched, Infinite, Judged}
use Rattle.stale_model.specs.Operations.{operations, is_write}
use Rattle.stale_model.specs.NamedWrites.{value_of_record}
use Rattle.staleness_report.specs.Escaped.{escaped}

-- the record of the write of this value
abbrev pub write_of_value : List Op → ℕ → ℕ
write_of_value ops value = option_map_or (λ a. a.rec) (find (λ a. is_write a && (a.value == value)) ops) 0

-- the write record of the cluster of the operation with this record
abbrev pub cluster_of_record : List Op → ℕ → ℕ
cluster_of_record ops rec = write_of_value ops (value_of_record ops rec)

-- the pair that conflicts just below delta, by the write records of its clusters
abbrev pub pair_text : List Op → Option Four → List ℕ
pair_text ops None = []
pair_text ops (Some four) = codes " pair " ++ decimal (cluster_of_record ops four.p) ++ codes " " ++ decimal (cluster_of_record ops four.q)

-- whether a key is 2-atomic
abbrev pub two_text : TwoPart → List ℕ
two_text (Yes order) = codes " two yes"
two_text (No refutation) = codes " two no"

-- the end of a key's line
abbrev pub verdict_text : List Op → Verdict → List ℕ
verdict_text ops (Duplicate rec) = codes "duplicate " ++ decimal rec
verdict_text ops (Unmatched rec) = codes "unmatched " ++ decimal rec
verdict_text ops (Infinite rec) = codes "infinite " ++ decimal rec ++ codes " two no"
verdict_text ops (Judged judgement) = codes "delta " ++ decimal judgement.delta ++ pair_text ops judgement.four ++ two_text judgement.two

-- a key's line: its name, the number of its operations without the initial write, and its verdict
abbrev pub key_line : KeyOps → Verdict → List ℕ
key_line key verdict = codes "key " ++ escaped key.name ++ codes " operations " ++ decimal (length key.ops) ++ codes " " ++ verdict_text (operations key) verdict ++ codes "\n"

-- the lines of all keys, in their order
abbrev pub key_lines : List KeyOps → List Verdict → List ℕ
key_lines [] verdicts = []
key_lines (key ∷ keys) [] = []
key_lines (key ∷ keys) (verdict ∷ verdicts) = key_line key verdict ++ key_lines keys verdicts

-- whether a key is duplicate
abbrev pub is_duplicate : Verdict → Bool
is_duplicate (Duplicate rec) = true
is_duplicate _ = false

-- whether a key is unmatched
abbrev pub is_unmatched : Verdict → Bool
is_unmatched (Unmatched rec) = true
is_unmatched _ = false

-- whether a key is infinite
abbrev pub is_infinite : Verdict → Bool
is_infinite (Infinite rec) = true
is_infinite _ = false

-- whether a key is atomic: judged with delta 0
abbrev pub is_atomic : Verdict → Bool
is_atomic (Judged judgement) = judgement.delta == 0
is_atomic _ = false

-- whether it is by an order
abbrev pub is_yes : TwoPart → Bool
is_yes (Yes order) = true
is_yes (No refutation) = false

-- whether a key is 2-atomic: judged with an order
abbrev pub is_two_atomic : Verdict → Bool
is_two_atomic (Judged judgement) = is_yes judgement.two
is_two_atomic _ = false

-- the delta of a verdict, and the greatest of the others
abbrev pub worse : Verdict → Option ℕ → Option ℕ
worse (Judged judgement) None = Some judgement.delta
worse (Judged judgement) (Some delta) = Some (max judgement.delta delta)
worse _ worst = worst

-- the greatest delta of the judged keys, if there are any
abbrev pub worst_delta : List Verdict → Option ℕ
worst_delta verdicts = fold (λ worst verdict. worse verdict worst) None verdicts

-- a delta, or that there is none
abbrev pub delta_text : Option ℕ → List ℕ
delta_text None = codes "none"
delta_text (Some delta) = decimal delta

-- how many keys, operations and skipped reads there are
abbrev pub sizes_text : History → List ℕ
sizes_text history =
    codes "total keys " ++ decimal (length history.keys)
    ++ codes " operations " ++ decimal (sum_by (λ key. length key.ops) history.keys)
    ++ codes " skipped " ++ decimal history.skipped

-- how many keys have each kind of fault
abbrev pub faults_text : List Verdict → List ℕ
faults_text verdicts =
    codes " duplicate " ++ decimal (count_by is_duplicate verdicts)
    ++ codes " unmatched " ++ decimal (count_by is_unmatched verdicts)
    ++ codes " infinite " ++ decimal (count_by is_infinite verdicts)

-- how many keys are atomic and 2-atomic, and the worst delta
abbrev pub deltas_text : List Verdict → List ℕ
deltas_text verdicts =
    codes " atomic " ++ decimal (count_by is_atomic verdicts)
    ++ codes " two " ++ decimal (count_by is_two_atomic verdicts)
    ++ codes " worst " ++ delta_text (worst_delta verdicts)

-- the last line
abbrev pub total_line : History → List Verdict → List ℕ
total_line history verdicts = sizes_text history ++ faults_text verdicts ++ deltas_text verdicts ++ codes "\n"

-- the whole report
abbrev pub report_text : History → List Verdict → List ℕ
report_text history verdicts = key_lines history.keys verdicts ++ total_line history verdicts
