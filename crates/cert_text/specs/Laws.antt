-- A certificate has one text, and verdicts that are shown can be written and read back.
use Rattle.std.specs.Prelude.{◌≡◌, ℕ, ◌<◌, ◌^◌, ◌&&◌, nat_le, true, Bool, IsTrue, List, [], ◌∷◌, length, All, Option, Some, None, Ok}
use Rattle.std.specs.List.{list_all}
use Rattle.stale_model.specs.declared.Op.{Op}
use Rattle.stale_model.specs.declared.KeyOps.{KeyOps}
use Rattle.stale_model.specs.declared.Four.{Four}
use Rattle.stale_model.specs.declared.End.{End}
use Rattle.stale_model.specs.declared.End.TheVariants.{Hard, Soft}
use Rattle.stale_model.specs.declared.Try.{Try}
use Rattle.stale_model.specs.declared.TwoPart.{TwoPart}
use Rattle.stale_model.specs.declared.TwoPart.TheVariants.{Yes, No}
use Rattle.stale_model.specs.declared.Verdict.{Verdict}
use Rattle.stale_model.specs.declared.Verdict.TheVariants as verdict
use Rattle.stale_model.specs.Operations.{operations}
use Rattle.stale_model.specs.Valid.{IsValidKey}
use Rattle.stale_model.specs.Shown.{IsShown}
use Rattle.cert_text.specs.Numbers.{most_record, most_delta}
use Rattle.cert_text.specs.Certificates.{has_chains, cert_text}
use Rattle.cert_text.specs.Reading.{read_of}

-- whether records fit their type
abbrev pub records_fit : List ℕ → Bool
records_fit recs = list_all (λ rec. nat_le rec most_record) recs

-- whether the records of a pair do
abbrev pub four_fits : Option Four → Bool
four_fits None = true
four_fits (Some four) = records_fit (four.p ∷ four.q ∷ four.q2 ∷ four.p2 ∷ [])

-- whether those of the end of a try do
abbrev pub end_fits : End → Bool
end_fits (Hard p u) = records_fit (p ∷ u ∷ [])
end_fits (Soft p q q2) = records_fit (p ∷ q ∷ q2 ∷ [])

-- whether those of a try do
abbrev pub try_fits : Try → Bool
try_fits attempt = records_fit attempt.chain && end_fits attempt.end

-- whether those that say whether a key is 2-atomic do
abbrev pub two_fits : TwoPart → Bool
two_fits (Yes order) = records_fit order
two_fits (No refutation) = records_fit refutation.stuck && list_all try_fits refutation.tries

-- whether all numbers of a verdict fit their types
abbrev pub fits : Verdict → Bool
fits (verdict.Duplicate rec) = nat_le rec most_record
fits (verdict.Unmatched rec) = nat_le rec most_record
fits (verdict.Infinite rec) = nat_le rec most_record
fits (verdict.Judged judgement) =
    nat_le judgement.delta most_delta && (records_fit judgement.order && (four_fits judgement.four && two_fits judgement.two))

-- what is read has one text, and is as many verdicts as there are keys
abbrev pub ReadHasOneText : Type 0
ReadHasOneText =
    (keys : ℕ) (text : List ℕ) (verdicts : List Verdict) → read_of keys text ≡ Ok verdicts
    → (text ≡ cert_text verdicts) × (length verdicts ≡ keys)

-- what is written reads back: verdicts of numbers that fit their types, where each try has a chain
abbrev pub TextReadsBack : Type 0
TextReadsBack =
    (verdicts : List Verdict) → length verdicts < 2 ^ 32 → IsTrue (list_all fits verdicts) → IsTrue (list_all has_chains verdicts)
    → read_of (length verdicts) (cert_text verdicts) ≡ Ok verdicts

-- a verdict that is shown has chains
abbrev pub ShownHaveChains : Type 0
ShownHaveChains = (ops : List Op) (v : Verdict) → IsShown ops v → IsTrue (has_chains v)

-- a verdict that is shown of a valid key fits; that records are below 2 ^ 32 is given by the type of each operation
abbrev pub ShownFit : Type 0
ShownFit = (key : KeyOps) (v : Verdict) → IsValidKey key → All (λ a. a.rec < 2 ^ 32) key.ops → IsShown (operations key) v → IsTrue (fits v)
