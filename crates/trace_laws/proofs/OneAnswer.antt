-- A trace has one answer.
use Rattle.std.proofs.Common.{◌≡◌, ℕ, refl, ap, inl, inr}
use Rattle.std.proofs.lemmas.Bool.{cases_order}
use Rattle.stale_model.specs.declared.store.Settings.{Settings}
use Rattle.stale_model.specs.declared.store.Plan.{Plan}
use Rattle.stale_model.specs.RecordedRuns.{IsRecordedRun}
use Rattle.trace_check.specs.declared.trace.Trace.{Trace}
use Rattle.trace_check.specs.declared.judging.Part.TheVariants.{Good, Bad}
use Rattle.trace_check.specs.Parts.{PartHolds, IsFirstFailing}
use Rattle.trace_laws.specs.Laws.{AnswersAreOne}

module _ (s : Settings) (plan : Plan) (trace : Trace) where
  -- of a recorded run each part holds
  part_holds : (part : ℕ) → IsRecordedRun s plan trace.entries trace.journals → PartHolds s plan trace part
  part_holds part run = record {
    planned = λ _. run.planned;
    timed = λ _. run.timed;
    taken = λ _. run.taken;
    freshest = λ _. run.freshest;
    served = λ _. run.served;
    sent = λ _. run.sent;
  }

  -- one part is the first that fails
  one_first : (m n : ℕ) → IsFirstFailing s plan trace m → IsFirstFailing s plan trace n → m ≡ n
  one_first m n a b = elim (cases_order m n) [
    | inl same ↦ same
    | inr less ↦ elim less [
      | inl low ↦ absurd (a.fails (b.before m a.numbered.0 low))
      | inr low ↦ absurd (b.fails (a.before n b.numbered.0 low))
    ]
  ]

pub answers_are_one : AnswersAreOne
answers_are_one s plan trace Good Good a b = refl
answers_are_one s plan trace Good (Bad n) a b = absurd (b.fails (part_holds s plan trace n a))
answers_are_one s plan trace (Bad m) Good a b = absurd (a.fails (part_holds s plan trace m b))
answers_are_one s plan trace (Bad m) (Bad n) a b = ap Bad (one_first s plan trace m n a b)
