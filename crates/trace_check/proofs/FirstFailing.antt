-- Which part is the first that fails.
use Rattle.std.proofs.Common.{ℕ, refl, arith}
use Rattle.std.specs.Prelude.{All}
use Rattle.stale_model.specs.declared.store.Settings.{Settings}
use Rattle.stale_model.specs.declared.store.Plan.{Plan}
use Rattle.stale_model.specs.Journals.{IsJournal}
use Rattle.stale_model.specs.RecordedRuns.{journal_of, ArePlanned, AreTimed, AreTaken, ReadsFreshest, AreSent}
use Rattle.trace_check.specs.declared.trace.Trace.{Trace}
use Rattle.trace_check.specs.Parts.{IsFirstFailing}

module _ (settings : Settings) (plan : Plan) (trace : Trace) where
  pub first_fails : (ArePlanned settings plan trace.entries → ⊥) → IsFirstFailing settings plan trace 1
  first_fails fails = record {
    numbered = (omega arith, omega arith);
    fails = λ h. fails (h.planned refl);
    before = λ part low less. absurd (omega arith);
  }

  module _ (planned : ArePlanned settings plan trace.entries) where
    pub second_fails : (AreTimed trace.entries trace.journals → ⊥) → IsFirstFailing settings plan trace 2
    second_fails fails = record {
      numbered = (omega arith, omega arith);
      fails = λ h. fails (h.timed refl);
      before = λ part low less. record {
        planned = λ e. planned;
        timed = λ e. absurd (omega arith);
        taken = λ e. absurd (omega arith);
        freshest = λ e. absurd (omega arith);
        served = λ e. absurd (omega arith);
        sent = λ e. absurd (omega arith);
      };
    }

    module _ (timed : AreTimed trace.entries trace.journals) where
      pub third_fails : (All (AreTaken settings trace.journals) trace.entries → ⊥) → IsFirstFailing settings plan trace 3
      third_fails fails = record {
        numbered = (omega arith, omega arith);
        fails = λ h. fails (h.taken refl);
        before = λ part low less. record {
          planned = λ e. planned;
          timed = λ e. timed;
          taken = λ e. absurd (omega arith);
          freshest = λ e. absurd (omega arith);
          served = λ e. absurd (omega arith);
          sent = λ e. absurd (omega arith);
        };
      }

      module _ (taken : All (AreTaken settings trace.journals) trace.entries) where
        pub fourth_fails : (All ReadsFreshest trace.entries → ⊥) → IsFirstFailing settings plan trace 4
        fourth_fails fails = record {
          numbered = (omega arith, omega arith);
          fails = λ h. fails (h.freshest refl);
          before = λ part low less. record {
            planned = λ e. planned;
            timed = λ e. timed;
            taken = λ e. taken;
            freshest = λ e. absurd (omega arith);
            served = λ e. absurd (omega arith);
            sent = λ e. absurd (omega arith);
          };
        }

        module _ (freshest : All ReadsFreshest trace.entries) where
          pub fifth_fails : (((replica : ℕ) → IsJournal replica (journal_of trace.journals replica)) → ⊥) → IsFirstFailing settings plan trace 5
          fifth_fails fails = record {
            numbered = (omega arith, omega arith);
            fails = λ h. fails (h.served refl);
            before = λ part low less. record {
              planned = λ e. planned;
              timed = λ e. timed;
              taken = λ e. taken;
              freshest = λ e. freshest;
              served = λ e. absurd (omega arith);
              sent = λ e. absurd (omega arith);
            };
          }

          pub sixth_fails : ((replica : ℕ) → IsJournal replica (journal_of trace.journals replica)) → (AreSent settings trace.entries trace.journals → ⊥)
              → IsFirstFailing settings plan trace 6
          sixth_fails served fails = record {
            numbered = (omega arith, omega arith);
            fails = λ h. fails (h.sent refl);
            before = λ part low less. record {
              planned = λ e. planned;
              timed = λ e. timed;
              taken = λ e. taken;
              freshest = λ e. freshest;
              served = λ e. served;
              sent = λ e. absurd (omega arith);
            };
          }
