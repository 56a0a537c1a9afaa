-- Tries by what walking their chains finds.
use Rattle.std.proofs.Common.{◌≡◌, inl, inr, ◌<◌, ◌+◌, ◌-◌, ℕ, Bool, List, length, Option, Some, None, subst}
use Rattle.std.proofs.lemmas.Option.{slice_get_within}
use Rattle.stale_model.specs.declared.Op.{Op}
use Rattle.stale_model.specs.declared.Try.{Try}
use Rattle.stale_model.specs.declared.Refutation.{Refutation}
use Rattle.stale_model.specs.Orders.{StandsAt}
use Rattle.stale_model.specs.Refutations.{EndHolds, TryHolds}
use Rattle.stale_model.proofs.Places.{same_at}
use Rattle.cert_checker.specs.OrderFaults.{IsFirstWrong}
use Rattle.cert_checker.specs.RefutationFaults.{IsFailedTry, IsRefutationCheck}
use Rattle.cert_checker.specs.declared.refutations.Case.{Case}
use Rattle.cert_checker.specs.RefutationSteps.{AreMembers, case_ops, case_stuck, IsChain, IsWalked, FindsFailed}
use Rattle.cert_checker.proofs.InOrder.{not_below}
use Rattle.cert_checker.proofs.MemberMarks.{no_strangers}
use Rattle.cert_checker.proofs.Starts.{below_or_at}

module _ (case : Case) (member : ℕ) (attempt : Try) where
  pub chain_from_try : TryHolds (case_ops case) case.d (case_stuck case) member attempt → IsChain case attempt.chain
  chain_from_try t = record { some = slice_get_within attempt.chain 0 member t.begins; members = t.members; once = t.once; forced = t.forced }

  module _ (marks : List ℕ) (mark value c : ℕ) (walked : IsWalked case attempt.chain marks mark value c) where
    pub try_from_end : StandsAt attempt.chain 0 member → IsChain case attempt.chain → EndHolds (case_ops case) case.d (case_stuck case) attempt.chain c attempt.end
        → TryHolds (case_ops case) case.d (case_stuck case) member attempt
    try_from_end begins chain end = record {
      begins = begins;
      members = chain.members;
      once = chain.once;
      forced = chain.forced;
      last = c;
      last_is = walked.last_is;
      end = end;
    }

    pub end_from_try : TryHolds (case_ops case) case.d (case_stuck case) member attempt → EndHolds (case_ops case) case.d (case_stuck case) attempt.chain c attempt.end
    end_from_try t =
        subst (λ x. EndHolds (case_ops case) case.d (case_stuck case) attempt.chain x attempt.end)
        (same_at attempt.chain (length attempt.chain - 1) t.last c t.last_is walked.last_is) t.end

-- the tries of the members before place n hold
abbrev pub AreHeld : List Op → ℕ → Refutation → ℕ → Type 0
AreHeld ops d refutation n = (t member : ℕ) (attempt : Try) → t < n → StandsAt refutation.stuck t member → StandsAt refutation.tries t attempt
    → TryHolds ops d refutation.stuck member attempt

module _ (ops : List Op) (d : ℕ) (refutation : Refutation) (n member : ℕ) (attempt : Try) (held : AreHeld ops d refutation n)
    (member_is : StandsAt refutation.stuck n member) (attempt_is : StandsAt refutation.tries n attempt) where
  pub first_failed : (TryHolds ops d refutation.stuck member attempt → ⊥) → IsFirstWrong (IsFailedTry ops d refutation) refutation.stuck member
  first_failed fails = record {
    place = n;
    there = member_is;
    wrong = record { member = member; attempt = attempt; member_is = member_is; attempt_is = attempt_is; fails = fails };
    first = not_below (IsFailedTry ops d refutation) n (λ p low f. f.fails (held p f.member f.attempt low f.member_is f.attempt_is));
  }

  pub held_more : TryHolds ops d refutation.stuck member attempt → AreHeld ops d refutation (n + 1)
  held_more holds t other try low other_is try_is = elim (below_or_at t n low) [
    | inl below ↦ held t other try below other_is try_is
    | inr e ↦
        subst (λ m. TryHolds ops d refutation.stuck m try) (same_at refutation.stuck n member other member_is (subst (λ p. StandsAt refutation.stuck p other) e other_is))
        (subst (TryHolds ops d refutation.stuck member) (same_at refutation.tries n attempt try attempt_is (subst (λ p. StandsAt refutation.tries p try) e try_is)) holds)
  ]

-- what is found of the tries, where members and their number are right
pub check_from_tries : (ops : List Op) (d : ℕ) (refutation : Refutation) (marks : List Bool) → AreMembers ops refutation.stuck marks → 0 < length refutation.stuck
    → length refutation.tries ≡ length refutation.stuck → (found : Option ℕ) → FindsFailed ops d refutation found → IsRefutationCheck ops d refutation found
check_from_tries ops d refutation marks members some as_many None held = record {
  some = some;
  writes = members.writes;
  once = members.once;
  as_many = as_many;
  each = held;
}
check_from_tries ops d refutation marks members some as_many (Some rec) failed =
    inr (inr (record { no_stranger = no_strangers ops refutation.stuck marks members; as_many = as_many; failed = failed }))
