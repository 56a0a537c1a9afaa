-- A crew as contracts see it: the jobs that it has started, and what it has refused.
use Rattle.std.specs.Prelude.{◌≡◌, ℕ, ◌≤◌, List, [], ◌∷◌, ◌++◌, length, Option, Some, None, Result, OnOk, OnErr, IsErr}
use Rattle.audit_ports.specs.declared.calls.Calls.{Calls}
use Rattle.audit_ports.specs.Shelf.{Rose}
use Rattle.audit_ports.specs.Calls.{CountsCall, IsFailingCall, no_calls}

-- the jobs that were started and not joined, and the marks of all that were started, in order; the starts that were asked for, with the
-- numbers of those that fail; the places for jobs; the count of refusals, and the mark of the job that was refused last
pub record CrewView (J : Type 0) : Type 0 where
  pub jobs : List J
  pub begun : List ℕ
  pub starts : Calls
  pub places : ℕ
  pub count : ℕ
  pub last : Option ℕ

-- a crew with these places that refuses the starts of these numbers, before the first start
abbrev pub fresh_crew : {J : Type 0} → ℕ → List ℕ → CrewView J
fresh_crew places fail = record { jobs = []; begun = []; starts = no_calls fail; places = places; count = 0; last = None }

-- this job, of this mark, was started: it is the last of those not joined, and its mark the last of those started
pub record IsStarted {J : Type 0} (job : J) (mark : ℕ) (old new : CrewView J) : Type 0 where
  pub jobs : new.jobs ≡ old.jobs ++ job ∷ []
  pub begun : new.begun ≡ old.begun ++ mark ∷ []
  pub count : new.count ≡ old.count
  pub last : new.last ≡ old.last

-- a job of this mark was refused and dropped: the count rose, and the mark is the one of the last refusal
pub record IsRefused {J : Type 0} (mark : ℕ) (old new : CrewView J) : Type 0 where
  pub jobs : new.jobs ≡ old.jobs
  pub begun : new.begun ≡ old.begun
  pub count : Rose old.count new.count
  pub keeps : old.count ≤ new.count
  pub last : new.last ≡ Some mark

-- starting this job, of this mark, with this result: a start whose number is told to fail is refused, and one for which no place is left
pub record Starts {J T E : Type 0} (job : J) (mark : ℕ) (old : CrewView J) (result : Result T E) (new : CrewView J) : Type 0 where
  pub starts : CountsCall old.starts new.starts
  pub places : new.places ≡ old.places
  pub told : IsFailingCall new.starts → IsErr result
  pub full : old.places ≤ length old.begun → IsErr result
  pub ok : OnOk result (IsStarted job mark old new)
  pub failed : OnErr result (IsRefused mark old new)

-- joining with this end: the first of the jobs not joined is taken out, and nothing else changes
pub record Joins {J Out : Type 0} (ends : J → Out → Type 0) (old : CrewView J) (end : Out) (new : CrewView J) : Type 0 where
  pub job : J
  pub first : old.jobs ≡ job ∷ new.jobs
  pub ended : ends job end
  pub same : new ≡ record old { jobs = new.jobs }
