-- Jobs that are joined one after the other.
use Rattle.std.proofs.Common.{◌≡◌, ℕ, zero, suc, ◌+◌, ◌<◌, List, [], ◌∷◌, ◌++◌, length, drop, get_or, sym, ◌∙◌, ap, inl, inr, subst, arith}
use Rattle.std.proofs.Math.Seq.{drop-nil}
use Rattle.std.proofs.lemmas.Bool.{cases_lt}
use Rattle.std.proofs.lemmas.List.{get_or_append_left, get_or_push, length_push}
use Rattle.audit_ports.specs.Crew.{CrewView}
use Rattle.bench_run.specs.declared.job.BenchEnd.{BenchEnd}
use Rattle.bench_run.specs.Jobs.{JobView, IsServedOut}

module _ {X : Type 0} where
  -- the first of those from a place on is the one at the place
  pub first_from : (xs : List X) (k : ℕ) (x d : X) (ys : List X) → drop k xs ≡ x ∷ ys → get_or xs k d ≡ x
  first_from [] k x d ys is = absurd (let n = ap (λ (l : List X). length l) is in let none = ap (λ (l : List X). length l) (drop-nil k) in omega arith)
  first_from (z ∷ xs) zero x d ys is = cc
  first_from (z ∷ xs) (suc k) x d ys is = first_from xs k x d ys is

  -- and the others are those from the next place on
  pub others_from : (xs : List X) (k : ℕ) (x : X) (ys : List X) → drop k xs ≡ x ∷ ys → ys ≡ drop (k + 1) xs
  others_from [] k x ys is = absurd (let n = ap (λ (l : List X). length l) is in let none = ap (λ (l : List X). length l) (drop-nil k) in omega arith)
  others_from (z ∷ xs) zero x ys is = cc
  others_from (z ∷ xs) (suc k) x ys is = others_from xs k x ys is ∙ ap (λ (n : ℕ). drop n (z ∷ xs)) (let same : suc (k + 1) ≡ suc k + 1 = omega arith in same)

-- one more end
pub one_more_end : (jobs : List JobView) (ends : List BenchEnd) (job : JobView) (end : BenchEnd) (rest : List JobView) → drop (length ends) jobs ≡ job ∷ rest → IsServedOut job end
    → ((k : ℕ) (j : JobView) (e : BenchEnd) → k < length ends → IsServedOut (get_or jobs k j) (get_or ends k e))
    → (k : ℕ) (j : JobView) (e : BenchEnd) → k < length (ends ++ end ∷ []) → IsServedOut (get_or jobs k j) (get_or (ends ++ end ∷ []) k e)
one_more_end jobs ends job end rest first served before k j e low = elim (cases_lt k (length ends)) [
  | inl less ↦ subst (λ (x : BenchEnd). IsServedOut (get_or jobs k j) x) (sym (get_or_append_left ends (end ∷ []) e k less)) (before k j e less)
  | inr past ↦
      let long = length_push ends end in
      let here : length ends ≡ k = omega arith in
      subst (λ (x : BenchEnd). IsServedOut (get_or jobs k j) x) (sym (get_or_push ends end e k here))
      (subst (λ (x : JobView). IsServedOut x end) (sym (subst (λ (n : ℕ). get_or jobs n j ≡ job) here (first_from jobs (length ends) job j rest first))) served)
]

-- the crew after a job was joined, by what it was before all were
pub crew_after : {J : Type 0} (first old new : CrewView J) (before after : List J) → old ≡ record first { jobs = before } → new ≡ record old { jobs = new.jobs } → new.jobs ≡ after
    → new ≡ record first { jobs = after }
crew_after {J = J} first old new before after was same now =
    same ∙ (ap (λ (v : CrewView J). record v { jobs = new.jobs }) was ∙ ap (λ (js : List J). record first { jobs = js }) now)
