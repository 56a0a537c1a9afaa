-- The crew starts the jobs of the replicas, one after the other.
use Rattle.std.proofs.Common.{◌≡◌, ℕ, zero, suc, ◌+◌, ◌<◌, List, [], ◌∷◌, ◌++◌, length, map, take, slice_index_or, refl, ap, sym, ◌∙◌, subst, arith, append_assoc, length-append}
use Rattle.std.specs.List.{range_with_len}
use Rattle.std.proofs.lemmas.List.{map-append, map_push, length-map, length_push, get_or_at, take_at}
use Rattle.audit_ports.specs.Crew.{CrewView, IsStarted, IsRefused}
use Rattle.bench_run.specs.declared.job.JobParts.{JobParts}
use Rattle.bench_run.specs.Jobs.{JobView}
use Rattle.bench_run.specs.JobSteps.{view_of}
use Rattle.bench_run.specs.Drive.{AreStarted, IsStoppedAt}

-- one more number
range_more : (a n : ℕ) → range_with_len a (suc n) ≡ range_with_len a n ++ (a + n) ∷ []
range_more a zero = ap (λ (x : ℕ). x ∷ []) (omega arith)
range_more a (suc n) =
    ap (λ (l : List ℕ). a ∷ l) (range_more (a + 1) n ∙ ap (λ (x : ℕ). range_with_len (a + 1) n ++ x ∷ []) (omega arith))

-- the job of the replica after those that were started, with the replicas that are left
pub record IsNext (all done left : List JobParts) (p : JobParts) (job : JobView) : Type 0 where
  pub came : all ≡ done ++ p ∷ left
  pub job_is : job ≡ view_of p
  pub number : job.replica.number ≡ length done

pub next_is : (all done rest left : List JobParts) (p : JobParts) (job : JobView) (count : ℕ) → count ≡ length all
    → ((k : ℕ) (r : JobParts) → k < count → (view_of (slice_index_or all k r)).replica.number ≡ k)
    → all ≡ done ++ rest → rest ≡ p ∷ left → job ≡ view_of p → IsNext all done left p job
next_is all done rest left p job count is_count numbers came first job_is =
    let is : all ≡ done ++ p ∷ left = came ∙ ap (λ (l : List JobParts). done ++ l) first in
    let here : slice_index_or all (length done) p ≡ p =
    ap (λ (l : List JobParts). slice_index_or l (length done) p) is ∙ get_or_at done p left p (length done) refl
    in
    let many : length all ≡ length done + length (p ∷ left) = ap (λ (l : List JobParts). length l) is ∙ length-append done (p ∷ left) in
    record {
      came = is;
      job_is = job_is;
      number = ap (λ (j : JobView). j.replica.number) job_is
          ∙ (sym (ap (λ (r : JobParts). (view_of r).replica.number) here) ∙ numbers (length done) p (omega arith));
    }

module _ (all done left : List JobParts) (p : JobParts) (job : JobView) (next : IsNext all done left p job) where
  -- those that were started, and those that are left after it
  pub came_more : all ≡ (done ++ p ∷ []) ++ left
  came_more = next.came ∙ sym (append_assoc done (p ∷ []) left)

  module _ (old now new : CrewView JobView) (so : AreStarted (map view_of done) old now) where
    -- the numbers of those that were started
    begun_is : now.begun ≡ old.begun ++ range_with_len 0 job.replica.number
    begun_is = so.all_begun.begun ∙ ap (λ (n : ℕ). old.begun ++ range_with_len 0 n) (length-map done view_of ∙ sym next.number)

    -- it is started
    pub started_more : IsStarted job job.replica.number now new → AreStarted (map view_of (done ++ p ∷ [])) old new
    started_more more =
        let n = job.replica.number in
        let range : range_with_len 0 n ++ n ∷ [] ≡ range_with_len 0 (suc n) =
        sym (range_more 0 n ∙ ap (λ (m : ℕ). range_with_len 0 n ++ m ∷ []) (omega arith))
        in
        let number = next.number in
        let pushed = length-map (done ++ p ∷ []) view_of ∙ length_push done p in
        let many : suc n ≡ length (map view_of (done ++ p ∷ [])) = omega arith in
        record {
          jobs_are = more.jobs
              ∙ (ap (λ (l : List JobView). l ++ job ∷ []) so.jobs_are
              ∙ (ap (λ (j : JobView). map view_of done ++ j ∷ []) next.job_is ∙ sym (map_push view_of done p)));
          all_begun = record {
            begun = more.begun
                ∙ (ap (λ (l : List ℕ). l ++ n ∷ []) begun_is
                ∙ (append_assoc old.begun (range_with_len 0 n) (n ∷ [])
                ∙ ap (λ (l : List ℕ). old.begun ++ l) (range ∙ ap (λ (m : ℕ). range_with_len 0 m) many)));
            count = more.count ∙ so.all_begun.count;
            last = more.last ∙ so.all_begun.last;
          };
        }

    -- it is refused
    pub stopped_at : (mark : ℕ) → mark ≡ job.replica.number → IsRefused job.replica.number now new → IsStoppedAt (map view_of all) mark old new
    stopped_at mark mark_is refused =
        let n = job.replica.number in
        let number = next.number in
        let many : length (map view_of done) ≡ n = length-map done view_of ∙ sym number in
        let whole : length (map view_of all) ≡ length done + length (p ∷ left) =
        length-map all view_of ∙ (ap (λ (l : List JobParts). length l) next.came ∙ length-append done (p ∷ left))
        in
        let front : take n (map view_of all) ≡ map view_of done =
        ap (λ (l : List JobParts). take n (map view_of l)) next.came
        ∙ (ap (λ (l : List JobView). take n l) (map-append view_of done (p ∷ left)) ∙ take_at (map view_of done) (map view_of (p ∷ left)) n many)
        in
        subst (λ (m : ℕ). IsStoppedAt (map view_of all) m old new) (sym mark_is) (record {
          jobs_are = refused.jobs ∙ (so.jobs_are ∙ sym front);
          refused = record {
            within = omega arith;
            begun = refused.begun ∙ begun_is;
            count = rw (sym so.all_begun.count) refused.count;
            last = refused.last;
          };
        })
