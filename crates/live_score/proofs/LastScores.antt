-- At the end of a key all its operations count.
use Rattle.std.proofs.Common.{◌≡◌, ℕ, Bool, true, false, not, cond, List, [], ◌∷◌, refl, sym, ap, subst, arith}
use Rattle.std.specs.Prelude.{Contains, count_by, filter}
use Rattle.std.specs.List.Sorted.{IsPermutation}
use Rattle.std.proofs.lemmas.List.Sums.{sum_by-append}
use Rattle.std.proofs.lemmas.List.Sorted.{Contains-permutation, IsPermutation-cons, IsPermutation-sym}
use Rattle.stale_model.specs.declared.Op.{Op}
use Rattle.stale_model.specs.declared.KeyOps.{KeyOps}
use Rattle.stale_model.specs.Operations.{initial_write, operations}
use Rattle.stale_model.specs.Valid.{IsValidKey}
use Rattle.stale_model.specs.Faults.{IsMatchedKey}
use Rattle.stale_model.specs.LeastDelta.{HasNoDelta, IsLeastDelta}
use Rattle.stale_model.specs.Counted.{counts, counted}
use Rattle.stale_model.proofs.Sorted.{contains_later}
use Rattle.stale_model.proofs.Members.{contains_first}
use Rattle.model_laws.proofs.Named.{matched_keys_name_their_writes}
use Rattle.model_laws.proofs.Rearranged.{orders_stay_of_rearranged}
use Rattle.live_score.specs.Laws.{LastScoresAreOfKeys}
use Rattle.live_score.proofs.Counting.{counts_written}

module _ {X : Type 0} (passes : X → Bool) where
  all_kept_by : (b : Bool) (x : X) (xs ys : List X) → b ≡ true → ys ≡ xs → cond b (x ∷ ys) ys ≡ x ∷ xs
  all_kept_by true x xs ys t e = ap (λ (l : List X). x ∷ l) e
  all_kept_by false x xs ys t e = cc

  -- where all pass, all are kept
  all_kept : (xs : List X) → ((x : X) → Contains xs x → passes x ≡ true) → filter passes xs ≡ xs
  all_kept [] all = refl
  all_kept (x ∷ xs) all = all_kept_by (passes x) x xs (filter passes xs) (all x (contains_first x xs)) (all_kept xs (λ y c. all y (contains_later x y xs c)))

  none_fails_by : (b : Bool) → b ≡ true → ◌≡◌ {A = ℕ} (cond (not b) 1 0) 0
  none_fails_by b t = rw t refl

  -- and none fails
  none_fails : (xs : List X) → ((x : X) → Contains xs x → passes x ≡ true) → count_by (λ x. not (passes x)) xs ≡ 0
  none_fails [] all = refl
  none_fails (x ∷ xs) all =
      let first = none_fails_by (passes x) (all x (contains_first x xs)) in
      let rest = none_fails xs (λ y c. all y (contains_later x y xs c)) in
      omega (arith, sum_by-append (λ (y : X). cond (not (passes y)) 1 0) (x ∷ []) xs)

module _ (key : KeyOps) (fed : List Op) (valid : IsValidKey key) (matched : IsMatchedKey (operations key)) (same : IsPermutation key.ops fed) where
  all_same : IsPermutation (operations key) (initial_write ∷ fed)
  all_same = IsPermutation-cons initial_write key.ops fed same

  all_count : (a : Op) → Contains fed a → counts fed a ≡ true
  all_count a c =
      let names = matched_keys_name_their_writes key valid matched in
      let there = Contains-permutation (initial_write ∷ fed) (operations key) a (IsPermutation-sym (operations key) (initial_write ∷ fed) all_same) (contains_later initial_write a fed c) in
      let (w, ww) = names.written a there in
      counts_written fed a w (record { there = Contains-permutation (operations key) (initial_write ∷ fed) w all_same ww.there; kind = ww.kind; value_is = ww.value_is })

  counted_is_all : counted fed ≡ initial_write ∷ fed
  counted_is_all = ap (λ (xs : List Op). initial_write ∷ xs) (all_kept (counts fed) fed all_count)

  counted_rearranged : IsPermutation (operations key) (counted fed)
  counted_rearranged = subst (λ (xs : List Op). IsPermutation (operations key) xs) (sym counted_is_all) all_same

-- the least delta of rearranged operations, and that there is none
least_stays : (ops others : List Op) (d : ℕ) → IsPermutation ops others → IsLeastDelta ops 1 d → IsLeastDelta others 1 d
least_stays ops others d same is =
    let (order, o) = is.there in
    record {
      there = (order, (orders_stay_of_rearranged ops others d 1 order same).0 o);
      least = λ e low other p. is.least e low other ((orders_stay_of_rearranged ops others e 1 other same).1 p);
    }

none_stays : (ops others : List Op) → IsPermutation ops others → HasNoDelta ops 1 → HasNoDelta others 1
none_stays ops others same none d order o = none d order ((orders_stay_of_rearranged ops others d 1 order same).1 o)

pub last_scores_are_of_keys : LastScoresAreOfKeys
last_scores_are_of_keys key fed valid matched same =
    let there = counted_rearranged key fed valid matched same in
    let back = IsPermutation-sym (operations key) (counted fed) there in
    record {
      least = λ d. (least_stays (counted fed) (operations key) d back, least_stays (operations key) (counted fed) d there);
      none = (none_stays (counted fed) (operations key) back, none_stays (operations key) (counted fed) there);
      none_waits = none_fails (counts fed) fed (all_count key fed valid matched same);
    }
