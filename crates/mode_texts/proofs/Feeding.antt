-- Feeding operations in the order in which they finish, and the changes of the score along them.
use Rattle.std.proofs.Common.{◌≡◌, ◌⊎◌, ℕ, zero, suc, ◌+◌, ◌<◌, ◌≤◌, List, [], ◌∷◌, ◌++◌, length, get_or, take, refl, sym, ◌∙◌, ap, subst, inl, inr, arith, append_assoc, length-append}
use Rattle.std.specs.Prelude.{All, AllPairs, Contains, slice_get, Option, Some, if◌then◌else◌, ◌==◌, ◌≢◌}
use Rattle.std.specs.Option.{option_eq}
use Rattle.std.proofs.lemmas.Bool.{cases_order}
use Rattle.std.proofs.lemmas.List.{take_more, get_or-take, length-take-le, get_or_default, append-nil, take-append-le, take_all}
use Rattle.std.proofs.lemmas.Option.{same_Some, none-some}
use Rattle.std.proofs.lemmas.List.Sorted.{All-permutation, Contains-permutation, IsPermutation-sym, length_permutation}
use Rattle.stale_model.specs.declared.Op.{Op}
use Rattle.stale_model.specs.declared.KeyOps.{KeyOps}
use Rattle.stale_model.specs.Operations.{initial_write, operations, latest_finish}
use Rattle.stale_model.specs.Valid.{IsValidOp, IsValidKey}
use Rattle.stale_model.specs.Faults.{HasNone, IsDuplicate}
use Rattle.stale_model.specs.Counted.{IsScore, waiting}
use Rattle.stale_model.proofs.Sorted.{one_by_number, contains_later}
use Rattle.stale_model.proofs.Members.{taken_is_there}
use Rattle.model_laws.proofs.ClustersOne.{valid_records_differ}
use Rattle.live_score.specs.Feeding.{LiveView, CanBeFed, IsSecondWrite, IsFedAs, fed_after}
use Rattle.live_score.specs.declared.live.Fed.{Fed}
use Rattle.live_score.specs.declared.live.Fed.TheVariants.{Counted, Waiting, Duplicate}
use Rattle.mode_texts.specs.declared.live.Change.{Change}
use Rattle.mode_texts.specs.LiveTexts.{FinishesFirst, IsByFinish, AreScores, changes_of, IsScored}
use Rattle.mode_texts.specs.LiveSteps.{CanAllBeFed, AreChangesSoFar, AreChanges, last_score}
use Rattle.mode_texts.proofs.Finishing.{initial_first}

-- what stands in a list before a place is before what stands there
stands_before : {X : Type 0} (R : X → X → Type 0) (xs : List X) (i : ℕ) (x y : X) → AllPairs R xs → i < length xs → y ≡ get_or xs i y → Contains (take i xs) x → R x y
stands_before R xs i x y pairs within is (k, l, e) =
    let n = length-take-le i xs (omega arith) in
    let low : k < i = omega arith in
    let first : get_or xs k x ≡ x = sym (get_or-take i xs k x low) ∙ e in
    let same : get_or xs i x ≡ y = get_or_default xs i x y within ∙ sym is in
    let pair = pairs k i x low within in
    rw (first, same) at pair

-- the operation at a place is in the list
stands_there : {X : Type 0} (xs : List X) (i : ℕ) (y : X) → i < length xs → y ≡ get_or xs i y → Contains xs y
stands_there xs i y within is = (i, within, sym is)

-- of two operations of one record neither finishes first
never_with_itself : (a : Op) → FinishesFirst a a → ⊥
never_with_itself a (inl l) = omega arith
never_with_itself a (inr (e, l)) = omega arith

finishes_no_later : (a b : Op) → FinishesFirst a b → latest_finish a ≤ latest_finish b
finishes_no_later a b (inl l) = omega arith
finishes_no_later a b (inr (e, l)) = omega arith

module _ (values : ℕ) (ops : List Op) (can : CanAllBeFed values ops) (i : ℕ) (op : Op) (within : i < length ops) (is : op ≡ get_or ops i op) where
  -- each operation before it finishes first
  fed_finish_first : (a : Op) → Contains (initial_write ∷ take i ops) a → FinishesFirst a op
  fed_finish_first a c =
      stands_before FinishesFirst (initial_write ∷ ops) (suc i) a op can.by_finish (omega arith) is c

  here : Contains (initial_write ∷ ops) op
  here = contains_later initial_write op ops (stands_there ops i op within is)

  fed_is_there : (a : Op) → Contains (initial_write ∷ take i ops) a → Contains (initial_write ∷ ops) a
  fed_is_there a c = taken_is_there (suc i) (initial_write ∷ ops) a c

  -- and has another record
  fed_records_differ : (a : Op) → Contains (initial_write ∷ take i ops) a → a.rec ≡ op.rec → ⊥
  fed_records_differ a c e =
      let same = can.records a op (fed_is_there a c) here e in
      never_with_itself op (subst (λ (x : Op). FinishesFirst x op) same (fed_finish_first a c))

  -- the next operation can be fed
  pub can_be_fed : (live : LiveView) → live.fed ≡ take i ops → live.places ≡ length ops → live.values ≡ values → CanBeFed live op
  can_be_fed live fed_is places_is values_is =
      let n = length-take-le i ops (omega arith) in
      let fed_length = ap (λ (xs : List Op). length xs) fed_is in
      let each : (k : ℕ) (d : Op) → k < length (take i ops) → Contains (initial_write ∷ take i ops) (get_or (take i ops) k d) =
      λ k d l. contains_later initial_write (get_or (take i ops) k d) (take i ops) (k, l, get_or_default (take i ops) k (get_or (take i ops) k d) d l)
      in
      record {
        room = omega arith;
        valid = subst (λ (v : ℕ). IsValidOp v op) (sym values_is) (subst (λ (x : Op). IsValidOp values x) (sym is) (can.valid i op within));
        new_record = subst (λ (xs : List Op). All (λ (a : Op). a.rec ≢ op.rec) xs) (sym fed_is)
            (λ k d l. fed_records_differ (get_or (take i ops) k d) (each k d l));
        last = subst (λ (xs : List Op). All (λ (a : Op). latest_finish a ≤ latest_finish op) xs) (sym fed_is)
            (λ k d l. finishes_no_later (get_or (take i ops) k d) op (fed_finish_first (get_or (take i ops) k d) (each k d l)));
      }

  -- it is no second write
  no_second_write : (rec : ℕ) → IsSecondWrite (take i ops) op rec → ⊥
  no_second_write rec second =
      let (w, ww, e) = second.first in
      let there = fed_is_there w ww.there in
      elim (cases_order w.rec op.rec) [
        | inl same ↦ fed_records_differ w ww.there same
        | inr apart ↦ elim apart [
          | inl low ↦ can.once op (record {
            there = here;
            kind = second.kind;
            earlier = (w, record { there = there; kind = ww.kind; value_is = ww.value_is }, low);
          })
          | inr high ↦ can.once w (record {
            there = there;
            kind = ww.kind;
            earlier = (op, record { there = here; kind = second.kind; value_is = sym ww.value_is }, high);
          })
        ]
      ]

  after_by : (answer : Fed) → IsFedAs (take i ops) op answer → fed_after (take i ops) op answer ≡ take (i + 1) ops
  after_by Counted fits = ap (λ (x : Op). take i ops ++ x ∷ []) is ∙ sym (take_more ops i op within)
  after_by Waiting fits = ap (λ (x : Op). take i ops ++ x ∷ []) is ∙ sym (take_more ops i op within)
  after_by (Duplicate rec) fits = absurd (no_second_write rec fits)

  -- and once it is fed, it stands last
  pub fed_next : (fed : List Op) (answer : Fed) → fed ≡ take i ops → IsFedAs fed op answer → fed_after fed op answer ≡ take (i + 1) ops
  fed_next fed answer fed_is fits = rw fed_is (after_by answer (rw fed_is at fits))

-- what stands in a list with one item more stood there before, or is that item
pushed_at : {X : Type 0} (xs : List X) (x : X) (n : ℕ) (y : X) → slice_get (xs ++ x ∷ []) n ≡ Some y → ((n < length xs) × (slice_get xs n ≡ Some y)) ⊎ ((n ≡ length xs) × (x ≡ y))
pushed_at [] x zero y at = inr (refl, same_Some x y at)
pushed_at [] x (suc n) y at = absurd (none-some y at)
pushed_at (h ∷ t) x zero y at = inl (omega arith, at)
pushed_at (h ∷ t) x (suc n) y at = elim (pushed_at t x n y at) [
  | inl p ↦ inl ((let l = p.0 in omega arith), p.1)
  | inr q ↦ inr ((let e = q.0 in omega arith), q.1)
]

-- the scores along one operation more
scores_pushed : (fed : List Op) (op : Op) (scores : List (Option ℕ)) (score : Option ℕ) → AreScores fed scores → IsScore (fed ++ op ∷ []) score → AreScores (fed ++ op ∷ []) (scores ++ score ∷ [])
scores_pushed fed op scores score are is = record {
  as_many = let e = are.as_many in omega (arith, length-append scores (score ∷ []), length-append fed (op ∷ []));
  each = λ n s at. elim (pushed_at scores score n s at) [
    | inl p ↦
        let within : n + 1 ≤ length fed = (let l = p.0 in let e = are.as_many in omega arith) in
        subst (λ (xs : List Op). IsScore xs s) (sym (take-append-le (n + 1) fed (op ∷ []) within)) (are.each n s p.1)
    | inr q ↦
        let all : length (fed ++ op ∷ []) ≤ n + 1 = (let l = q.0 in let e = are.as_many in omega (arith, length-append fed (op ∷ []))) in
        subst (λ (xs : List Op). IsScore xs s) (sym (take_all (n + 1) (fed ++ op ∷ []) all)) (subst (λ (t : Option ℕ). IsScore (fed ++ op ∷ []) t) q.1 is)
  ];
}

changes_pushed : (before : Option ℕ) (fed : List Op) (op : Op) (scores : List (Option ℕ)) (score : Option ℕ) → length scores ≡ length fed
    → changes_of before (fed ++ op ∷ []) (scores ++ score ∷ []) ≡ changes_of before fed scores
    ++ (if option_eq (λ x y. x == y) score (last_score before scores) then [] else record { rec = op.rec; score = score } ∷ [])
changes_pushed before [] op [] score same = append-nil _
changes_pushed before [] op (s ∷ scores) score same = absurd (omega arith)
changes_pushed before (a ∷ fed) op [] score same = absurd (omega arith)
changes_pushed before (a ∷ fed) op (s ∷ scores) score same =
    let first : List Change = if option_eq (λ (x : ℕ) (y : ℕ). x == y) s before then [] else record { rec = a.rec; score = s } ∷ [] in
    ap (λ (xs : List Change). first ++ xs) (changes_pushed s fed op scores score (omega arith))
    ∙ sym (append_assoc first (changes_of s fed scores) (if option_eq (λ (x : ℕ) (y : ℕ). x == y) score (last_score s scores) then [] else record { rec = op.rec; score = score } ∷ []))

last_pushed : (before : Option ℕ) (scores : List (Option ℕ)) (score : Option ℕ) → last_score before (scores ++ score ∷ []) ≡ score
last_pushed before [] score = refl
last_pushed before (s ∷ scores) score = last_pushed s scores score

no_scores : AreScores [] []
no_scores = record { as_many = refl; each = λ n s at. absurd (none-some s at) }

-- before the first operation
pub changes_none : AreChangesSoFar [] [] (Some 0)
changes_none = record { scores = []; are_scores = no_scores; changes_are = refl; last_is = refl }

-- after one operation more
pub changes_next : (ops : List Op) (i : ℕ) (op : Op) (changes more : List Change) (before score : Option ℕ) → i < length ops → op ≡ get_or ops i op
    → AreChangesSoFar (take i ops) changes before → IsScore (take (i + 1) ops) score
    → more ≡ changes ++ (if option_eq (λ x y. x == y) score before then [] else record { rec = op.rec; score = score } ∷ [])
    → AreChangesSoFar (take (i + 1) ops) more score
changes_next ops i op changes more before score within is so_far scored kept =
    let fed = take i ops in
    let next : take (i + 1) ops ≡ fed ++ op ∷ [] = take_more ops i op within ∙ ap (λ (x : Op). fed ++ x ∷ []) (sym is) in
    let pushed = changes_pushed (Some 0) fed op so_far.scores score so_far.are_scores.as_many in
    let last = sym so_far.last_is in
    subst (λ (xs : List Op). AreChangesSoFar xs more score) (sym next) (record {
      scores = so_far.scores ++ score ∷ [];
      are_scores = scores_pushed fed op so_far.scores score so_far.are_scores (subst (λ (xs : List Op). IsScore xs score) next scored);
      changes_are =
          kept
          ∙ ap (λ (xs : List Change). xs ++ (if option_eq (λ (x : ℕ) (y : ℕ). x == y) score before then [] else record { rec = op.rec; score = score } ∷ [])) so_far.changes_are
          ∙ sym (rw last at pushed);
      last_is = sym (last_pushed (Some 0) so_far.scores score);
    })

-- after all operations
pub changes_of_all : (ops : List Op) (i : ℕ) (changes : List Change) (score : Option ℕ) → length ops ≤ i → AreChangesSoFar (take i ops) changes score → AreChanges ops changes
changes_of_all ops i changes score all so_far =
    let e = take_all i ops all in
    let here = rw e at so_far in
    record { scores = here.scores; are_scores = here.are_scores; changes_are = here.changes_are }

pub all_fed : (ops fed : List Op) (i : ℕ) → length ops ≤ i → fed ≡ take i ops → fed ≡ ops
all_fed ops fed i all is = is ∙ take_all i ops all

-- the operations of a key, in the order in which they finish
module _ (key : KeyOps) (ops sorted : List Op) (valid : IsValidKey key) (ops_are : ops ≡ key.ops) (by : IsByFinish ops sorted) (fed : List Op) (fed_are : fed ≡ sorted) where
  own : IsByFinish key.ops sorted
  own = subst (λ (xs : List Op). IsByFinish xs sorted) ops_are by

  all_own : IsByFinish (operations key) (initial_write ∷ sorted)
  all_own = initial_first key sorted valid own

  -- each of them is one of the key
  back : (a : Op) → Contains (initial_write ∷ sorted) a → Contains (operations key) a
  back a c = Contains-permutation (initial_write ∷ sorted) (operations key) a (IsPermutation-sym (operations key) (initial_write ∷ sorted) all_own.same) c

  -- they can be fed, where no value is written twice
  pub sorted_can_be_fed : (values : ℕ) → HasNone (IsDuplicate (operations key)) → All (λ a. a.value ≤ values) ops → CanAllBeFed values fed
  sorted_can_be_fed values once small =
      let low = subst (λ (xs : List Op). All (λ (a : Op). a.value ≤ values) xs) ops_are small in
      subst (λ (xs : List Op). CanAllBeFed values xs) (sym fed_are) (record {
        valid = All-permutation (IsValidOp values) key.ops sorted own.same (λ k d l.
            let v = valid.ops k d l in
            record { numbered = v.numbered; starts = v.starts; ordered = v.ordered; tick = v.tick; ends = v.ends; slack = v.slack; value = low k d l });
        by_finish = all_own.by_finish;
        records = λ a b ca cb e. one_by_number (λ (x : Op). x.rec) (operations key) a b (valid_records_differ key valid) (back a ca) (back b cb) e;
        once = λ a dup. once a (record {
          there = back a dup.there;
          kind = dup.kind;
          earlier = let (w, ww, less) = dup.earlier in (w, record { there = back w ww.there; kind = ww.kind; value_is = ww.value_is }, less);
        });
      })

  -- they are few
  pub sorted_are_few : length fed ≤ 1000000
  sorted_are_few =
      let same = length_permutation key.ops sorted own.same in
      let most = valid.few in
      let e = ap (λ (xs : List Op). length xs) fed_are in
      omega arith

  -- what is said of the key, by the changes along them
  pub is_scored : (made changes : List Change) (reads : ℕ) → HasNone (IsDuplicate (operations key)) → AreChanges fed made → reads ≡ waiting fed → changes ≡ made
      → IsScored (operations key) changes reads
  is_scored made changes reads once are waits same =
      let here = subst (λ (xs : List Op). AreChanges xs made) fed_are are in
      record {
        no_duplicate = once;
        fed = sorted;
        by_finish = all_own;
        scores = here.scores;
        are_scores = here.are_scores;
        changes_are = same ∙ here.changes_are;
        waiting_is = waits ∙ ap (λ (xs : List Op). waiting xs) fed_are;
      }
