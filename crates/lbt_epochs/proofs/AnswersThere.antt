-- There is an answer: the rounds of an epoch come to an end, and each epoch leaves fewer.
use Rattle.std.proofs.Common.{◌≡◌, ℕ, zero, suc, ◌+◌, ◌≤◌, List, [], ◌∷◌, ◌++◌, reverse, length, refl, arith}
use Rattle.std.specs.Prelude.{Some}
use Rattle.stale_model.specs.declared.Cluster.{Cluster}
use Rattle.stale_model.specs.declared.Two.{Two}
use Rattle.stale_model.specs.declared.Two.TheVariants.{Yes, No}
use Rattle.stale_model.specs.Chains.{without, writes_of, Round, removes, repeats, refutes, rounds, epoch_by, epochs, candidate_order}
use Rattle.stale_model.proofs.Sorting.{sorted_there}
use Rattle.lbt_epochs.specs.TwoLaws.{AnswersExist}
use Rattle.lbt_epochs.proofs.EnoughRoom.{rounds_end}
use Rattle.lbt_epochs.proofs.Removed.{fewer_after_rounds}
use Rattle.lbt_epochs.proofs.TotalOrders.{candidate_order-total}

-- as many epochs as there are clusters give an answer
abbrev GiveAnswers : ℕ → ℕ → Type 0
GiveAnswers d more = (left listing : List Cluster) → length left ≤ more → (two : Two) × (epochs d more left listing ≡ Some two)

answer_by : (d more : ℕ) (left listing : List Cluster) (found : Round) → GiveAnswers d more → length left ≤ suc more → rounds d (length left + 1) 0 left ≡ found
    → (two : Two) × (epoch_by left found (λ chain. epochs d more (without left chain) (reverse chain ++ listing)) ≡ Some two)
answer_by d more left listing (removes chain) later low is =
    let fewer = fewer_after_rounds d (length left + 1) 0 left chain is in
    later (without left chain) (reverse chain ++ listing) (omega arith)
answer_by d more left listing repeats later low is = absurd (rounds_end d left is)
answer_by d more left listing (refutes tries) later low is = (No (record { stuck = writes_of left; tries = tries }), refl)

epochs_answer : (d more : ℕ) → GiveAnswers d more
epochs_answer d zero [] listing low = (Yes (writes_of listing), refl)
epochs_answer d zero (c ∷ cs) listing low = absurd (omega arith)
epochs_answer d (suc more) [] listing low = (Yes (writes_of listing), refl)
epochs_answer d (suc more) (c ∷ cs) listing low =
    answer_by d more (c ∷ cs) listing (rounds d (length (c ∷ cs) + 1) 0 (c ∷ cs)) (epochs_answer d more) low refl

pub answers_exist : AnswersExist
answers_exist d clusters =
    let (candidates, permuted, sorted) = sorted_there candidate_order candidate_order-total clusters in
    let (two, is) = epochs_answer d (length candidates) candidates [] (omega arith) in
    (two, record { candidates = candidates; order = record { each_once = permuted; sorted = sorted }; answer = is })
