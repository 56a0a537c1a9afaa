-- A chain is not cut where it has room for all clusters, and rounds come to an end.
use Rattle.std.proofs.Common.{◌≡◌, ◌⊎◌, ℕ, zero, suc, ◌+◌, ◌-◌, ◌^◌, ◌<◌, ◌≤◌, min, List, [], ◌∷◌, length, refl, ◌∙◌, ap, inl, inr, arith}
use Rattle.std.proofs.lemmas.Bool.{cases_lt}
use Rattle.std.proofs.lemmas.Nat.{pow_below}
use Rattle.stale_model.specs.declared.Cluster.{Cluster}
use Rattle.stale_model.specs.Chains.{without, Demand, nothing, one, impossible, demand, Chain, ends, fails, cut, followed_by, chain_by, chain, Round, removes, repeats, refutes, join, round, or_later, rounds}
use Rattle.lbt_epochs.specs.Steps.{room_in}
use Rattle.lbt_epochs.proofs.Filters.{filter_no_longer, filter_shorter}
use Rattle.lbt_epochs.proofs.Parts.{is_other, not_itself}
use Rattle.lbt_epochs.proofs.Demands.{asks_one}

-- without it they are fewer
fewer_left : (d : ℕ) (c : Cluster) (rest : List Cluster) (x : Cluster) → demand d c rest ≡ one x → length (without rest (x ∷ [])) < length rest
fewer_left d c rest x e = filter_shorter (is_other x) rest x (asks_one d c rest x e).late.there (not_itself x)

-- ---- chains with room for all

not_cut_by : (c : Cluster) (asked : Demand) (go_on : Cluster → Chain) → ((x : Cluster) → asked ≡ one x → go_on x ≡ cut → ⊥) → chain_by c asked go_on ≡ cut → ⊥
not_cut_by c nothing go_on h e = cc
not_cut_by c (one x) go_on h e = h x refl e
not_cut_by c (impossible end) go_on h e = cc

cut_later : (c : Cluster) (k : Chain) → followed_by c k ≡ cut → k ≡ cut
cut_later c (ends chain) e = cc
cut_later c (fails chain end) e = cc
cut_later c cut e = refl

pub never_cut : (d room : ℕ) (c : Cluster) (rest : List Cluster) → length rest ≤ room → chain d room c rest ≡ cut → ⊥
never_cut d zero c rest l = not_cut_by c (demand d c rest) (λ x. cut) (λ x e k. let f = fewer_left d c rest x e in absurd (omega arith))
never_cut d (suc room) c rest l =
    not_cut_by c (demand d c rest) (λ x. followed_by c (chain d room x (without rest (x ∷ []))))
    (λ x e k. let f = fewer_left d c rest x e in never_cut d room x (without rest (x ∷ [])) (omega arith) (cut_later c _ k))

same_by : (c : Cluster) (asked : Demand) (g h : Cluster → Chain) → ((x : Cluster) → asked ≡ one x → g x ≡ h x) → chain_by c asked g ≡ chain_by c asked h
same_by c nothing g h same = refl
same_by c (one x) g h same = same x refl
same_by c (impossible end) g h same = refl

-- more room than there are clusters changes nothing
pub same_chain : (d room more : ℕ) (c : Cluster) (rest : List Cluster) → length rest ≤ room → length rest ≤ more → chain d room c rest ≡ chain d more c rest
same_chain d zero zero c rest l m = refl
same_chain d zero (suc more) c rest l m =
    same_by c (demand d c rest) (λ x. cut) (λ x. followed_by c (chain d more x (without rest (x ∷ [])))) (λ x e. let f = fewer_left d c rest x e in absurd (omega arith))
same_chain d (suc room) zero c rest l m =
    same_by c (demand d c rest) (λ x. followed_by c (chain d room x (without rest (x ∷ [])))) (λ x. cut) (λ x e. let f = fewer_left d c rest x e in absurd (omega arith))
same_chain d (suc room) (suc more) c rest l m =
    same_by c (demand d c rest) (λ x. followed_by c (chain d room x (without rest (x ∷ [])))) (λ x. followed_by c (chain d more x (without rest (x ∷ []))))
    (λ x e. let f = fewer_left d c rest x e in ap (followed_by c) (same_chain d room more x (without rest (x ∷ [])) (omega arith) (omega arith)))

-- ---- rounds with room for all

no_longer_without : (left : List Cluster) (x : Cluster) → length (without left (x ∷ [])) ≤ length left
no_longer_without left x = filter_no_longer (is_other x) left

pub same_round : (d room more : ℕ) (left cs : List Cluster) → length left ≤ room → length left ≤ more → round d room left cs ≡ round d more left cs
same_round d room more left [] l m = refl
same_round d room more left (x ∷ cs) l m =
    let n = no_longer_without left x in
    let e = same_chain d room more x (without left (x ∷ [])) (omega arith) (omega arith) in
    let f = same_round d room more left cs l m in
    ap (λ (k : Chain). join k (round d room left cs)) e ∙ ap (join (chain d more x (without left (x ∷ [])))) f

-- a round's room in numbers is enough for its clusters
pub round_room : (d r : ℕ) (left cs : List Cluster) → length left < 2 ^ 32 → round d (room_in r) left cs ≡ round d (2 ^ r - 1) left cs
round_room d r left cs few = elim (cases_lt 32 r) [
  | inl l ↦ (let p = pow_below 32 r l in let e : min r 32 ≡ 32 = omega arith in let f : room_in r ≡ 2 ^ 32 - 1 = rw e refl in rw f (same_round d (2 ^ 32 - 1) (2 ^ r - 1) left cs (omega arith) (omega arith)))
  | inr l ↦ (let e : min r 32 ≡ r = omega arith in rw e refl)
]

join_repeats : (k : Chain) (later : Round) → join k later ≡ repeats → (k ≡ cut) ⊎ (later ≡ repeats)
join_repeats (ends chain) later e = cc
join_repeats cut later e = inl refl
join_repeats (fails chain end) (removes cs) e = cc
join_repeats (fails chain end) repeats e = inr refl
join_repeats (fails chain end) (refutes tries) e = cc

never_repeats : (d room : ℕ) (left cs : List Cluster) → length left ≤ room → round d room left cs ≡ repeats → ⊥
never_repeats d room left [] l e = cc
never_repeats d room left (x ∷ cs) l e =
    let n = no_longer_without left x in
    elim (join_repeats (chain d room x (without left (x ∷ []))) (round d room left cs) e) [
      | inl k ↦ never_cut d room x (without left (x ∷ [])) (omega arith) k
      | inr k ↦ never_repeats d room left cs l k
    ]

below_power : (n : ℕ) → n < 2 ^ n
below_power zero = omega arith
below_power (suc n) = let h = below_power n in let p = pow_below n (suc n) (omega arith) in omega arith

both_repeat : (k later : Round) → or_later k later ≡ repeats → (k ≡ repeats) × (later ≡ repeats)
both_repeat (removes chain) later e = cc
both_repeat repeats later e = (refl, e)
both_repeat (refutes tries) later e = cc

rounds_all_repeat : (d more r i : ℕ) (left : List Cluster) → i < more → rounds d more r left ≡ repeats → round d (2 ^ (r + i) - 1) left left ≡ repeats
rounds_all_repeat d zero r i left l e = absurd (omega arith)
rounds_all_repeat d (suc more) r zero left l e =
    let (a, b) = both_repeat (round d (2 ^ r - 1) left left) (rounds d more (r + 1) left) e in
    let z : r + 0 ≡ r = omega arith in
    rw z a
rounds_all_repeat d (suc more) r (suc i) left l e =
    let (a, b) = both_repeat (round d (2 ^ r - 1) left left) (rounds d more (r + 1) left) e in
    let z : r + suc i ≡ r + 1 + i = omega arith in
    rw z (rounds_all_repeat d more (r + 1) i left (omega arith) b)

-- the rounds come to an end
pub rounds_end : (d : ℕ) (left : List Cluster) → rounds d (length left + 1) 0 left ≡ repeats → ⊥
rounds_end d left e =
    let n = length left in
    let last = rounds_all_repeat d (n + 1) 0 n left (omega arith) e in
    let z : 0 + n ≡ n = omega arith in
    let p = below_power n in
    never_repeats d (2 ^ (0 + n) - 1) left left (rw z (omega arith)) last
