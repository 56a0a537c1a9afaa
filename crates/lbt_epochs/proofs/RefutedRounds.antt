-- Where an epoch refutes what is left, each of its chains fails.
use Rattle.std.proofs.Common.{◌≡◌, ◌⊎◌, ℕ, zero, suc, ◌+◌, ◌-◌, ◌^◌, ◌<◌, not, List, [], ◌∷◌, ◌++◌, reverse, length, refl, sym, ap, inl, inr, subst, arith}
use Rattle.std.specs.Prelude.{◌==◌, Option, Some, None}
use Rattle.std.specs.List.{list_any}
use Rattle.stale_model.specs.declared.Cluster.{Cluster}
use Rattle.stale_model.specs.declared.End.{End}
use Rattle.stale_model.specs.declared.Try.{Try}
use Rattle.stale_model.specs.declared.Refutation.{Refutation}
use Rattle.stale_model.specs.declared.Two.{Two}
use Rattle.stale_model.specs.declared.Two.TheVariants.{Yes, No}
use Rattle.stale_model.specs.Orders.{StandsAt}
use Rattle.stale_model.specs.Clusters.{writes_of}
use Rattle.stale_model.specs.Chains.{without, Chain, ends, fails, cut, chain, Round, removes, repeats, refutes, join, round, or_later, rounds, epoch_by, epochs}
use Rattle.stale_model.proofs.Members.{kept_is_there}
use Rattle.lbt_epochs.proofs.Parts.{IsPart, WritesStandOnce, part_differs, in_without}
use Rattle.lbt_epochs.proofs.ChainForced.{IsForcedChain, chain_is_forced}

-- the try of a cluster is a chain that is forced from it among the others
pub record IsForcedTry (d : ℕ) (left : List Cluster) (c : Cluster) (attempt : Try) : Type 0 where
  pub chain : List Cluster
  pub rest : List Cluster
  pub part : IsPart left rest
  pub forced : IsForcedChain d c rest chain attempt.end
  pub chain_is : attempt.chain ≡ writes_of chain

-- each candidate has such a try, in the same order
pub record AreForcedTries (d : ℕ) (left candidates : List Cluster) (tries : List Try) : Type 0 where
  pub as_many : length tries ≡ length candidates
  pub each : (t : ℕ) (c : Cluster) (attempt : Try) → StandsAt candidates t c → StandsAt tries t attempt → IsForcedTry d left c attempt

-- the try of a chain that fails
abbrev try_of : List Cluster → End → Try
try_of chain end = record { chain = writes_of chain; end = end }

-- a round refutes where its first chain fails, and the later ones are refuted
refutes_by : (k : Chain) (later : Round) (tries : List Try) → join k later ≡ refutes tries
    → (chain : List Cluster) × (end : End) × (others : List Try) × (k ≡ fails chain end) × (later ≡ refutes others)
    × (try_of chain end ∷ others ≡ tries)
refutes_by (ends chain) later tries e = cc
refutes_by cut (removes chain) tries e = cc
refutes_by cut repeats tries e = cc
refutes_by cut (refutes others) tries e = cc
refutes_by (fails chain end) (removes found) tries e = cc
refutes_by (fails chain end) repeats tries e = cc
refutes_by (fails chain end) (refutes others) tries e = (chain, end, others, refl, refl, cc)

-- the try of a chain that fails is forced
try_is_forced : (d room : ℕ) (left : List Cluster) (x : Cluster) (cs : List Cluster) (end : End)
    → chain d room x (without left (x ∷ [])) ≡ fails cs end → IsForcedTry d left x (try_of cs end)
try_is_forced d room left x cs end is = record {
  chain = cs;
  rest = without left (x ∷ []);
  part = λ y there. (in_without left x y there).0;
  forced = chain_is_forced d room x (without left (x ∷ [])) cs end (λ y there. (in_without left x y there).1) is;
  chain_is = refl;
}

-- tries with one more before them
more_tries : (d : ℕ) (left : List Cluster) (x : Cluster) (first : Try) (candidates : List Cluster) (others : List Try) → IsForcedTry d left x first
    → AreForcedTries d left candidates others → (t : ℕ) (c : Cluster) (attempt : Try) → StandsAt (x ∷ candidates) t c
    → StandsAt (first ∷ others) t attempt → IsForcedTry d left c attempt
more_tries d left x first candidates others is later zero c attempt atc att =
    let e : x ≡ c = cc in
    let f : first ≡ attempt = cc in
    rw (e, f) at is
more_tries d left x first candidates others is later (suc t) c attempt atc att = later.each t c attempt atc att

-- where a round refutes, each candidate has its try
round_is_forced : (d room : ℕ) (left candidates : List Cluster) (tries : List Try) → round d room left candidates ≡ refutes tries
    → AreForcedTries d left candidates tries
round_is_forced d room left [] tries e =
    let none : [] ≡ tries = cc in
    record { as_many = ap (λ (l : List Try). length l) (sym none); each = λ t c attempt atc att. cc }
round_is_forced d room left (x ∷ candidates) tries e =
    let (cs, end, others, is, later_is, list) = refutes_by (chain d room x (without left (x ∷ []))) (round d room left candidates) tries e in
    let later = round_is_forced d room left candidates others later_is in
    let many = later.as_many in
    subst (λ (l : List Try). AreForcedTries d left (x ∷ candidates) l) list (record {
      as_many = omega arith;
      each = more_tries d left x (try_of cs end) candidates others (try_is_forced d room left x cs end is) later;
    })

-- rounds refute where one of them does
one_refutes : (a b : Round) (tries : List Try) → or_later a b ≡ refutes tries → (a ≡ refutes tries) ⊎ (b ≡ refutes tries)
one_refutes (removes found) b tries e = cc
one_refutes repeats b tries e = inr e
one_refutes (refutes found) b tries e = inl e

-- what repeats doesn't refute
repeats_not : (tries : List Try) → repeats ≡ refutes tries → ⊥
repeats_not tries e = cc

-- so where the rounds refute, each cluster has its try
pub rounds_are_forced : (d more r : ℕ) (left : List Cluster) (tries : List Try) → rounds d more r left ≡ refutes tries → AreForcedTries d left left tries
rounds_are_forced d zero r left tries e = absurd (repeats_not tries e)
rounds_are_forced d (suc more) r left tries e =
    elim (one_refutes (round d (2 ^ r - 1) left left) (rounds d more (r + 1) left) tries e) [
      | inl first ↦ round_is_forced d (2 ^ r - 1) left left tries first
      | inr later ↦ rounds_are_forced d more (r + 1) left tries later
    ]

-- what an epoch leaves of the candidates, and that it is refuted
pub record IsRefuted (d : ℕ) (candidates : List Cluster) (refutation : Refutation) : Type 0 where
  pub left : List Cluster
  pub some : 0 < length left
  pub part : IsPart candidates left
  pub differ : WritesStandOnce left
  pub stuck_is : refutation.stuck ≡ writes_of left
  pub tries : AreForcedTries d left left refutation.tries

-- nothing is no answer
pub none_is_no_answer : (two : Two) → None ≡ Some two → ⊥
none_is_no_answer two e = cc

same_refutation : (a b : Refutation) → Some (No a) ≡ Some (No b) → a ≡ b
same_refutation a b e = cc

-- a refutation of an epoch, by what its rounds give
by_round : (d : ℕ) (left : List Cluster) (found : Round) (go_on : List Cluster → Option Two) (refutation : Refutation) → 0 < length left → WritesStandOnce left
    → rounds d (length left + 1) 0 left ≡ found → ((chain : List Cluster) → go_on chain ≡ Some (No refutation) → IsRefuted d left refutation)
    → epoch_by left found go_on ≡ Some (No refutation) → IsRefuted d left refutation
by_round d left (removes chain) go_on refutation some differ is later e = later chain e
by_round d left repeats go_on refutation some differ is later e = absurd (none_is_no_answer (No refutation) e)
by_round d left (refutes tries) go_on refutation some differ is later e =
    let same = same_refutation (record { stuck = writes_of left; tries = tries }) refutation e in
    subst (λ (r : Refutation). IsRefuted d left r) same (record {
      left = left;
      some = some;
      part = λ x there. there;
      differ = differ;
      stuck_is = refl;
      tries = rounds_are_forced d (length left + 1) 0 left tries is;
    })

-- what is refuted of a part is refuted of the whole
part_is_refuted : (d : ℕ) (candidates part : List Cluster) (refutation : Refutation) → IsPart candidates part
    → IsRefuted d part refutation → IsRefuted d candidates refutation
part_is_refuted d candidates part refutation inside r = record {
  left = r.left;
  some = r.some;
  part = λ x there. inside x (r.part x there);
  differ = r.differ;
  stuck_is = r.stuck_is;
  tries = r.tries;
}

-- a listing is no refutation
pub yes_is_not_no : (writes : List ℕ) (refutation : Refutation) → Some (Yes writes) ≡ Some (No refutation) → ⊥
yes_is_not_no writes refutation e = cc

-- a refutation that the epochs answer is that of what some epoch left
pub epochs_are_refuted : (d more : ℕ) (left listing : List Cluster) (refutation : Refutation) → WritesStandOnce left
    → epochs d more left listing ≡ Some (No refutation) → IsRefuted d left refutation
epochs_are_refuted d zero [] listing refutation differ e = absurd (yes_is_not_no (writes_of listing) refutation e)
epochs_are_refuted d zero (c ∷ cs) listing refutation differ e = absurd (none_is_no_answer (No refutation) e)
epochs_are_refuted d (suc more) [] listing refutation differ e = absurd (yes_is_not_no (writes_of listing) refutation e)
epochs_are_refuted d (suc more) (c ∷ cs) listing refutation differ e =
    let left = c ∷ cs in
    let go_on = λ (chain : List Cluster). epochs d more (without left chain) (reverse chain ++ listing) in
    by_round d left (rounds d (length left + 1) 0 left) go_on refutation (omega arith) differ refl
    (λ chain f.
    let passes = λ (z : Cluster). not (list_any (λ u. u.write == z.write) chain) in
    part_is_refuted d left (without left chain) refutation (λ x there. kept_is_there passes left x there)
    (epochs_are_refuted d more (without left chain) (reverse chain ++ listing) refutation (part_differs passes left differ) f))
    e
