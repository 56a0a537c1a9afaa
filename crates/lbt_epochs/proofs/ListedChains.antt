-- A chain that ends, put in front of what is listed, is listed with it.
use Rattle.std.proofs.Common.{◌≡◌, ℕ, zero, suc, ◌≤◌, List, [], ◌∷◌, ◌++◌, reverse, refl, inl, inr}
use Rattle.std.specs.Prelude.{Contains}
use Rattle.std.specs.List.Sorted.{IsPermutation}
use Rattle.std.proofs.lemmas.List.Sorted.{IsPermutation-refl, IsPermutation-cons, IsPermutation-trans}
use Rattle.std.proofs.lemmas.List.{append_assoc, reverse-append}
use Rattle.stale_model.specs.declared.Cluster.{Cluster}
use Rattle.stale_model.specs.Chains.{without, Demand, demand, nothing, one, impossible, Chain, ends, fails, cut, chain_by, followed_by, chain}
use Rattle.stale_model.specs.Clusters.{writes_of, WriteRecordsDiffer}
use Rattle.stale_model.proofs.Sorted.{first_or_later, no_repeats_tail, permuted_no_repeats}
use Rattle.stale_model.proofs.Members.{kept_is_there}
use Rattle.lbt_epochs.proofs.Parts.{is_other}
use Rattle.lbt_epochs.proofs.Demands.{MayStandBefore, AsksOne, asks_nothing, asks_one}
use Rattle.lbt_epochs.proofs.ListedParts.{one_and_rest, without_in_turn, without_none}

-- each of these may stand anywhere before each of those
abbrev pub AllBefore : ℕ → List Cluster → List Cluster → Type 0
AllBefore d these those = (i j : Cluster) → Contains these i → Contains those j → MayStandBefore d j i

-- i may stand directly before these
abbrev pub MayBeNext : ℕ → Cluster → List Cluster → Type 0
MayBeNext d i [] = Unit {0}
MayBeNext d i (j ∷ js) = (i.w ≤ j.f) × ((l : Cluster) → Contains js l → MayStandBefore d l i)

-- each may stand directly before those after it
abbrev pub MayStand : ℕ → List Cluster → Type 0
MayStand d [] = Unit {0}
MayStand d (i ∷ js) = MayBeNext d i js × MayStand d js

-- what is listed after a chain that ends, and what is left
pub record IsListedBy (d : ℕ) (c : Cluster) (rest listed chain : List Cluster) : Type 0 where
  pub tail : List Cluster
  pub begins : chain ≡ c ∷ tail
  pub stand : MayStand d (reverse tail ++ (c ∷ listed))
  pub front : AllBefore d (without rest tail) (reverse tail ++ (c ∷ listed))
  pub parts : IsPermutation (c ∷ rest) (chain ++ without rest tail)

-- where all of these may stand before all of those, they may before one more that lets them
before_one_more : (d : ℕ) (c : Cluster) (these those : List Cluster) → ((i : Cluster) → Contains these i → MayStandBefore d c i) → AllBefore d these those
    → AllBefore d these (c ∷ those)
before_one_more d c these those h front i j in_these in_those = elim (first_or_later c j those in_those) [
  | inl e ↦ rw e at (h i in_these)
  | inr later ↦ front i j in_these later
]

next_by : (d : ℕ) (c x : Cluster) (listed : List Cluster) → x.w ≤ c.f → ((l : Cluster) → Contains listed l → MayStandBefore d l x) → MayBeNext d x (c ∷ listed)
next_by d c x listed low all = (low, all)

module _ (d : ℕ) where
  ended : (c : Cluster) (rest listed : List Cluster) → demand d c rest ≡ nothing → MayBeNext d c listed → MayStand d listed → AllBefore d rest listed
      → IsListedBy d c rest listed (c ∷ [])
  ended c rest listed e next stand front = record {
    tail = [];
    begins = refl;
    stand = (next, stand);
    front = rw (without_none rest) (before_one_more d c rest listed (asks_nothing d c rest e) front);
    parts = rw (without_none rest) (IsPermutation-refl (c ∷ rest));
  }

  pub reverse_first : (x : Cluster) (tail listed : List Cluster) → reverse (x ∷ tail) ++ listed ≡ reverse tail ++ (x ∷ listed)
  reverse_first x tail listed = rw (reverse-append (x ∷ []) tail) (append_assoc (reverse tail) (x ∷ []) listed)

  goes_on : (c x : Cluster) (rest listed chain : List Cluster) → WriteRecordsDiffer rest → Contains rest x
      → IsListedBy d x (without rest (x ∷ [])) (c ∷ listed) chain → IsListedBy d c rest listed (c ∷ chain)
  goes_on c x rest listed chain once there by =
      let tail = by.tail in
      let turn : without rest (x ∷ tail) ≡ without (without rest (x ∷ [])) tail = without_in_turn rest x tail in
      let placed : reverse (x ∷ tail) ++ (c ∷ listed) ≡ reverse tail ++ (x ∷ (c ∷ listed)) = reverse_first x tail (c ∷ listed) in
      record {
        tail = chain;
        begins = refl;
        stand = rw (by.begins, placed) by.stand;
        front = rw (by.begins, placed, turn) by.front;
        parts = IsPermutation-cons c rest (chain ++ without rest chain)
            (IsPermutation-trans rest (x ∷ without rest (x ∷ [])) (chain ++ without rest chain) (one_and_rest x rest once there) (rw (by.begins, turn) (rw by.begins at by.parts)));
      }

  pub rest_once : (x : Cluster) (rest : List Cluster) → WriteRecordsDiffer rest → Contains rest x → WriteRecordsDiffer (without rest (x ∷ []))
  rest_once x rest once there =
      no_repeats_tail x.write (writes_of (without rest (x ∷ []))) (permuted_no_repeats (λ c. c.write) rest (x ∷ without rest (x ∷ [])) (one_and_rest x rest once there) once)

  front_of_rest : (c x : Cluster) (rest listed : List Cluster) → AsksOne d c rest x → AllBefore d rest listed → AllBefore d (without rest (x ∷ [])) (c ∷ listed)
  front_of_rest c x rest listed asks front =
      before_one_more d c (without rest (x ∷ [])) listed
      (λ i there. record { hard = asks.hard i (kept_is_there (is_other x) rest i there); soft = asks.soft i there })
      (λ i j in_rest in_listed. front i j (kept_is_there (is_other x) rest i in_rest) in_listed)

  next_of : (c x : Cluster) (rest listed : List Cluster) → AsksOne d c rest x → AllBefore d rest listed → MayBeNext d x (c ∷ listed)
  next_of c x rest listed asks front = next_by d c x listed (asks.hard x asks.late.there) (λ l there. front x l asks.late.there there)

  short_by : (q : Demand) (c : Cluster) (rest listed chain : List Cluster) → demand d c rest ≡ q → chain_by c q (λ x. cut) ≡ ends chain
      → MayBeNext d c listed → MayStand d listed → AllBefore d rest listed → IsListedBy d c rest listed chain
  short_by nothing c rest listed chain e f next stand front = let same : c ∷ [] ≡ chain = cc in rw same at (ended c rest listed e next stand front)
  short_by (one x) c rest listed chain e f next stand front = cc
  short_by (impossible end) c rest listed chain e f next stand front = cc

  -- a chain that ends is listed, where it has this room
  abbrev ListsChains : ℕ → Type 0
  ListsChains room = (c : Cluster) (rest listed cs : List Cluster) → WriteRecordsDiffer rest → MayBeNext d c listed → MayStand d listed
      → AllBefore d rest listed → chain d room c rest ≡ ends cs → IsListedBy d c rest listed cs

  more_by : (room : ℕ) → ListsChains room → (x : Cluster) (r : Chain) (c : Cluster) (rest listed cs : List Cluster) → WriteRecordsDiffer rest
      → demand d c rest ≡ one x → chain d room x (without rest (x ∷ [])) ≡ r → followed_by c r ≡ ends cs
      → MayBeNext d c listed → MayStand d listed → AllBefore d rest listed → IsListedBy d c rest listed cs
  more_by room further x (ends tail) c rest listed cs once e g f next stand front =
      let same : c ∷ tail ≡ cs = cc in
      let asks = asks_one d c rest x e in
      let by = further x (without rest (x ∷ [])) (c ∷ listed) tail (rest_once x rest once asks.late.there) (next_of c x rest listed asks front) (next, stand)
      (front_of_rest c x rest listed asks front) g in
      rw same at (goes_on c x rest listed tail once asks.late.there by)
  more_by room further x (fails tail end) c rest listed cs once e g f next stand front = cc
  more_by room further x cut c rest listed cs once e g f next stand front = cc

  long_by : (room : ℕ) → ListsChains room → (q : Demand) (c : Cluster) (rest listed cs : List Cluster) → WriteRecordsDiffer rest → demand d c rest ≡ q
      → chain_by c q (λ x. followed_by c (chain d room x (without rest (x ∷ [])))) ≡ ends cs
      → MayBeNext d c listed → MayStand d listed → AllBefore d rest listed → IsListedBy d c rest listed cs
  long_by room further nothing c rest listed cs once e f next stand front = let same : c ∷ [] ≡ cs = cc in rw same at (ended c rest listed e next stand front)
  long_by room further (one x) c rest listed cs once e f next stand front =
      more_by room further x (chain d room x (without rest (x ∷ []))) c rest listed cs once e refl f next stand front
  long_by room further (impossible end) c rest listed cs once e f next stand front = cc

  -- a chain that ends is listed
  pub chain_is_listed : (room : ℕ) → ListsChains room
  chain_is_listed zero c rest listed cs once next stand front e = short_by (demand d c rest) c rest listed cs refl e next stand front
  chain_is_listed (suc room) c rest listed cs once next stand front e =
      long_by room (chain_is_listed room) (demand d c rest) c rest listed cs once refl e next stand front
