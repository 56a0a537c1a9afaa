-- The epochs that end with a list of writes end with a listing.
use Rattle.std.proofs.Common.{◌≡◌, ℕ, zero, suc, ◌+◌, ◌<◌, ◌≤◌, List, [], ◌∷◌, ◌++◌, length, reverse, refl, sym, ◌∙◌, ap, arith}
use Rattle.std.specs.Prelude.{Contains, Some}
use Rattle.std.specs.List.Sorted.{IsPermutation}
use Rattle.std.proofs.lemmas.List.{append_assoc, append-nil, length-append}
use Rattle.std.proofs.lemmas.List.Sorted.{IsPermutation-refl, IsPermutation-sym, IsPermutation-trans, IsPermutation-append_left, IsPermutation-append_comm, IsPermutation-append, IsPermutation-reverse, Contains-permutation, length_permutation}
use Rattle.stale_model.specs.declared.Cluster.{Cluster}
use Rattle.stale_model.specs.declared.Two.TheVariants.{Yes}
use Rattle.stale_model.specs.Chains.{without, Round, removes, repeats, refutes, rounds, epoch_by, epochs}
use Rattle.stale_model.specs.Clusters.{writes_of, WriteRecordsDiffer}
use Rattle.stale_model.specs.Orders.{StandsAt, ListsEachOnce}
use Rattle.stale_model.specs.Listings.{IsListing}
use Rattle.stale_model.specs.Zones.{reads_start}
use Rattle.lbt_epochs.specs.TwoLaws.{ListingsAreAnswered}
use Rattle.stale_model.proofs.Places.{contains_at}
use Rattle.stale_model.proofs.Sorted.{contains_later, permuted_no_repeats, no_repeats_tail, no_repeats_from_map}
use Rattle.stale_model.proofs.Members.{kept_is_there}
use Rattle.lbt_epochs.proofs.Parts.{is_other}
use Rattle.lbt_epochs.proofs.Removed.{Ends, removed_by}
use Rattle.lbt_epochs.proofs.ListedParts.{one_and_rest, without_in_turn}
use Rattle.lbt_epochs.proofs.ListedChains.{AllBefore, MayBeNext, MayStand, chain_is_listed, reverse_first, rest_once}

-- ---- one epoch

-- where all of the left may stand before all of the listed, one of them may stand directly before these
pub may_be_next : (d : ℕ) (left listed : List Cluster) (x : Cluster) → AllBefore d left listed → Contains left x → MayBeNext d x listed
may_be_next d left [] x front there = tt
may_be_next d left (j ∷ js) x front there =
    let first = front x j there (zero, omega arith, refl) in
    (first.hard, λ l in_js. front x l there (contains_later j l js in_js))

-- what is left and what is listed after an epoch that removes a chain
record IsEpoch (d : ℕ) (left listed cs : List Cluster) : Type 0 where
  stand : MayStand d (reverse cs ++ listed)
  front : AllBefore d (without left cs) (reverse cs ++ listed)
  parts : IsPermutation (left ++ listed) (without left cs ++ (reverse cs ++ listed))
  once : WriteRecordsDiffer (without left cs)
  fewer : length (without left cs) < length left

no_repeats_drop : (cs rest : List Cluster) → WriteRecordsDiffer (cs ++ rest) → WriteRecordsDiffer rest
no_repeats_drop [] rest once = once
no_repeats_drop (c ∷ cs) rest once = no_repeats_drop cs rest (no_repeats_tail c.write (writes_of (cs ++ rest)) once)

-- the front of a list, turned round and put behind the rest
turned : (cs rest listed : List Cluster) → IsPermutation (cs ++ rest ++ listed) (rest ++ (reverse cs ++ listed))
turned cs rest listed =
    rw (append_assoc rest (reverse cs) listed) at (IsPermutation-append_left listed (cs ++ rest) (rest ++ reverse cs)
    (IsPermutation-trans (cs ++ rest) (rest ++ cs) (rest ++ reverse cs) (IsPermutation-append_comm cs rest)
    (IsPermutation-append rest rest cs (reverse cs) (IsPermutation-refl rest) (IsPermutation-reverse cs))))

epoch_parts : (left cs rest : List Cluster) (listed : List Cluster) → IsPermutation left (cs ++ rest) → IsPermutation (left ++ listed) (rest ++ (reverse cs ++ listed))
epoch_parts left cs rest listed p =
    IsPermutation-trans (left ++ listed) (cs ++ rest ++ listed) (rest ++ (reverse cs ++ listed)) (IsPermutation-append_left listed left (cs ++ rest) p) (turned cs rest listed)

fewer_left : (left cs tail rest : List Cluster) (x : Cluster) → cs ≡ x ∷ tail → IsPermutation left (cs ++ rest) → length rest < length left
fewer_left left cs tail rest x begins p =
    let long = length_permutation left (cs ++ rest) p in
    let parts = length-append cs rest in
    let some : length cs ≡ suc (length tail) = ap length begins in
    omega arith

epoch_of : (d : ℕ) (left listed cs : List Cluster) → Ends d left left cs → WriteRecordsDiffer left → MayStand d listed → AllBefore d left listed → IsEpoch d left listed cs
epoch_of d left listed cs e once stand front =
    let x = e.x in
    let rest = without left (x ∷ []) in
    let out = one_and_rest x left once e.there in
    let by = chain_is_listed d e.room x rest listed cs (rest_once d x left once e.there) (may_be_next d left listed x front e.there) stand
    (λ i j in_rest in_listed. front i j (kept_is_there (is_other x) left i in_rest) in_listed) e.end in
    let tail = by.tail in
    let same : without left cs ≡ without rest tail = ap (without left) by.begins ∙ without_in_turn left x tail in
    let placed : reverse cs ++ listed ≡ reverse tail ++ (x ∷ listed) = ap (λ these. reverse these ++ listed) by.begins ∙ reverse_first d x tail listed in
    let parts : IsPermutation left (cs ++ without left cs) = rw same (IsPermutation-trans left (x ∷ rest) (cs ++ without rest tail) out by.parts) in
    record {
      stand = rw placed by.stand;
      front = rw (same, placed) by.front;
      parts = epoch_parts left cs (without left cs) listed parts;
      once = no_repeats_drop cs (without left cs) (permuted_no_repeats (λ c. c.write) left (cs ++ without left cs) parts once);
      fewer = fewer_left left cs tail (without left cs) x by.begins parts;
    }

-- ---- all epochs

-- what is listed in the end
pub record IsListed (d : ℕ) (left listed : List Cluster) (writes : List ℕ) : Type 0 where
  pub final : List Cluster
  pub stand : MayStand d final
  pub parts : IsPermutation (left ++ listed) final
  pub writes_are : writes ≡ writes_of final

all_listed : (d : ℕ) (listed : List Cluster) (writes : List ℕ) → MayStand d listed → Some (Yes (writes_of listed)) ≡ Some (Yes writes) → IsListed d [] listed writes
all_listed d listed writes stand e = let same : writes_of listed ≡ writes = cc in record { final = listed; stand = stand; parts = IsPermutation-refl listed; writes_are = sym same }

-- epochs from here on list what is left
abbrev ListsEpochs : ℕ → ℕ → Type 0
ListsEpochs d more = (left listed : List Cluster) (writes : List ℕ) → length left ≤ more → WriteRecordsDiffer left → MayStand d listed → AllBefore d left listed
    → epochs d more left listed ≡ Some (Yes writes) → IsListed d left listed writes

epoch_listed : (d more : ℕ) → ListsEpochs d more → (q : Round) (left listed : List Cluster) (writes : List ℕ) → length left ≤ suc more → WriteRecordsDiffer left
    → MayStand d listed → AllBefore d left listed → rounds d (length left + 1) 0 left ≡ q
    → epoch_by left q (λ cs. epochs d more (without left cs) (reverse cs ++ listed)) ≡ Some (Yes writes) → IsListed d left listed writes
epoch_listed d more further (removes cs) left listed writes low once stand front e f =
    let epoch = epoch_of d left listed cs (removed_by d (length left + 1) 0 left cs e) once stand front in
    let fewer = epoch.fewer in
    let by = further (without left cs) (reverse cs ++ listed) writes (omega arith) epoch.once epoch.stand epoch.front f in
    record {
      final = by.final;
      stand = by.stand;
      parts = IsPermutation-trans (left ++ listed) (without left cs ++ (reverse cs ++ listed)) by.final epoch.parts by.parts;
      writes_are = by.writes_are;
    }
epoch_listed d more further repeats left listed writes low once stand front e f = cc
epoch_listed d more further (refutes tries) left listed writes low once stand front e f = cc

epochs_listed : (d more : ℕ) → ListsEpochs d more
epochs_listed d zero [] listed writes low once stand front e = all_listed d listed writes stand e
epochs_listed d zero (c ∷ cs) listed writes low once stand front e = absurd (omega arith)
epochs_listed d (suc more) [] listed writes low once stand front e = all_listed d listed writes stand e
epochs_listed d (suc more) (c ∷ cs) listed writes low once stand front e =
    epoch_listed d more (epochs_listed d more) (rounds d (length (c ∷ cs) + 1) 0 (c ∷ cs)) (c ∷ cs) listed writes low once stand front refl e

-- ---- a listing

stands_hard : (d : ℕ) (listing : List Cluster) → MayStand d listing → (a b : ℕ) (i j : Cluster) → StandsAt listing a i → StandsAt listing b j → a < b → i.w ≤ j.f
stands_hard d [] stand a b i j at_a at_b low = cc
stands_hard d (x ∷ []) stand zero zero i j at_a at_b low = absurd (omega arith)
stands_hard d (x ∷ []) stand zero (suc b) i j at_a at_b low = cc
stands_hard d (x ∷ y ∷ ys) stand zero zero i j at_a at_b low = absurd (omega arith)
stands_hard d (x ∷ y ∷ ys) stand zero (suc zero) i j at_a at_b low =
    let first : x ≡ i = cc in
    let second : y ≡ j = cc in
    rw (sym first, sym second) stand.0.0
stands_hard d (x ∷ y ∷ ys) stand zero (suc (suc b)) i j at_a at_b low =
    let first : x ≡ i = cc in
    rw (sym first) (stand.0.1 j (contains_at ys b j at_b)).hard
stands_hard d (x ∷ xs) stand (suc a) zero i j at_a at_b low = absurd (omega arith)
stands_hard d (x ∷ xs) stand (suc a) (suc b) i j at_a at_b low = stands_hard d xs stand.1 a b i j at_a at_b (omega arith)

stands_soft : (d : ℕ) (listing : List Cluster) → MayStand d listing → (a b : ℕ) (i j : Cluster) → StandsAt listing a i → StandsAt listing b j → a + 1 < b
    → reads_start i ≤ j.f + d
stands_soft d [] stand a b i j at_a at_b low = cc
stands_soft d (x ∷ []) stand zero zero i j at_a at_b low = absurd (omega arith)
stands_soft d (x ∷ []) stand zero (suc b) i j at_a at_b low = cc
stands_soft d (x ∷ y ∷ ys) stand zero zero i j at_a at_b low = absurd (omega arith)
stands_soft d (x ∷ y ∷ ys) stand zero (suc zero) i j at_a at_b low = absurd (omega arith)
stands_soft d (x ∷ y ∷ ys) stand zero (suc (suc b)) i j at_a at_b low =
    let first : x ≡ i = cc in
    rw (sym first) (stand.0.1 j (contains_at ys b j at_b)).soft
stands_soft d (x ∷ xs) stand (suc a) zero i j at_a at_b low = absurd (omega arith)
stands_soft d (x ∷ xs) stand (suc a) (suc b) i j at_a at_b low = stands_soft d xs stand.1 a b i j at_a at_b (omega arith)

-- each once, where the writes differ
each_once : (clusters listing : List Cluster) → WriteRecordsDiffer clusters → IsPermutation clusters listing → ListsEachOnce clusters listing
each_once clusters listing once p = record {
  known = λ x there. Contains-permutation listing clusters x (IsPermutation-sym clusters listing p) there;
  whole = λ x there. Contains-permutation clusters listing x p there;
  once = no_repeats_from_map (λ c. c.write) listing (permuted_no_repeats (λ c. c.write) clusters listing p once);
}

pub is_listing : (d : ℕ) (clusters listing : List Cluster) → WriteRecordsDiffer clusters → IsPermutation clusters listing → MayStand d listing → IsListing d clusters listing
is_listing d clusters listing once p stand = record {
  each_once = each_once clusters listing once p;
  hard = λ a b i j at_a at_b low. stands_hard d listing stand a b i j at_a at_b low;
  soft = λ a b i j at_a at_b low. stands_soft d listing stand a b i j at_a at_b low;
}

nothing_listed : (d : ℕ) (left : List Cluster) → AllBefore d left []
nothing_listed d left i j in_left in_none = absurd (let l = in_none.1 in omega arith)

pub listings_are_answered : ListingsAreAnswered
listings_are_answered d clusters writes once a =
    let candidates = a.candidates in
    let once_more = permuted_no_repeats (λ c. c.write) clusters candidates a.order.each_once once in
    let by = epochs_listed d (length candidates) candidates [] writes (omega arith) once_more tt (nothing_listed d candidates) a.answer in
    let parts : IsPermutation clusters by.final =
    IsPermutation-trans clusters candidates by.final a.order.each_once (rw (append-nil candidates) at by.parts) in
    record { listing = by.final; is = is_listing d clusters by.final once parts by.stand; writes_are = sym by.writes_are }
