-- What a chain that fails says of clusters.
use Rattle.std.proofs.Common.{◌≡◌, ℕ, zero, suc, ◌+◌, ◌-◌, ◌<◌, List, [], ◌∷◌, length, refl, sym, ◌∙◌, ap, inl, inr, subst, arith}
use Rattle.std.specs.Prelude.{Contains}
use Rattle.std.proofs.lemmas.Option.{slice_get_within}
use Rattle.stale_model.specs.declared.Cluster.{Cluster}
use Rattle.stale_model.specs.declared.End.{End}
use Rattle.stale_model.specs.declared.End.TheVariants.{Hard, Soft}
use Rattle.stale_model.specs.Orders.{StandsAt}
use Rattle.stale_model.specs.Zones.{reads_start}
use Rattle.stale_model.specs.Chains.{without, Demand, nothing, one, impossible, demand, Chain, ends, fails, cut, followed_by, chain_by, chain}
use Rattle.stale_model.proofs.Places.{same_at, contains_at, place_of}
use Rattle.stale_model.proofs.Sorted.{first_or_later}
use Rattle.lbt_epochs.proofs.Parts.{Apart, IsPart, WritesStandOnce, in_without}
use Rattle.lbt_epochs.proofs.Demands.{ReadsLate, WritesLate, TwoReadLate, asks_one, hard_writes_late, soft_reads_late}

-- the late write at the end of the chain cs, whose last cluster is c, is not in the chain
pub record IsHardEnd (rest cs : List Cluster) (c : Cluster) (p u : ℕ) : Type 0 where
  pub late : WritesLate rest c p u
  pub free : Apart late.x cs

-- nor are the two late readers
pub record IsSoftEnd (d : ℕ) (rest cs : List Cluster) (c : Cluster) (p q q2 : ℕ) : Type 0 where
  pub late : TwoReadLate d rest c p q q2
  pub free : Apart late.x cs
  pub free2 : Apart late.y cs

-- the end of a chain
abbrev pub IsEnd : ℕ → List Cluster → List Cluster → Cluster → End → Type 0
IsEnd d rest cs c (Hard p u) = IsHardEnd rest cs c p u
IsEnd d rest cs c (Soft p q q2) = IsSoftEnd d rest cs c p q q2

-- a chain from c among the rest: each next cluster is forced, and the last one can't be followed
pub record IsForcedChain (d : ℕ) (c : Cluster) (rest cs : List Cluster) (end : End) : Type 0 where
  pub begins : StandsAt cs 0 c
  pub members : (i : ℕ) (x : Cluster) → StandsAt cs (suc i) x → Contains rest x
  pub once : WritesStandOnce cs
  pub forced : (i : ℕ) (x y : Cluster) → StandsAt cs i x → StandsAt cs (suc i) y → x.f + d < reads_start y
  pub last : Cluster
  pub last_is : StandsAt cs (length cs - 1) last
  pub end_is : IsEnd d rest cs last end

-- one that is apart from c and from the rest of a chain is apart from both
apart_more : (c x : Cluster) (cs : List Cluster) → (x.write ≡ c.write → ⊥) → Apart x cs → Apart x (c ∷ cs)
apart_more c x cs first later y there same = elim (first_or_later c y cs there) [
  | inl e ↦ first (sym same ∙ ap (λ (z : Cluster). z.write) (sym e))
  | inr more ↦ later y more same
]

-- in an empty list there is none
apart_none : (x : Cluster) → Apart x []
apart_none x y there same = let (i, l, e) = there in absurd (omega arith)

-- the end of a chain of one
end_begins : (d : ℕ) (c : Cluster) (rest : List Cluster) (end : End) → Apart c rest → demand d c rest ≡ impossible end → IsEnd d rest (c ∷ []) c end
end_begins d c rest (Hard p u) apart e =
    let h = hard_writes_late d c rest p u e in
    record { late = h; free = apart_more c h.x [] (apart h.x h.there) (apart_none h.x) }
end_begins d c rest (Soft p q q2) apart e =
    let s = soft_reads_late d c rest p q q2 e in
    record {
      late = s;
      free = apart_more c s.x [] (apart s.x s.first.there) (apart_none s.x);
      free2 = apart_more c s.y [] (apart s.y s.second.there) (apart_none s.y);
    }

-- late readers of a part are late readers of the whole
reads_late_more : (d : ℕ) (c x : Cluster) (rest part : List Cluster) → IsPart rest part → ReadsLate d part c x → ReadsLate d rest c x
reads_late_more d c x rest part more r = record { there = more x r.there; late = r.late }

-- so the end stays, where c is put before
end_more : (d : ℕ) (c last : Cluster) (rest part cs : List Cluster) (end : End) → Apart c rest → IsPart rest part
    → IsEnd d part cs last end → IsEnd d rest (c ∷ cs) last end
end_more d c last rest part cs (Hard p u) apart more h =
    let l = h.late in
    record {
      late = record { x = l.x; there = more l.x l.there; late = l.late; p_is = l.p_is; u_is = l.u_is };
      free = apart_more c l.x cs (apart l.x (more l.x l.there)) h.free;
    }
end_more d c last rest part cs (Soft p q q2) apart more s =
    let l = s.late in
    record {
      late = record {
        x = l.x;
        y = l.y;
        first = reads_late_more d last l.x rest part more l.first;
        second = reads_late_more d last l.y rest part more l.second;
        differ = l.differ;
        p_is = l.p_is;
        q_is = l.q_is;
        q2_is = l.q2_is;
      };
      free = apart_more c l.x cs (apart l.x (more l.x l.first.there)) s.free;
      free2 = apart_more c l.y cs (apart l.y (more l.y l.second.there)) s.free2;
    }

-- writes differ in a list of one
one_differs : (c : Cluster) → WritesStandOnce (c ∷ [])
one_differs c zero zero x y ati atj same = refl
one_differs c zero (suc j) x y ati atj same = cc
one_differs c (suc i) j x y ati atj same = cc

-- and where c is put before others
more_differ : (c : Cluster) (cs : List Cluster) → Apart c cs → WritesStandOnce cs → WritesStandOnce (c ∷ cs)
more_differ c cs apart differ zero zero x y ati atj same = refl
more_differ c cs apart differ zero (suc j) x y ati atj same =
    let e : c ≡ x = same_at (c ∷ cs) zero c x refl ati in
    absurd (apart y (contains_at cs j y atj) (sym same ∙ ap (λ (z : Cluster). z.write) (sym e)))
more_differ c cs apart differ (suc i) zero x y ati atj same =
    let e : c ≡ y = same_at (c ∷ cs) zero c y refl atj in
    absurd (apart x (contains_at cs i x ati) (same ∙ ap (λ (z : Cluster). z.write) (sym e)))
more_differ c cs apart differ (suc i) (suc j) x y ati atj same = ap suc (differ i j x y ati atj same)

-- a chain of one
one_forced : (d : ℕ) (c : Cluster) (rest : List Cluster) (end : End) → Apart c rest → demand d c rest ≡ impossible end
    → IsForcedChain d c rest (c ∷ []) end
one_forced d c rest end apart e = record {
  begins = refl;
  members = λ i x at. cc;
  once = one_differs c;
  forced = λ i x y ati atj. cc;
  last = c;
  last_is = refl;
  end_is = end_begins d c rest end apart e;
}

-- each next cluster is forced, also the first one after c
forced_next : (d : ℕ) (c next : Cluster) (cs : List Cluster) → StandsAt cs 0 next → c.f + d < reads_start next
    → ((i : ℕ) (x y : Cluster) → StandsAt cs i x → StandsAt cs (suc i) y → x.f + d < reads_start y)
    → (i : ℕ) (x y : Cluster) → StandsAt (c ∷ cs) i x → StandsAt cs i y → x.f + d < reads_start y
forced_next d c next cs begins late forced zero x y ati atj =
    let e : c ≡ x = same_at (c ∷ cs) zero c x refl ati in
    let g : next ≡ y = same_at cs zero next y begins atj in
    rw (e, g) at late
forced_next d c next cs begins late forced (suc i) x y ati atj = forced i x y ati atj

-- what stands in a chain is of the rest
members_next : (next : Cluster) (rest part cs : List Cluster) → StandsAt cs 0 next → Contains rest next → IsPart rest part
    → ((i : ℕ) (x : Cluster) → StandsAt cs (suc i) x → Contains part x) → (i : ℕ) (x : Cluster) → StandsAt cs i x → Contains rest x
members_next next rest part cs begins there more members zero x at = subst (λ y. Contains rest y) (same_at cs zero next x begins at) there
members_next next rest part cs begins there more members (suc i) x at = more x (members i x at)

-- c before a chain that it forces
more_forced : (d : ℕ) (c next : Cluster) (rest part cs : List Cluster) (end : End) → Apart c rest → IsPart rest part
    → ReadsLate d rest c next → IsForcedChain d next part cs end → IsForcedChain d c rest (c ∷ cs) end
more_forced d c next rest part cs end apart more late k =
    let members = members_next next rest part cs k.begins late.there more k.members in
    let within = slice_get_within cs zero next k.begins in
    let place : length (c ∷ cs) - 1 ≡ suc (length cs - 1) = omega arith in
    record {
      begins = refl;
      members = members;
      once = more_differ c cs (λ x there. let (i, at) = place_of cs x there in apart x (members i x at)) k.once;
      forced = forced_next d c next cs k.begins late.late k.forced;
      last = k.last;
      last_is = subst (λ (n : ℕ). StandsAt (c ∷ cs) n k.last) (sym place) k.last_is;
      end_is = end_more d c k.last rest part cs end apart more k.end_is;
    }

-- what c is followed by fails where the whole does
followed : (c : Cluster) (k : Chain) (cs : List Cluster) (end : End) → followed_by c k ≡ fails cs end
    → (later : List Cluster) × (k ≡ fails later end) × (c ∷ later ≡ cs)
followed c (ends later) cs end e = cc
followed c (fails later found) cs end e = (later, cc, cc)
followed c cut cs end e = cc

-- a chain that fails, by what c asks
by_demand : (d : ℕ) (c : Cluster) (rest cs : List Cluster) (end : End) (go_on : Cluster → Chain) (q : Demand) → Apart c rest → demand d c rest ≡ q
    → chain_by c q go_on ≡ fails cs end → ((x : Cluster) → ReadsLate d rest c x → go_on x ≡ fails cs end → IsForcedChain d c rest cs end)
    → IsForcedChain d c rest cs end
by_demand d c rest cs end go_on nothing apart e f next = cc
by_demand d c rest cs end go_on (one x) apart e f next = next x (asks_one d c rest x e).late f
by_demand d c rest cs end go_on (impossible found) apart e f next =
    let same : found ≡ end = cc in
    let list : c ∷ [] ≡ cs = cc in
    rw (same, list) at (one_forced d c rest found apart e)

-- a chain that fails is forced
pub chain_is_forced : (d room : ℕ) (c : Cluster) (rest cs : List Cluster) (end : End) → Apart c rest → chain d room c rest ≡ fails cs end
    → IsForcedChain d c rest cs end
chain_is_forced d zero c rest cs end apart e = by_demand d c rest cs end (λ x. cut) (demand d c rest) apart refl e (λ x late f. cc)
chain_is_forced d (suc room) c rest cs end apart e =
    by_demand d c rest cs end (λ x. followed_by c (chain d room x (without rest (x ∷ [])))) (demand d c rest) apart refl e
    (λ x late f.
    let part = without rest (x ∷ []) in
    let (later, found, list) = followed c (chain d room x part) cs end f in
    let inside : IsPart rest part = λ y there. (in_without rest x y there).0 in
    let k = chain_is_forced d room x part later end (λ y there. (in_without rest x y there).1) found in
    rw list at (more_forced d c x rest part later end apart inside late k))
