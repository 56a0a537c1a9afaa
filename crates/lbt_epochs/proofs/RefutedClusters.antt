-- What a forced chain of clusters says of their operations.
use Rattle.std.proofs.Common.{◌≡◌, ℕ, zero, suc, ◌+◌, ◌-◌, ◌<◌, List, length, refl, sym, ◌∙◌, subst, arith, add-one}
use Rattle.std.specs.Prelude.{Contains}
use Rattle.std.proofs.lemmas.List.{length-map}
use Rattle.std.proofs.lemmas.Option.{slice_get_within}
use Rattle.stale_model.specs.declared.Op.{Op}
use Rattle.stale_model.specs.declared.Cluster.{Cluster}
use Rattle.stale_model.specs.declared.End.{End}
use Rattle.stale_model.specs.declared.End.TheVariants.{Hard, Soft}
use Rattle.stale_model.specs.declared.Try.{Try}
use Rattle.stale_model.specs.Operations.{IsRead, earliest_start}
use Rattle.stale_model.specs.Precedence.{moved, Precedes}
use Rattle.stale_model.specs.Orders.{StandsAt}
use Rattle.stale_model.specs.Clusters.{IsClusterOf, writes_of, WriteRecordsDiffer}
use Rattle.stale_model.specs.Zones.{reads_start}
use Rattle.stale_model.specs.Refutations.{IsOfRecord, IsOfCluster, IsUnplaced, Forces, PrecedesUnplaced, HardHolds, SoftHolds, EndHolds, TryHolds}
use Rattle.stale_model.proofs.Places.{something_at, same_at, contains_at, place_of, write_stands, write_there}
use Rattle.model_laws.proofs.Between.{last_read}
use Rattle.lbt_epochs.proofs.Parts.{Apart, IsPart, WritesStandOnce}
use Rattle.lbt_epochs.proofs.ChainForced.{IsHardEnd, IsSoftEnd, IsEnd, IsForcedChain}
use Rattle.lbt_epochs.proofs.RefutedRounds.{IsForcedTry}

-- each of the clusters is that of a write
abbrev pub AreOfWrites : List Op → List Cluster → Type 0
AreOfWrites ops left = (c : Cluster) → Contains left c → (w : Op) × IsClusterOf ops w c

-- where a write stands its cluster stands
pub cluster_at_write : (cs : List Cluster) (i write : ℕ) → StandsAt (writes_of cs) i write → (c : Cluster) × StandsAt cs i c × (c.write ≡ write)
cluster_at_write cs i write at =
    let within = slice_get_within (writes_of cs) i write at in
    let long : length (writes_of cs) ≡ length cs = length-map cs (λ (x : Cluster). x.write) in
    let (c, there) = something_at cs i (omega arith) in
    (c, there, same_at (writes_of cs) i c.write write (write_stands cs i c there) at)

-- a write of the clusters is that of one of them
pub member_of_write : (cs : List Cluster) (write : ℕ) → Contains (writes_of cs) write → (c : Cluster) × Contains cs c × (c.write ≡ write)
member_of_write cs write there =
    let (i, at) = place_of (writes_of cs) write there in
    let (c, atc, same) = cluster_at_write cs i write at in
    (c, contains_at cs i c atc, same)

-- writes that differ stand once
pub writes_once : (cs : List Cluster) → WritesStandOnce cs → WriteRecordsDiffer cs
writes_once cs differ i j write ati atj =
    let (c, atc, same) = cluster_at_write cs i write ati in
    let (e, ate, same2) = cluster_at_write cs j write atj in
    differ i j c e atc ate (same ∙ sym same2)

-- the operation a of the cluster c finishes first
record Finishes (ops : List Op) (c : Cluster) (a : Op) : Type 0 where
  pub is : IsOfRecord ops c.first a
  pub of_c : IsOfCluster ops c.write a
  pub before : (d : ℕ) (b : Op) → c.f + moved d b.kind < earliest_start b → Precedes d a b

-- such an operation is there
finishes : (ops : List Op) (w : Op) (c : Cluster) → IsClusterOf ops w c → (a : Op) × Finishes ops c a
finishes ops w c is =
    let least = is.finishes in
    let end = least.finish_is in (
      least.op,
      record {
        is = record { there = least.member.there; record_is = least.first_is };
        of_c = record {
          there = least.member.there;
          w = w;
          w_is = record { there = is.there; kind = is.kind; value_is = sym least.member.value_is };
          record_is = is.record_is;
        };
        before = λ d b less. omega arith;
      },
    )

-- the read r of the cluster x starts last
record StartsLast (ops : List Op) (x : Cluster) (r : Op) : Type 0 where
  pub is : IsOfRecord ops x.last r
  pub of_x : IsOfCluster ops x.write r
  pub read : IsRead r
  pub after : (d f : ℕ) → f + d < reads_start x → f + moved d r.kind < earliest_start r

-- such a read is there, where one starts above 0
starts_last : (ops : List Op) (w : Op) (x : Cluster) → IsClusterOf ops w x → 0 < reads_start x → (r : Op) × StartsLast ops x r
starts_last ops w x is some =
    let (r, read, start, rec) = last_read ops w x.s x.last is.reads some in (
      r,
      record {
        is = record { there = read.read.there; record_is = rec };
        of_x = record {
          there = read.read.there;
          w = w;
          w_is = record { there = is.there; kind = is.kind; value_is = sym read.value_is };
          record_is = is.record_is;
        };
        read = read.read.kind;
        after = λ d f less. let kind : moved d r.kind ≡ d = rw read.read.kind refl in omega arith;
      },
    )

module _ (ops : List Op) (d : ℕ) (left : List Cluster) (of_writes : AreOfWrites ops left) where
  -- a cluster forces a late reader
  forces_next : (x y : Cluster) → Contains left x → Contains left y → x.f + d < reads_start y → Forces ops d x.write y.write
  forces_next x y cx cy late =
      let (v, iv) = of_writes x cx in
      let (w, iw) = of_writes y cy in
      let (a, fa) = finishes ops v x iv in
      let (r, sr) = starts_last ops w y iw (omega arith) in
      record { a = a; r = r; a_is = fa.of_c; r_is = sr.of_x; read = sr.read; precedes = fa.before d r (sr.after d x.f late) }

  -- what is apart from a chain is not placed
  is_unplaced : (cs : List Cluster) (x : Cluster) → Contains left x → Apart x cs → IsUnplaced (writes_of left) (writes_of cs) x.write
  is_unplaced cs x there free = record {
    member = write_there left x there;
    unplaced = λ placed. let (c, among, same) = member_of_write cs x.write placed in free c among same;
  }

  -- a hard end holds
  hard_holds : (rest cs : List Cluster) (c : Cluster) (p u : ℕ) → IsPart left rest → Contains left c → IsHardEnd rest cs c p u
      → HardHolds ops d (writes_of left) (writes_of cs) c.write p u
  hard_holds rest cs c p u part there h =
      let x = h.late.x in
      let cx = part x h.late.there in
      let (v, iv) = of_writes c there in
      let (w, iw) = of_writes x cx in
      let (a, fa) = finishes ops v c iv in
      let kind : moved d w.kind ≡ 0 = rw iw.kind refl in
      let start = iw.start_is in
      let late = h.late.late in
      rw (h.late.p_is, h.late.u_is) (record {
        late = record {
          write = x.write;
          unplaced = is_unplaced cs x cx h.free;
          a = a;
          b = w;
          a_is = fa.is;
          b_is = record { there = iw.there; record_is = iw.record_is };
          of_c = fa.of_c;
          of_write = record { there = iw.there; w = w; w_is = record { there = iw.there; kind = iw.kind; value_is = refl }; record_is = iw.record_is };
          precedes = fa.before d w (omega arith);
        };
        itself = refl;
      })

  -- a late reader's read is preceded
  abbrev reader_is_late : (cs : List Cluster) (c x : Cluster) (a r : Op) → Finishes ops c a → StartsLast ops x r → Contains left x → Apart x cs
      → c.f + d < reads_start x → PrecedesUnplaced ops d (writes_of left) (writes_of cs) c.write c.first x.last
  reader_is_late cs c x a r fa sr there free late = record {
    write = x.write;
    unplaced = is_unplaced cs x there free;
    a = a;
    b = r;
    a_is = fa.is;
    b_is = sr.is;
    of_c = fa.of_c;
    of_write = sr.of_x;
    precedes = fa.before d r (sr.after d c.f late);
  }

  -- a soft end holds
  soft_holds : (rest cs : List Cluster) (c : Cluster) (p q q2 : ℕ) → IsPart left rest → Contains left c
      → IsSoftEnd d rest cs c p q q2 → SoftHolds ops d (writes_of left) (writes_of cs) c.write p q q2
  soft_holds rest cs c p q q2 part there s =
      let l = s.late in
      let cx = part l.x l.first.there in
      let cy = part l.y l.second.there in
      let late = l.first.late in
      let late2 = l.second.late in
      let (v, iv) = of_writes c there in
      let (w, iw) = of_writes l.x cx in
      let (w2, iw2) = of_writes l.y cy in
      let (a, fa) = finishes ops v c iv in
      let (r, sr) = starts_last ops w l.x iw (omega arith) in
      let (r2, sr2) = starts_last ops w2 l.y iw2 (omega arith) in
      rw (l.p_is, l.q_is, l.q2_is) (record {
        late = reader_is_late cs c l.x a r fa sr cx s.free late;
        late2 = reader_is_late cs c l.y a r2 fa sr2 cy s.free2 late2;
        reads = (sr.read, sr2.read);
        apart = λ same. l.differ (sym same);
      })

  end_holds : (rest cs : List Cluster) (c : Cluster) (end : End) → IsPart left rest → Contains left c → IsEnd d rest cs c end
      → EndHolds ops d (writes_of left) (writes_of cs) c.write end
  end_holds rest cs c (Hard p u) part there h = hard_holds rest cs c p u part there h
  end_holds rest cs c (Soft p q q2) part there s = soft_holds rest cs c p q q2 part there s

  -- the clusters of a forced chain are among those that are left
  chain_among : (c : Cluster) (rest cs : List Cluster) (end : End) → Contains left c → IsPart left rest → IsForcedChain d c rest cs end
      → (i : ℕ) (x : Cluster) → StandsAt cs i x → Contains left x
  chain_among c rest cs end there part k zero x at = subst (λ (y : Cluster). Contains left y) (same_at cs zero c x k.begins at) there
  chain_among c rest cs end there part k (suc i) x at = part x (k.members i x at)

  -- the same of the writes of a chain
  forces_by : (cs : List Cluster) → ((i : ℕ) (x : Cluster) → StandsAt cs i x → Contains left x)
      → ((i : ℕ) (x y : Cluster) → StandsAt cs i x → StandsAt cs (suc i) y → x.f + d < reads_start y)
      → (i c next : ℕ) → StandsAt (writes_of cs) i c → StandsAt (writes_of cs) (suc i) next → Forces ops d c next
  forces_by cs among forced i c next atc atn =
      let (x, atx, same) = cluster_at_write cs i c atc in
      let (y, aty, same2) = cluster_at_write cs (suc i) next atn in
      rw (same, same2) at (forces_next x y (among i x atx) (among (suc i) y aty) (forced i x y atx aty))

  -- a forced chain is a try that holds
  chain_holds : (c : Cluster) (rest cs : List Cluster) (end : End) → Contains left c → IsPart left rest → IsForcedChain d c rest cs end
      → TryHolds ops d (writes_of left) c.write (record { chain = writes_of cs; end = end })
  chain_holds c rest cs end there part k =
      let among = chain_among c rest cs end there part k in
      let long : length (writes_of cs) ≡ length cs = length-map cs (λ (x : Cluster). x.write) in
      record {
        begins = write_stands cs 0 c k.begins;
        members = λ write m.
            let (i, at) = place_of (writes_of cs) write m in
            let (x, atx, same) = cluster_at_write cs i write at in
            subst (λ (n : ℕ). Contains (writes_of left) n) same (write_there left x (among i x atx));
        once = writes_once cs k.once;
        forced = λ i c next atc atn. forces_by cs among k.forced i c next atc (rw add-one at atn);
        last = k.last.write;
        last_is = rw long (write_stands cs (length cs - 1) k.last k.last_is);
        end = end_holds rest cs k.last end part (among (length cs - 1) k.last k.last_is) k.end_is;
      }

  -- so the try of a cluster holds
  pub try_holds : (c : Cluster) (attempt : Try) → Contains left c → IsForcedTry d left c attempt → TryHolds ops d (writes_of left) c.write attempt
  try_holds c attempt there t =
      let holds = chain_holds c t.rest t.chain attempt.end there t.part t.forced in
      subst (λ (l : List ℕ). TryHolds ops d (writes_of left) c.write (record { chain = l; end = attempt.end })) (sym t.chain_is) holds
