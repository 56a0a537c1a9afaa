-- Conflicts, by numbers alone.
use Rattle.std.proofs.Common.{ℕ, ◌+◌, ◌≤◌, List, arith}
use Rattle.std.specs.Prelude.{All}
use Rattle.std.proofs.lemmas.List.Elements.{All-contains}
use Rattle.stale_model.specs.declared.Cluster.{Cluster}
use Rattle.stale_model.specs.Zones.{reads_start, last_start, AreInConflict, HasNoConflict}
use Rattle.zones.specs.Conflicts.{HasConflict}

-- conflicts are mutual
pub AreInConflict-sym : (d : ℕ) (i j : Cluster) → AreInConflict d i j → AreInConflict d j i
AreInConflict-sym d i j c = record { there = c.back; back = c.there }

-- in conflict at e, in conflict at each lesser d
pub AreInConflict-lesser : (d e : ℕ) (i j : Cluster) → d ≤ e → AreInConflict e i j → AreInConflict d i j
AreInConflict-lesser d e i j less c =
    let there = c.there in
    let back = c.back in
    record { there = omega arith; back = omega arith }

pub HasConflict-lesser : (d e : ℕ) (clusters : List Cluster) → d ≤ e → HasConflict e clusters → HasConflict d clusters
HasConflict-lesser d e clusters less (i, j, c) =
    (i, j, record { i_there = c.i_there; j_there = c.j_there; apart = c.apart; conflict = AreInConflict-lesser d e i j less c.conflict })

-- without conflict at d, without conflict at each greater one
pub HasNoConflict-greater : (d e : ℕ) (clusters : List Cluster) → d ≤ e → HasNoConflict d clusters → HasNoConflict e clusters
HasNoConflict-greater d e clusters less none i j first second apart c = none i j first second apart (AreInConflict-lesser d e i j less c)

-- two zones that are both backward are in no conflict
backward-apart : (d : ℕ) (i j : Cluster) → last_start d i ≤ i.f → last_start d j ≤ j.f → AreInConflict d i j → ⊥
backward-apart d i j h k c =
    let there = c.there in
    let back = c.back in
    omega arith

-- where no write starts after f, there is no conflict from the greatest S - f on
pub HasNoConflict-far : (d : ℕ) (clusters : List Cluster) → All (λ c. c.w ≤ c.f) clusters → All (λ c. reads_start c ≤ c.f + d) clusters → HasNoConflict d clusters
HasNoConflict-far d clusters writes reads i j first second apart c =
    let wi = All-contains (λ x. x.w ≤ x.f) clusters i writes first in
    let wj = All-contains (λ x. x.w ≤ x.f) clusters j writes second in
    let ri = All-contains (λ x. reads_start x ≤ x.f + d) clusters i reads first in
    let rj = All-contains (λ x. reads_start x ≤ x.f + d) clusters j reads second in
    backward-apart d i j (omega arith) (omega arith) c
