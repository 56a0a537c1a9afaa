-- The clients that are not told of yet are ready to say that they are done.
use Rattle.std.proofs.Common.{◌≡◌, ℕ, suc, ◌+◌, ◌<◌, List, ◌∷◌, length, All, slice_index_or, subst, arith}
use Rattle.quorum_client.specs.Routes.{IsReadyRoute}
use Rattle.bench_run.specs.declared.parts.ClientParts.{ClientParts}

-- each client from this number on can send one note on each of its routes
abbrev pub AreReady : ℕ → List ClientParts → Type 0
AreReady first cs = (k : ℕ) (c : ClientParts) → k < length cs → All (IsReadyRoute (first + k) 1) (slice_index_or cs k c).routes.items

-- the first of them
pub ready_first : (first : ℕ) (c : ClientParts) (left : List ClientParts) → AreReady first (c ∷ left) → All (IsReadyRoute first 1) c.routes.items
ready_first first c left ready =
    let same : first + 0 ≡ first = omega arith in
    subst (λ (n : ℕ). All (IsReadyRoute n 1) c.routes.items) same (ready 0 c (omega arith))

-- those after it
pub ready_left : (first : ℕ) (c : ClientParts) (left : List ClientParts) → AreReady first (c ∷ left) → AreReady (first + 1) left
ready_left first c left ready = λ k d less.
    let same : first + suc k ≡ first + 1 + k = omega arith in
    subst (λ (n : ℕ). All (IsReadyRoute n 1) (slice_index_or left k d).routes.items) same (ready (suc k) d (omega arith))
