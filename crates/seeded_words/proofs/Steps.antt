-- One step more of the generator.
use Rattle.std.proofs.Common.{◌≡◌, ℕ, zero, suc, ◌+◌, ap, refl, ◌∙◌}
use Rattle.std.proofs.Math.Numerals.{suc-eq-add-one}
use Rattle.rand_pcg.specs.Lcg.{Lcg, state_after, next_state, next, advance}
use Rattle.rand_pcg.specs.Pcg.{multiplier_64}

-- no step
pub advance-zero : (g : Lcg) → g ≡ advance 64 multiplier_64 0 g
unfolding state_after
advance-zero g = refl

state_after-suc : (w m increment n state : ℕ) → next_state w m increment (state_after w m increment n state) ≡ state_after w m increment (suc n) state
unfolding state_after
state_after-suc w m increment zero state = refl
state_after-suc w m increment (suc n) state = state_after-suc w m increment n (next_state w m increment state)

-- a step after n others
pub next-advance : (n : ℕ) (g : Lcg) → next 64 multiplier_64 (advance 64 multiplier_64 n g) ≡ advance 64 multiplier_64 (n + 1) g
next-advance n g =
    ap (λ (s : ℕ). record { state = s; increment = g.increment }) (state_after-suc 64 multiplier_64 g.increment n g.state)
    ∙ ap (λ (m : ℕ). advance 64 multiplier_64 m g) (suc-eq-add-one n)
