-- The orders of candidates and of keys are total.
use Rattle.std.specs.Cmp.{IsTotalOrder, nat_cmp_total}
use Rattle.std.proofs.lemmas.Cmp.{then_total, on_total, back_total}
use Rattle.stale_model.specs.Chains.{candidate_order}
use Rattle.lbt_epochs.specs.Keys.{falling_order, late_order}

pub candidate_order-total : IsTotalOrder candidate_order
candidate_order-total = back_total (then_total (on_total (λ c. c.f) nat_cmp_total) (on_total (λ c. c.write) nat_cmp_total))

pub falling_order-total : IsTotalOrder falling_order
falling_order-total = back_total (then_total (on_total (λ k. k.tick) nat_cmp_total) (on_total (λ k. k.write) nat_cmp_total))

pub late_order-total : IsTotalOrder late_order
late_order-total = then_total (back_total (on_total (λ k. k.tick) nat_cmp_total)) (on_total (λ k. k.write) nat_cmp_total)
