-- How numbers compare.
use Rattle.std.proofs.Common.{◌≡◌, ℕ, ◌<◌, false, sym, ◌∙◌, ap}
use Rattle.std.specs.declared.cmp.Ordering.TheVariants.{Less, Equal}
use Rattle.std.specs.Ordering.{nat_cmp, is_lt, ordering_reverse}
use Rattle.std.proofs.lemmas.Bool.{lt-ltb, cond-true}
use Rattle.std.proofs.lemmas.Cmp.{nat_cmp_total, tied_itself, ranked}

pub nat_less : (x y : ℕ) → x < y → nat_cmp x y ≡ Less
nat_less x y l = cond-true _ Less _ (lt-ltb x y l)

pub nat_same : (x y : ℕ) → x ≡ y → nat_cmp x y ≡ Equal
nat_same x y e = rw e (tied_itself nat_cmp_total y)

pub same_nat : (x y : ℕ) → nat_cmp x y ≡ Equal → x ≡ y
same_nat x y e = ranked x y Equal (sym e)

-- the greater of two numbers is not less
pub not_less : (x y : ℕ) → x < y → is_lt (nat_cmp y x) ≡ false
not_less x y l = ap is_lt (nat_cmp_total.antisymm y x ∙ ap ordering_reverse (nat_less x y l))
