-- Reads and writes.
use Rattle.std.proofs.Common.{◌≡◌, ◌⊎◌, true, false, not, refl, inl, inr}
use Rattle.std.proofs.lemmas.Bool.{both_ways}
use Rattle.stale_model.specs.declared.Kind.{Kind}
use Rattle.stale_model.specs.declared.Kind.TheVariants.{Read, Write}
use Rattle.stale_model.specs.declared.Op.{Op}
use Rattle.stale_model.specs.Operations.{IsRead, IsWrite, is_write_kind}

-- a kind that passes the test is the write
pub kind_is_write : (kind : Kind) → is_write_kind kind ≡ true → kind ≡ Write
kind_is_write Read t = absurd (both_ways false refl t)
kind_is_write Write t = refl

-- one that doesn't is the read
pub kind_is_read : (kind : Kind) → not (is_write_kind kind) ≡ true → kind ≡ Read
kind_is_read Read t = refl
kind_is_read Write t = absurd (both_ways false refl t)

-- a kind is one of the two
pub kinds : (kind : Kind) → (kind ≡ Read) ⊎ (kind ≡ Write)
kinds Read = inl refl
kinds Write = inr refl

-- an operation reads or writes
pub reads_or_writes : (a : Op) → IsRead a ⊎ IsWrite a
reads_or_writes a = kinds a.kind
