-- The tries of a refutation that holds have chains.
use Rattle.std.proofs.Common.{◌≡◌, ℕ, Bool, true, List, length, refl, arith}
use Rattle.std.specs.Prelude.{Contains}
use Rattle.std.specs.List.{list_all}
use Rattle.std.proofs.lemmas.Bool.{lt-ltb}
use Rattle.std.proofs.lemmas.List.Elements.{All-contains_itself}
use Rattle.std.proofs.lemmas.List.Sums.{list_all-from_AllPass}
use Rattle.std.proofs.lemmas.Option.{slice_get_within}
use Rattle.stale_model.specs.declared.Op.{Op}
use Rattle.stale_model.specs.declared.Try.{Try}
use Rattle.stale_model.specs.declared.Refutation.{Refutation}
use Rattle.stale_model.specs.declared.TwoPart.{TwoPart}
use Rattle.stale_model.specs.declared.TwoPart.TheVariants.{Yes, No}
use Rattle.stale_model.specs.declared.Verdict.TheVariants.{Duplicate, Unmatched, Infinite, Judged}
use Rattle.stale_model.specs.Refutations.{TryHolds, RefutationHolds}
use Rattle.stale_model.specs.Shown.{ShowsTwo}
use Rattle.stale_model.proofs.Places.{at_its_place, something_at}
use Rattle.cert_text.specs.Certificates.{has_chain, two_has_chains}
use Rattle.cert_text.specs.Laws.{ShownHaveChains}

-- a test that each element passes
pub all_pass : {X : Type 0} (p : X → Bool) (xs : List X) → ((x : X) → Contains xs x → p x ≡ true) → list_all p xs ≡ true
all_pass p xs each = list_all-from_AllPass p xs (λ k d low. each _ (All-contains_itself xs k d low))

-- each try is that of a member, and holds
pub try_holds : (ops : List Op) (d : ℕ) (refutation : Refutation) → RefutationHolds ops d refutation → (attempt : Try) → Contains refutation.tries attempt
    → (member : ℕ) × TryHolds ops d refutation.stuck member attempt
try_holds ops d refutation holds attempt c =
    let many = holds.as_many in
    let low = c.1 in
    let (member, at) = something_at refutation.stuck c.0 (omega arith) in
    (member, holds.each c.0 member attempt at (at_its_place refutation.tries attempt c))

tries_have_chains : (ops : List Op) (part : TwoPart) → ShowsTwo ops part → two_has_chains part ≡ true
tries_have_chains ops (Yes order) shown = refl
tries_have_chains ops (No refutation) shown =
    all_pass has_chain refutation.tries (λ attempt c.
    let (member, holds) = try_holds ops 0 refutation shown attempt c in
    lt-ltb 0 (length attempt.chain) (slice_get_within attempt.chain 0 member holds.begins))

pub shown_have_chains : ShownHaveChains
shown_have_chains ops (Duplicate rec) shown = refl
shown_have_chains ops (Unmatched rec) shown = refl
shown_have_chains ops (Infinite rec) shown = refl
shown_have_chains ops (Judged judgement) shown = tries_have_chains ops judgement.two shown.two
