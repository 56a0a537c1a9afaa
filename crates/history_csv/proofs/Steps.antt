-- One read of a record, in the words of what is left to read.
use Rattle.std.proofs.Common.{◌≡◌, ℕ, Bool, true, false, List, [], ◌∷◌, Some, Bor, refl, ◌∙◌, inl}
use Rattle.csv.specs.Machine.{Read}
use Rattle.csv.specs.Reading.{is_flexible, default_config, ReadRecord, Reached, took_first}
use Rattle.csv.specs.declared.parser.State.{State}
use Rattle.csv.proofs.ReadFacts.{rows-more, rows-end}
use Rattle.history_csv.specs.Records.{BytesReader, IsReading, Takes, bytes_left, records_left}
use Rattle.history_csv.proofs.Fuel.{rest_of, rest-none, rest-some}

joined : (p : Read) (f : List (List ℕ)) (s : State) (z : List ℕ) → f ≡ p.0 → p.1 ≡ s → p.2 ≡ z → p.0 ∷ rest_of default_config p.1 p.2 ≡ f ∷ rest_of default_config s z
joined p f s z e g h = rw (e, g, h) refl

one_more : (a b : BytesReader) (f : List (List ℕ)) → IsReading a → ReadRecord (λ s. Some s.now) a b true f
    → (z : List ℕ) × (bytes_left b ≡ Some z) × (records_left a ≡ f ∷ rest_of default_config b.state z)
unfolding Reached
one_more a b f h r =
    let (y, source) = h.known in
    let (z, at_z, (p, next, same, (state, rest))) = rows-more (λ (s : Bor (List ℕ)). Some s.now) a b f default_config a.state y y [] h.default source (refl, refl) r in
    (z, at_z, rw source (rest-some default_config a.state y p next ∙ joined p f b.state z same state rest))

-- what a read of a record shows, as the records that are left
pub takes : (a b : BytesReader) (found : Bool) (f : List (List ℕ)) → IsReading a → took_first b ≡ true → is_flexible b ≡ is_flexible a → ReadRecord (λ s. Some s.now) a b found f → Takes a found f b
takes a b true f h first flexible r =
    let (z, at_z, left) = one_more a b f h r in
    let after : records_left b ≡ rest_of default_config b.state z = rw at_z refl in (
      rw after left,
      record { untrimmed = r.3 ∙ h.untrimmed; ready = inl first; default = r.2 ∙ h.default; flexible = flexible ∙ h.flexible; known = (z, at_z) },
    )
takes a b false f h first flexible r =
    let (y, source) = h.known in
    rw source (rest-none default_config a.state y (rows-end (λ (s : Bor (List ℕ)). Some s.now) a b f default_config y h.default source r))
