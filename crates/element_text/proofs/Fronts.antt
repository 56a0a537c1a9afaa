-- Texts that gained a front of what was to come.
use Rattle.std.proofs.Common.{◌≡◌, ℕ, List, [], ◌++◌, take, drop, Result, Ok, Err, OnErr, refl, sym, ap, ◌∙◌, append_assoc}
use Rattle.std.proofs.lemmas.List.{append-nil, take-append-drop}
use Rattle.std.proofs.lemmas.List.Concat.{flat_map-append}
use Rattle.element_text.specs.Elements.{escaped_byte, escaped}
use Rattle.element_text.specs.Gains.{GainsFront}

-- nothing is a front of all
pub front_none : (old new whole : List ℕ) → new ≡ old → GainsFront old new whole
front_none old new whole e = record { gained = []; missing = whole; new_is = e ∙ sym (append-nil old); whole_is = refl }

-- a front of what comes first is one of the whole
pub front_more : (old new first second : List ℕ) → GainsFront old new first → GainsFront old new (first ++ second)
front_more old new first second front =
    record { gained = front.gained; missing = front.missing ++ second; new_is = front.new_is; whole_is = ap (λ (t : List ℕ). t ++ second) front.whole_is ∙ append_assoc front.gained front.missing second }

-- all of what comes first, and a front of what comes second
pub front_then : (old mid new first second : List ℕ) → mid ≡ old ++ first → GainsFront mid new second → GainsFront old new (first ++ second)
front_then old mid new first second e front =
    record {
      gained = first ++ front.gained;
      missing = front.missing;
      new_is = front.new_is ∙ ap (λ (t : List ℕ). t ++ front.gained) e ∙ append_assoc old first front.gained;
      whole_is = ap (λ (t : List ℕ). first ++ t) front.whole_is ∙ sym (append_assoc first front.gained front.missing);
    }

-- the first so many words, escaped
pub front_of_words : (old new words : List ℕ) (n : ℕ) → new ≡ old ++ escaped (take n words) → GainsFront old new (escaped words)
front_of_words old new words n e =
    record {
      gained = escaped (take n words);
      missing = escaped (drop n words);
      new_is = e;
      whole_is = ap (λ (t : List ℕ). escaped t) (sym (take-append-drop n words)) ∙ flat_map-append escaped_byte (take n words) (drop n words);
    }

-- a fact holds of an error too
pub at_error : {T E : Type 0} (r : Result T E) (P : Type 0) → P → OnErr r P
at_error (Ok value) P holds = tt
at_error (Err error) P holds = holds
