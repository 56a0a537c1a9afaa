use Rattle.std.proofs.Common.{◌≡◌, ◌∙◌, ◌||◌, Bool, false, List, ℕ, arith, codes}
use Rattle.std.specs.Str.{bytes_eq}
use Rattle.std.proofs.lemmas.Slice.Eq.{bytes_eq-Decides}
use Rattle.std.proofs.lemmas.Bool.{false_from_ne_true}
use Rattle.clap.proofs.WalkLemmas.{list_any-map}
use Rattle.audit_words.proofs.line.is_among.Goals as goal

-- texts that differ are not equal
differ : (a b : List ℕ) → (a ≡ b → ⊥) → bytes_eq a b ≡ false
differ a b other = false_from_ne_true (bytes_eq a b) (λ same. other ((bytes_eq-Decides a b).0 same))

-- where the first two fail, it is the third
third : (a b c result : Bool) → a ≡ false → b ≡ false → result ≡ c → result ≡ (a || b || c)
third a b c result not_a not_b is = grind arith

pub returns-in_default : goal.returns-in_default
returns-in_default c =
    third (bytes_eq c.args.id.now (codes "mode")) (bytes_eq c.args.id.now (codes "args")) _ _
    (differ _ _ c.in_default.not-mode) (differ _ _ c.in_default.not-args)
    (c.contains.ensures.value ∙ list_any-map (λ option. bytes_eq option c.args.id.now) (λ option. option.now) c.args.options.now)
