use Rattle.std.proofs.Common.{◌≡◌, ◌∙◌, sym, ap, ap₂, subst, refl, rules, arith, inl, inr, List, [], ◌∷◌, Some, None, cond, true, false}
use Rattle.clap.specs.Words.{HasKind, Kinds, Row, Text, app_of, fault_of, is_simple_and_free, is_simple, kind_of, matches_of}
use Rattle.clap.specs.Walk.{is_empty}
use Rattle.clap.proofs.OnLiterals.{clap_on_literals}
use Rattle.clap.specs.declared.error.Error.{Error}
use Rattle.clap.specs.declared.error.kind.ErrorKind.TheVariants as kind
use Rattle.audit_words.specs.Line.{command_line, entries_of}
use Rattle.audit_words.proofs.Same.{map_same}
use Rattle.audit_words.proofs.line.matches_of.Goals as goal

-- the command line is simple, and has nothing that excludes another
is_free : is_simple_and_free command_line ≡ true
unfolding clap_on_literals
is_free = refl

-- the command line is simple
is_plain : is_simple command_line ≡ true
unfolding clap_on_literals
is_plain = refl

-- where the command line takes the words, these are its entries
taken : (rows : List Row) (words : List Text) → rows ≡ matches_of command_line words → fault_of command_line words ≡ [] → Some rows ≡ entries_of words
taken rows words matches none =
    ap (λ entries. Some entries) matches ∙ sym (ap (λ kinds. cond (is_empty kinds) (Some (matches_of command_line words)) None) none)

-- an error that is no want of memory has a kind
has_kind : (kinds : Kinds) (error : Error) → HasKind kinds error → (kind_of error ≡ kind.OutOfMemory → ⊥) → is_empty kinds ≡ false
has_kind [] error (inl memory) other = absurd (other memory)
has_kind [] error (inr among) other = absurd among
has_kind (k ∷ ks) error either other = grind arith

-- where it does not take them, there are none
refused : (words : List Text) (error : Error) → HasKind (fault_of command_line words) error → (kind_of error ≡ kind.OutOfMemory → ⊥)
    → None ≡ entries_of words
refused words error fails other =
    sym (ap (λ empty. cond empty (Some (matches_of command_line words)) None) (has_kind (fault_of command_line words) error fails other))

pub returns-in-Ok-try_get_matches_from : goal.returns-in-Ok-try_get_matches_from
returns-in-Ok-try_get_matches_from c =
    let parse = c.in-Ok-try_get_matches_from in
    let line : app_of c.in-Ok.command ≡ command_line = c.in-Ok.ensures in
    let none = ap₂ fault_of (sym line) (sym (map_same c.args.words.now)) ∙ parse.ensures.kinds (ap is_simple_and_free line ∙ is_free) in
    let rows = (parse.ensures.matches (ap is_simple line ∙ is_plain)).0 ∙ ap₂ matches_of line (map_same c.args.words.now) in
    taken _ c.args.words.now rows none

pub returns : goal.returns
returns c =
    let line : app_of c.in-Ok.command ≡ command_line = c.in-Ok.ensures in
    let faults : fault_of (app_of c.in-Ok.command) _ ≡ fault_of command_line c.args.words.now = ap₂ fault_of line (map_same c.args.words.now) in
    let other : kind_of c.in-Err.error ≡ kind.OutOfMemory → ⊥ = search rules in
    let fails = c.in-Err.ensures.kinds (ap is_simple_and_free line ∙ is_free) in
    refused c.args.words.now c.in-Err.error (subst (λ kinds. HasKind kinds c.in-Err.error) faults fails) other
