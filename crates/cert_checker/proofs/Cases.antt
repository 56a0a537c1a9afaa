-- What is known of a case that tries are checked against.
use Rattle.std.proofs.Common.{◌≡◌, ◌<◌, ℕ, true, false, Some, length, get_or, sym, ◌∙◌, ap, arith, true≢false}
use Rattle.std.specs.Prelude.{Contains}
use Rattle.std.proofs.lemmas.Option.{slice_get-get_or, get_or_from_slice_get}
use Rattle.stale_model.specs.NamedWrites.{NamesItsWrites}
use Rattle.model_laws.proofs.Named.{matched_keys_name_their_writes}
use Rattle.stale_model.proofs.Places.{contains_at}
use Rattle.cert_checker.specs.declared.refutations.Case.{Case}
use Rattle.cert_checker.specs.declared.refutations.Span.{Span}
use Rattle.cert_checker.specs.RefutationSteps.{case_ops, case_stuck, IsCase, IsSpan, IsWrittenBy}
use Rattle.cert_checker.proofs.MemberMarks.{stands_in, written_in_slots}

-- the key of a case names its writes
pub case_names : (case : Case) → IsCase case → NamesItsWrites (case_ops case)
case_names case is = matched_keys_name_their_writes case.key.now is.valid is.matched

-- the span that stands at a value
abbrev pub span_in : Case → ℕ → Span
span_in case value = get_or case.spans.now value (record { finish = 0; start = 0 })

pub span_at : (case : Case) (is : IsCase case) (value c : ℕ) → IsWrittenBy (case_ops case) value c → IsSpan (case_ops case) (length (case_ops case)) value (span_in case value)
span_at case is value c by =
    let low = written_in_slots case.key.now value c is.valid by in
    let size = is.spans_size in
    is.spans value (span_in case value) (slice_get-get_or case.spans.now value (record { finish = 0; start = 0 }) (omega arith))

-- a value that is written is marked exactly where the record of its write is a member
module _ (case : Case) (is : IsCase case) (value rec : ℕ) (by : IsWrittenBy (case_ops case) value rec) where
  wide : value < length case.members.now
  wide = let low = written_in_slots case.key.now value rec is.valid by in let size = is.members_size in omega arith

  pub member_from_mark : get_or case.members.now value false ≡ true → Contains (case_stuck case) rec
  member_from_mark e =
      let s = is.members.marked.only value rec by (slice_get-get_or case.members.now value false wide ∙ ap (λ x. Some x) e) in
      contains_at (case_stuck case) s.earlier rec s.there

  pub no_member : get_or case.members.now value false ≡ false → Contains (case_stuck case) rec → ⊥
  no_member e c =
      true≢false (sym (get_or_from_slice_get case.members.now value true false (is.members.marked.marked value rec by (stands_in (case_stuck case) rec c))) ∙ e)
