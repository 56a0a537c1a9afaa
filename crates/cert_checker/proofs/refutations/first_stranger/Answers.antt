use Rattle.std.proofs.Common.{rules, inl, inr, ◌<◌, ℕ, Bool, true, List, length, get_or, refl, ◌∙◌, subst, arith, true≢false}
use Rattle.std.proofs.lemmas.List.{length-set}
use Rattle.std.proofs.lemmas.Option.{slice_get-get_or, slice_get_read}
use Rattle.stale_model.specs.declared.Op.{Op}
use Rattle.stale_model.specs.declared.KeyOps.{KeyOps}
use Rattle.stale_model.specs.Operations.{operations}
use Rattle.stale_model.specs.Orders.{StandsAt}
use Rattle.stale_model.proofs.Places.{same_at}
use Rattle.model_laws.proofs.Named.{matched_keys_name_their_writes}
use Rattle.cert_checker.specs.OrderFaults.{StandsTo}
use Rattle.cert_checker.specs.RefutationSteps.{IsWrittenBy, IsWriteRecord, FindsWritten}
use Rattle.cert_checker.proofs.Marks.{good_more}
use Rattle.cert_checker.proofs.Written.{mark_more}
use Rattle.cert_checker.proofs.MemberMarks.{written_in_slots, write_record, stood_by_mark, first_stranger, members_to_end}
use Rattle.cert_checker.proofs.refutations.first_stranger.Goals as goal

pub returns-in_default : goal.returns-in_default
returns-in_default c =
    first_stranger (operations c.args.key.now) c.args.stuck.now c.loop-rec.rec-index c.loop-rec.invariant.good (get_or c.args.stuck.now c.loop-rec.rec-index 0)
    (slice_get-get_or c.args.stuck.now c.loop-rec.rec-index 0 c.loop-rec-test.true)
    (inr
    (stood_by_mark c.args.key.now c.args.stuck.now c.loop-rec.rec-index (get_or c.args.stuck.now c.loop-rec.rec-index 0) c.in-Some.value c.loop-rec.marks.items c.index.result.now c.requires.valid
    c.loop-rec.invariant.size c.loop-rec.invariant.marked (subst (FindsWritten (operations c.args.key.now) (get_or c.args.stuck.now c.loop-rec.rec-index 0)) c.in-Some.is c.written_value.ensures)
    c.index.ensures c.if-not-index.false))

pub returns-in_default-2 : goal.returns-in_default-2
returns-in_default-2 c =
    first_stranger (operations c.args.key.now) c.args.stuck.now c.loop-rec.rec-index c.loop-rec.invariant.good (get_or c.args.stuck.now c.loop-rec.rec-index 0)
    (slice_get-get_or c.args.stuck.now c.loop-rec.rec-index 0 c.loop-rec-test.true)
    (inl (subst (FindsWritten (operations c.args.key.now) (get_or c.args.stuck.now c.loop-rec.rec-index 0)) c.in_default.is c.written_value.ensures))

pub loop-rec-preserved : goal.loop-rec-preserved
loop-rec-preserved c = record {
  size = length-set marks value true ∙ c.loop-rec.invariant.size;
  good = good_more stuck n rec at (IsWriteRecord ops) (write_record ops value rec by) c.loop-rec.invariant.good fresh;
  marked = mark_more ops (matched_keys_name_their_writes key c.requires.valid c.requires.matched) stuck n rec value marks true at by wide c.loop-rec.invariant.marked;
}
  where
    key : KeyOps
    key = c.args.key.now

    ops : List Op
    ops = operations key

    stuck : List ℕ
    stuck = c.args.stuck.now

    n : ℕ
    n = c.loop-rec.rec-index

    rec : ℕ
    rec = get_or stuck n 0

    at : StandsAt stuck n rec
    at = slice_get-get_or stuck n 0 c.loop-rec-test.true

    value : ℕ
    value = c.in-Some.value

    marks : List Bool
    marks = c.loop-rec.marks.items

    by : IsWrittenBy ops value rec
    by = subst (FindsWritten ops rec) c.in-Some.is c.written_value.ensures

    wide : value < length marks
    wide = let low = written_in_slots key value rec c.requires.valid by in let size = c.loop-rec.invariant.size in omega arith

    fresh : StandsTo stuck n rec → ⊥
    fresh s =
        true≢false
        (same_at marks value true c.index.result.now (c.loop-rec.invariant.marked.marked value rec by s) (slice_get_read marks (length marks) value c.index.result.now refl wide c.index.ensures)
        ∙ c.if-not-index.true)

pub returns : goal.returns
returns c = (
  members_to_end (operations c.args.key.now) c.args.stuck.now c.loop-rec.rec-index c.loop-rec.invariant.good c.loop-rec.marks.items (search rules) (search rules) c.loop-rec.invariant.marked,
  c.loop-rec.invariant.size,
)
