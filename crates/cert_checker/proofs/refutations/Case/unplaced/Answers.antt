use Rattle.std.proofs.Common.{sym, ◌∙◌, true≢false}
use Rattle.cert_checker.specs.RefutationSteps.{case_ops}
use Rattle.cert_checker.proofs.Lookups.{of_record}
use Rattle.cert_checker.proofs.Unplaced.{found_unplaced, unmarked_from_late}
use Rattle.cert_checker.proofs.refutations.Case.unplaced.Goals as goal

pub returns-in_err-a : goal.returns-in_err-a
returns-in_err-a c = λ chain e walked. rw c.from_residual.ensures (λ late. c.in_err-a.ensures late.a late.a_is)

pub returns-in_err-b : goal.returns-in_err-b
returns-in_err-b c = λ chain e walked. rw c.from_residual-in_err-b.ensures (λ late. c.in_err-b.ensures late.b late.b_is)

pub returns-then-precedes_unmarked : goal.returns-then-precedes_unmarked
returns-then-precedes_unmarked c = λ chain e walked.
    found_unplaced c.args.self.now c.requires.case chain c.args.marks.now c.args.mark c.args.value e walked c.args.p c.args.x c.in_ok-a.field-0.op c.in_ok-b.field-0.op
    (of_record (case_ops c.args.self.now) c.args.p c.in_ok-a.field-0 c.in_ok-a.ensures) (of_record (case_ops c.args.self.now) c.args.x c.in_ok-b.field-0 c.in_ok-b.ensures)
    (c.precedes_unmarked.ensures.0 c.if-precedes_unmarked.true)

pub returns-else-precedes_unmarked : goal.returns-else-precedes_unmarked
returns-else-precedes_unmarked c = λ chain e walked late.
    true≢false
    (sym
    (c.precedes_unmarked.ensures.1
    (unmarked_from_late c.args.self.now c.requires.case chain c.args.marks.now c.args.mark c.args.value e walked c.args.p c.args.x c.in_ok-a.field-0.op c.in_ok-b.field-0.op
    (of_record (case_ops c.args.self.now) c.args.p c.in_ok-a.field-0 c.in_ok-a.ensures) (of_record (case_ops c.args.self.now) c.args.x c.in_ok-b.field-0 c.in_ok-b.ensures) late))
    ∙ c.if-precedes_unmarked.false)
