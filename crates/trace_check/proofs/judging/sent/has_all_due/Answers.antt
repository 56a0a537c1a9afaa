use Rattle.std.proofs.Common.{sym, ◌∙◌}
use Rattle.trace_check.proofs.Sending.{all_due_at_first, all_sent, none_due}
use Rattle.trace_check.proofs.judging.sent.has_all_due.Goals as goal

pub returns-then-not-take_all : goal.returns-then-not-take_all
returns-then-not-take_all c =
    let first = all_due_at_first c.args.replica c.args.calls.now c.args.due.now c.requires.due in (
      (λ no. absurd (cc no)),
      (λ sent. absurd (c.if-not-take_all.ensures (λ client less. sent client less ∙ sym (first client less)))),
    )

pub returns : goal.returns
returns c =
    let first = all_due_at_first c.args.replica c.args.calls.now c.args.due.now c.requires.due in
    let taken = c.if-not-take_all.ensures in (
      (λ yes. all_sent c.args.replica c.args.calls.now c.take_all.new.due c.args.due.now c.args.journal.now first taken (c.is_nothing_due.ensures.0 yes)),
      (λ sent. c.is_nothing_due.ensures.1 (none_due c.args.replica c.args.calls.now c.take_all.new.due c.args.due.now c.args.journal.now first taken sent)),
    )
