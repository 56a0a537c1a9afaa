use Rattle.std.proofs.Common.{sym, true≢false}
use Rattle.cert_checker.proofs.Unplaced.{soft_from_reads, reads_from_soft}
use Rattle.cert_checker.proofs.refutations.Case.soft_holds.Goals as goal

pub returns-in_default : goal.returns-in_default
returns-in_default c = λ chain e walked. (λ t. absurd (true≢false (sym t)), λ h. absurd (c.in_default.ensures chain e walked h.late))

pub returns-in_default-unplaced : goal.returns-in_default-unplaced
returns-in_default-unplaced c = λ chain e walked. (λ t. absurd (true≢false (sym t)), λ h. absurd (c.in_default-unplaced.ensures chain e walked h.late2))

pub returns : goal.returns
returns c = λ chain e walked.
    let first = c.in-Some.ensures chain e walked in
    let second = c.in-Some-unplaced.ensures chain e walked in (
      λ t. soft_from_reads c.args.self.now c.requires.case chain e c.args.p c.args.q c.args.q2 c.in-Some.a c.in-Some-unplaced.b first second (c.are_reads_apart.ensures.0 t),
      λ h. c.are_reads_apart.ensures.1 (reads_from_soft c.args.self.now c.requires.case chain e c.args.p c.args.q c.args.q2 c.in-Some.a c.in-Some-unplaced.b first second h),
    )
