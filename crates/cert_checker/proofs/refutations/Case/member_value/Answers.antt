use Rattle.cert_checker.proofs.Cases.{member_from_mark, no_member}
use Rattle.cert_checker.proofs.refutations.Case.member_value.Goals as goal

pub returns-in_err-value : goal.returns-in_err-value
returns-in_err-value c = rw c.from_residual.ensures
    (λ member. let (w, is, write) = c.requires.members.writes c.args.rec member in c.in_err-value.ensures w is write)

pub returns-then-self-value : goal.returns-then-self-value
returns-then-self-value c = (c.in_ok-value.ensures, member_from_mark c.args.self.now c.requires c.in_ok-value.value c.args.rec c.in_ok-value.ensures c.if-self-value.true)

pub returns-else-self-value : goal.returns-else-self-value
returns-else-self-value c = no_member c.args.self.now c.requires c.in_ok-value.value c.args.rec c.in_ok-value.ensures c.if-self-value.false
