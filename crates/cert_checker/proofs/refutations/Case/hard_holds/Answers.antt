use Rattle.std.proofs.Common.{refl, sym, true≢false}
use Rattle.cert_checker.proofs.Unplaced.{hard_from_write, write_from_hard}
use Rattle.cert_checker.proofs.refutations.Case.hard_holds.Goals as goal

pub returns-in-Read : goal.returns-in-Read
returns-in-Read c = λ chain e walked. (
  λ t. absurd (true≢false (sym t)),
  λ h.
      let write = write_from_hard c.args.self.now c.requires.case chain e c.args.p c.args.u c.in-Some.b (c.in-Some.ensures chain e walked) h in
      let read = c.in-Read.is in
      absurd (cc),
)

pub returns-in-Write : goal.returns-in-Write
returns-in-Write c = λ chain e walked. (
  λ t. hard_from_write c.args.self.now c.requires.case chain e c.args.p c.args.u c.in-Some.b (c.in-Some.ensures chain e walked) c.in-Write.is,
  λ h. refl,
)

pub returns-in-None : goal.returns-in-None
returns-in-None c = λ chain e walked. (λ t. absurd (true≢false (sym t)), λ h. absurd (c.in-None.ensures chain e walked h.late))
