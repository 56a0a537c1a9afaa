use Rattle.std.proofs.Common.{sym, ◌∙◌, subst, inl, inr, true≢false}
use Rattle.cert_checker.specs.States.{StateHolds}
use Rattle.cert_checker.proofs.KeyStates.{wrong_kind, kind_of_clear}
use Rattle.cert_checker.proofs.keys.kind_fault.Goals as goal

pub returns-in-Duplicate : goal.returns-in-Duplicate
returns-in-Duplicate c = λ ops holds.
    wrong_kind ops c.args.verdict.now c.args.state c.in-Duplicate.rec (λ e. true≢false (sym (c.if-names_state.ensures.1 e))) holds
    (inl (subst (StateHolds ops) c.in-Duplicate.is holds))

pub returns-in-Unmatched : goal.returns-in-Unmatched
returns-in-Unmatched c = λ ops holds.
    wrong_kind ops c.args.verdict.now c.args.state c.in-Unmatched.rec (λ e. true≢false (sym (c.if-names_state.ensures.1 e))) holds
    (inr (inl (subst (StateHolds ops) c.in-Unmatched.is holds)))

pub returns-in-Early : goal.returns-in-Early
returns-in-Early c = λ ops holds.
    wrong_kind ops c.args.verdict.now c.args.state c.in-Early.rec (λ e. true≢false (sym (c.if-names_state.ensures.1 e))) holds
    (inr (inr (subst (StateHolds ops) c.in-Early.is holds)))

pub returns-in-Clear : goal.returns-in-Clear
returns-in-Clear c = λ ops holds.
    rw c.named_record.ensures
    (kind_of_clear ops c.args.verdict.now (λ e. true≢false (sym (c.if-names_state.ensures.1 (e ∙ sym c.in-Clear.is)))) (subst (StateHolds ops) c.in-Clear.is holds))
