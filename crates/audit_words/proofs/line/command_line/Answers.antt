use Rattle.std.proofs.Common.{rules, ap, ap₂, codes, ◌≡◌, ◌∙◌, true, IfOk, Result, Ok, Err}
use Rattle.clap.specs.Words.{App, app_of, new_app, rule_of, with_rule}
use Rattle.clap.specs.Simple.{app_of_fields}
use Rattle.clap.specs.declared.builder.command.Command.{Command}
use Rattle.audit_words.specs.Line.{command_line, mode_rule, args_rule, with_options}
use Rattle.audit_words.proofs.line.command_line.Goals as goal

-- words without the name of a program
abbrev bare : App → App
bare a = record a { top = record a.top { no_binary_name = true } }

-- a command that has this form has one that is the same
of_form : {E : Type 0} (result : Result Command E) (form same : App) → IfOk result (λ command. app_of command ≡ form) → form ≡ same
    → IfOk result (λ command. app_of command ≡ same)
of_form (Ok command) form same is equal = is ∙ equal
of_form (Err fault) form same is equal = tt

pub returns : goal.returns
returns c =
    let mode_is : rule_of c.required-mode.result ≡ mode_rule = search rules in
    let args_is : rule_of c.action-args.result ≡ args_rule = search rules in
    let bare_is : app_of c.no_binary_name-command.result ≡ bare (new_app (codes "audit_program")) =
    ap app_of_fields c.no_binary_name-command.ensures ∙ ap bare c.new-3.ensures.app in
    let form =
    c.in_ok-command-3.ensures.shape (search rules)
    ∙ ap₂ with_rule (c.in_ok-command-2.ensures.shape (search rules)
    ∙ ap₂ with_rule (c.in_ok-command.ensures.shape (search rules)
    ∙ ap₂ with_rule bare_is mode_is) args_is) c.option.ensures.rule in
    of_form c.with_options.result _ command_line c.with_options.ensures
    (ap₂ with_options c.bench_options.ensures form)
