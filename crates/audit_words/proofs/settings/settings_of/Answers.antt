use Rattle.std.proofs.Common.{◌≡◌, Some, IfSome, sym, subst, rules}
use Rattle.clap.specs.Words.{found_of, rows_of}
use Rattle.stale_model.specs.Settings.{AreSettings}
use Rattle.audit_words.specs.Settings.{settings_of}
use Rattle.audit_words.proofs.WithinLimits.{settings_of-within}
use Rattle.audit_words.proofs.settings.settings_of.Goals as goal

pub returns-then-are_possible-clause-within : goal.returns-then-are_possible-clause-within
returns-then-are_possible-clause-within c =
    let said : Some c.in_ok-settings.settings ≡ settings_of (rows_of (found_of c.args.matches.now)) = search rules in
    subst (λ settings. IfSome settings AreSettings) (sym said) (settings_of-within (rows_of (found_of c.args.matches.now)))
