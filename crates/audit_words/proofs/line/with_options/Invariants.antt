use Rattle.std.proofs.Common.{◌≡◌, take, map}
use Rattle.clap.specs.Words.{app_of}
use Rattle.audit_words.specs.Line.{with_options}
use Rattle.audit_words.proofs.line.with_options.Given as goal

abbrev pub invariant-loop-name : goal.invariant-loop-name
invariant-loop-name l = record {
  made : app_of l.made ≡ with_options (map (λ name. name.now) (take l.name-index l.names)) (app_of l.fn.command);
}
