use Rattle.std.proofs.Common.{◌≡◌, ◌∙◌, List, map, take, drop, ap, sym}
use Rattle.std.proofs.lemmas.List.{drop-map, take-map}
use Rattle.clap.specs.Words.{Text, found_of, rows_of}
use Rattle.audit_words.specs.Line.{bench_options, settings_options, gives_only}
use Rattle.audit_words.proofs.line.gives_settings_only.Goals as goal

-- the names behind the first of them are those of the settings
behind_the_first : {X : Type 0} (name_of : X → Text) (options : List X) → map name_of options ≡ bench_options
    → map name_of (take 9 (drop 1 options)) ≡ settings_options
behind_the_first name_of options are =
    sym (take-map name_of 9 (drop 1 options)) ∙ ap (take 9) (sym (drop-map name_of 1 options)) ∙ ap (λ names. take 9 (drop 1 names)) are

pub returns : goal.returns
returns c =
    c.gives_only.ensures
    ∙ ap (λ names. gives_only names (rows_of (found_of c.args.matches.now)))
    (behind_the_first (λ name. name.now) c.bench_options.result c.bench_options.ensures)
