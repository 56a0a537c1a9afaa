-- The form of the command line, as the port of `clap` sees it.
use Rattle.std.specs.Prelude.{◌||◌, true, Bool, if◌then◌else◌, List, [], ◌∷◌, fold, map, Option, Some, None, codes}
use Rattle.std.specs.List.{list_all, list_any}
use Rattle.std.specs.Str.{bytes_eq}
use Rattle.clap.specs.Words.{App, Row, Rule, Text, fault_of, matches_of, new_app, new_rule, with_rule}
use Rattle.clap.specs.Walk.{is_empty}
use Rattle.clap.specs.declared.builder.ArgAction.TheVariants.{Append}

-- the mode has to be there
abbrev pub mode_rule : Rule
mode_rule = record (new_rule (codes "mode")) { required = true }

-- all words after the mode that are no options
abbrev pub args_rule : Rule
args_rule = record (new_rule (codes "args")) { action = Some Append }

-- an option with a value
abbrev pub option_rule : Text → Rule
option_rule name = record (new_rule name) { long = Some name }

-- a command with these options too, in their order
abbrev pub with_options : List Text → App → App
with_options names command = fold (λ made name. with_rule made (option_rule name)) command names

-- the options that say the settings of a run of the store
abbrev pub settings_options : List Text
settings_options =
    codes "clients" ∷ codes "replicas" ∷ codes "calls" ∷ codes "keys" ∷ codes "read-quorum" ∷ codes "write-quorum" ∷ codes "writes" ∷ codes "seed"
    ∷ codes "shards" ∷ []

-- the options of a run of the store: the number of workers, and its settings
abbrev pub bench_options : List Text
bench_options = codes "workers" ∷ settings_options

-- the command line, without the name of the program: a mode, its arguments, and the options
abbrev pub command_line : App
command_line = record (new_app (codes "audit_program")) {
  top = record ((new_app (codes "audit_program")).top) {
    no_binary_name = true;
    rules = mode_rule ∷ args_rule ∷ map option_rule (codes "cert" ∷ bench_options);
  };
}

-- whether this is the mode, the arguments or one of these options
abbrev pub is_among : List Text → Text → Bool
is_among options id = bytes_eq id (codes "mode") || bytes_eq id (codes "args") || list_any (λ option. bytes_eq option id) options

-- whether no options but these are given
abbrev pub gives_only : List Text → List Row → Bool
gives_only options rows = list_all (λ row. is_among options row.id) rows

-- the entries of the words; none where the command line does not take them
abbrev pub entries_of : List Text → Option (List Row)
entries_of words = if is_empty (fault_of command_line words) then Some (matches_of command_line words) else None
