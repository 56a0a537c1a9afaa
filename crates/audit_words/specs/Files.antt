-- Names of files.
use Rattle.std.specs.Prelude.{◌&&◌, nat_lt, not, Bool, length}
use Rattle.std.specs.Str.{bytes_eq}
use Rattle.clap.specs.Words.{Text}

-- whether a text names a file
abbrev pub is_name : Text → Bool
is_name text = nat_lt 0 (length text)

-- whether two texts name two files
abbrev pub are_two_names : Text → Text → Bool
are_two_names one other = is_name one && is_name other && not (bytes_eq one other)
