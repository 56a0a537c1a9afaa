-- The settings of a run of the store that the options of a command line say.
use Rattle.std.specs.Prelude.{ℕ, ◌*◌, ◌&&◌, nat_le, Bool, if◌then◌else◌, List, Option, Some, None, option_and_then, codes}
use Rattle.clap.specs.Words.{Row, Text, first_of}
use Rattle.stale_model.specs.declared.store.Settings.{Settings}
use Rattle.audit_words.specs.Numbers.{number_or}

-- the number of this option: a default where it is not given, and else from least to most
abbrev pub option_of : List Row → Text → ℕ → ℕ → ℕ → Option ℕ
option_of rows name default least most = number_or default least most (first_of name rows)

-- the settings of these numbers: clients, replicas, calls, keys, both quorums, writes, seed and shards
abbrev pub settings_with : (clients replicas calls keys read_quorum write_quorum writes seed shards : Option ℕ) → Option Settings
settings_with (Some clients) (Some replicas) (Some calls) (Some keys) (Some read_quorum) (Some write_quorum) (Some writes) (Some seed) (Some shards) =
    Some (record {
      clients = clients;
      replicas = replicas;
      calls = calls;
      keys = keys;
      read_quorum = read_quorum;
      write_quorum = write_quorum;
      writes = writes;
      seed = seed;
      shards = shards;
    })
settings_with _ _ _ _ _ _ _ _ _ = None

-- the settings that the options say, each number within limits of its own
abbrev pub settings_in : List Row → Option Settings
settings_in rows = settings_with (option_of rows (codes "clients") 2 1 32) (option_of rows (codes "replicas") 3 1 7)
    (option_of rows (codes "calls") 100 1 100000) (option_of rows (codes "keys") 4 1 1000) (option_of rows (codes "read-quorum") 1 1 7)
    (option_of rows (codes "write-quorum") 1 1 7) (option_of rows (codes "writes") 50 0 100)
    (option_of rows (codes "seed") 1 0 18446744073709551615) (option_of rows (codes "shards") 1 1 16)

-- whether all clients together make at most 100,000 calls, and no quorum is above the number of replicas
abbrev pub are_possible : Settings → Bool
are_possible s = nat_le (s.clients * s.calls) 100000 && nat_le s.read_quorum s.replicas && nat_le s.write_quorum s.replicas

-- settings that are possible
abbrev pub if_possible : Settings → Option Settings
if_possible settings = if are_possible settings then Some settings else None

-- the settings that the options say, within all their limits
abbrev pub settings_of : List Row → Option Settings
settings_of rows = option_and_then if_possible (settings_in rows)
