-- The settings that words give are within their limits.
use Rattle.std.proofs.Common.{◌≡◌, ◌≤◌, ◌*◌, ◌&&◌, ℕ, Bool, true, false, if◌then◌else◌, nat_le, refl, lit≤, List, Option, Some, None, IfSome, option_and_then, codes}
use Rattle.std.proofs.lemmas.Bool.{leb-true}
use Rattle.clap.specs.Words.{Row, Text, first_of}
use Rattle.stale_model.specs.declared.store.Settings.{Settings}
use Rattle.stale_model.specs.Settings.{AreSettings}
use Rattle.audit_words.specs.Numbers.{number_of, number_or, within}
use Rattle.audit_words.specs.Settings.{if_possible, option_of, settings_in, settings_of, settings_with}

-- a number that is from least to most
abbrev pub IsFromTo : ℕ → ℕ → ℕ → Type 0
IsFromTo least most number = (least ≤ number) × (number ≤ most)

-- a number that passes both tests
tested : (above below : Bool) (least most number : ℕ) → (above ≡ true → least ≤ number) → (below ≡ true → number ≤ most)
    → IfSome (if above && below then Some number else None) (IsFromTo least most)
tested true true least most number from to = (from refl, to refl)
tested true false least most number from to = tt
tested false below least most number from to = tt

-- a number that is kept only from least to most
kept : (least most : ℕ) (number : Option ℕ) → IfSome (option_and_then (within least most) number) (IsFromTo least most)
kept least most None = tt
kept least most (Some number) =
    tested (nat_le least number) (nat_le number most) least most number (leb-true least number) (leb-true number most)

-- the number of an option, where the default is within its limits
pub number_or-within : (default least most : ℕ) (text : Option Text) → least ≤ default → default ≤ most
    → IfSome (number_or default least most text) (IsFromTo least most)
number_or-within default least most None from to = (from, to)
number_or-within default least most (Some text) from to = kept least most (number_of text)

-- each number is within limits of its own
record AreNumbers (s : Settings) : Type 0 where
  clients : IsFromTo 1 32 s.clients
  replicas : IsFromTo 1 7 s.replicas
  calls : IsFromTo 1 100000 s.calls
  keys : IsFromTo 1 1000 s.keys
  read_quorum : IsFromTo 1 7 s.read_quorum
  write_quorum : IsFromTo 1 7 s.write_quorum
  writes : IsFromTo 0 100 s.writes
  shards : IsFromTo 1 16 s.shards

-- settings of such numbers
are_numbers : (clients replicas calls keys read_quorum write_quorum writes seed shards : Option ℕ) → IfSome clients (IsFromTo 1 32)
    → IfSome replicas (IsFromTo 1 7) → IfSome calls (IsFromTo 1 100000) → IfSome keys (IsFromTo 1 1000) → IfSome read_quorum (IsFromTo 1 7)
    → IfSome write_quorum (IsFromTo 1 7) → IfSome writes (IsFromTo 0 100) → IfSome shards (IsFromTo 1 16)
    → IfSome (settings_with clients replicas calls keys read_quorum write_quorum writes seed shards) AreNumbers
are_numbers (Some _) (Some _) (Some _) (Some _) (Some _) (Some _) (Some _) (Some _) (Some _) c r n k q p w s = record {
  clients = c;
  replicas = r;
  calls = n;
  keys = k;
  read_quorum = q;
  write_quorum = p;
  writes = w;
  shards = s;
}
are_numbers None _ _ _ _ _ _ _ _ c r n k q p w s = tt
are_numbers (Some _) None _ _ _ _ _ _ _ c r n k q p w s = tt
are_numbers (Some _) (Some _) None _ _ _ _ _ _ c r n k q p w s = tt
are_numbers (Some _) (Some _) (Some _) None _ _ _ _ _ c r n k q p w s = tt
are_numbers (Some _) (Some _) (Some _) (Some _) None _ _ _ _ c r n k q p w s = tt
are_numbers (Some _) (Some _) (Some _) (Some _) (Some _) None _ _ _ c r n k q p w s = tt
are_numbers (Some _) (Some _) (Some _) (Some _) (Some _) (Some _) None _ _ c r n k q p w s = tt
are_numbers (Some _) (Some _) (Some _) (Some _) (Some _) (Some _) (Some _) None _ c r n k q p w s = tt
are_numbers (Some _) (Some _) (Some _) (Some _) (Some _) (Some _) (Some _) (Some _) None c r n k q p w s = tt

-- the settings that the options say
said : (rows : List Row) → IfSome (settings_in rows) AreNumbers
said rows =
    let number : (name : Text) (default least most : ℕ) → least ≤ default → default ≤ most
    → IfSome (option_of rows name default least most) (IsFromTo least most)
    = λ name default least most. number_or-within default least most (first_of name rows) in
    are_numbers _ _ _ _ _ _ _ _ _ (number (codes "clients") 2 1 32 (lit≤ tt) (lit≤ tt)) (number (codes "replicas") 3 1 7 (lit≤ tt) (lit≤ tt))
    (number (codes "calls") 100 1 100000 (lit≤ tt) (lit≤ tt)) (number (codes "keys") 4 1 1000 (lit≤ tt) (lit≤ tt))
    (number (codes "read-quorum") 1 1 7 (lit≤ tt) (lit≤ tt)) (number (codes "write-quorum") 1 1 7 (lit≤ tt) (lit≤ tt))
    (number (codes "writes") 50 0 100 (lit≤ tt) (lit≤ tt)) (number (codes "shards") 1 1 16 (lit≤ tt) (lit≤ tt))

-- settings that pass the tests
passed : (s : Settings) (calls read write : Bool) → AreNumbers s → (calls ≡ true → s.clients * s.calls ≤ 100000)
    → (read ≡ true → s.read_quorum ≤ s.replicas) → (write ≡ true → s.write_quorum ≤ s.replicas)
    → IfSome (if calls && read && write then Some s else None) AreSettings
passed s true true true are few reads writes = record {
  clients = are.clients;
  replicas = are.replicas;
  calls = (are.calls.0, few refl);
  keys = are.keys;
  read_quorum = (are.read_quorum.0, reads refl);
  write_quorum = (are.write_quorum.0, writes refl);
  writes = are.writes.1;
  shards = are.shards;
}
passed s false read write are few reads writes = tt
passed s true false write are few reads writes = tt
passed s true true false are few reads writes = tt

-- settings that are kept only where they are possible
possible : (settings : Option Settings) → IfSome settings AreNumbers → IfSome (option_and_then if_possible settings) AreSettings
possible None are = tt
possible (Some s) are = passed s (nat_le (s.clients * s.calls) 100000) (nat_le s.read_quorum s.replicas) (nat_le s.write_quorum s.replicas) are
    (leb-true _ _) (leb-true _ _) (leb-true _ _)

-- settings are within their limits
pub settings_of-within : (rows : List Row) → IfSome (settings_of rows) AreSettings
settings_of-within rows = possible (settings_in rows) (said rows)
