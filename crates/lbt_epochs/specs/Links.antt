-- Places that are linked in a ring, each with the one before it and the one after it. One more node stands for both ends.
use Rattle.std.specs.Prelude.{◌≡◌, ℕ, ◌+◌, ◌<◌, ◌≤◌, ◌^◌, nat_lt, ◌==◌, not, Bool, true, false, List, [], ◌∷◌, filter, length, slice_index, slice_set, if◌then◌else◌, Option, Some, None}
use Rattle.std.specs.List.{list_any, range_with_len}
use Rattle.lbt_epochs.specs.Lists.{Lists}

-- what stands after each node, and what stands before it
pub record Links : Type 0 where
  pub next : List ℕ
  pub previous : List ℕ

-- the node after this one
abbrev pub after : Links → ℕ → ℕ
after links at = slice_index links.next at

-- the node before this one
abbrev pub before : Links → ℕ → ℕ
before links at = slice_index links.previous at

-- b is made to follow a
abbrev pub tie : Links → ℕ → ℕ → Links
tie links a b = record { next = slice_set links.next a b; previous = slice_set links.previous b a }

-- b follows a
abbrev pub IsTied : Links → ℕ → ℕ → Type 0
IsTied links a b = (after links a ≡ b) × (before links b ≡ a)

-- a node is left out: what stood after it follows what stood before it
abbrev pub unlinked : Links → ℕ → Links
unlinked links at = tie links (before links at) (after links at)

-- a node stands again between its two
abbrev pub relinked : Links → ℕ → Links
relinked links at = record { next = slice_set links.next (before links at) at; previous = slice_set links.previous (after links at) at }

-- a node comes between the last place and the end
abbrev pub with_last : Links → ℕ → ℕ → Links
with_last links end at = tie (tie links (before links end) at) at end

-- each node up to the end stands alone
abbrev pub all_alone : ℕ → Links
all_alone end = record { next = range_with_len 0 (end + 1); previous = range_with_len 0 (end + 1) }

-- the place after this one, if it is not the end
abbrev pub place_after : Links → ℕ → Option ℕ
place_after links at = if nat_lt (after links at + 1) (length links.next) then Some (after links at) else None

-- whether a list has a place
abbrev pub has : List ℕ → ℕ → Bool
has xs at = list_any (λ other. other == at) xs

-- the places but this one
abbrev pub without : ℕ → List ℕ → List ℕ
without at xs = filter (λ other. not (at == other)) xs

-- no place stands twice
abbrev pub AreApart : List ℕ → Type 0
AreApart [] = Unit {0}
AreApart (x ∷ xs) = (has xs x ≡ false) × AreApart xs

-- these follow one another from a on, up to the end
abbrev pub IsChain : Links → ℕ → ℕ → List ℕ → Type 0
IsChain links end a [] = IsTied links a end
IsChain links end a (x ∷ xs) = IsTied links a x × IsChain links end x xs

-- the order is a ring through the end, and each other of the places stands alone
pub record IsRing (end : ℕ) (places order : List ℕ) (links : Links) : Type 0 where
  pub next_nodes : length links.next ≡ end + 1
  pub previous_nodes : length links.previous ≡ end + 1
  pub apart : AreApart order
  pub order_below : (at : ℕ) → has order at ≡ true → at < end
  pub places_below : (at : ℕ) → has places at ≡ true → at < end
  pub chain : IsChain links end end order
  pub alone : (at : ℕ) → has places at ≡ true → has order at ≡ false → IsTied links at at

-- the links after these were left out one after another
abbrev pub unlinked_all : Links → List ℕ → Links
unlinked_all links [] = links
unlinked_all links (x ∷ xs) = unlinked_all (unlinked links x) xs

-- these are taken from the places one after another
abbrev pub AreTakenFrom : List ℕ → List ℕ → Type 0
AreTakenFrom places [] = Unit {0}
AreTakenFrom places (x ∷ xs) = (has places x ≡ true) × AreTakenFrom (without x places) xs

-- the links are those of the whole order, from which the placed were left out
pub record AreLeft (places order placed : List ℕ) (links : Links) : Type 0 where
  pub whole : Links
  pub ring : IsRing (length places) places order whole
  pub taken : links ≡ unlinked_all whole placed

-- each node leads to a node, and the nodes' numbers fit
pub record AreNodes (links : Links) : Type 0 where
  pub some : 0 < length links.next
  pub same : length links.previous ≡ length links.next
  pub few : length links.next ≤ 2 ^ 32
  pub after_within : (at : ℕ) → after links at < length links.next
  pub before_within : (at : ℕ) → before links at < length links.next

-- the placed were taken from the candidates, there is room for all of them, and the links of each order are those of what is left
pub record AreKept (lists : Lists) (room : ℕ) (by_candidate by_write by_read : Links) : Type 0 where
  pub taken : AreTakenFrom lists.candidates lists.placed
  pub enough : length lists.candidates ≤ room
  pub candidates : AreLeft lists.candidates lists.candidates lists.placed by_candidate
  pub writes : AreLeft lists.candidates lists.writes lists.placed by_write
  pub reads : AreLeft lists.candidates lists.reads lists.placed by_read
