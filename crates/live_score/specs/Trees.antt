-- Trees of places, which serve the code alone.
use Rattle.std.specs.Prelude.{◌≡◌, ℕ, max, List, [], ◌∷◌, ◌++◌, length}
use Rattle.live_score.specs.declared.places.Place.{Place}
use Rattle.live_score.specs.declared.places.leaf.Leaf.{Leaf}
use Rattle.live_score.specs.declared.places.tree.Tree.{Tree}
use Rattle.live_score.specs.declared.places.tree.Tree.TheVariants.{Leaf as One, Node'}
use Rattle.live_score.specs.Places.{score}

-- the greatest f, w and s of two
abbrev pub join : Place → Place → Place
join a b = record { f = max a.f b.f; w = max a.w b.w; s = max a.s b.s }

-- the greatest f, w and s of no place
abbrev pub nothing : Place
nothing = record { f = 0; w = 0; s = 0 }

-- the greatest f, w and s of places
abbrev pub top_of : List Place → Place
top_of [] = nothing
top_of (x ∷ xs) = join x (top_of xs)

-- the greatest score of c with one of the places; 0 where there is none
abbrev pub greatest : Place → List Place → ℕ
greatest c [] = 0
greatest c (x ∷ xs) = max (score c x) (greatest c xs)

-- the places of a tree, in order
abbrev pub places_of : Tree → List Place
places_of (One leaf) = leaf.places.items
places_of (Node' p left size top q right) = places_of left ++ places_of right

-- a leaf has the top of its places
abbrev pub IsSummedLeaf : Leaf → Type 0
IsSummedLeaf leaf = leaf.top ≡ top_of leaf.places.items

-- each node has how many places its left side has, and the top of all its places
abbrev pub IsSummed : Tree → Type 0
IsSummed (One leaf) = IsSummedLeaf leaf
IsSummed (Node' p left size top q right) =
    (size ≡ length (places_of left)) × (top ≡ join (top_of (places_of left)) (top_of (places_of right))) × IsSummed left × IsSummed right
