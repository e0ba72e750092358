-- Which injected bit errors (hits) a bus accepts: their order, and the nodes that they name.
-- (docs/BUS.md, "Disturbances" and "Refusals")
use Rattle.std.specs.Prelude.{ℕ, nat_lt, ◌==◌, Bool, true, false, ◌&&◌, ◌||◌, List}
use Rattle.can_terms.specs.declared.hit.Hit.{Hit}
use Rattle.can_terms.specs.declared.hit.Hit.TheVariants.{At, In, View}
use Rattle.can_terms.specs.Sound.{FollowsLast, AreSound}

-- whether the pair (a, b) is greater than (c, d): the first number decides, then the second
abbrev pub is_pair_above : ℕ → ℕ → ℕ → ℕ → Bool
is_pair_above a b c d = nat_lt c a || ((c == a) && nat_lt d b)

-- whether the first hit is after the second in the order of hits: all `At` by rising time, then all `In`
-- by rising attempt and offset, then all `View` by rising time and node
abbrev pub is_above : Hit → Hit → Bool
is_above (At time) (At before) = nat_lt before time
is_above (At time) (In attempt offset) = false
is_above (At time) (View before node) = false
is_above (In attempt offset) (At before) = true
is_above (In attempt offset) (In other before) = is_pair_above attempt offset other before
is_above (In attempt offset) (View before node) = false
is_above (View time node) (At before) = true
is_above (View time node) (In attempt offset) = true
is_above (View time node) (View before other) = is_pair_above time node before other

-- whether the node that the hit names, if any, is one of this number of nodes
abbrev pub hit_names_port : ℕ → Hit → Bool
hit_names_port ports (At time) = true
hit_names_port ports (In attempt offset) = true
hit_names_port ports (View time node) = nat_lt node ports

-- the hit at this place is after the one before it in the order of hits
abbrev pub IsAboveLast : List Hit → ℕ → Hit → Type 0
IsAboveLast hits place hit = FollowsLast is_above hits place hit

-- the bus accepts these hits: they are in strictly rising order, and each node that one names exists
abbrev pub AreTaken : ℕ → List Hit → Type 0
AreTaken ports hits = AreSound is_above hit_names_port ports hits
