-- How the literals of fields become those of levels, and the reverse.
use Rattle.std.specs.Prelude.{ℕ, zero, suc, ◌≡◌, ◌*◌, Bool, List, [], ◌∷◌, ◌++◌, drop, slice_index_or}
use Rattle.can_gates.specs.declared.literal.Literal.{Literal}
use Rattle.can_gates.specs.Circuit.{never, always}
use Rattle.can_gates.specs.Words.{number}
use Rattle.can_gates_controller.specs.declared.fields.Fields.{Fields}
use Rattle.can_gates_controller.specs.Fields.{bytes_in}

-- the first n literals, the last of them first: a word has its lowest bit first, and on the bus the highest is sent
-- first. Past the end literals are false
unfoldable pub turned_word : ℕ → List Literal → List Literal
turned_word zero items = []
turned_word (suc n) items = slice_index_or items n never ∷ turned_word n items

-- the first n bytes, each of eight literals, the last of them first
unfoldable pub turned_bytes : ℕ → List Literal → List Literal
turned_bytes zero items = []
turned_bytes (suc n) items = turned_word 8 items ++ turned_bytes n (drop 8 items)

-- from its RTR bit on: in a standard frame IDE and r0 follow it, in an extended one r1 and r0; then in both the data
-- length code, its highest bit first, and the data
abbrev pub behind_list : Fields → List Literal → List Literal
behind_list k bytes = k.remote ∷ never ∷ never ∷ k.dlc.eights ∷ k.dlc.fours ∷ k.dlc.twos ∷ k.dlc.ones ∷ bytes

-- a standard frame, from the start of frame to the end of these data
abbrev pub standard_list : Fields → List Literal → List Literal
standard_list k bytes = never ∷ (turned_word 11 k.identifier ++ behind_list k bytes)

-- an extended one
abbrev pub extended_list : Fields → List Literal → List Literal
extended_list k bytes =
    never ∷
    (turned_word 11 (drop 18 k.identifier) ++ always ∷ always ∷ (turned_word 18 k.identifier ++ behind_list k bytes))

-- the identifier of an extended frame that begins with these levels, the lowest bit first
abbrev pub long_list : List Literal → List Literal
long_list levels = turned_word 18 (drop 14 levels) ++ turned_word 11 (drop 1 levels)

-- that of a standard one
abbrev pub short_list : List Literal → List Literal
short_list levels = turned_word 11 (drop 1 levels)

-- the first n bytes are those of other data, and 0 follows them
pub record IsCleared (v : ℕ → Bool) (made old : List Literal) (n : ℕ) : Type 0 where
  pub bytes : bytes_in v n made ≡ bytes_in v n old
  pub behind : number v (drop (8 * n) made) ≡ 0
