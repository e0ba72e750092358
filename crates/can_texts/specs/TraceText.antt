-- Trace text: levels as digits, with spaces and line ends between them. (docs/FORMATS.md, "`canbit decode`")
use Rattle.std.specs.Prelude.{◌≡◌, ℕ, ◌==◌, ◌||◌, if◌then◌else◌, Bool, true, false, List, [], ◌∷◌, ◌++◌, length}
use Rattle.std.specs.List.{flat_map, AllByRecursion}
use Rattle.can_frame.specs.declared.level.Level.{Level}
use Rattle.can_frame.specs.declared.level.Level.TheVariants.{Dominant, Recessive}

-- the level of a byte `0` or `1`; any other byte has none
abbrev pub levels_of_byte : ℕ → List Level
levels_of_byte byte = if byte == 48 then Dominant ∷ [] else if byte == 49 then Recessive ∷ [] else []

-- the levels of trace text
abbrev pub levels_in : List ℕ → List Level
levels_in text = flat_map levels_of_byte text

-- whether a byte is skipped: a space, 0x0a or 0x0d
abbrev pub is_skipped : ℕ → Bool
is_skipped byte = byte == 32 || byte == 10 || byte == 13

-- whether a byte is allowed in trace text
abbrev pub is_trace_byte : ℕ → Bool
is_trace_byte byte = byte == 48 || byte == 49 || is_skipped byte

-- each byte is allowed in trace text
abbrev pub IsTraceText : List ℕ → Type 0
IsTraceText text = AllByRecursion (λ byte. is_trace_byte byte ≡ true) text

-- the first byte that is not allowed in trace text has this place, from 0
pub record IsFirstBadTraceByte (text : List ℕ) (place : ℕ) : Type 0 where
  pub before : List ℕ
  pub bad : ℕ
  pub after : List ℕ
  pub text_is : text ≡ before ++ bad ∷ after
  pub good : IsTraceText before
  pub is_bad : is_trace_byte bad ≡ false
  pub place_is : place ≡ length before
