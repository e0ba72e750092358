-- When attempts begin and when hits fall on the bus line, in terms of whole lists of levels: the wired and the recorded ones.
-- (docs/BUS.md, "Runs")
use Rattle.std.specs.Prelude.{ℕ, ◌≡◌, ◌+◌, ◌<◌, ◌≤◌, nat_le, Bool, true, false, ◌&&◌, not, List, ◌++◌, replicate, slice_index_or, take}
use Rattle.std.specs.List.{count_by, range_with_len, suffix_len}
use Rattle.can_frame.specs.declared.level.Level.{Level}
use Rattle.can_frame.specs.declared.level.Level.TheVariants.{Recessive}
use Rattle.can_frame.specs.Levels.{is_recessive}
use Rattle.can_frame.specs.IdleRow.{idle_row}
use Rattle.can_terms.specs.declared.hit.Hit.{Hit}
use Rattle.can_terms.specs.declared.hit.Hit.TheVariants.{At, In, View}

-- the level at time t
abbrev pub level_then : List Level → ℕ → Level
level_then levels t = slice_index_or levels t Recessive

-- the number of recessive levels last in a row among those recorded before time t, if `rest` were recorded last before the run
unfoldable pub rest_before : ℕ → List Level → ℕ → ℕ
rest_before rest recorded t = suffix_len is_recessive (replicate rest Recessive ++ take t recorded)

module _ (rest : ℕ) (wired recorded : List Level) where
  -- an attempt begins at time t: the wired level is dominant, and the eleven levels recorded right before it are recessive
  unfoldable pub begins_at : ℕ → Bool
  begins_at t = not (is_recessive (level_then wired t)) && nat_le idle_row (rest_before rest recorded t)

  -- the number of attempts that begin before time t
  unfoldable pub attempts_before : ℕ → ℕ
  attempts_before t = count_by begins_at (range_with_len 0 t)

  -- the attempt with this number begins at time t: this many others begin before it
  pub record IsBeginning (attempt t : ℕ) : Type 0 where
    pub begins : begins_at t ≡ true
    pub number : attempts_before t ≡ attempt

  -- no attempt begins after the first time, up to and including the second
  abbrev pub NoneBegins : ℕ → ℕ → Type 0
  NoneBegins from upto = (t : ℕ) → from < t → t ≤ upto → begins_at t ≡ false

  -- a hit falls on the bus line at time t: an `At` at its time; an `In` at its offset after the start of its attempt, unless a later
  -- attempt has begun by then; a `View` never
  abbrev pub FallsOnWire : Hit → ℕ → Type 0
  FallsOnWire (At time) t = time ≡ t
  FallsOnWire (In attempt offset) t = (start : ℕ) × IsBeginning attempt start × (start + offset ≡ t) × NoneBegins start t
  FallsOnWire (View time node) t = ⊥
