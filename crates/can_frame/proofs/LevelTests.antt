-- What follows from a test of a level, or of its number.
use Rattle.std.proofs.Common.{◌≡◌, ◌≢◌, ℕ, zero, suc, true, false, refl}
use Rattle.std.specs.Bool.{Decides}
use Rattle.can_frame.specs.declared.level.Level.{Level}
use Rattle.can_frame.specs.declared.level.Level.TheVariants.{Dominant, Recessive}
use Rattle.can_frame.specs.Levels.{is_recessive, level_from, level_of, opposite, same}

pub level_told : (x : Level) → level_from (is_recessive x) ≡ x
level_told Dominant = refl
level_told Recessive = refl

pub level_dominant : (x : Level) → is_recessive x ≡ false → x ≡ Dominant
level_dominant Dominant h = refl
level_dominant Recessive h = cc

pub level_recessive : (x : Level) → is_recessive x ≡ true → x ≡ Recessive
level_recessive Dominant h = cc
level_recessive Recessive h = refl

pub opposite-twice : (x : Level) → opposite (opposite x) ≡ x
opposite-twice Dominant = refl
opposite-twice Recessive = refl

pub recessive_above : (code : ℕ) → code ≢ 0 → Recessive ≡ level_of code
recessive_above zero h = absurd (h refl)
recessive_above (suc n) h = refl

pub same-Decides : (x y : Level) → Decides (same x y) (x ≡ y)
same-Decides Dominant Dominant = (λ e. refl, λ e. refl)
same-Decides Recessive Recessive = (λ e. refl, λ e. refl)
same-Decides Dominant Recessive = (λ e. cc, λ e. cc)
same-Decides Recessive Dominant = (λ e. cc, λ e. cc)
