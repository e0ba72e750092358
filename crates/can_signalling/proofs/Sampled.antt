-- The levels that a controller samples, bit time by bit time.
use Rattle.std.proofs.Common.{◌≡◌, ℕ, zero, suc, ◌<◌, Option, List, [], ◌∷◌, length, refl, sym, ◌∙◌, ap, arith}
use Rattle.can_frame.specs.declared.level.Level.{Level}
use Rattle.can_frame.specs.declared.level.Level.TheVariants.{Dominant, Recessive}
use Rattle.can_frame.specs.Parts.{Parts}
use Rattle.can_wire.specs.Layout.{level_at}
use Rattle.can_mac.specs.State.{MacState}
use Rattle.can_mac.specs.Machine.{mac_drives, mac_step}
use Rattle.can_mac.specs.Frames.{state_after, driven_at}
use Rattle.can_signalling.specs.Signalling.{over, sampled}

-- the first of these levels, and then the others
pub state_after-suc : (m : MacState) (waits : ℕ → Option Parts) (x : Level) (xs : List Level) (t : ℕ)
    → state_after m waits (x ∷ xs) (suc t) ≡ state_after (mac_step m (waits 0) x).0 (λ o. waits (suc o)) xs t
state_after-suc m waits x xs zero = refl
state_after-suc m waits x xs (suc t) = ap (λ s. (mac_step s (waits (suc t)) (level_at xs t)).0) (state_after-suc m waits x xs t)

-- in each bit time it samples the level of the others, or its own dominant one
pub sampled-at : (others : List Level) (m : MacState) (waits : ℕ → Option Parts) (t : ℕ) → t < length others
    → level_at (sampled m waits others) t ≡ over (level_at others t) (driven_at m waits (sampled m waits others) t)
sampled-at [] m waits t within = absurd (omega arith)
sampled-at (x ∷ others) m waits zero within = refl
sampled-at (x ∷ others) m waits (suc t) within =
    let seen = over x (mac_drives m (waits 0)) in
    let next = (mac_step m (waits 0) seen).0 in
    let later : ℕ → Option Parts = λ o. waits (suc o) in
    sampled-at others next later t (omega arith)
    ∙ ap (λ s. over (level_at others t) (mac_drives s (waits (suc t)))) (sym (state_after-suc m waits seen (sampled next later others) t))

pub over-recessive : (x : Level) → over x Recessive ≡ x
over-recessive Dominant = refl
over-recessive Recessive = refl

pub over-dominant : (x : Level) → over x Dominant ≡ Dominant
over-dominant Dominant = refl
over-dominant Recessive = refl
