-- The error model allows no more hits in this many bit times than are tolerated.
use Rattle.std.proofs.Common.{◌≡◌, ℕ, ◌≤◌, None, Option, Some, List, [], ◌∷◌, length, refl, arith}
use Rattle.can_bus.specs.Course.{Transmission, hits_made}
use Rattle.can_plan.specs.Borne.{AreHitBefore}
use Rattle.can_plan.specs.Messages.{AreHitAtMost, hit_times, with_hit}
use Rattle.can_plan.proofs.Counts.{stretch-all}

-- ---- a rate

length-hits : (course : List Transmission) → length (hit_times course) ≡ hits_made course
length-hits [] = refl
length-hits (s ∷ course) = by s.hit (length-hits course)
  where
    by : (hit : Option ℕ) → length (hit_times course) ≡ hits_made course → length (with_hit s.time hit (hit_times course)) ≡ hits_made (record { time = s.time; frame = s.frame; hit = hit } ∷ course)
    by None e = e
    by (Some offset) e = omega (arith, e)

pub hits-within : (most : ℕ → ℕ) (course : List Transmission) (long : ℕ) → AreHitAtMost most course → AreHitBefore long course → hits_made course ≤ most long
hits-within most course long few before =
    let all = stretch-all 0 long (hit_times course) (λ t there. (omega arith, let h = before there.0 t there.1 in omega (arith, h))) in
    omega (arith, all, few 0 long, length-hits course)
