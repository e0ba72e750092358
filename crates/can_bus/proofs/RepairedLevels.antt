-- The levels of an attempt that is hit, and those of all attempts without hits.
use Rattle.std.specs.Prelude.{slice_index_or}
use Rattle.std.specs.List.{flat_map}
use Rattle.std.proofs.Common.{◌≡◌, ℕ, zero, suc, ◌+◌, ◌≤◌, Some, List, [], ◌∷◌, ◌++◌, length, take, replicate, refl, sym, ◌∙◌, ap, arith, append_assoc}
use Rattle.std.proofs.lemmas.List.{take-append-le}
use Rattle.can_frame.specs.declared.level.Level.{Level}
use Rattle.can_frame.specs.declared.level.Level.TheVariants.{Dominant, Recessive}
use Rattle.can_frame.specs.Levels.{opposite}
use Rattle.can_frame.specs.Parts.{Parts, IsFrame}
use Rattle.can_wire.specs.Wire.{wire}
use Rattle.can_wire.specs.Layout.{level_at}
use Rattle.can_mac.specs.Frames.{with_intermission}
use Rattle.can_mac.proofs.FrameParts.{length-wire}
use Rattle.can_mac.proofs.ErrorFrames.{in_flag, at_rest}
use Rattle.can_mac.proofs.HitLevels.{IsHit, inverted, breaks-soon}
use Rattle.can_node.proofs.BrokenFrames.{seen_of}
use Rattle.can_bus.specs.Quiet.{busy_time, line_at}
use Rattle.can_bus.specs.Repair.{attempts_from, course_levels, repaired_course, repaired_line_at}
use Rattle.can_bus.specs.RepairedLine.{lateness, attempt_levels}
use Rattle.can_bus.proofs.BrokenOnBus.{broken-seen, dead_time, seen-append}
use Rattle.can_bus.proofs.Repairs.{broken_levels}
use Rattle.can_bus.proofs.Lateness.{hit-level, lateness-breaks}

-- ---- An attempt that is hit.

seen-repeated : (n : ℕ) (l : Level × Level) → seen_of (replicate n l) ≡ replicate n l.1
seen-repeated zero l = refl
seen-repeated (suc n) l = ap (λ xs. l.1 ∷ xs) (seen-repeated n l)

dead-seen : (j : ℕ) → seen_of (dead_time j) ≡ replicate (6 + j) Dominant ++ replicate 11 Recessive
dead-seen j = seen-append (replicate (6 + j) in_flag) (replicate 11 at_rest) ∙ ap (λ xs. xs ++ replicate 11 Recessive) (seen-repeated (6 + j) in_flag)

module _ (f : Parts) (is : IsFrame f) (o : ℕ) (hit : IsHit f o) where
  pub broken-attempt : seen_of (broken_levels f is o hit) ≡ attempt_levels f (Some o)
  broken-attempt =
      let j = (breaks-soon f is o hit).0 in
      let w : List Level = take o (wire f) in
      let rest : ℕ → List Level = λ i. replicate (6 + i) Dominant ++ replicate 11 Recessive in
      let front : take o (with_intermission f) ≡ w = take-append-le o (wire f) (Recessive ∷ Recessive ∷ Recessive ∷ []) (omega (arith, hit.within, length-wire f)) in
      broken-seen f is o hit j
      ∙ ap (λ xs. xs ++ (inverted f is o hit ∷ seen_of (dead_time j))) front
      ∙ ap (λ xs. w ++ (inverted f is o hit ∷ xs)) (dead-seen j)
      ∙ ap (λ i. w ++ (inverted f is o hit ∷ rest i)) (sym (lateness-breaks f is o hit))
      ∙ ap (λ x. w ++ (x ∷ rest (lateness f o))) (hit-level f is o hit)
      ∙ sym (append_assoc w (opposite (level_at (wire f) o) ∷ replicate (6 + lateness f o) Dominant) (replicate 11 Recessive))

-- ---- Without hits.

unhit-levels : (count number time : ℕ) (frames : List Parts) → length frames ≤ count → course_levels (attempts_from count [] number time frames) ≡ flat_map with_intermission frames
unhit-levels zero number time [] enough = refl
unhit-levels (suc count) number time [] enough = refl
unhit-levels zero number time (f ∷ frames) enough = absurd (omega (arith, enough))
unhit-levels (suc count) number time (f ∷ frames) enough = ap (λ ls. with_intermission f ++ ls) (unhit-levels count (number + 1) (time + busy_time f) frames (omega (arith, enough)))

pub unhit-line : (frames : List Parts) (t : ℕ) → repaired_line_at frames [] t ≡ line_at frames t
unfolding repaired_line_at repaired_course line_at
unhit-line frames t = ap (λ ls. slice_index_or ls t Recessive) (unhit-levels (length frames + 0) 0 0 frames (omega arith))
