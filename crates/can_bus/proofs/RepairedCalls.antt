-- Calls that are repaired: that they can be made, and that those without hits are quiet ones.
use Rattle.std.proofs.Common.{◌≡◌, ℕ, zero, suc, ◌+◌, ◌-◌, ◌<◌, ◌≤◌, ◌⊎◌, true, Some, None, List, [], ◌∷◌, ◌++◌, length, map, take, refl, sym, ap, subst, ◌∙◌, arith, inl, inr}
use Rattle.std.specs.Prelude.{◌&&◌, ◌||◌}
use Rattle.std.proofs.Math.Dec.{eqb, ltb}
use Rattle.std.proofs.lemmas.Bool.{lt-ltb}
use Rattle.std.proofs.lemmas.List.{length-append, take_all}
use Rattle.std.specs.List.{flat_map}
use Rattle.can_frame.specs.Levels.{bits_of}
use Rattle.can_frame.specs.Parts.{Parts}
use Rattle.can_frame.specs.Arbitration.{arbitration_field}
use Rattle.can_wire.specs.Crc.{crc_of}
use Rattle.can_wire.specs.Stuffing.{kept}
use Rattle.can_wire.specs.Wire.{reserved, head, unstuffed, stuffed_part, wire}
use Rattle.can_wire.proofs.StuffingLemmas.{Stuffs-stuffed}
use Rattle.can_mac.proofs.FrameParts.{length-wire}
use Rattle.can_terms.specs.declared.hit.Hit.{Hit}
use Rattle.can_terms.specs.declared.hit.Hit.TheVariants.{At, In, View}
use Rattle.can_terms.specs.Hits.{AreTaken, is_above, hit_names_port}
use Rattle.can_bus.specs.Run.{BusState}
use Rattle.can_bus.specs.Quiet.{IsQuietCall, IsAscending, ascending, busy_time, span}
use Rattle.can_bus.specs.Plans.{PlannedPort, IsQuietPlan, planned, ready_port}
use Rattle.can_bus.specs.Attempts.{AreApart, AreInAttempts, IsInWindow, IsLater}
use Rattle.can_bus.specs.Course.{FallsInWindow, HitInWindows, Transmission}
use Rattle.can_bus.specs.Repair.{AreBorne, FallInWindows, IsRepairedCall, attempts_from, repaired_course, repaired_span}
use Rattle.can_bus.proofs.Ascending.{ascending_there}
use Rattle.can_bus.proofs.QuietPlans.{ready_bus, ready-quiet, ready-queued}

-- ---- Without hits.

none-hit : (count number time : ℕ) (frames : List Parts) → HitInWindows (attempts_from count [] number time frames)
none-hit zero number time frames s made = absurd made
none-hit (suc count) number time [] s made = absurd made
none-hit (suc count) number time (f ∷ frames) s (inl here) = subst (λ (z : Transmission). FallsInWindow z.frame z.hit) here tt
none-hit (suc count) number time (f ∷ frames) s (inr made) = none-hit count (number + 1) (time + busy_time f) frames s made

pub no-windows : (frames : List Parts) → FallInWindows frames []
unfolding repaired_course
no-windows frames = record { within = λ n hit there. absurd (let h : None ≡ Some hit = there in cc); windows = none-hit (length frames + 0) 0 0 frames }

pub quiet-call : (bus : BusState) (frames : List Parts) → IsRepairedCall [] bus frames → IsQuietCall [] bus.ports frames × (bus.rest ≡ 11)
quiet-call bus frames call = (record { undisturbed = refl; quiet = call.quiet; ascending = call.ascending }, call.rest)

pub repaired-call : (bus : BusState) (frames : List Parts) → IsQuietCall [] bus.ports frames → bus.rest ≡ 11 → IsRepairedCall [] bus frames
repaired-call bus frames call rest = record {
  quiet = call.quiet;
  rest = rest;
  ascending = call.ascending;
  windows = no-windows frames;
  apart = λ m n a b less there other. absurd (let h : None ≡ Some a = there in cc);
  borne = inl (omega arith);
}

pub quiet-span : (frames : List Parts) → repaired_span frames [] ≡ span frames
quiet-span frames = let e : span frames + 0 ≡ span frames = omega arith in e

-- ---- With hits.

pub made-call : (plans : List PlannedPort) (hits : List Hit) → IsQuietPlan plans → FallInWindows (ascending (planned plans)) hits → AreApart 1 hits →
    (length hits ≤ 15) ⊎ AreBorne (ascending (planned plans)) hits (map ready_port plans) → IsRepairedCall hits (ready_bus 11 plans) (ascending (planned plans))
made-call plans hits is windows apart borne = record {
  quiet = ready-quiet plans is;
  rest = refl;
  ascending = subst (λ waiting. IsAscending waiting (ascending (planned plans))) (sym (ready-queued plans)) (ascending_there (planned plans) is.different);
  windows = windows;
  apart = apart;
  borne = borne;
}

-- a later attempt is above
later-above : (a b : Hit) → IsLater 1 a b → is_above b a ≡ true
later-above (In attempt offset) (In other place) later = ap (λ b. b || (eqb attempt other && ltb offset place)) (lt-ltb attempt other (omega (arith, later)))
later-above (In attempt offset) (At time) later = absurd later
later-above (In attempt offset) (View time node) later = absurd later
later-above (At time) b later = absurd later
later-above (View time node) b later = absurd later

pub taken-attempts : (ports : ℕ) (hits : List Hit) → AreInAttempts hits → AreApart 1 hits → AreTaken ports hits
taken-attempts ports hits within apart place hit there = (
  λ n last before at. later-above last hit (apart n place last hit (omega (arith, before)) at there),
  subst (λ h. hit_names_port ports h ≡ true) (sym (within place hit there).2) refl,
)

-- ---- The window of a frame.

unstuffed-long : (f : Parts) → length (arbitration_field f) < length (unstuffed f)
unfolding unstuffed head arbitration_field
unstuffed-long f = omega (arith, length-append (arbitration_field f) (reserved f ++ (bits_of 4 f.dlc ++ flat_map (bits_of 8) f.bytes)), length-append (head f) (crc_of (head f)))

stuffed-kept : (f : Parts) → kept (stuffed_part f) 0 (stuffed_part f) ≡ unstuffed f
unfolding stuffed_part
stuffed-kept f = (Stuffs-stuffed (unstuffed f)).rest

-- the last but one level of the end of frame is in it
pub window-there : (f : Parts) → IsInWindow f (length (wire f) - 2)
window-there f =
    let long = length-wire f in
    let all : take (length (wire f) - 2) (stuffed_part f) ≡ stuffed_part f = take_all (length (wire f) - 2) (stuffed_part f) (omega (arith, long)) in
    let same : kept (stuffed_part f) 0 (stuffed_part f) ≡ unstuffed f = stuffed-kept f in
    record {
      behind_field = subst (λ n. length (arbitration_field f) < n) (sym (ap (λ xs. length (kept (stuffed_part f) 0 xs)) all ∙ ap length same)) (unstuffed-long f);
      before_last = omega (arith, long);
    }
