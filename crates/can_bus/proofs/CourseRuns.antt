-- A network after any number of bit times: its level is that of the course's track, and each port has what the attempts have left there by then.
use Rattle.std.specs.Prelude.{slice_index_or}
use Rattle.std.proofs.Common.{◌≡◌, ℕ, zero, suc, ◌+◌, ◌-◌, ◌<◌, ◌≤◌, false, Option, Some, None, List, [], ◌∷◌, length, map, take, refl, sym, ap, subst, ◌∙◌, arith, inl, inr}
use Rattle.std.proofs.lemmas.Bool.{cases_lt}
use Rattle.std.proofs.lemmas.List.{length-map}
use Rattle.can_frame.specs.declared.level.Level.{Level}
use Rattle.can_frame.specs.declared.level.Level.TheVariants.{Recessive}
use Rattle.can_frame.specs.Parts.{Parts, IsFrame}
use Rattle.can_mac.specs.Frames.{with_intermission}
use Rattle.can_wire.specs.Wire.{wire}
use Rattle.can_mac.proofs.FrameParts.{length-wire, length-with_intermission}
use Rattle.can_mac.proofs.HitLevels.{IsHit, breaks-soon}
use Rattle.can_node.specs.Ports.{PortState, port_drives}
use Rattle.can_node.proofs.Arrivals.{GainingPort, gaining_drives, gaining_run}
use Rattle.can_node.proofs.BrokenFrames.{seen_of}
use Rattle.can_node.proofs.OneFrame.{gaining_run-at}
use Rattle.can_terms.specs.declared.hit.Hit.{Hit}
use Rattle.can_bus.specs.declared.moment.Attempt.{Attempt}
use Rattle.can_bus.specs.Course.{Transmission, IsNext, IsCourse, over, attempted, IsMade, course_at, hit_time, hits_made, keeping}
use Rattle.can_bus.specs.Network.{AllOver}
use Rattle.can_bus.specs.Quiet.{holds, busy_time}
use Rattle.can_bus.specs.Attempts.{IsLow, Tally, tallied}
use Rattle.can_bus.specs.RepairedLine.{attempt_levels}
use Rattle.can_bus.specs.Run.{aged, following, inverted_if}
use Rattle.can_bus.specs.Timed.{TimedParts, without_offer}
use Rattle.can_bus.specs.Wired.{wired}
use Rattle.can_bus.proofs.AttemptHits.{Counted, attempt, broken-counted, whole-counted}
use Rattle.can_bus.proofs.AttemptTallies.{Survives}
use Rattle.can_bus.proofs.BrokenOnBus.{gaining-broken-gives, seen-first, seen-size, seen-undisturbed}
use Rattle.can_bus.proofs.Contests.{AllPorts}
use Rattle.can_bus.proofs.FrameOnBus.{gaining_sees, ports_of, frame-gives, all_after-gaining}
use Rattle.can_bus.proofs.HitRuns.{falls, latest_after, latest_now}
use Rattle.can_bus.proofs.HitWires.{HitWire, hit_seen, hit_step, hit_run, hit_runs-joined, hit_step-known, hit_seen-known, hits-part, hits-all, hits-levels}
use Rattle.can_bus.proofs.Members.{stands-none}
use Rattle.can_bus.proofs.RestingPorts.{IsAtRest, rest-wired}
use Rattle.can_bus.proofs.Reduction.{Gives, maps-alike}
use Rattle.can_bus.proofs.RepairedLevels.{broken-attempt}
use Rattle.can_bus.proofs.RepairCounts.{within-le}
use Rattle.can_bus.proofs.RepairPlans.{Apart, struck-at, unhit-free, window-hit}
use Rattle.can_bus.proofs.Repairs.{IsFree, bear-all, broken_levels}
use Rattle.can_bus.proofs.CalmPorts.{IsWithin}
use Rattle.can_bus.proofs.WireRuns.{undisturbed, length-undisturbed, rest_run}
use Rattle.can_bus.proofs.CourseLogs.{Becomes, becomes-now, becomes-rested, becomes-behind, becomes-within, becomes-in_hit, counts_of, frame-leaves, hit-leaves, mine-survives}
use Rattle.can_bus.proofs.CoursePorts.{CoursePort, IsCoursePort, HasPart, behind_frame, behind_hit, rested, rested-turned, takes-part}
use Rattle.can_bus.proofs.CourseRounds.{CourseRound, NoneWaits, SendsOne, machines_of, ports_now, all-calm, next-frame, next-left, one-parts, one-sends, round-behind, round-broken, round-rested, round-rests, round-sends}
use Rattle.can_bus.proofs.CourseTracks.{course-free, length-broken, track-behind, track-on, track-rests}
use Rattle.can_bus.proofs.QuietLogs.{length-busy, part-meets}

-- at each of the ports, before and after
abbrev pub Each : (CoursePort → PortState → Type 0) → List CoursePort → List PortState → Type 0
Each R [] [] = Unit {0}
Each R [] (p ∷ ports) = ⊥
Each R (o ∷ os) [] = ⊥
Each R (o ∷ os) (p ∷ ports) = R o p × Each R os ports

-- a bus at rest with these ports, on which this attempt was the latest
abbrev pub wire_with : List CoursePort → Option Attempt → HitWire GainingPort
wire_with os latest = record { machines = machines_of os; rest = 11; latest = latest }

-- the counters stay those of an error active port, at a port that had these frames to send
abbrev pub CourseBears : List Parts → List Transmission → Tally → Type 0
CourseBears queue [] t = Unit {0}
CourseBears queue (s ∷ course) t = IsLow (tallied (holds queue s.frame) s.frame s.hit t) × CourseBears queue course (tallied (holds queue s.frame) s.frame s.hit t)

abbrev pub PortBears : List Transmission → CoursePort → Type 0
PortBears course o = CourseBears o.mine course (counts_of o)

-- ---- the ports, through one attempt

module _ (most : ℕ) where
  each-now : (h now n : ℕ) (course : List Transmission) (os : List CoursePort) → h ≤ most → AllPorts (IsCoursePort h now n) os → AllPorts IsAtRest (ports_now os) →
      ((s : Transmission) → IsMade course s → now < s.time) → Each (Becomes most course now) os (ports_now os)
  each-now h now n course [] few are rest late = tt
  each-now h now n course (o ∷ os) few are rest late = (
    becomes-now most course now o (within-le h most few o.machine.port.mac.counters are.0.calm.within) (record { idle = rest.0.idle; empty = rest.0.empty; unasked = are.0.calm.unasked }) late,
    each-now h now n course os few are.1 rest.1 late,
  )

  each-rested : (course : List Transmission) (t : ℕ) (os : List CoursePort) (ports : List PortState) → AllPorts IsAtRest (ports_now os) → Each (Becomes most course t) (map rested os) ports →
      Each (Becomes most course t) os ports
  each-rested course t [] [] rest each = tt
  each-rested course t [] (p ∷ ports) rest each = each
  each-rested course t (o ∷ os) [] rest each = each
  each-rested course t (o ∷ os) (p ∷ ports) rest each = (becomes-rested most course t o p rest.0 each.0, each-rested course t os ports rest.1 each.1)

  module _ (h now n : ℕ) (f : Parts) (course : List Transmission) where
    -- a frame
    each-within : h ≤ most → (os : List CoursePort) → AllPorts (IsCoursePort h now n) os → AllPorts (HasPart f) os → ((s : Transmission) → IsMade course s → now + length (with_intermission f) ≤ s.time) →
        (k : ℕ) → k < length (with_intermission f) →
        Each (Becomes most (record { time = now; frame = f; hit = None } ∷ course) (now + k)) os (ports_of (map (λ g. gaining_run g (take k (with_intermission f))) (machines_of os)))
    each-within few [] are parts late k less = tt
    each-within few (o ∷ os) are parts late k less = (
      subst (Becomes most (record { time = now; frame = f; hit = None } ∷ course) (now + k) o)
          (ap (λ (g : GainingPort). g.port) (sym (gaining_run-at f o.machine (part-meets f o.machine.port (takes-part f o parts.0)) k (omega (arith, less)))))
          (becomes-within h now n f o are.0 parts.0 course most few late k less),
      each-within few os are.1 parts.1 late k less,
    )

    each-behind : (os : List CoursePort) → AllPorts (IsCoursePort h now n) os → AllPorts (HasPart f) os → (until : ℕ) → now + length (wire f) ≤ until → (ports : List PortState) →
        Each (Becomes most course until) (map (behind_frame f) os) ports → Each (Becomes most (record { time = now; frame = f; hit = None } ∷ course) until) os ports
    each-behind [] are parts until ended [] each = tt
    each-behind [] are parts until ended (p ∷ ports) each = each
    each-behind (o ∷ os) are parts until ended [] each = each
    each-behind (o ∷ os) are parts until ended (p ∷ ports) each = (
      becomes-behind most (record { time = now; frame = f; hit = None }) course (record { frame = f; sent = holds o.mine f } ∷ []) o (behind_frame f o) refl (frame-leaves h now n f o are.0 parts.0) (λ rest. refl) until ended p each.0,
      each-behind os are.1 parts.1 until ended ports each.1,
    )

    bears-behind : (os : List CoursePort) → AllPorts (IsCoursePort h now n) os → AllPorts (HasPart f) os → AllPorts (PortBears (record { time = now; frame = f; hit = None } ∷ course)) os →
        AllPorts (PortBears course) (map (behind_frame f) os)
    bears-behind [] are parts bears = tt
    bears-behind (o ∷ os) are parts bears =
        (subst (CourseBears o.mine course) (sym (frame-leaves h now n f o are.0 parts.0).tally) bears.0.1, bears-behind os are.1 parts.1 bears.1)

    -- a frame that is broken off
    module _ (framed : IsFrame f) (offset : ℕ) (hit : IsHit f offset) where
      abbrev here : Transmission
      here = record { time = now; frame = f; hit = Some offset }

      all-survive : (os : List CoursePort) → AllPorts (HasPart f) os → AllPorts (PortBears (here ∷ course)) os → AllPorts (Survives f offset) (ports_now os)
      all-survive [] parts bears = tt
      all-survive (o ∷ os) parts bears = (mine-survives f offset o parts.0 bears.0.0, all-survive os parts.1 bears.1)

      each-in_hit : suc h ≤ most → ((s : Transmission) → IsMade course s → now + hit_time f offset ≤ s.time) → (os : List CoursePort) → AllPorts (IsCoursePort h now n) os → AllPorts (HasPart f) os → AllPorts (Survives f offset) (ports_now os) → (k : ℕ) → k < hit_time f offset →
          Each (Becomes most (here ∷ course) (now + k)) os (ports_of (map (λ g. gaining_run g (take k (seen_of (broken_levels f framed offset hit)))) (machines_of os)))
      each-in_hit few late [] are parts low k less = tt
      each-in_hit few late (o ∷ os) are parts low k less =
          (becomes-in_hit f framed offset hit h now n o are.0 low.0 parts.0 course most few late k less, each-in_hit few late os are.1 parts.1 low.1 k less)

      each-behind_hit : (os : List CoursePort) → AllPorts (IsCoursePort h now n) os → AllPorts (HasPart f) os → AllPorts (Survives f offset) (ports_now os) → (until : ℕ) → now + hit_time f offset ≤ until → (ports : List PortState) →
          Each (Becomes most course until) (map (behind_hit f framed offset hit) os) ports → Each (Becomes most (here ∷ course) until) os ports
      each-behind_hit [] are parts low until ended [] each = tt
      each-behind_hit [] are parts low until ended (p ∷ ports) each = each
      each-behind_hit (o ∷ os) are parts low until ended [] each = each
      each-behind_hit (o ∷ os) are parts low until ended (p ∷ ports) each = (
        becomes-behind most here course [] o (behind_hit f framed offset hit o) refl (hit-leaves f framed offset hit h now n o are.0 low.0 parts.0) (λ rest. refl) until ended p each.0,
        each-behind_hit os are.1 parts.1 low.1 until ended ports each.1,
      )

      bears-behind_hit : (os : List CoursePort) → AllPorts (IsCoursePort h now n) os → AllPorts (HasPart f) os → AllPorts (Survives f offset) (ports_now os) → AllPorts (PortBears (here ∷ course)) os →
          AllPorts (PortBears course) (map (behind_hit f framed offset hit) os)
      bears-behind_hit [] are parts low bears = tt
      bears-behind_hit (o ∷ os) are parts low bears =
          (subst (CourseBears o.mine course) (sym (hit-leaves f framed offset hit h now n o are.0 low.0 parts.0).tally) bears.0.1, bears-behind_hit os are.1 parts.1 low.1 bears.1)

bears-rested : (course : List Transmission) (os : List CoursePort) → AllPorts IsAtRest (ports_now os) → AllPorts (PortBears course) os → AllPorts (PortBears course) (map rested os)
bears-rested course [] rest bears = tt
bears-rested course (o ∷ os) rest bears = (
  subst (λ (t : Tally). CourseBears o.mine course t) (ap (λ (v : CoursePort). counts_of v) (sym (rested-turned o rest.0))) bears.0,
  bears-rested course os rest.1 bears.1,
)

-- their machines
rested-machines : (os : List CoursePort) → map (gaining_sees Recessive) (machines_of os) ≡ machines_of (map rested os)
rested-machines [] = refl
rested-machines (o ∷ os) = ap (λ gs. gaining_sees Recessive o.machine ∷ gs) (rested-machines os)

run-machines : (F : CoursePort → CoursePort) (levels : List Level) → ((o : CoursePort) → (F o).machine ≡ gaining_run o.machine levels) → (os : List CoursePort) →
    map (λ g. gaining_run g levels) (machines_of os) ≡ machines_of (map F os)
run-machines F levels same [] = refl
run-machines F levels same (o ∷ os) = ap (λ g. g ∷ map (λ g. gaining_run g levels) (machines_of os)) (sym (same o)) ∙ ap (λ gs. (F o).machine ∷ gs) (run-machines F levels same os)

-- ---- the wire

module _ (hits : List Hit) (most : ℕ) where
  abbrev seen_now : HitWire GainingPort → Level
  seen_now w = hit_seen gaining_drives gaining_sees hits w

  abbrev pub later : ℕ → HitWire GainingPort → HitWire GainingPort
  later n w = hit_run gaining_drives gaining_sees hits n w

  -- at the start of this bit time, with these attempts to come
  pub record Follows (course : List Transmission) (t : ℕ) (os : List CoursePort) (w : HitWire GainingPort) : Type 0 where
    pub level : seen_now w ≡ course_at course t
    pub each : Each (Becomes most course t) os (ports_of w.machines)
    pub rests : AllOver course t → w.rest ≡ 11

  at-time : (course : List Transmission) (s t : ℕ) (os : List CoursePort) (w : HitWire GainingPort) → s ≡ t → Follows course s os w → Follows course t os w
  at-time course s t os w same follows = subst (λ u. Follows course u os w) same follows

  -- no hit falls any more while the bus rests
  abbrev pub Silent : Option Attempt → Type 0
  Silent None = falls hits None ≡ false
  Silent (Some a) = IsFree hits a.number

  silent-aged : (latest : Option Attempt) → Silent latest → Silent (aged latest)
  silent-aged None h = h
  silent-aged (Some a) h = h

  silent-none : (latest : Option Attempt) → Silent latest → falls hits latest ≡ false
  silent-none None h = h
  silent-none (Some a) h = h a.offset

  following-aged : (latest : Option Attempt) (number : ℕ) → following latest ≡ attempt number 0 → following (aged latest) ≡ attempt number 0
  following-aged None number e = e
  following-aged (Some a) number e = e

  -- ---- at rest

  module _ (h now : ℕ) (left : List TimedParts) (course : List Transmission) (os : List CoursePort) (latest : Option Attempt) (round : CourseRound h now left os) (none : NoneWaits now left)
      (late : (s : Transmission) → IsMade course s → now < s.time) (silent : Silent latest) (few : h ≤ most) where
    abbrev w_rest : HitWire GainingPort
    w_rest = wire_with os latest

    resting : AllPorts IsAtRest (ports_now os)
    resting = round-rests h now left os round none

    rest-level : wired (map gaining_drives (machines_of os)) ≡ Recessive
    rest-level =
        ap wired (sym (maps-alike (λ (g : GainingPort). g.port) port_drives gaining_drives (λ g. refl) (machines_of os)))
        ∙ rest-wired (ports_now os) resting

    rest-falls : inverted_if (falls hits (latest_now latest 11 Recessive)) Recessive ≡ Recessive
    rest-falls = ap (λ b. inverted_if b Recessive) (silent-none (aged latest) (silent-aged latest silent))

    rest-step : hit_step gaining_drives gaining_sees hits w_rest ≡ wire_with (map rested os) (aged latest)
    rest-step =
        hit_step-known gaining_drives gaining_sees hits (Recessive, Recessive) w_rest rest-level rest-falls
        ∙ ap (λ gs. let v : HitWire GainingPort = record { machines = gs; rest = 11; latest = aged latest } in v) (rested-machines os)

    -- one bit time at rest, and then others
    follows-rest : (k : ℕ) → ((j : ℕ) → suc j ≡ k → Follows course ((now + 1) + j) (map rested os) (later j (wire_with (map rested os) (aged latest)))) →
        Follows course (now + k) os (later k w_rest)
    follows-rest zero more =
        at-time course now (now + 0) os w_rest (omega arith) (record {
          level = hit_seen-known gaining_drives gaining_sees hits (Recessive, Recessive) w_rest rest-level rest-falls ∙ sym (track-rests course now late);
          each = each-now most h now (length left) course os few round.ports resting late;
          rests = λ over. refl;
        })
    follows-rest (suc j) more =
        let follows = more j refl in
        let w = later j (wire_with (map rested os) (aged latest)) in
        subst (λ v. Follows course (now + suc j) os (later j v)) (sym rest-step)
        (at-time course ((now + 1) + j) (now + suc j) os w (omega arith)
        (record { level = follows.level; each = each-rested most course ((now + 1) + j) os (ports_of w.machines) resting follows.each; rests = follows.rests }))

  -- ---- an attempt, of these levels

  module _ (now number : ℕ) (f : Parts) (hit : Option ℕ) (course : List Transmission) (os : List CoursePort) (latest : Option Attempt) (levels : List (Level × Level))
      (seen : seen_of levels ≡ attempt_levels f hit) (gives : Gives gaining_drives gaining_sees levels (machines_of os)) (counted : Counted hits latest levels number) where
    abbrev w : HitWire GainingPort
    w = wire_with os latest

    abbrev s : Transmission
    s = record { time = now; frame = f; hit = hit }

    size : length (attempt_levels f hit) ≡ length levels
    size = sym (ap length seen) ∙ seen-size levels

    -- within it
    attempt-within : (k : ℕ) → length levels ≡ keeping f hit → k < length levels → Each (Becomes most (s ∷ course) (now + k)) os (ports_of (map (λ g. gaining_run g (take k (seen_of levels))) (machines_of os))) →
        Follows (s ∷ course) (now + k) os (later k w)
    attempt-within k kept less each = record {
      level =
          hits-levels gaining_drives gaining_sees hits levels w k Recessive gives counted.fall less
          ∙ ap (λ xs. slice_index_or xs k Recessive) seen
          ∙ ap (λ o. slice_index_or (attempt_levels f hit) o Recessive) (let e : k ≡ (now + k) - now = omega arith in e)
          ∙ sym (track-on s course (now + k) (omega arith) (omega (arith, less, size)));
      each =
          subst (λ gs. Each (Becomes most (s ∷ course) (now + k)) os (ports_of gs))
          (sym (ap (λ (v : HitWire GainingPort). v.machines) (hits-part gaining_drives gaining_sees hits k levels w (omega (arith, less)) gives counted.fall)
          ∙ all_after-gaining (seen_of (take k levels)) (machines_of os)
          ∙ ap (λ xs. map (λ g. gaining_run g xs) (machines_of os)) (seen-first k levels)))
          each;
      rests = λ over. absurd (omega (arith, less, kept, over s (inl refl)));
    }

    -- after it
    attempt-behind : (F : CoursePort → CoursePort) → ((o : CoursePort) → (F o).machine ≡ gaining_run o.machine (seen_of levels)) →
        ((until : ℕ) → now + length levels ≤ until → (ports : List PortState) → Each (Becomes most course until) (map F os) ports → Each (Becomes most (s ∷ course) until) os ports) →
        (j : ℕ) → Follows course ((now + length levels) + j) (map F os) (later j (wire_with (map F os) (Some (attempt number counted.last)))) →
        Follows (s ∷ course) (now + (length levels + j)) os (later (length levels + j) w)
    attempt-behind F machines each j follows =
        let until : ℕ = (now + length levels) + j in
        let next : HitWire GainingPort = wire_with (map F os) (Some (attempt number counted.last)) in
        let v : HitWire GainingPort = later j next in
        let ran : later (length levels) w ≡ next =
        hits-all gaining_drives gaining_sees hits levels w gives counted.fall
        ∙ ap (λ gs. let u : HitWire GainingPort = record { machines = gs; rest = rest_run 11 (seen_of levels); latest = latest_after latest 11 levels } in u) (all_after-gaining (seen_of levels) (machines_of os) ∙ run-machines F (seen_of levels) machines os)
        ∙ ap (λ r. let u : HitWire GainingPort = record { machines = machines_of (map F os); rest = r; latest = latest_after latest 11 levels } in u) counted.rest
        ∙ ap (λ a. let u : HitWire GainingPort = record { machines = machines_of (map F os); rest = 11; latest = a } in u) counted.latest_is in
        subst (Follows (s ∷ course) (now + (length levels + j)) os)
        (sym (hit_runs-joined gaining_drives gaining_sees hits (length levels) j w ∙ ap (later j) ran))
        (at-time (s ∷ course) until (now + (length levels + j)) os v (omega arith) (record {
          level = follows.level ∙ sym (track-behind s course until (omega (arith, size)));
          each = each until (omega arith) (ports_of v.machines) follows.each;
          rests = λ over. follows.rests (λ x made. over x (inr made));
        }))

  -- ---- any number of bit times

  module _ (apart : Apart hits) where
    -- an attempt that starts later than now is the next one of the next bit time
    still-next : (free : ℕ) (left : List TimedParts) (time : ℕ) (f : Parts) → IsNext free left time f → free < time → IsNext (free + 1) left time f
    still-next free left time f is early = record {
      is_free = omega (arith, early);
      soon = λ x there. let soon = is.soon x there in omega (arith, soon, early);
      waits = is.waits;
    }

    none-yet : (free : ℕ) (left : List TimedParts) (time : ℕ) (f : Parts) → IsNext free left time f → free < time → NoneWaits free left
    none-yet free left time f is early x there = let soon = is.soon x there in omega (arith, soon, early)

    later-made : (free : ℕ) (s : Transmission) (course : List Transmission) → free < s.time → ((x : Transmission) → IsMade course x → s.time ≤ x.time) → (x : Transmission) → IsMade (s ∷ course) x → free < x.time
    later-made free s course early behind x (inl e) = subst (λ (y : Transmission). free < y.time) e early
    later-made free s course early behind x (inr made) = omega (arith, early, behind x made)

    pub follows : (fuel k h : ℕ) {number now : ℕ} {left : List TimedParts} {course : List Transmission} (os : List CoursePort) (latest : Option Attempt) → k < fuel → 1 < length os →
        CourseRound h now left os → IsCourse hits number now left course → AllPorts (PortBears course) os → h + hits_made course ≤ most →
        following latest ≡ attempt number 0 → (NoneWaits now left → Silent latest) → Follows course (now + k) os (later k (wire_with os latest))
    follows zero k h os latest less two round course bears few first silent = absurd (omega (arith, less))
    follows (suc fuel) k h os latest less two round (over number free) bears few first silent =
        let none : NoneWaits free [] = λ x there. absurd (stands-none x there) in
        follows-rest h free [] [] os latest round none (λ s made. absurd made) (silent none) (omega (arith, few)) k
        (λ j one_more. follows fuel j h (map rested os) (aged latest) (omega (arith, less, one_more)) (simp length-map two) (round-rested h free [] os round none) (over number (free + 1))
        (bears-rested [] os (round-rests h free [] os round none) bears) few (following-aged latest number first) (λ still. silent-aged latest (silent none)))
    follows (suc fuel) k h os latest less two round (attempted number free time f None left course is unhit window rest) bears few first silent = elim (cases_lt free time) [
      | inl early ↦
          let start : Transmission = record { time = time; frame = f; hit = None } in
          let none : NoneWaits free left = none-yet free left time f is early in
          let behind : (x : Transmission) → IsMade course x → time ≤ x.time = λ x made. omega (arith, course-free rest x made) in
          follows-rest h free left (start ∷ course) os latest round none (later-made free start course early behind) (silent none) (omega (arith, few)) k
          (λ j one_more. follows fuel j h (map rested os) (aged latest) (omega (arith, less, one_more)) (simp length-map two) (round-rested h free left os round none)
          (attempted number (free + 1) time f None left course (still-next free left time f is early) unhit window rest)
          (bears-rested (start ∷ course) os (round-rests h free left os round none) bears) few (following-aged latest number first) (λ still. silent-aged latest (silent none)))
      | inr begun ↦
          let start : Transmission = record { time = time; frame = f; hit = None } in
          let now : free ≡ time = omega (arith, begun, is.is_free) in
          let round_now : CourseRound h time left os = subst (λ t. CourseRound h t left os) now round in
          let levels : List (Level × Level) = undisturbed (with_intermission f) in
          let seen : seen_of levels ≡ with_intermission f = seen-undisturbed (with_intermission f) in
          let long : length levels ≡ length (with_intermission f) = length-undisturbed (with_intermission f) in
          let one : SendsOne f os = round-sends h time left os round_now f is.waits in
          let parts : AllPorts (HasPart f) os = one-parts f os one in
          let framed : IsFrame f = next-frame h time left os round_now f is.waits in
          let many : 1 < length (machines_of os) = simp length-map two in
          let gives : Gives gaining_drives gaining_sees levels (machines_of os) = frame-gives f (machines_of os) many (one-sends f os one) in
          let free_of : IsFree hits number = unhit-free hits number apart unhit in
          let counted : Counted hits latest levels number = whole-counted hits latest number first f framed free_of in
          let late : (s : Transmission) → IsMade course s → time + length (with_intermission f) ≤ s.time = λ s made. omega (arith, course-free rest s made, length-busy f) in
          at-time (start ∷ course) (time + k) (free + k) os (later k (wire_with os latest)) (omega (arith, now))
          (elim (cases_lt k (length levels)) [
            | inl within ↦
                attempt-within time number f None course os latest levels seen gives counted k (long ∙ length-busy f) within
                (subst (λ xs. Each (Becomes most (start ∷ course) (time + k)) os (ports_of (map (λ g. gaining_run g (take k xs)) (machines_of os)))) (sym seen)
                (each-within most h time (length left) f course (omega (arith, few)) os round_now.ports parts late k (omega (arith, within, long))))
            | inr past ↦
                let j : ℕ = k - length levels in
                let whole : length levels + j ≡ k = omega (arith, past) in
                let behind : CourseRound h (time + busy_time f) (without_offer f left) (map (behind_frame f) os) =
                subst (λ n. CourseRound h (time + n) (without_offer f left) (map (behind_frame f) os)) (length-busy f) (round-behind h time left os round_now f is.waits) in
                let next : HitWire GainingPort = wire_with (map (behind_frame f) os) (Some (attempt number counted.last)) in
                let after : Follows course ((time + busy_time f) + j) (map (behind_frame f) os) (later j next) =
                follows fuel j h (map (behind_frame f) os) (Some (attempt number counted.last)) (omega (arith, less, whole, long, length-with_intermission f)) (simp length-map two) behind rest
                (bears-behind most h time (length left) f course os round_now.ports parts bears) few refl (λ still. free_of) in
                subst (λ n. Follows (start ∷ course) (time + n) os (later n (wire_with os latest))) whole
                (attempt-behind time number f None course os latest levels seen gives counted (behind_frame f) (λ o. ap (gaining_run o.machine) (sym seen))
                (λ until ended ports each. each-behind most h time (length left) f course os round_now.ports parts until (omega (arith, ended, long, length-with_intermission f, length-wire f)) ports each) j
                (at-time course ((time + busy_time f) + j) ((time + length levels) + j) (map (behind_frame f) os) (later j next) (omega (arith, long, length-busy f)) after))
          ])
    ]
    follows (suc fuel) k h os latest less two round (attempted number free time f (Some offset) left course is struck window rest) bears few first silent = elim (cases_lt free time) [
      | inl early ↦
          let start : Transmission = record { time = time; frame = f; hit = Some offset } in
          let none : NoneWaits free left = none-yet free left time f is early in
          let behind : (x : Transmission) → IsMade course x → time ≤ x.time = λ x made. omega (arith, course-free rest x made) in
          follows-rest h free left (start ∷ course) os latest round none (later-made free start course early behind) (silent none) (omega (arith, few)) k
          (λ j one_more. follows fuel j h (map rested os) (aged latest) (omega (arith, less, one_more)) (simp length-map two) (round-rested h free left os round none)
          (attempted number (free + 1) time f (Some offset) left course (still-next free left time f is early) struck window rest)
          (bears-rested (start ∷ course) os (round-rests h free left os round none) bears) few (following-aged latest number first) (λ still. silent-aged latest (silent none)))
      | inr begun ↦
          let start : Transmission = record { time = time; frame = f; hit = Some offset } in
          let now : free ≡ time = omega (arith, begun, is.is_free) in
          let round_now : CourseRound h time left os = subst (λ t. CourseRound h t left os) now round in
          let one : SendsOne f os = round-sends h time left os round_now f is.waits in
          let parts : AllPorts (HasPart f) os = one-parts f os one in
          let framed : IsFrame f = next-frame h time left os round_now f is.waits in
          let hit : IsHit f offset = window-hit f framed offset window in
          let levels : List (Level × Level) = broken_levels f framed offset hit in
          let seen : seen_of levels ≡ attempt_levels f (Some offset) = broken-attempt f framed offset hit in
          let long : length levels ≡ hit_time f offset = length-broken f offset framed hit in
          let low : AllPorts (Survives f offset) (ports_now os) = all-survive most h time (length left) f course framed offset hit os parts bears in
          let many : 1 < length (machines_of os) = simp length-map two in
          let soon = breaks-soon f framed offset hit in
          let gives : Gives gaining_drives gaining_sees levels (machines_of os) =
          gaining-broken-gives f framed offset hit (IsWithin (suc h)) soon.0 soon.1.0 soon.1.1 (machines_of os) many (one-sends f os one)
          (bear-all h f framed offset hit (length left) (ports_now os) (all-calm h time (length left) os round_now.ports) low) in
          let here = struck-at hits number offset apart struck in
          let counted : Counted hits latest levels number = broken-counted hits latest number first f framed offset hit soon.0 here.0 here.1 in
          at-time (start ∷ course) (time + k) (free + k) os (later k (wire_with os latest)) (omega (arith, now))
          (elim (cases_lt k (length levels)) [
            | inl within ↦
                attempt-within time number f (Some offset) course os latest levels seen gives counted k long within
                (each-in_hit most h time (length left) f course framed offset hit (omega (arith, few)) (λ s made. course-free rest s made) os round_now.ports parts low k (omega (arith, within, long)))
            | inr past ↦
                let j : ℕ = k - length levels in
                let whole : length levels + j ≡ k = omega (arith, past) in
                let behind : CourseRound (suc h) (time + hit_time f offset) left (map (behind_hit f framed offset hit) os) =
                subst (λ n. CourseRound (suc h) (time + n) left (map (behind_hit f framed offset hit) os)) long (round-broken h time left os round_now f is.waits framed offset hit low) in
                let next : HitWire GainingPort = wire_with (map (behind_hit f framed offset hit) os) (Some (attempt number counted.last)) in
                let waits = next-left h time left os round_now f is.waits in
                let after : Follows course ((time + hit_time f offset) + j) (map (behind_hit f framed offset hit) os) (later j next) =
                follows fuel j (suc h) (map (behind_hit f framed offset hit) os) (Some (attempt number counted.last)) (omega (arith, less, whole, long)) (simp length-map two) behind rest
                (bears-behind_hit most h time (length left) f course framed offset hit os round_now.ports parts low bears) (omega (arith, few)) refl
                (λ still. absurd (omega (arith, still waits.0 waits.1, waits.2))) in
                subst (λ n. Follows (start ∷ course) (time + n) os (later n (wire_with os latest))) whole
                (attempt-behind time number f (Some offset) course os latest levels seen gives counted (behind_hit f framed offset hit) (λ o. refl)
                (λ until ended ports each. each-behind_hit most h time (length left) f course framed offset hit os round_now.ports parts low until (omega (arith, ended, long)) ports each) j
                (at-time course ((time + hit_time f offset) + j) ((time + length levels) + j) (map (behind_hit f framed offset hit) os) (later j next) (omega (arith, long)) after))
          ])
    ]
