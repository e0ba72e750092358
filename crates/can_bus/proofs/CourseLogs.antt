-- What the attempts of a course leave at a port of a network: in its log, its counters and its missed entries.
use Rattle.std.proofs.Common.{◌≡◌, ℕ, zero, suc, ◌+◌, ◌<◌, ◌≤◌, ◌⊎◌, true, false, Option, Some, None, List, [], ◌∷◌, ◌++◌, length, take, refl, sym, ap, subst, ◌∙◌, arith, inl, inr, append_assoc}
use Rattle.std.proofs.Math.Dec.{leb, ltb}
use Rattle.std.proofs.lemmas.Bool.{cond-true, cond-false, cases_lt, le-leb, le-ltb, lt-leb}
use Rattle.std.proofs.lemmas.List.{append-nil, take_all}
use Rattle.can_frame.specs.declared.level.Level.{Level}
use Rattle.can_frame.specs.Parts.{Parts, IsFrame}
use Rattle.can_wire.specs.Wire.{wire, stuffed_part}
use Rattle.can_fault.specs.declared.cause.Cause.TheVariants.{FrameSent, FrameReceived}
use Rattle.can_fault.specs.Counters.{counted}
use Rattle.can_mac.specs.declared.phase.Phase.TheVariants.{Idle}
use Rattle.can_mac.specs.Frames.{with_intermission, behind_part, counters_after, role_at}
use Rattle.can_mac.proofs.FrameParts.{length-wire, length-with_intermission}
use Rattle.can_mac.proofs.FrameRoles.{role-own}
use Rattle.can_mac.proofs.HitLevels.{IsHit}
use Rattle.can_node.specs.declared.entry.Entry.{Entry}
use Rattle.can_node.specs.Ports.{PortState, waiting}
use Rattle.can_node.proofs.Arrivals.{GainingPort, gaining_run}
use Rattle.can_node.proofs.BrokenFrames.{seen_of}
use Rattle.can_node.proofs.OneFrame.{port_at}
use Rattle.can_node.proofs.FrameLeaves.{receiver-late, gaining_run-sent, gaining_run-received, log-unsent, log-sent, log-unreceived, log-received}
use Rattle.can_bus.specs.Course.{AllEnded, IsMade, Transmission, course_tally, ended_by, frames_sent, hit_time, lasting}
use Rattle.can_bus.specs.Network.{AllOver}
use Rattle.can_bus.specs.Quiet.{IsPrefixOf, holds, marked}
use Rattle.can_bus.specs.Attempts.{IsLow, Tally, tallied}
use Rattle.can_bus.proofs.RestingPorts.{IsAtRest}
use Rattle.can_bus.proofs.QuietLogs.{entry_of, misses-part}
use Rattle.can_bus.proofs.CalmPorts.{IsWithin}
use Rattle.can_bus.proofs.AttemptTallies.{Survives, holds-part, part-holds, reception-counts, sent-counts, tally_of}
use Rattle.can_bus.proofs.RepairCounts.{within-le, within-role}
use Rattle.can_bus.proofs.Repairs.{broken_levels, broken-tally, Stays, part-stays}
use Rattle.can_bus.proofs.HitKept.{Kept, along-part, hit-kept}
use Rattle.can_bus.proofs.CoursePorts.{CoursePort, IsCoursePort, rested, rested-turned, turned, HasPart, takes-part, behind_frame, behind_hit, hit_port, hit-turned}

-- the entries of these attempts at this port, after those that it has
abbrev pub log_of : List Transmission → CoursePort → List Entry
log_of course o = o.machine.port.log ++ marked o.mine (frames_sent course)

abbrev pub counts_of : CoursePort → Tally
counts_of o = tally_of o.machine.port.mac.counters

-- ---- the attempts that have ended

-- with one in front
module _ (t : ℕ) (s : Transmission) (course : List Transmission) where
  pub ended-more : s.time + lasting s.frame s.hit ≤ t → ended_by t (s ∷ course) ≡ s ∷ ended_by t course
  ended-more past = cond-true (leb (s.time + lasting s.frame s.hit) t) (s ∷ ended_by t course) (ended_by t course) (le-leb (s.time + lasting s.frame s.hit) t past)

  pub ended-skip : t < s.time + lasting s.frame s.hit → ended_by t (s ∷ course) ≡ ended_by t course
  ended-skip early = cond-false (leb (s.time + lasting s.frame s.hit) t) (s ∷ ended_by t course) (ended_by t course) (lt-leb (s.time + lasting s.frame s.hit) t early)

-- none that starts later
ended-none : (t : ℕ) (course : List Transmission) → ((s : Transmission) → IsMade course s → t < s.time) → ended_by t course ≡ []
ended-none t [] late = refl
ended-none t (s ∷ course) late = ended-skip t s course (omega (arith, late s (inl refl))) ∙ ended-none t course (λ x made. late x (inr made))

-- if none has, the log is at least what it was
has-none : (t : ℕ) (course : List Transmission) (o : CoursePort) (log : List Entry) → ended_by t course ≡ [] → IsPrefixOf o.machine.port.log log → IsPrefixOf (log_of (ended_by t course) o) log
has-none t course o log none is =
    subst (λ (l : List Entry). IsPrefixOf l log) (sym (ap (λ (some : List Transmission). log_of some o) none ∙ append-nil o.machine.port.log)) is

-- it is idle, has nothing left to send, and asks for no overload frame
pub record IsDone (p : PortState) : Type 0 where
  pub idle : p.mac.phase ≡ Idle
  pub empty : p.queue ≡ []
  pub unasked : p.mac.overloads.pending ≡ 0

-- what becomes of the port by this time, with these attempts still to come
pub record Becomes (most : ℕ) (course : List Transmission) (until : ℕ) (o : CoursePort) (p : PortState) : Type 0 where
  pub begins : IsPrefixOf p.log (log_of course o)
  pub has : IsPrefixOf (log_of (ended_by until course) o) p.log
  pub whole : AllEnded course until → p.log ≡ log_of course o
  pub within : IsWithin most p.mac.counters
  pub tally : AllEnded course until → tally_of p.mac.counters ≡ course_tally o.mine course (counts_of o)
  pub missed : p.missed ≡ o.machine.port.missed
  pub done : AllOver course until → IsDone p

-- ---- at rest

-- if no attempt has come, the port is as it was
pub becomes-now : (most : ℕ) (course : List Transmission) (now : ℕ) (o : CoursePort) → IsWithin most o.machine.port.mac.counters → IsDone o.machine.port →
    ((s : Transmission) → IsMade course s → now < s.time) → Becomes most course now o o.machine.port
becomes-now most course now o within done late = record {
  begins = (marked o.mine (frames_sent course), refl);
  has = has-none now course o o.machine.port.log (ended-none now course late) ([], append-nil o.machine.port.log);
  whole = whole course late;
  within = within;
  tally = tally course late;
  missed = refl;
  done = λ over. done;
}
  where
    whole : (course : List Transmission) → ((s : Transmission) → IsMade course s → now < s.time) → AllEnded course now → o.machine.port.log ≡ log_of course o
    whole [] late over = sym (append-nil o.machine.port.log)
    whole (s ∷ course) late over = absurd (omega (arith, late s (inl refl), over s (inl refl)))

    tally : (course : List Transmission) → ((s : Transmission) → IsMade course s → now < s.time) → AllEnded course now → counts_of o ≡ course_tally o.mine course (counts_of o)
    tally [] late over = refl
    tally (s ∷ course) late over = absurd (omega (arith, late s (inl refl), over s (inl refl)))

-- and a bit time at rest changes nothing
pub becomes-rested : (most : ℕ) (course : List Transmission) (until : ℕ) (o : CoursePort) (p : PortState) → IsAtRest o.machine.port → Becomes most course until (rested o) p → Becomes most course until o p
becomes-rested most course until o p rest becomes =
    let same : Becomes most course until (turned 1 o.machine.port o.own o) p = subst (λ v. Becomes most course until v p) (rested-turned o rest) becomes in
    record { begins = same.begins; has = same.has; whole = same.whole; within = same.within; tally = same.tally; missed = same.missed; done = same.done }

-- ---- what an attempt leaves

-- one entry more, or none; and the counters of the tally
pub record Leaves (hit : Option ℕ) (f : Parts) (entries : List Entry) (o : CoursePort) (left : PortState) : Type 0 where
  pub log : left.log ≡ o.machine.port.log ++ entries
  pub tally : tally_of left.mac.counters ≡ tallied (holds o.mine f) f hit (counts_of o)
  pub missed : left.missed ≡ o.machine.port.missed

-- after it, if these entries are those of the attempt
pub becomes-behind : (most : ℕ) (s : Transmission) (course : List Transmission) (entries : List Entry) (o next : CoursePort) → next.mine ≡ o.mine → Leaves s.hit s.frame entries o next.machine.port →
    ((rest : List Transmission) → marked o.mine (frames_sent (s ∷ rest)) ≡ entries ++ marked o.mine (frames_sent rest)) →
    (until : ℕ) → s.time + lasting s.frame s.hit ≤ until → (q : PortState) → Becomes most course until next q → Becomes most (s ∷ course) until o q
becomes-behind most s course entries o next same leaves more until ended q becomes =
    let logs : (rest : List Transmission) → log_of rest next ≡ log_of (s ∷ rest) o = λ rest.
    ap (λ es. es ++ marked next.mine (frames_sent rest)) leaves.log
    ∙ ap (λ queue. (o.machine.port.log ++ entries) ++ marked queue (frames_sent rest)) same
    ∙ append_assoc o.machine.port.log entries (marked o.mine (frames_sent rest))
    ∙ ap (λ es. o.machine.port.log ++ es) (sym (more rest)) in
    record {
      begins = subst (IsPrefixOf q.log) (logs course) becomes.begins;
      has = subst (λ (l : List Entry). IsPrefixOf l q.log) (logs (ended_by until course) ∙ ap (λ (some : List Transmission). log_of some o) (sym (ended-more until s course ended))) becomes.has;
      whole = λ over. becomes.whole (λ x made. over x (inr made)) ∙ logs course;
      within = becomes.within;
      tally = λ over.
          becomes.tally (λ x made. over x (inr made)) ∙ ap (λ queue. course_tally queue course (counts_of next)) same ∙ ap (course_tally o.mine course) leaves.tally;
      missed = becomes.missed ∙ leaves.missed;
      done = λ over. becomes.done (λ x made. over x (inr made));
    }

-- ---- a frame

module _ (h now n : ℕ) (f : Parts) (o : CoursePort) (is : IsCoursePort h now n o) where
  abbrev p : PortState
  p = o.machine.port

  abbrev entry : Entry
  entry = entry_of f (holds o.mine f)

  -- in each bit time the log is what it was, or has the entry too, which is there once the wire has ended
  log-within : (arrives : ℕ → List Parts) → HasPart f o → (k : ℕ) →
      ((k < length (wire f)) × ((port_at f p arrives k).log ≡ p.log)) ⊎ ((port_at f p arrives k).log ≡ p.log ++ entry ∷ [])
  log-within arrives (inl sends) k = elim (cases_lt (length (stuffed_part f) + 9) k) [
    | inl past ↦ inr (log-sent f p arrives sends.0 k past ∙ ap (λ s. p.log ++ entry_of f s ∷ []) (sym sends.1))
    | inr early ↦ inl (omega (arith, early, length-wire f), log-unsent f p arrives sends.0 k early)
  ]
  log-within arrives (inr receives) k = elim (cases_lt (length (stuffed_part f) + 8) k) [
    | inl past ↦ inr (log-received f p arrives receives.0 k past ∙ ap (λ s. p.log ++ entry_of f s ∷ []) (sym receives.1))
    | inr early ↦ inl (omega (arith, early, length-wire f), log-unreceived f p arrives receives.0 k early)
  ]

  -- the counters are those of the tally once the wire has ended
  sent-tally : tally_of (counted FrameSent p.mac.counters) ≡ tallied true f None (counts_of o)
  sent-tally = sent-counts h p.mac.counters is.calm.within

  received-tally : tally_of (counted FrameReceived p.mac.counters) ≡ tallied false f None (counts_of o)
  received-tally = reception-counts h p.mac.counters is.calm.within

  tally-end : (arrives : ℕ → List Parts) → HasPart f o → (k : ℕ) → length (wire f) ≤ k → tally_of (port_at f p arrives k).mac.counters ≡ tallied (holds o.mine f) f None (counts_of o)
  tally-end arrives part zero past = absurd (omega (arith, past, length-wire f))
  tally-end arrives (inl sends) (suc k) past =
      let c = p.mac.counters in
      ap (λ w. tally_of (counters_after (role_at f w (suc k)) c (behind_part f (suc k)))) sends.0.own
      ∙ ap (λ r. tally_of (counters_after r c (behind_part f (suc k)))) (role-own f (suc k))
      ∙ ap tally_of (cond-false (ltb (behind_part f (suc k)) 10) c (counted FrameSent c) (le-ltb (behind_part f (suc k)) 10 (omega (arith, past, length-wire f))))
      ∙ sent-tally ∙ ap (λ b. tallied b f None (counts_of o)) (sym sends.1)
  tally-end arrives (inr receives) (suc k) past =
      let c = p.mac.counters in
      let ready = receives.0.ready in
      ap (λ r. tally_of (counters_after r c (behind_part f (suc k)))) (receiver-late f (waiting p.queue) ready.frame ready.kept receives.0.other (suc k) (omega (arith, past, length-wire f)))
      ∙ ap tally_of (cond-false (ltb (behind_part f (suc k)) 2) c (counted FrameReceived c) (le-ltb (behind_part f (suc k)) 2 (omega (arith, past, length-wire f))))
      ∙ received-tally ∙ ap (λ b. tallied b f None (counts_of o)) (sym receives.1)

  within-at : HasPart f o → (k : ℕ) → IsWithin h (port_at f p o.machine.arrives k).mac.counters
  within-at part zero = is.calm.within
  within-at part (suc k) = within-role h (role_at f (waiting p.queue) (suc k)) p.mac.counters (behind_part f (suc k)) is.calm.within

  module _ (part : HasPart f o) (course : List Transmission) (most : ℕ) (few : h ≤ most) where
    abbrev start : Transmission
    start = record { time = now; frame = f; hit = None }

    abbrev behind : List Entry
    behind = marked o.mine (frames_sent course)

    -- within the frame
    pub becomes-within : ((s : Transmission) → IsMade course s → now + length (with_intermission f) ≤ s.time) → (k : ℕ) → k < length (with_intermission f) →
        Becomes most (start ∷ course) (now + k) o (port_at f p o.machine.arrives k)
    becomes-within late k less =
        let log = log-within o.machine.arrives part k in
        let none : ended_by (now + k) course ≡ [] = ended-none (now + k) course (λ s made. omega (arith, less, late s made)) in
        record {
          begins = elim log [
            | inl early ↦ subst (λ entries. IsPrefixOf entries (log_of (start ∷ course) o)) (sym early.1) (entry ∷ behind, refl)
            | inr past ↦ subst (λ entries. IsPrefixOf entries (log_of (start ∷ course) o)) (sym past) (behind, append_assoc p.log (entry ∷ []) behind)
          ];
          has = elim log [
            | inl early ↦
                has-none (now + k) (start ∷ course) o _ (ended-skip (now + k) start course (omega (arith, early.0)) ∙ none) (subst (IsPrefixOf p.log) (sym early.1) ([], append-nil p.log))
            | inr past ↦ elim (cases_lt k (length (wire f))) [
              | inl lasts ↦
                  has-none (now + k) (start ∷ course) o _ (ended-skip (now + k) start course (omega (arith, lasts)) ∙ none) (subst (IsPrefixOf p.log) (sym past) (entry ∷ [], refl))
              | inr over ↦
                  let one : ended_by (now + k) (start ∷ course) ≡ start ∷ [] = ended-more (now + k) start course (omega (arith, over)) ∙ ap (λ (l : List Transmission). start ∷ l) none in
                  subst (λ (l : List Entry). IsPrefixOf l (port_at f p o.machine.arrives k).log) (ap (λ (some : List Transmission). log_of some o) (sym one))
                  (subst (IsPrefixOf (p.log ++ entry ∷ [])) (sym past) ([], append-nil (p.log ++ entry ∷ [])))
            ]
          ];
          whole = λ over. elim log [
            | inl early ↦ absurd (omega (arith, early.0, over start (inl refl)))
            | inr past ↦ past ∙ ap (λ es. p.log ++ entry ∷ es) (nothing-left course late over)
          ];
          within = within-le h most few (port_at f p o.machine.arrives k).mac.counters (within-at part k);
          tally = λ over.
              tally-end o.machine.arrives part k (omega (arith, over start (inl refl))) ∙ no-more course late over (tallied (holds o.mine f) f None (counts_of o));
          missed = misses-part f p o.machine.arrives (takes-part f o part) k;
          done = λ over. absurd (omega (arith, less, length-with_intermission f, length-wire f, over start (inl refl)));
        }
      where
        nothing-left : (rest : List Transmission) → ((s : Transmission) → IsMade rest s → now + length (with_intermission f) ≤ s.time) → AllEnded (start ∷ rest) (now + k) → [] ≡ marked o.mine (frames_sent rest)
        nothing-left [] late over = refl
        nothing-left (s ∷ rest) late over = absurd (omega (arith, less, late s (inl refl), over s (inr (inl refl))))

        no-more : (rest : List Transmission) → ((s : Transmission) → IsMade rest s → now + length (with_intermission f) ≤ s.time) → AllEnded (start ∷ rest) (now + k) → (t : Tally) → t ≡ course_tally o.mine rest t
        no-more [] late over t = refl
        no-more (s ∷ rest) late over t = absurd (omega (arith, less, late s (inl refl), over s (inr (inl refl))))

  -- after it
  pub frame-leaves : HasPart f o → Leaves None f (entry ∷ []) o (behind_frame f o).machine.port
  frame-leaves (inl sends) = subst (Leaves None f (entry ∷ []) o) (ap (λ (g : GainingPort). g.port) (sym (gaining_run-sent f o.machine sends.0))) (record {
    log = ap (λ s. p.log ++ entry_of f s ∷ []) (sym sends.1);
    tally = sent-tally ∙ ap (λ b. tallied b f None (counts_of o)) (sym sends.1);
    missed = refl;
  })
  frame-leaves (inr receives) = subst (Leaves None f (entry ∷ []) o) (ap (λ (g : GainingPort). g.port) (sym (gaining_run-received f o.machine receives.0))) (record {
    log = ap (λ s. p.log ++ entry_of f s ∷ []) (sym receives.1);
    tally = received-tally ∙ ap (λ b. tallied b f None (counts_of o)) (sym receives.1);
    missed = refl;
  })

-- ---- a frame that is broken off

-- who has part in a frame counts as it says
pub part-mine : (f : Parts) (o : CoursePort) (part : HasPart f o) → part-holds f o.machine.port (takes-part f o part) ≡ holds o.mine f
part-mine f o (inl sends) = sym sends.1
part-mine f o (inr receives) = sym receives.1

pub mine-survives : (f : Parts) (offset : ℕ) (o : CoursePort) → HasPart f o → IsLow (tallied (holds o.mine f) f (Some offset) (counts_of o)) → Survives f offset o.machine.port
mine-survives f offset o part low =
    subst (λ b. IsLow (tallied b f (Some offset) (counts_of o))) (sym (holds-part f o.machine.port (takes-part f o part) ∙ part-mine f o part)) low

module _ (f : Parts) (framed : IsFrame f) (offset : ℕ) (hit : IsHit f offset) (h now n : ℕ) (o : CoursePort) (is : IsCoursePort h now n o) (low : Survives f offset o.machine.port) (part : HasPart f o) where
  abbrev q : PortState
  q = o.machine.port

  abbrev here : Transmission
  here = record { time = now; frame = f; hit = Some offset }

  abbrev levels : List (Level × Level)
  levels = broken_levels f framed offset hit

  -- within it
  pub becomes-in_hit : (course : List Transmission) (most : ℕ) → suc h ≤ most → ((s : Transmission) → IsMade course s → now + hit_time f offset ≤ s.time) → (k : ℕ) → k < hit_time f offset →
      Becomes most (here ∷ course) (now + k) o (gaining_run o.machine (take k (seen_of levels))).port
  becomes-in_hit course most few late k less =
      let r : PortState = (gaining_run o.machine (take k (seen_of levels))).port in
      let kept : Kept (suc h) q.log q.missed r =
      along-part (Kept (suc h) q.log q.missed) k (seen_of levels) o.machine (hit-kept h f framed offset hit o.machine n is.calm low (takes-part f o part)) in
      record {
        begins = subst (λ entries. IsPrefixOf entries (log_of (here ∷ course) o)) (sym kept.same_log) (marked o.mine (frames_sent course), refl);
        has =
            has-none (now + k) (here ∷ course) o r.log
            (ended-skip (now + k) here course (omega (arith, less)) ∙ ended-none (now + k) course (λ s made. omega (arith, less, late s made)))
            (subst (IsPrefixOf q.log) (sym kept.same_log) ([], append-nil q.log));
        whole = λ over. absurd (omega (arith, less, over here (inl refl)));
        within = within-le (suc h) most few r.mac.counters kept.within;
        tally = λ over. absurd (omega (arith, less, over here (inl refl)));
        missed = kept.same_missed;
        done = λ over. absurd (omega (arith, less, over here (inl refl)));
      }

  -- after it
  pub hit-leaves : Leaves (Some offset) f [] o (behind_hit f framed offset hit o).machine.port
  hit-leaves =
      let left : PortState = hit_port f framed offset hit q in
      let stays : Stays h f framed offset hit n q left = part-stays h f framed offset hit n q is.calm low (takes-part f o part) in
      let along = along-part (Kept (suc h) q.log q.missed) (length (seen_of levels)) (seen_of levels) o.machine (hit-kept h f framed offset hit o.machine n is.calm low (takes-part f o part)) in
      let all : (gaining_run o.machine (take (length (seen_of levels)) (seen_of levels))).port ≡ (behind_hit f framed offset hit o).machine.port =
      ap (λ xs. (gaining_run o.machine xs).port) (take_all (length (seen_of levels)) (seen_of levels) (omega arith)) in
      record {
        log = ap (λ (v : CoursePort). v.machine.port.log) (hit-turned f framed offset hit h n o is.calm low part) ∙ stays.log ∙ sym (append-nil q.log);
        tally =
            ap (λ (v : CoursePort). tally_of v.machine.port.mac.counters) (hit-turned f framed offset hit h n o is.calm low part)
            ∙ broken-tally h f framed offset hit n q is.calm low (takes-part f o part) ∙ ap (λ b. tallied b f (Some offset) (counts_of o)) (part-mine f o part);
        missed = sym (ap (λ (r : PortState). r.missed) all) ∙ along.same_missed;
      }
