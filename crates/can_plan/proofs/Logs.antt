-- A log that names what attempts have sent names each frame in its turn.
use Rattle.std.specs.Prelude.{drop, filter, not, option_map, slice_get, ◌&&◌}
use Rattle.std.proofs.Common.{◌≡◌, ℕ, zero, suc, ◌+◌, ◌≤◌, Bool, true, false, cond, Option, None, Some, List, [], ◌∷◌, ◌++◌, length, map, refl, sym, ◌∙◌, ap, subst, inl, inr, arith}
use Rattle.std.proofs.lemmas.Bool.{cases_Bool}
use Rattle.std.proofs.lemmas.List.{append_assoc}
use Rattle.std.proofs.lemmas.List.Elements.{filter-append}
use Rattle.std.proofs.lemmas.Option.{slice_get-map}
use Rattle.can_frame.specs.Parts.{Parts}
use Rattle.can_node.specs.declared.entry.Entry.{Entry}
use Rattle.can_node.specs.Ports.{same_field}
use Rattle.can_terms.specs.declared.hit.Hit.{Hit}
use Rattle.can_bus.specs.Course.{IsCourse, Transmission, and_sent, attempted, ended_by, frames_sent, lasting, over}
use Rattle.can_bus.specs.CourseWaiting.{sends_of, was_hit}
use Rattle.can_bus.specs.Quiet.{IsPrefixOf, holds, marked}
use Rattle.can_bus.specs.Timed.{TimedParts}
use Rattle.can_bus.proofs.CourseTracks.{course-free}
use Rattle.can_bus.proofs.CourseWaits.{sends-hit, sends-made, sends-more, sends-other}
use Rattle.can_bus.proofs.CourseLogs.{ended-more}
use Rattle.can_plan.specs.OnBus.{entries_of}

-- ---- what has ended by then

module _ (f : Parts) (t : ℕ) where
  -- an attempt that sends its frame keeps its turn among those that have ended by then
  pub ended-turn : {hits : List Hit} {number free : ℕ} {left : List TimedParts} {course : List Transmission} → IsCourse hits number free left course → (n : ℕ) (s : Transmission) →
      slice_get (sends_of f course) n ≡ Some s → s.time + lasting s.frame s.hit ≤ t → slice_get (sends_of f (ended_by t course)) n ≡ Some s
  ended-turn (over number free) n s at ended = absurd (let h : None ≡ Some s = at in cc)
  ended-turn (attempted number free time g (Some offset) left course is struck window rest) n s at ended =
      let x : Transmission = record { time = time; frame = g; hit = Some offset } in
      let later : slice_get (sends_of f course) n ≡ Some s = ap (λ l. slice_get l n) (sym (sends-hit f time g course offset)) ∙ at in
      let behind = course-free rest s (sends-made f course n s later).0 in
      ap (λ l. slice_get (sends_of f l) n) (ended-more t x course (omega (arith, behind, ended)))
      ∙ ap (λ l. slice_get l n) (sends-hit f time g (ended_by t course) offset) ∙ ended-turn rest n s later ended
  ended-turn (attempted number free time g None left course is unhit window rest) n s at ended =
      elim (cases_Bool (same_field f g)) [
        | inl same ↦ own n (ap (λ l. slice_get l n) (sym (sends-more f time g course same)) ∙ at) same (λ k later. ended-turn rest k s later ended)
        | inr other ↦
            let later : slice_get (sends_of f course) n ≡ Some s = ap (λ l. slice_get l n) (sym (sends-other f time g course other)) ∙ at in
            ap (λ l. slice_get (sends_of f l) n) (ended-first n later)
            ∙ ap (λ l. slice_get l n) (sends-other f time g (ended_by t course) other) ∙ ended-turn rest n s later ended
      ]
    where
      x : Transmission
      x = record { time = time; frame = g; hit = None }

      ended-first : (n : ℕ) → slice_get (sends_of f course) n ≡ Some s → ended_by t (x ∷ course) ≡ x ∷ ended_by t course
      ended-first n later = let behind = course-free rest s (sends-made f course n s later).0 in ended-more t x course (omega (arith, behind, ended))

      own : (n : ℕ) → slice_get (x ∷ sends_of f course) n ≡ Some s → same_field f g ≡ true → ((k : ℕ) → slice_get (sends_of f course) k ≡ Some s → slice_get (sends_of f (ended_by t course)) k ≡ Some s) →
          slice_get (sends_of f (ended_by t (x ∷ course))) n ≡ Some s
      own zero here same behind =
          let one : x ≡ s = (let h : Some x ≡ Some s = here in cc) in
          let over_then : time + lasting g None ≤ t = subst (λ (z : Transmission). z.time + lasting z.frame z.hit ≤ t) (sym one) ended in
          ap (λ l. slice_get (sends_of f l) 0) (ended-more t x course over_then)
          ∙ ap (λ l. slice_get l 0) (sends-more f time g (ended_by t course) same) ∙ here
      own (suc n) later same behind =
          ap (λ l. slice_get (sends_of f l) (suc n)) (ended-first n later)
          ∙ ap (λ l. slice_get l (suc n)) (sends-more f time g (ended_by t course) same) ∙ behind n later

-- ---- the frames of a field, and their entries

module _ (f : Parts) where
  -- of the frames that are sent those of the field are the frames of the attempts that send one
  field-sent : (course : List Transmission) → filter (λ g. same_field f g) (frames_sent course) ≡ map (λ (s : Transmission). s.frame) (sends_of f course)
  field-sent [] = refl
  field-sent (s ∷ course) = by s.hit (field-sent course)
    where
      by : (hit : Option ℕ) → filter (λ g. same_field f g) (frames_sent course) ≡ map (λ (x : Transmission). x.frame) (sends_of f course) →
          filter (λ g. same_field f g) (and_sent hit s.frame (frames_sent course)) ≡ map (λ (x : Transmission). x.frame) (cond (same_field f s.frame && not (was_hit hit)) (s ∷ sends_of f course) (sends_of f course))
      by None rest = split (same_field f s.frame) rest
        where
          split : (b : Bool) → filter (λ g. same_field f g) (frames_sent course) ≡ map (λ (x : Transmission). x.frame) (sends_of f course) →
              cond b (s.frame ∷ filter (λ g. same_field f g) (frames_sent course)) (filter (λ g. same_field f g) (frames_sent course))
              ≡ map (λ (x : Transmission). x.frame) (cond (b && true) (s ∷ sends_of f course) (sends_of f course))
          split true e = ap (λ l. s.frame ∷ l) e
          split false e = e
      by (Some offset) rest = split (same_field f s.frame) rest
        where
          split : (b : Bool) → filter (λ g. same_field f g) (frames_sent course) ≡ map (λ (x : Transmission). x.frame) (sends_of f course) →
              filter (λ g. same_field f g) (frames_sent course) ≡ map (λ (x : Transmission). x.frame) (cond (b && false) (s ∷ sends_of f course) (sends_of f course))
          split true e = e
          split false e = e

  entries-marked : (mine frames : List Parts) → entries_of f (marked mine frames) ≡ marked mine (filter (λ g. same_field f g) frames)
  entries-marked mine [] = refl
  entries-marked mine (g ∷ frames) = split (same_field f g) (entries-marked mine frames)
    where
      entry : Entry
      entry = record { frame = g; sent = holds mine g }

      split : (b : Bool) → entries_of f (marked mine frames) ≡ marked mine (filter (λ h. same_field f h) frames) →
          cond b (record { frame = g; sent = holds mine g } ∷ entries_of f (marked mine frames)) (entries_of f (marked mine frames))
          ≡ marked mine (cond b (g ∷ filter (λ h. same_field f h) frames) (filter (λ h. same_field f h) frames))
      split true e = ap (λ l. let x : Entry = record { frame = g; sent = holds mine g } in x ∷ l) e
      split false e = e

  dropped : (front behind : List Entry) → drop (length front) (front ++ behind) ≡ behind
  dropped [] behind = refl
  dropped (x ∷ front) behind = dropped front behind

  front-stays : (a b : List Entry) (n : ℕ) (x : Entry) → slice_get a n ≡ Some x → slice_get (a ++ b) n ≡ Some x
  front-stays [] b n x at = absurd (let h : None ≡ Some x = at in cc)
  front-stays (y ∷ a) b zero x at = at
  front-stays (y ∷ a) b (suc n) x at = front-stays a b n x at

  -- a log that goes on with what these attempts have sent
  pub named : (log after : List Entry) (mine : List Parts) (course : List Transmission) (n : ℕ) (s : Transmission) → IsPrefixOf (log ++ marked mine (frames_sent course)) after →
      slice_get (sends_of f course) n ≡ Some s → slice_get (entries_of f (drop (length log) after)) n ≡ Some (record { frame = s.frame; sent = holds mine s.frame })
  named log after mine course n s begins at =
      let rest = begins.0 in
      let behind : drop (length log) after ≡ marked mine (frames_sent course) ++ rest =
      ap (drop (length log)) (sym begins.1 ∙ append_assoc log (marked mine (frames_sent course)) rest) ∙ dropped log (marked mine (frames_sent course) ++ rest) in
      let mark : Parts → Entry = λ g. record { frame = g; sent = holds mine g } in
      let there : slice_get (entries_of f (marked mine (frames_sent course))) n ≡ Some (mark s.frame) =
      ap (λ l. slice_get l n) (entries-marked mine (frames_sent course) ∙ ap (marked mine) (field-sent course))
      ∙ slice_get-map mark (map (λ (x : Transmission). x.frame) (sends_of f course)) n
      ∙ ap (option_map mark) (slice_get-map (λ (x : Transmission). x.frame) (sends_of f course) n ∙ ap (option_map (λ (x : Transmission). x.frame)) at) in
      ap (λ l. slice_get (entries_of f l) n) behind
      ∙ ap (λ l. slice_get l n) (filter-append (λ (x : Entry). same_field f x.frame) (marked mine (frames_sent course)) rest)
      ∙ front-stays (entries_of f (marked mine (frames_sent course))) (entries_of f rest) n (mark s.frame) there
