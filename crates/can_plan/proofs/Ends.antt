-- Each frame of a message ends within the message's bound.
use Rattle.std.specs.Prelude.{filter, not, option_map, slice_get, take, ◌&&◌}
use Rattle.std.proofs.Common.{◌≡◌, ◌≢◌, ℕ, zero, suc, ◌+◌, ◌≤◌, Bool, true, false, cond, Some, List, [], ◌∷◌, ◌++◌, length, map, refl, sym, ◌∙◌, ap, subst, inl, inr, arith}
use Rattle.std.proofs.lemmas.Bool.{cond-true, cond-false, cases_Bool}
use Rattle.std.proofs.lemmas.Option.{slice_get-map}
use Rattle.can_frame.specs.Arbitration.{arbitration_field}
use Rattle.can_wire.specs.Wire.{wire}
use Rattle.can_node.specs.Ports.{same_field}
use Rattle.can_bus.specs.Course.{Transmission, hit_time}
use Rattle.can_bus.specs.CourseWaiting.{of_field, sends_of, was_hit}
use Rattle.can_bus.specs.Quiet.{busy_time}
use Rattle.can_bus.specs.Timed.{TimedParts}
use Rattle.can_bus.proofs.Members.{stands-none, stands-here, stands-later, stands-middle}
use Rattle.can_plan.specs.declared.message.Message.{Message}
use Rattle.can_plan.specs.Messages.{IsIn, IsMessageSet, IsOf, Release, offer_of}
use Rattle.can_plan.specs.Analysis.{IsBound, Ranking}
use Rattle.can_plan.specs.Ends.{EndAlways, EndWithin}
use Rattle.can_plan.proofs.FieldTests.{field-tests, filter-map_length, filter-place, filter-same, has_field}
use Rattle.can_plan.proofs.Counts.{busy-none, of-has, has-of}
use Rattle.can_plan.proofs.Windows.{IsLeft, IsNextOf, IsRanked, Window, ready}
use Rattle.can_plan.proofs.Moves.{left-among, sent_attempt, broken_attempt, sent-upper, broken-upper, sent-lower, broken-lower, ends-within}
use Rattle.can_bus.proofs.CourseDelays.{in-order}
use Rattle.can_plan.proofs.Runs.{Runs, none, runs-of, struck, whole}
use Rattle.can_plan.proofs.Sets.{left-keep, ranking-of}

-- the releases of a message, and the attempts that send a frame of it
abbrev releases_of : Message → List Release → List Release
releases_of m releases = filter (λ (r : Release). has_field m.field r.frame) releases

abbrev sends_by : Message → List Transmission → List Transmission
sends_by m course = filter (λ (s : Transmission). not (was_hit s.hit) && has_field m.field s.frame) course

-- the n-th of these attempts sends the n-th of these releases, in time
abbrev EndInTurn : Message → ℕ → List Release → List Transmission → Type 0
EndInTurn m bound releases course = (n : ℕ) (r : Release) → slice_get (releases_of m releases) n ≡ Some r →
    (s : Transmission) × (slice_get (sends_by m course) n ≡ Some s) × (s.time + length (wire r.frame) ≤ r.released + bound)

-- ---- which releases are left

module _ (m : Message) (x : Release) (after : List Release) where
  released-first : IsOf m x → (before : List Release) → ((z : Release) → IsIn before z → arbitration_field z.frame ≢ arbitration_field x.frame) →
      releases_of m (before ++ x ∷ after) ≡ x ∷ releases_of m (before ++ after)
  released-first of [] none_before = cond-true (has_field m.field x.frame) (x ∷ releases_of m after) (releases_of m after) (of-has m x of)
  released-first of (z ∷ before) none_before =
      elim (cases_Bool (has_field m.field z.frame)) [
        | inl e ↦ absurd (none_before z (stands-here z before) (has-of m z e ∙ sym of))
        | inr e ↦
            cond-false (has_field m.field z.frame) (z ∷ releases_of m (before ++ x ∷ after)) (releases_of m (before ++ x ∷ after)) e
            ∙ released-first of before (λ y s. none_before y (stands-later z before y s))
            ∙ ap (λ l. x ∷ l) (sym (cond-false (has_field m.field z.frame) (z ∷ releases_of m (before ++ after)) (releases_of m (before ++ after)) e))
      ]

  released-other : has_field m.field x.frame ≡ false → (before : List Release) → releases_of m (before ++ x ∷ after) ≡ releases_of m (before ++ after)
  released-other fails [] = cond-false (has_field m.field x.frame) (x ∷ releases_of m after) (releases_of m after) fails
  released-other fails (z ∷ before) = ap (λ l. cond (has_field m.field z.frame) (z ∷ l) l) (released-other fails before)

-- ---- one attempt after another

module _ (messages : List Message) (ranking : Ranking) (is : IsRanked messages ranking) (most : ℕ → ℕ) (bound limit : ℕ) (b : IsBound most limit ranking bound) where
  module _ (free start : ℕ) (x : Release) (before after : List Release) (course : List Transmission) (next : IsNextOf free start x before after) (lefts : IsLeft messages (before ++ x ∷ after))
      (w : Window messages ranking most b.long free (before ++ x ∷ after) (sent_attempt start x.frame ∷ course)) (behind : EndInTurn ranking.message bound (before ++ after) course) where
    first-passes : has_field ranking.message.field x.frame ≡ true → sends_by ranking.message (sent_attempt start x.frame ∷ course) ≡ sent_attempt start x.frame ∷ sends_by ranking.message course
    first-passes passes = cond-true (has_field ranking.message.field x.frame) (sent_attempt start x.frame ∷ sends_by ranking.message course) (sends_by ranking.message course) passes

    other : has_field ranking.message.field x.frame ≡ false → EndInTurn ranking.message bound (before ++ x ∷ after) (sent_attempt start x.frame ∷ course)
    other fails n r is_r =
        let more = behind n r (ap (λ l. slice_get l n) (sym (released-other ranking.message x after fails before)) ∙ is_r) in (
          more.0,
          ap (λ l. slice_get l n) (cond-false (has_field ranking.message.field x.frame) (sent_attempt start x.frame ∷ sends_by ranking.message course) (sends_by ranking.message course) fails) ∙ more.1,
          more.2,
        )

    own : has_field ranking.message.field x.frame ≡ true → EndInTurn ranking.message bound (before ++ x ∷ after) (sent_attempt start x.frame ∷ course)
    own passes zero r is_r =
        let of = has-of ranking.message x passes in
        let first_r : Some x ≡ Some r = ap (λ l. slice_get l 0) (sym (released-first ranking.message x after of before next.foremost)) ∙ is_r in
        let same_r : x ≡ r = cc in
        let end = ends-within messages ranking is most b.long free start x before after course lefts next bound limit b refl of
        (ready messages ranking is most b.long free (before ++ x ∷ after) (sent_attempt start x.frame ∷ course) w b.busy b.some lefts start next.is_free next.soon) in (
          sent_attempt start x.frame,
          ap (λ l. slice_get l 0) (first-passes passes),
          subst (λ (z : Release). start + length (wire z.frame) ≤ z.released + bound) same_r end,
        )
    own passes (suc k) r is_r =
        let of = has-of ranking.message x passes in
        let more = behind k r (ap (λ l. slice_get l (suc k)) (sym (released-first ranking.message x after of before next.foremost)) ∙ is_r) in
        (more.0, ap (λ l. slice_get l (suc k)) (first-passes passes) ∙ more.1, more.2)

    step : EndInTurn ranking.message bound (before ++ x ∷ after) (sent_attempt start x.frame ∷ course)
    step = elim (cases_Bool (has_field ranking.message.field x.frame)) [ inl passes ↦ own passes | inr fails ↦ other fails ]

  pub runs-end : {free : ℕ} {left : List Release} {course : List Transmission} → Runs free left course → IsLeft messages left → Window messages ranking most b.long free left course →
      EndInTurn ranking.message bound left course
  runs-end (none free) lefts w n r is_r = absurd (stands-none r (n, is_r))
  runs-end (struck free start x before after offset course next hit more) lefts w n r is_r =
      runs-end more lefts window n r is_r
    where
      known : (m : Message) × IsIn messages m × IsOf m x
      known = (lefts.fits x (stands-middle before x after)).known

      window : Window messages ranking most b.long (start + hit_time x.frame offset) (before ++ x ∷ after) course
      window = elim (is.either known.0 known.1) [
        | inl in_upper ↦ broken-upper messages ranking is most b.long free start x before after course lefts next (known.0, in_upper, known.2) offset hit
            (ready messages ranking is most b.long free (before ++ x ∷ after) (broken_attempt start x.frame offset ∷ course) w b.busy b.some lefts start next.is_free next.soon)
        | inr in_lower ↦ broken-lower messages ranking is most b.long free start x before after course lefts next known.0 in_lower known.2 offset hit b.busy w
      ]
  runs-end (whole free start x before after course next more) lefts w n r is_r =
      step free start x before after course next lefts w (runs-end more (left-among messages x after before lefts) window) n r is_r
    where
      known : (m : Message) × IsIn messages m × IsOf m x
      known = (lefts.fits x (stands-middle before x after)).known

      window : Window messages ranking most b.long (start + busy_time x.frame) (before ++ after) course
      window = elim (is.either known.0 known.1) [
        | inl in_upper ↦ sent-upper messages ranking is most b.long free start x before after course lefts next (known.0, in_upper, known.2)
            (ready messages ranking is most b.long free (before ++ x ∷ after) (sent_attempt start x.frame ∷ course) w b.busy b.some lefts start next.is_free next.soon)
        | inr in_lower ↦ sent-lower messages ranking is most b.long free start x before after course lefts next known.0 in_lower known.2 w
      ]

-- ---- the turn of a release is that of its offer

module _ (m : Message) (bound : ℕ) (releases : List Release) (course : List Transmission) (ends : EndInTurn m bound releases course) where
  pub in-turn : EndWithin m bound releases course
  in-turn place r at of =
      let turn : ℕ = length (filter (λ (x : Release). has_field m.field x.frame) (take place releases)) in
      let there = ends turn r (filter-place (λ (x : Release). has_field m.field x.frame) releases place r at (of-has m r of)) in
      let before : length (of_field r.frame (take place (map offer_of releases))) ≡ turn =
      filter-map_length offer_of (λ (x : TimedParts). same_field r.frame x.frame) releases place
      ∙ ap length (filter-same (λ (x : Release). same_field r.frame x.frame) (λ (x : Release). has_field m.field x.frame) (λ x. field-tests m.field r.frame x.frame of) (take place releases)) in
      let sends : sends_by m course ≡ sends_of r.frame course =
      filter-same (λ (s : Transmission). not (was_hit s.hit) && has_field m.field s.frame) (λ (s : Transmission). same_field r.frame s.frame && not (was_hit s.hit))
      (λ s. turned (was_hit s.hit) (field-tests m.field r.frame s.frame of)) course in (
        there.0,
        record {
          is_offer = slice_get-map offer_of releases place ∙ ap (option_map offer_of) at;
          is_attempt = ap (slice_get (sends_of r.frame course)) before ∙ ap (λ l. slice_get l turn) (sym sends) ∙ there.1;
        },
        there.2,
      )
    where
      turned : (hit : Bool) {a b : Bool} → a ≡ b → not hit && b ≡ a && not hit
      turned true {a} {b} e = both_no a
        where
          both_no : (c : Bool) → false ≡ c && false
          both_no true = refl
          both_no false = refl
      turned false {a} {b} e = sym e ∙ both_yes a
        where
          both_yes : (c : Bool) → c ≡ c && true
          both_yes true = refl
          both_yes false = refl

-- ---- on every course

pub ends-always : (ranking : Ranking) (most : ℕ → ℕ) (limit bound : ℕ) → IsMessageSet (ranking.higher ++ ranking.message ∷ ranking.lower) → IsBound most limit ranking bound →
    EndAlways most (ranking.higher ++ ranking.message ∷ ranking.lower) ranking.message bound
ends-always ranking most limit bound is b releases hits course made frames rise keep few =
    let messages : List Message = ranking.higher ++ ranking.message ∷ ranking.lower in
    in-turn ranking.message bound releases course
    (runs-end messages ranking (ranking-of messages is ranking refl) most bound limit b
    (runs-of made releases refl (in-order (map offer_of releases) rise) frames) (left-keep messages releases keep)
    (record {
      from = 0;
      served = [];
      past = [];
      since = record { began = λ y s. absurd (stands-none y s); members = λ y s. absurd (stands-none y s); fits = λ y s. absurd (stands-none y s); spaced = λ m s. tt };
      later = λ z s of. omega arith;
      apart = λ y z s. absurd (stands-none y s);
      spent = omega (arith, busy-none);
      hits_began = λ t s. absurd (stands-none t s);
      few = λ t len. (let h = few t len in omega arith);
      in_long = record { offers = λ y s. absurd (stands-none y s); hits = λ t s. absurd (stands-none t s) };
      in_delay = λ q d e f. record { offers = λ y s. absurd (stands-none y s); hits = λ t s. absurd (stands-none t s) };
    }))
