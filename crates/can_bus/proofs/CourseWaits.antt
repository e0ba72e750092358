-- How long exactly an offered frame waits until it is sent on a network with hits.
use Rattle.std.specs.Prelude.{max, nat_le, nat_lt, filter, not, slice_get, ◌&&◌}
use Rattle.std.proofs.Common.{◌≡◌, ℕ, suc, ◌+◌, ◌-◌, ◌<◌, ◌≤◌, ◌⊎◌, Bool, true, false, Option, Some, None, List, [], ◌∷◌, ◌++◌, length, refl, sym, ◌∙◌, ap, subst, inl, inr, arith}
use Rattle.std.proofs.lemmas.Bool.{cond-true, cond-false, cases_Bool, cases_lt, le-leb, lt-leb, lt-ltb, le-ltb}
use Rattle.std.proofs.lemmas.List.Sums.{sum_by-cons}
use Rattle.can_frame.specs.Parts.{Parts}
use Rattle.can_frame.specs.Arbitration.{arbitration_field, field_cmp, Before}
use Rattle.can_frame.proofs.FieldLemmas.{fields_ranked}
use Rattle.can_node.specs.Ports.{is_equal, same_field}
use Rattle.can_node.proofs.WaitingLemmas.{same_field-Shares, Shares-same_field}
use Rattle.can_terms.specs.declared.hit.Hit.{Hit}
use Rattle.can_bus.specs.Course.{Transmission, IsNext, IsCourse, over, attempted, IsMade, keeping, left_by}
use Rattle.can_bus.specs.CourseWaiting.{attempts_between, kept_times, left_on, of_field, sends_of, was_hit}
use Rattle.can_bus.specs.Timed.{TimedParts, Lists, offered_by, without_offer}
use Rattle.can_bus.proofs.CourseTracks.{course-free, made-at}
use Rattle.can_bus.proofs.Fields.{field-more, field-without, like-offered, waiting-head, without-behind, without-front, without-length, without-order}
use Rattle.can_bus.proofs.Members.{stands-cases, stands-filter, stands-middle, filter-stands}
use Rattle.can_bus.proofs.LeftOffers.{stands-offered}
use Rattle.can_bus.proofs.OfferTimes.{AreInOrder, by-early, by-none}
use Rattle.can_bus.proofs.OwnedFields.{field-append, field-cases, field-none}
use Rattle.can_bus.proofs.OwnOffers.{first-stays, without-absent}
use Rattle.can_bus.proofs.QuietLogs.{other-test}

-- ---- what is left of an attempt, with one in front

module _ (t : ℕ) (s : Transmission) (course : List Transmission) where
  abbrev over_at : ℕ
  over_at = s.time + keeping s.frame s.hit

  abbrev lasts_at : Bool
  lasts_at = nat_lt s.time t && nat_lt t over_at

  pub left-during : s.time < t → t < over_at → left_on t (s ∷ course) ≡ over_at - t
  left-during begun lasts = cond-true lasts_at (over_at - t) (left_on t course) (ap (λ b. b && nat_lt t over_at) (lt-ltb s.time t begun) ∙ lt-ltb t over_at lasts)

  pub left-before : t ≤ s.time → left_on t (s ∷ course) ≡ left_on t course
  left-before early = cond-false lasts_at (over_at - t) (left_on t course) (ap (λ b. b && nat_lt t over_at) (le-ltb s.time t early))

  pub left-past : s.time < t → over_at ≤ t → left_on t (s ∷ course) ≡ left_on t course
  left-past begun past = cond-false lasts_at (over_at - t) (left_on t course) (ap (λ b. b && nat_lt t over_at) (lt-ltb s.time t begun) ∙ le-ltb t over_at past)

-- nothing before the first attempt
pub left-none : (t : ℕ) (course : List Transmission) → ((s : Transmission) → IsMade course s → t ≤ s.time) → left_on t course ≡ 0
left-none t [] late = refl
left-none t (s ∷ course) late = left-before t s course (late s (inl refl)) ∙ left-none t course (λ x made. late x (inr made))

-- ---- the attempts between two times, with one in front

module _ (from until : ℕ) (s : Transmission) (course : List Transmission) where
  abbrev between : Bool
  between = nat_le from s.time && nat_lt s.time until

  pub between-more : from ≤ s.time → s.time < until → attempts_between from until (s ∷ course) ≡ s ∷ attempts_between from until course
  between-more begun early =
      cond-true between (s ∷ attempts_between from until course) (attempts_between from until course) (ap (λ b. b && nat_lt s.time until) (le-leb from s.time begun) ∙ lt-ltb s.time until early)

  pub between-before : s.time < from → attempts_between from until (s ∷ course) ≡ attempts_between from until course
  between-before early =
      cond-false between (s ∷ attempts_between from until course) (attempts_between from until course) (ap (λ b. b && nat_lt s.time until) (lt-leb from s.time early))

  pub between-late : until ≤ s.time → attempts_between from until (s ∷ course) ≡ attempts_between from until course
  between-late late =
      elim (cases_Bool (nat_le from s.time)) [
        | inl begun ↦ cond-false between (s ∷ attempts_between from until course) (attempts_between from until course) (ap (λ b. b && nat_lt s.time until) begun ∙ le-ltb s.time until late)
        | inr early ↦ cond-false between (s ∷ attempts_between from until course) (attempts_between from until course) (ap (λ b. b && nat_lt s.time until) early)
      ]

pub between-none : (from until : ℕ) (course : List Transmission) → ((s : Transmission) → IsMade course s → until ≤ s.time) → attempts_between from until course ≡ []
between-none from until [] late = refl
between-none from until (s ∷ course) late = between-late from until s course (late s (inl refl)) ∙ between-none from until course (λ x made. late x (inr made))

-- ---- the attempts that send a frame of a field

module _ (f : Parts) (time : ℕ) (g : Parts) (course : List Transmission) where
  abbrev one_sent : Transmission
  one_sent = record { time = time; frame = g; hit = None }

  pub sends-more : same_field f g ≡ true → sends_of f (one_sent ∷ course) ≡ one_sent ∷ sends_of f course
  sends-more same = cond-true (same_field f g && true) (one_sent ∷ sends_of f course) (sends_of f course) (ap (λ b. b && true) same)

  pub sends-other : same_field f g ≡ false → sends_of f (one_sent ∷ course) ≡ sends_of f course
  sends-other other = cond-false (same_field f g && true) (one_sent ∷ sends_of f course) (sends_of f course) (ap (λ b. b && true) other)

  pub sends-hit : (offset : ℕ) → sends_of f (record { time = time; frame = g; hit = Some offset } ∷ course) ≡ sends_of f course
  sends-hit offset =
      let s : Transmission = record { time = time; frame = g; hit = Some offset } in
      elim (cases_Bool (same_field f g)) [
        | inl same ↦ cond-false (same_field f g && false) (s ∷ sends_of f course) (sends_of f course) (ap (λ b. b && false) same)
        | inr other ↦ cond-false (same_field f g && false) (s ∷ sends_of f course) (sends_of f course) (ap (λ b. b && false) other)
      ]

pub sends-made : (f : Parts) (course : List Transmission) (n : ℕ) (s : Transmission) → slice_get (sends_of f course) n ≡ Some s → IsMade course s × (same_field f s.frame && not (was_hit s.hit) ≡ true)
sends-made f course n s at =
    let there = filter-stands (λ (x : Transmission). same_field f x.frame && not (was_hit x.hit)) course s (n, at) in
    (made-at course there.0.0 s there.0.1, there.1)

-- ---- the first offer of a field is the one whose frame waits

-- the offers of each field come in the order of time
abbrev pub FieldsInOrder : List TimedParts → Type 0
FieldsInOrder left = (f : Parts) → AreInOrder (of_field f left)

pub fields-without : (f : Parts) (left : List TimedParts) → FieldsInOrder left → FieldsInOrder (without_offer f left)
fields-without f left order g = subst AreInOrder (sym (field-without g f left)) (without-order f (of_field g left) (order g))

pub fields-left : (f : Parts) (hit : Option ℕ) (left : List TimedParts) → FieldsInOrder left → FieldsInOrder (left_by f hit left)
fields-left f None left order = fields-without f left order
fields-left f (Some offset) left order = order

pub same-fields : (f g : Parts) (left : List TimedParts) → arbitration_field f ≡ arbitration_field g → of_field f left ≡ of_field g left
same-fields f g left e = ap (λ field. filter (λ x. is_equal (field_cmp field (arbitration_field x.frame))) left) e

-- the first of these offers of one field
pub record IsFirstLeft (time : ℕ) (f : Parts) (left : List TimedParts) : Type 0 where
  pub offer : TimedParts
  pub more : List TimedParts
  pub first : of_field f left ≡ offer ∷ more
  pub frame : offer.frame ≡ f
  pub in_time : offer.time ≤ time

first-of : (time : ℕ) (f : Parts) (own more : List TimedParts) (behind : List Parts) → AreInOrder own → own ≡ more → offered_by time own ≡ f ∷ behind →
    (x : TimedParts) × (rest : List TimedParts) × (more ≡ x ∷ rest) × (x.frame ≡ f) × (x.time ≤ time)
first-of time f [] more behind order same offered = absurd (let h : [] ≡ f ∷ behind = offered in cc)
first-of time f (x ∷ own) more behind order same offered = elim (cases_lt time x.time) [
  | inl late ↦
      let none : offered_by time (x ∷ own) ≡ [] = by-none time x.time (x ∷ own) late (λ y there. elim (stands-cases x own y there) [
        | inl here ↦ subst (λ (z : TimedParts). x.time ≤ z.time) here (omega arith)
        | inr later ↦ order.0 y later
      ]) in
      absurd (let h : [] ≡ f ∷ behind = sym none ∙ offered in cc)
  | inr early ↦
      let both : x.frame ∷ offered_by time own ≡ f ∷ behind = sym (by-early x own time early) ∙ offered in
      let e : x.frame ≡ f = cc in
      (x, own, sym same, e, early)
]

pub first-left : (free : ℕ) (left : List TimedParts) (time : ℕ) (f : Parts) → IsNext free left time f → FieldsInOrder left → IsFirstLeft time f left
first-left free left time f is order =
    let head = waiting-head (offered_by time left) f is.waits in
    let found = first-of time f (of_field f left) (of_field f left) head.0 (order f) refl (sym (like-offered f time left) ∙ head.1) in
    record { offer = found.0; more = found.1; first = found.2; frame = found.3; in_time = found.4 }

-- ---- an offer that is left, with those before it and after it, and the attempt that sends it

pub record Awaits (left : List TimedParts) (course : List Transmission) (x : TimedParts) (s : Transmission) (before : List TimedParts) : Type 0 where
  pub after : List TimedParts
  pub whole : left ≡ before ++ x ∷ after
  pub turn : slice_get (sends_of x.frame course) (length (of_field x.frame before)) ≡ Some s

pub awaits-made : {left before : List TimedParts} {course : List Transmission} {x : TimedParts} {s : Transmission} → Awaits left course x s before → IsMade course s × (same_field x.frame s.frame && not (was_hit s.hit) ≡ true)
awaits-made {left} {before} {course} {x} {s} waits = sends-made x.frame course (length (of_field x.frame before)) s waits.turn

pub awaits-listed : {left before : List TimedParts} {course : List Transmission} {x : TimedParts} {s : Transmission} → Awaits left course x s before → Lists left x
awaits-listed {left} {before} {course} {x} {s} waits = subst (λ l. Lists l x) (sym waits.whole) (stands-middle before x waits.after)

module _ (free time : ℕ) (f : Parts) (left : List TimedParts) (course : List Transmission) (is : IsNext free left time f) (order : FieldsInOrder left)
    (x : TimedParts) (s : Transmission) (before : List TimedParts) where
  abbrev first : Option ℕ → Transmission
  first hit = record { time = time; frame = f; hit = hit }

  -- the attempt sends it
  pub record SendsIt (hit : Option ℕ) : Type 0 where
    pub same : first hit ≡ s
    pub unhit : hit ≡ None
    pub frame : f ≡ x.frame
    pub in_time : x.time ≤ time

  -- or another of its field that is before it, or one of another field
  abbrev pub SendsOther : Type 0
  SendsOther = Awaits (without_offer f left) course x s (without_offer f before)

  pub sends-it : (waits : Awaits left (first None ∷ course) x s before) → same_field x.frame f ≡ true → of_field x.frame before ≡ [] → SendsIt None
  sends-it waits same none =
      let head = first-left free left time f is order in
      let own : of_field f left ≡ x ∷ of_field x.frame waits.after =
      same-fields f x.frame left (sym (same_field-Shares x.frame f same)) ∙ ap (of_field x.frame) waits.whole ∙ field-append x.frame before (x ∷ waits.after)
      ∙ ap (λ l. l ++ of_field x.frame (x ∷ waits.after)) none ∙ field-more x.frame x waits.after (Shares-same_field x.frame x.frame refl) in
      let both : head.offer ∷ head.more ≡ x ∷ of_field x.frame waits.after = sym head.first ∙ own in
      let one : head.offer ≡ x = cc in
      let turn : slice_get (first None ∷ sends_of x.frame course) 0 ≡ Some s =
      ap (λ n. slice_get (first None ∷ sends_of x.frame course) n) (sym (ap length none)) ∙ ap (λ l. slice_get l (length (of_field x.frame before))) (sym (sends-more x.frame time f course same)) ∙ waits.turn in
      let here : first None ≡ s = (let h : Some (first None) ≡ Some s = turn in cc) in
      record { same = here; unhit = refl; frame = sym head.frame ∙ ap (λ (y : TimedParts). y.frame) one; in_time = subst (λ (y : TimedParts). y.time ≤ time) one head.in_time }

  -- one of its field
  sends-earlier : (waits : Awaits left (first None ∷ course) x s before) → same_field x.frame f ≡ true → (y : TimedParts) → Lists before y → arbitration_field x.frame ≡ arbitration_field y.frame → SendsOther
  sends-earlier waits same y there e =
      let of_f : same_field f y.frame ≡ true = Shares-same_field f y.frame (sym (same_field-Shares x.frame f same) ∙ e) in
      let own : Lists (of_field x.frame before) y = stands-filter (λ z. same_field x.frame z.frame) before y there (Shares-same_field x.frame y.frame e) in
      let less : length (of_field x.frame before) ≡ suc (length (of_field x.frame (without_offer f before))) =
      without-length f (of_field x.frame before) y own of_f ∙ ap (λ (l : List TimedParts). suc (length l)) (sym (field-without x.frame f before)) in
      record {
        after = waits.after;
        whole = ap (without_offer f) waits.whole ∙ without-front f before (x ∷ waits.after) y there of_f;
        turn =
            ap (λ n. slice_get (first None ∷ sends_of x.frame course) n) (sym less) ∙ ap (λ l. slice_get l (length (of_field x.frame before))) (sym (sends-more x.frame time f course same))
            ∙ waits.turn;
      }

  -- one of another field
  pub others-kept : same_field x.frame f ≡ false → of_field x.frame (without_offer f before) ≡ of_field x.frame before
  others-kept other =
      field-without x.frame f before
      ∙ without-absent f (of_field x.frame before) (λ y there e. (
      let passed : same_field x.frame y.frame ≡ true = (filter-stands (λ z. same_field x.frame z.frame) before y there).1 in
      let same : same_field x.frame f ≡ true = Shares-same_field x.frame f (same_field-Shares x.frame y.frame passed ∙ sym e) in
      cc))

  without-it : same_field x.frame f ≡ false → (after : List TimedParts) → (rest : List TimedParts) × (without_offer f (before ++ x ∷ after) ≡ without_offer f before ++ x ∷ rest)
  without-it other after = elim (field-cases f before) [
    | inr has ↦ (after, without-front f before (x ∷ after) has.0 has.1 (Shares-same_field f has.0.frame has.2))
    | inl none ↦ (
      without_offer f after,
      without-behind f before (x ∷ after) none
          ∙ ap (λ l. before ++ l) (first-stays f x after (other-test f x.frame (λ e. (let same : same_field x.frame f ≡ true = Shares-same_field x.frame f (sym e) in cc))))
          ∙ ap (λ l. l ++ x ∷ without_offer f after) (sym (without-absent f before none)),
    )
  ]

  sends-apart : (waits : Awaits left (first None ∷ course) x s before) → same_field x.frame f ≡ false → SendsOther
  sends-apart waits other =
      let out = without-it other waits.after in
      record {
        after = out.0;
        whole = ap (without_offer f) waits.whole ∙ out.1;
        turn =
            ap (λ l. slice_get (sends_of x.frame course) (length l)) (others-kept other) ∙ ap (λ l. slice_get l (length (of_field x.frame before))) (sym (sends-other x.frame time f course other))
            ∙ waits.turn;
      }

  -- an attempt that is hit leaves it as it is
  pub hit-awaits : (offset : ℕ) → Awaits left (first (Some offset) ∷ course) x s before → Awaits left course x s before
  hit-awaits offset waits = record {
    after = waits.after;
    whole = waits.whole;
    turn = ap (λ l. slice_get l (length (of_field x.frame before))) (sym (sends-hit x.frame time f course offset)) ∙ waits.turn;
  }

  -- so the attempt sends it, or leaves it
  pub sent-cases : (hit : Option ℕ) → Awaits left (first hit ∷ course) x s before → SendsIt hit ⊎ Awaits (left_by f hit left) course x s (left_by f hit before)
  sent-cases (Some offset) waits = inr (hit-awaits offset waits)
  sent-cases None waits = elim (cases_Bool (same_field x.frame f)) [
    | inl same ↦ elim (field-cases x.frame before) [
      | inl none ↦ inl (sends-it waits same (field-none x.frame before none))
      | inr has ↦ inr (sends-earlier waits same has.0 has.1 has.2)
    ]
    | inr other ↦ inr (sends-apart waits other)
  ]

-- ---- the wait

abbrev pub meantime : List Transmission → TimedParts → Transmission → ℕ
meantime course x s = kept_times (attempts_between x.time s.time course)

abbrev pub IsExact : ℕ → List Transmission → TimedParts → Transmission → Type 0
IsExact free course x s = s.time ≡ max free x.time + left_on x.time course + meantime course x s

-- the attempt comes next
exact-here : (free : ℕ) (left : List TimedParts) (s : Transmission) (course : List Transmission) → IsNext free left s.time s.frame → ((a : Transmission) → IsMade course a → s.time ≤ a.time) →
    (x : TimedParts) → Lists left x → x.time ≤ s.time → IsExact free (s ∷ course) x s
exact-here free left s course is behind x listed early =
    let soon = is.soon x listed in
    let after = is.is_free in
    let none_left = left-before x.time s course early ∙ left-none x.time course (λ a made. let h = behind a made in omega arith) in
    let none_between : meantime (s ∷ course) x s ≡ 0 = ap kept_times (between-late x.time s.time s course (omega arith) ∙ between-none x.time s.time course behind) in
    omega arith

-- another comes next
exact-behind : (free : ℕ) (left : List TimedParts) (a : Transmission) (course : List Transmission) → IsNext free left a.time a.frame →
    ((s : Transmission) → IsMade course s → a.time + keeping a.frame a.hit ≤ s.time) → (x : TimedParts) (s : Transmission) → Lists left x → IsMade course s →
    IsExact (a.time + keeping a.frame a.hit) course x s → IsExact free (a ∷ course) x s
exact-behind free left a course is behind x s listed made exact =
    let soon = is.soon x listed in
    let after = is.is_free in
    let later = behind s made in
    let over : ℕ = a.time + keeping a.frame a.hit in
    elim (cases_lt a.time x.time) [
      | inr early ↦
          let none = left-before x.time a course early in
          let some : left_on x.time course ≡ 0 = left-none x.time course (λ z stands. let h = behind z stands in omega arith) in
          elim (cases_lt a.time s.time) [
            | inl goes ↦
                let one : meantime (a ∷ course) x s ≡ keeping a.frame a.hit + meantime course x s =
                ap kept_times (between-more x.time s.time a course early goes) ∙ sum_by-cons (λ (z : Transmission). keeping z.frame z.hit) a (attempts_between x.time s.time course) in
                omega arith
            | inr same ↦
                let one : meantime (a ∷ course) x s ≡ meantime course x s = ap kept_times (between-late x.time s.time a course same) in
                omega arith
          ]
      | inl late ↦
          let same : meantime (a ∷ course) x s ≡ meantime course x s = ap kept_times (between-before x.time s.time a course late) in
          elim (cases_lt x.time over) [
            | inl within ↦
                let part = left-during x.time a course late within in
                let none : left_on x.time course ≡ 0 = left-none x.time course (λ z stands. let h = behind z stands in omega arith) in
                omega arith
            | inr past ↦
                let none = left-past x.time a course late past in
                omega arith
          ]
    ]

pub wait-exact : {hits : List Hit} {number free : ℕ} {left : List TimedParts} {course : List Transmission} → IsCourse hits number free left course → FieldsInOrder left →
    (x : TimedParts) (s : Transmission) (before : List TimedParts) → Awaits left course x s before → IsExact free course x s
wait-exact (over number free) order x s before waits = absurd (let h : None ≡ Some s = waits.turn in cc)
wait-exact (attempted number free time f hit left course is told window rest) order x s before waits =
    let a : Transmission = record { time = time; frame = f; hit = hit } in
    elim (sent-cases free time f left course is order x s before hit waits) [
      | inl here ↦
          subst (IsExact free (a ∷ course) x) here.same
          (exact-here free left a course is (λ z made. let h = course-free rest z made in omega (arith, h)) x (awaits-listed waits) here.in_time)
      | inr later ↦
          exact-behind free left a course is (course-free rest) x s (awaits-listed waits) (awaits-made later).0
          (wait-exact rest (fields-left f hit left order) x s (left_by f hit before) later)
    ]

-- it is the frame that is sent, when it has been offered
pub record IsOwn (x : TimedParts) (s : Transmission) : Type 0 where
  pub frame : s.frame ≡ x.frame
  pub unhit : s.hit ≡ None
  pub in_time : x.time ≤ s.time

pub wait-own : {hits : List Hit} {number free : ℕ} {left : List TimedParts} {course : List Transmission} → IsCourse hits number free left course → FieldsInOrder left →
    (x : TimedParts) (s : Transmission) (before : List TimedParts) → Awaits left course x s before → IsOwn x s
wait-own (over number free) order x s before waits = absurd (let h : None ≡ Some s = waits.turn in cc)
wait-own (attempted number free time f hit left course is told window rest) order x s before waits =
    elim (sent-cases free time f left course is order x s before hit waits) [
      | inl here ↦ record {
        frame = sym (ap (λ (z : Transmission). z.frame) here.same) ∙ here.frame;
        unhit = sym (ap (λ (z : Transmission). z.hit) here.same) ∙ here.unhit;
        in_time = subst (λ (z : Transmission). x.time ≤ z.time) here.same here.in_time;
      }
      | inr later ↦ wait-own rest (fields-left f hit left order) x s (left_by f hit before) later
    ]

-- ---- each attempt that starts in between goes before it, or sends a frame of its field

abbrev pub GoesFirst : Transmission → TimedParts → Type 0
GoesFirst z x = Before (arbitration_field z.frame) (arbitration_field x.frame) ⊎ (arbitration_field z.frame ≡ arbitration_field x.frame)

pub next-first : (free : ℕ) (left : List TimedParts) (a : Transmission) → IsNext free left a.time a.frame → (x : TimedParts) → Lists left x → x.time ≤ a.time → GoesFirst a x
next-first free left a is x listed early =
    let at = stands-offered a.time left x listed early in
    elim (fields_ranked a.frame x.frame) [
      | inl goes ↦ inl goes
      | inr (inl same) ↦ inr same
      | inr (inr before) ↦ absurd (is.waits.least at.0 x.frame at.1 before)
    ]

pub wait-first : {hits : List Hit} {number free : ℕ} {left : List TimedParts} {course : List Transmission} → IsCourse hits number free left course → FieldsInOrder left →
    (x : TimedParts) (s : Transmission) (before : List TimedParts) → Awaits left course x s before → (z : Transmission) → IsMade course z → x.time ≤ z.time → z.time < s.time → GoesFirst z x
wait-first (over number free) order x s before waits z made from until = absurd made
wait-first (attempted number free time f hit left course is told window rest) order x s before waits z (inl here) from until =
    let a : Transmission = record { time = time; frame = f; hit = hit } in
    subst (λ (y : Transmission). GoesFirst y x) here
    (next-first free left a is x (awaits-listed waits) (subst (λ (y : Transmission). x.time ≤ y.time) (sym here) from))
wait-first (attempted number free time f hit left course is told window rest) order x s before waits z (inr made) from until =
    elim (sent-cases free time f left course is order x s before hit waits) [
      | inl here ↦
          let at : time ≡ s.time = ap (λ (y : Transmission). y.time) here.same in
          let k = course-free rest z made in
          absurd (omega (arith, at, k, until))
      | inr later ↦ wait-first rest (fields-left f hit left order) x s (left_by f hit before) later z made from until
    ]
