-- Hits that leave every port error active: fifteen at most, or one in nine attempts of one transmitter.
use Rattle.std.specs.Prelude.{slice_get, nat_lt, if◌then◌else◌}
use Rattle.std.proofs.Common.{◌≡◌, ℕ, zero, suc, ◌+◌, ◌-◌, ◌*◌, ◌<◌, ◌≤◌, Bool, true, false, Option, Some, None, List, [], ◌∷◌, length, take, refl, sym, ap, subst, ◌∙◌, arith, inl, inr}
use Rattle.std.proofs.lemmas.Bool.{cases_lt}
use Rattle.std.proofs.lemmas.List.{take_all}
use Rattle.can_frame.specs.Parts.{Parts}
use Rattle.can_mac.specs.Frames.{slot_place}
use Rattle.can_node.specs.Ports.{PortState}
use Rattle.can_terms.specs.declared.hit.Hit.{Hit}
use Rattle.can_terms.specs.declared.hit.Hit.TheVariants.{In}
use Rattle.can_bus.specs.Attempts.{AreApart, IsLow, Tally, after_reception, hit_of, tallied}
use Rattle.can_bus.specs.Course.{Transmission, and_hit, course_tally, hits_made, keeping}
use Rattle.can_bus.specs.Quiet.{holds}
use Rattle.can_bus.specs.Repair.{AreBorne, AreHeld, AreOfOnePort, HoldsAllOrNone, attempts_from, no_errors, repaired_course, tally}
use Rattle.can_bus.proofs.Members.{none-taken}
use Rattle.can_bus.proofs.RepairPlans.{few-made, frames_left, hit-cases, struck-there}

-- ---- Few hits.

abbrev Few : ℕ → Tally → Type 0
Few n t = (t.tec ≤ 8 * n) × (t.rec ≤ n)

-- what a receiver has counted when it is hit, with the reception before or without it
fewer-or-same : (b : Bool) (t : Tally) → (if b then after_reception t else t).rec ≤ t.rec
fewer-or-same true t = omega arith
fewer-or-same false t = omega arith

same-tec : (b : Bool) (t : Tally) → (if b then after_reception t else t).tec ≡ t.tec
same-tec true t = refl
same-tec false t = refl

-- each hit counts eight at most
few-tallied : (n : ℕ) (holds_it : Bool) (f : Parts) (hit : Option ℕ) (t : Tally) → Few n t → Few (and_hit hit n) (tallied holds_it f hit t)
few-tallied n true f None t few = (omega (arith, few.0), few.1)
few-tallied n false f None t few = (few.0, omega (arith, few.1))
few-tallied n true f (Some o) t few = (omega (arith, few.0), omega (arith, few.1))
few-tallied n false f (Some o) t few = (
  omega (arith, few.0, same-tec (nat_lt (slot_place f) o) t),
  omega (arith, few.1, fewer-or-same (nat_lt (slot_place f) o) t),
)

hit-first : (hit : Option ℕ) (n k : ℕ) → and_hit hit n + k ≡ n + and_hit hit k
hit-first None n k = refl
hit-first (Some o) n k = omega arith

pub few-course : (queue : List Parts) (course : List Transmission) (number n : ℕ) (t : Tally) → Few n t → Few (n + hits_made course) (course_tally queue (take number course) t)
few-course queue [] zero n t few = (omega (arith, few.0), omega (arith, few.1))
few-course queue (s ∷ course) zero n t few = (omega (arith, few.0), omega (arith, few.1))
few-course queue [] (suc number) n t few = (omega (arith, few.0), omega (arith, few.1))
few-course queue (s ∷ course) (suc number) n t few =
    let rest = course_tally queue (take number course) (tallied (holds queue s.frame) s.frame s.hit t) in
    subst (λ m. Few m rest) (hit-first s.hit n (hits_made course))
    (few-course queue course number (and_hit s.hit n) (tallied (holds queue s.frame) s.frame s.hit t) (few-tallied n (holds queue s.frame) s.frame s.hit t few))

module _ (frames : List Parts) (hits : List Hit) where
  repaired-few : (queue : List Parts) (number : ℕ) → Few (length hits) (course_tally queue (take number (repaired_course frames hits)) no_errors)
  repaired-few queue number =
      let few = few-course queue (repaired_course frames hits) number 0 no_errors (omega arith, omega arith) in
      let made = few-made hits frames in
      (omega (arith, few.0, made), omega (arith, few.1, made))

  pub fifteen-borne : (ports : List PortState) → length hits ≤ 15 → AreBorne frames hits ports
  fifteen-borne ports most n p e number = let few = repaired-few p.queue number in record { tec = omega (arith, few.0, most); rec = omega (arith, few.1, most) }

-- nothing is counted without hits
pub quiet-tally : (queue frames : List Parts) → ((tally queue frames []).tec ≡ 0) × ((tally queue frames []).rec ≡ 0)
quiet-tally queue frames =
    let course = repaired_course frames [] in
    let few : Few 0 (tally queue frames []) = subst (λ some. Few 0 (course_tally queue some no_errors)) (take_all (length course) course (omega arith)) (repaired-few frames [] queue (length course)) in
    (omega (arith, few.0), omega (arith, few.1))

-- ---- One hit in nine attempts of one transmitter.

-- how many attempts without a hit come next, at least
abbrev allowed : Option ℕ → ℕ → ℕ
allowed None left = left - 1
allowed (Some o) left = 8

abbrev allowance : List Hit → ℕ → ℕ
allowance hits zero = 0
allowance hits (suc number) = allowed (hit_of hits number) (allowance hits number)

module _ (hits : List Hit) (nine : AreApart 9 hits) where
  -- of two hits the later falls nine attempts later
  two-hits : (a b o place : ℕ) → a < b → hit_of hits a ≡ Some o → hit_of hits b ≡ Some place → a + 9 ≤ b
  two-hits a b o place less at_a at_b =
      let i = struck-there hits a o at_a in
      let j = struck-there hits b place at_b in
      elim (cases_lt i.0 j.0) [
        | inl before ↦ nine i.0 j.0 (In a o) (In b place) before i.1 j.1
        | inr not_before ↦
            elim (cases_lt j.0 i.0) [
              | inl behind ↦ absurd (omega (arith, nine j.0 i.0 (In b place) (In a o) behind j.1 i.1, less))
              | inr not_behind ↦
                  let same : i.0 ≡ j.0 = omega (arith, not_before, not_behind) in
                  let one : Some (In a o) ≡ Some (In b place) = sym i.1 ∙ ap (slice_get hits) same ∙ j.1 in
                  let both : a ≡ b = cc in
                  absurd (omega (arith, both, less))
            ]
      ]

  unhit-by : (w : Option ℕ) → ((o : ℕ) → w ≡ Some o → ⊥) → w ≡ None
  unhit-by None never = refl
  unhit-by (Some o) never = absurd (never o refl)

  allowed-free : (number : ℕ) (d : ℕ) → d < allowance hits number → hit_of hits (number + d) ≡ None
  allowed-free zero d less = absurd (omega (arith, less))
  allowed-free (suc number) d less = elim (hit-cases (hit_of hits number)) [
    | inl none ↦
        let left = ap (λ w. allowed w (allowance hits number)) none in
        let k : suc number + d ≡ number + suc d = omega arith in
        ap (hit_of hits) k ∙ allowed-free number (suc d) (omega (arith, less, left))
    | inr some ↦
        let left = ap (λ w. allowed w (allowance hits number)) some.1 in
        unhit-by (hit_of hits (suc number + d)) (λ o e. (let far = two-hits number (suc number + d) some.0 o (omega arith) some.1 e in omega (arith, far, less, left)))
  ]

  none-allowed : (number o : ℕ) → hit_of hits number ≡ Some o → allowance hits number ≡ 0
  none-allowed number o e = elim (cases_lt 0 (allowance hits number)) [
    | inl some ↦
        let free = allowed-free number 0 some in
        let same = ap (hit_of hits) (let k : number + 0 ≡ number = omega arith in k) in
        absurd (let none : None ≡ Some o = sym free ∙ same ∙ e in cc)
    | inr none ↦ omega (arith, none)
  ]

  -- the counter that hits raise at a port that sends all frames, and at one that sends none; and the other one
  abbrev own : Bool → Tally → ℕ
  own true t = t.tec
  own false t = t.rec

  abbrev other : Bool → Tally → ℕ
  other true t = t.rec
  other false t = t.tec

  tallied-other : (b : Bool) (f : Parts) (hit : Option ℕ) (t : Tally) → other b (tallied b f hit t) ≡ other b t
  tallied-other true f None t = refl
  tallied-other true f (Some o) t = refl
  tallied-other false f None t = refl
  tallied-other false f (Some o) t = same-tec (nat_lt (slot_place f) o) t

  tallied-fewer : (b : Bool) (f : Parts) (t : Tally) → own b (tallied b f None t) ≡ own b t - 1
  tallied-fewer true f t = refl
  tallied-fewer false f t = refl

  tallied-more : (b : Bool) (f : Parts) (o : ℕ) (t : Tally) → own b (tallied b f (Some o) t) ≤ own b t + 8
  tallied-more true f o t = omega arith
  tallied-more false f o t = omega (arith, fewer-or-same (nat_lt (slot_place f) o) t)

  -- The own counter is eight at most, and goes back to 0 before the next hit; the other one stays 0.
  record IsRestored (b : Bool) (number : ℕ) (t : Tally) : Type 0 where
    still : other b t ≡ 0
    most : own b t ≤ 8
    soon : own b t ≤ allowance hits number

  low-by : (b : Bool) (number : ℕ) (t : Tally) → IsRestored b number t → IsLow t
  low-by true number t is = record { tec = omega (arith, is.most); rec = omega (arith, is.still) }
  low-by false number t is = record { tec = omega (arith, is.still); rec = omega (arith, is.most) }

  restored : (b : Bool) (number : ℕ) (f : Parts) (hit : Option ℕ) (t : Tally) → hit_of hits number ≡ hit → IsRestored b number t → IsRestored b (number + 1) (tallied b f hit t)
  restored b number f None t none is =
      let left = ap (allowance hits) (let k : number + 1 ≡ suc number = omega arith in k) ∙ ap (λ w. allowed w (allowance hits number)) none in
      record {
        still = tallied-other b f None t ∙ is.still;
        most = omega (arith, tallied-fewer b f t, is.most);
        soon = omega (arith, tallied-fewer b f t, is.soon, left);
      }
  restored b number f (Some o) t some is =
      let left = ap (allowance hits) (let k : number + 1 ≡ suc number = omega arith in k) ∙ ap (λ w. allowed w (allowance hits number)) some in
      let nothing = none-allowed number o some in
      record {
        still = tallied-other b f (Some o) t ∙ is.still;
        most = omega (arith, tallied-more b f o t, is.soon, nothing);
        soon = omega (arith, tallied-more b f o t, is.soon, nothing, left);
      }

  -- so it stays low through all attempts
  module _ (queue : List Parts) (b : Bool) where
    abbrev AllHeld : List Parts → Type 0
    AllHeld frames = AreHeld b queue frames

    held-left : (f : Parts) (hit : Option ℕ) (frames : List Parts) → AllHeld (f ∷ frames) → AllHeld (frames_left f hit frames)
    held-left f None frames each = λ n g at. each (suc n) g at
    held-left f (Some o) frames each = each

    stays-low : (count number time : ℕ) (frames : List Parts) (t : Tally) → AllHeld frames → IsRestored b number t → (some : ℕ) → IsLow (course_tally queue (take some (attempts_from count hits number time frames)) t)
    stays-low count number time frames t each is zero = subst (λ none. IsLow (course_tally queue none t)) (sym (none-taken (attempts_from count hits number time frames))) (low-by b number t is)
    stays-low zero number time frames t each is (suc some) = low-by b number t is
    stays-low (suc count) number time [] t each is (suc some) = low-by b number t is
    stays-low (suc count) number time (f ∷ frames) t each is (suc some) =
        let hit : Option ℕ = hit_of hits number in
        let rest : List Parts = frames_left f hit frames in
        let behind : List Transmission = attempts_from count hits (number + 1) (time + keeping f hit) rest in
        subst (λ c. IsLow (course_tally queue (take some behind) (tallied c f hit t))) (sym (each 0 f refl))
        (stays-low count (number + 1) (time + keeping f hit) rest (tallied b f hit t) (held-left f hit frames each) (restored b number f hit t refl is) some)

  start : (b : Bool) → IsRestored b 0 no_errors
  start true = record { still = refl; most = omega arith; soon = omega arith }
  start false = record { still = refl; most = omega arith; soon = omega arith }

  all-low : (queue frames : List Parts) → HoldsAllOrNone queue frames → (number : ℕ) → IsLow (course_tally queue (take number (repaired_course frames hits)) no_errors)
  unfolding repaired_course
  all-low queue frames (inl each) number = stays-low queue true (length frames + length hits) 0 0 frames no_errors each (start true) number
  all-low queue frames (inr each) number = stays-low queue false (length frames + length hits) 0 0 frames no_errors each (start false) number

  pub nine-borne : (frames : List Parts) (ports : List PortState) → AreOfOnePort frames ports → AreBorne frames hits ports
  nine-borne frames ports of_one n p e number = all-low p.queue frames (of_one n p e) number
