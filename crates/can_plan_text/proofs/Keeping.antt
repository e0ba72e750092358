-- The releases of a worst case.
use Rattle.std.proofs.Common.{◌≡◌, ℕ, suc, ◌+◌, ◌-◌, ◌*◌, ◌≤◌, Option, Some, None, List, [], ◌∷◌, ◌++◌, take, drop, map, refl, sym, ◌∙◌, ap, subst, inl, inr, arith}
use Rattle.std.specs.List.{flat_map, range_with_len}
use Rattle.std.proofs.lemmas.List.{map-append, take-append-drop}
use Rattle.std.proofs.lemmas.List.Concat.{flat_map-append}
use Rattle.std.proofs.lemmas.Nat.{mul-le}
use Rattle.std.proofs.lemmas.Option.{slice_get-get_or, slice_get_within}
use Rattle.can_frame.specs.Parts.{Parts}
use Rattle.can_frame.specs.Arbitration.{arbitration_field}
use Rattle.can_bus.specs.Quiet.{busy_time}
use Rattle.can_bus.specs.Shifts.{frame_later}
use Rattle.can_bus.specs.Timed.{TimedParts}
use Rattle.can_bus.proofs.Members.{stands-none, stands-cases, stands-front, stands-back, stands-either, stands-map, map-stands}
use Rattle.document_values.specs.Values.{ArePaired}
use Rattle.can_plan.specs.declared.message.Message.{Message}
use Rattle.can_plan.specs.Analysis.{arrivals}
use Rattle.can_plan.specs.Messages.{IsIn, IsMessageSet, IsOf, IsWithin, Release, offer_of}
use Rattle.can_plan_text.specs.declared.plan.Planned.{Planned}
use Rattle.can_plan_text.specs.Plans.{messages_of}
use Rattle.can_plan_text.specs.declared.case.Sequence.{Sequence}
use Rattle.can_plan_text.specs.declared.case.WorstCase.{WorstCase}
use Rattle.can_plan_text.specs.Keeping.{AreSized, KeepToMessages, offers_in, offers_of}
use Rattle.can_plan_text.specs.Worst.{AreOfBlocker, IsBlocker, IsOften, IsWorstCase, offer_time, start}
use Rattle.can_plan_text.proofs.LongestFrames.{field-of}
use Rattle.can_plan_text.proofs.Pairs.{range-at}
use Rattle.can_plan_text.proofs.Runs.{AreDistinct, Ascend, IsRun, distinct-front, keep-to, runs-all}

abbrev pub joined : List (List Release) → List Release
joined runs = flat_map (λ (rs : List Release). rs) runs

-- ---- one message

module _ (delay : ℕ) (p : Planned) (early : p.message.jitter ≤ delay) (f : Parts) (field : arbitration_field f ≡ p.message.field) (brief : busy_time f ≤ p.message.longest) where
  abbrev release-at : ℕ → Release
  release-at n = record { released = delay + start + n * p.message.period - p.message.jitter; offered = delay + offer_time p.message n; frame = f }

  within-at : (n : ℕ) → IsWithin p.message (release-at n)
  within-at n = record { short = brief; behind = omega (arith, early); soon = omega (arith, early) }

  often-run : (count : ℕ) → IsRun p.message (map release-at (range_with_len 0 count))
  often-run count = record {
    its = λ r s. let k = map-stands release-at (range_with_len 0 count) r s in subst (λ (q : Release). IsOf p.message q) k.2 field;
    within = λ r s. let k = map-stands release-at (range_with_len 0 count) r s in subst (λ (q : Release). IsWithin p.message q) k.2 (within-at k.0);
    apart = λ i j a b less at_a at_b.
        let first = ap (λ (q : Release). q.released) (range-at release-at 0 count i a at_a) in
        let second = ap (λ (q : Release). q.released) (range-at release-at 0 count j b at_b) in
        let more = mul-le (i + 1) p.message.period j p.message.period (omega (arith, less)) (omega arith) in
        omega (arith, first, second, more, early);
  }

  same-offers : (ns : List ℕ) → map offer_of (map release-at ns) ≡ map (frame_later delay) (map (λ (t : ℕ). let x : TimedParts = record { time = t; frame = f } in x) (map (offer_time p.message) ns))
  same-offers [] = refl
  same-offers (n ∷ ns) = ap (λ l. offer_of (release-at n) ∷ l) (same-offers ns)

  once-run : IsRun p.message (record { released = delay + 0; offered = delay + 0; frame = f } ∷ [])
  once-run =
      let one : Release = record { released = delay + 0; offered = delay + 0; frame = f } in
      record {
        its = λ r s. elim (stands-cases one [] r s) [ inl e ↦ subst (λ (q : Release). IsOf p.message q) e field | inr none ↦ absurd (stands-none r none) ];
        within = λ r s. elim (stands-cases one [] r s) [
          | inl e ↦ subst (λ (q : Release). IsWithin p.message q) e (record { short = brief; behind = omega arith; soon = omega arith })
          | inr none ↦ absurd (stands-none r none)
        ];
        apart = λ i j a b less at_a at_b. let within = slice_get_within (one ∷ []) j b at_b in absurd (omega (arith, less, within));
      }

-- ---- a priority level, and what blocks it

-- releases that are offered `delay` bit times later than these frames
pub record HaveRuns (delay : ℕ) (ms : List Message) (sequences : List Sequence) : Type 0 where
  pub runs : List (List Release)
  pub paired : ArePaired IsRun ms runs
  pub same : map offer_of (joined runs) ≡ map (frame_later delay) (flat_map offers_in sequences)

level-runs : (delay long : ℕ) (level : List Planned) (often : List Sequence) → ArePaired (IsOften long) level often → AreSized level → ((p : Planned) → IsIn level p → p.message.jitter ≤ delay) →
    HaveRuns delay (messages_of level) often
level-runs delay long [] [] paired sized soon = record { runs = []; paired = tt; same = refl }
level-runs delay long [] (s ∷ often) paired sized soon = absurd paired
level-runs delay long (p ∷ level) [] paired sized soon = absurd paired
level-runs delay long (p ∷ level) (s ∷ often) paired sized soon =
    let is = paired.0 in
    let early = soon p (0, refl) in
    let field = field-of p s.frame is.frame in
    let short = (sized p (0, refl)).none_longer s.frame is.frame.same in
    let rest = level-runs delay long level often paired.1 (λ q there. sized q (suc there.0, there.1)) (λ q there. soon q (suc there.0, there.1)) in
    let numbers = range_with_len 0 (arrivals p.message long) in
    let own = map (release-at delay p early s.frame field short) numbers in
    record {
      runs = own ∷ rest.runs;
      paired = (often-run delay p early s.frame field short (arrivals p.message long), rest.paired);
      same =
          map-append offer_of own (joined rest.runs)
          ∙ ap (λ l. l ++ map offer_of (joined rest.runs)) (same-offers delay p early s.frame field short numbers
          ∙ ap (λ ts. map (frame_later delay) (map (λ (t : ℕ). let x : TimedParts = record { time = t; frame = s.frame } in x) ts)) (sym is.times))
          ∙ ap (λ l. map (frame_later delay) (offers_in s) ++ l) rest.same
          ∙ sym (map-append (frame_later delay) (offers_in s) (flat_map offers_in often));
    }

-- the lower-priority message that blocks it
pub record Blocks (delay : ℕ) (lower : List Planned) (once : List Sequence) : Type 0 where
  pub ms : List Message
  pub have : HaveRuns delay ms once
  pub distinct : AreDistinct ms
  pub among : (m : Message) → IsIn ms m → IsIn (messages_of lower) m

block-runs : (delay : ℕ) (lower : List Planned) (blocker : Option Planned) (once : List Sequence) → IsBlocker lower blocker → AreOfBlocker blocker once → AreSized lower →
    ((p : Planned) → IsIn lower p → p.message.jitter ≤ delay) → Blocks delay lower once
block-runs delay lower None once is none sized soon = record {
  ms = [];
  have = record { runs = []; paired = tt; same = sym (ap (λ l. map (frame_later delay) (flat_map offers_in l)) none) };
  distinct = tt;
  among = λ m s. absurd (stands-none m s);
}
block-runs delay lower (Some b) once is (s, frame, one) sized soon =
    let there : IsIn lower b = (is.0.0, slice_get-get_or lower is.0.0 b is.0.1 ∙ ap Some is.0.2) in
    let field = field-of b s.frame frame.frame in
    let short = (sized b there).none_longer s.frame frame.frame.same in
    let release : Release = record { released = delay + 0; offered = delay + 0; frame = s.frame } in
    record {
      ms = b.message ∷ [];
      have = record {
        runs = (release ∷ []) ∷ [];
        paired = (once-run delay b (soon b there) s.frame field short, tt);
        same =
            sym (ap (λ l. map (frame_later delay) (flat_map offers_in l)) one
            ∙ ap (λ ts. map (frame_later delay) (map (λ (t : ℕ). let x : TimedParts = record { time = t; frame = s.frame } in x) ts ++ [])) frame.times);
      };
      distinct = (λ n none. absurd (stands-none n none), tt);
      among = λ m here. elim (stands-cases b.message [] m here) [
        | inl e ↦ subst (λ (n : Message). IsIn (messages_of lower) n) e (stands-map (λ (p : Planned). p.message) lower b there)
        | inr none ↦ absurd (stands-none m none)
      ];
    }

paired-append : {A B : Type 0} (R : A → B → Type 0) (xs zs : List A) (ys ws : List B) → ArePaired R xs ys → ArePaired R zs ws → ArePaired R (xs ++ zs) (ys ++ ws)
paired-append R [] zs [] ws p q = q
paired-append R [] zs (y ∷ ys) ws p q = absurd p
paired-append R (x ∷ xs) zs [] ws p q = absurd p
paired-append R (x ∷ xs) zs (y ∷ ys) ws p q = (p.0, paired-append R xs zs ys ws p.1 q)

-- ---- the whole

pub keeping : (planned : List Planned) (place : ℕ) (w : WorstCase) (delay : ℕ) → IsMessageSet (messages_of planned) → AreSized planned → IsWorstCase planned place w →
    ((p : Planned) → IsIn planned p → p.message.jitter ≤ delay) → KeepToMessages (messages_of planned) delay (offers_of w)
keeping planned place w delay set sized is soon =
    let level = take (place + 1) planned in
    let lower = drop (place + 1) planned in
    let split : level ++ lower ≡ planned = take-append-drop (place + 1) planned in
    let in_level : (p : Planned) → IsIn level p → IsIn planned p = λ p s. subst (λ (l : List Planned). IsIn l p) split (stands-front level lower p s) in
    let in_lower : (p : Planned) → IsIn lower p → IsIn planned p = λ p s. subst (λ (l : List Planned). IsIn l p) split (stands-back level lower p s) in
    let parts = is.sequences in
    let first = level-runs delay w.long level parts.often parts.of_level (λ p s. sized p (in_level p s)) (λ p s. soon p (in_level p s)) in
    let last = block-runs delay lower is.blocker parts.once is.behind parts.of_blocker (λ p s. sized p (in_lower p s)) (λ p s. soon p (in_lower p s)) in
    let whole : messages_of planned ≡ messages_of level ++ messages_of lower = ap messages_of (sym split) ∙ map-append (λ (p : Planned). p.message) level lower in
    let ms = messages_of level ++ last.ms in
    let runs = first.runs ++ last.have.runs in
    let distinct : AreDistinct ms = distinct-front (messages_of level) (messages_of lower) last.ms (subst Ascend whole set.ascending) last.among last.distinct in
    let among : (m : Message) → IsIn ms m → IsIn (messages_of planned) m = λ m s. subst (λ (l : List Message). IsIn l m) (sym whole) (elim (stands-either (messages_of level) last.ms m s) [
      | inl front ↦ stands-front (messages_of level) (messages_of lower) m front
      | inr back ↦ stands-back (messages_of level) (messages_of lower) m (last.among m back)
    ]) in
    record {
      releases = joined runs;
      same =
          ap (map offer_of) (flat_map-append (λ (rs : List Release). rs) first.runs last.have.runs)
          ∙ map-append offer_of (joined first.runs) (joined last.have.runs)
          ∙ ap (λ l. l ++ map offer_of (joined last.have.runs)) first.same
          ∙ ap (λ l. map (frame_later delay) (flat_map offers_in parts.often) ++ l) last.have.same
          ∙ sym (map-append (frame_later delay) (flat_map offers_in parts.often) (flat_map offers_in parts.once))
          ∙ ap (map (frame_later delay)) (sym (flat_map-append offers_in parts.often parts.once) ∙ ap (flat_map offers_in) (sym parts.all));
      keep = keep-to (messages_of planned) set ms (joined runs) (runs-all ms runs (paired-append IsRun (messages_of level) last.ms first.runs last.have.runs first.paired last.have.paired) distinct) among;
    }
