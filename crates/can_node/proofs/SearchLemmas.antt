-- The first frame of an arbitration field, found in the tournament of a queue's slots.
use Rattle.std.proofs.Common.{◌≡◌, ℕ, ◌+◌, ◌*◌, ◌≤◌, ◌<◌, true, false, List, length, get_or, refl, sym, ◌∙◌, ap, subst, arith, inl, inr}
use Rattle.std.specs.Prelude.{Option, Some, None, ◌⊎◌, min}
use Rattle.std.specs.declared.cmp.Ordering.{Ordering}
use Rattle.std.specs.declared.cmp.Ordering.TheVariants.{Less, Equal, Greater}
use Rattle.std.specs.Ordering.{MatchOrdering, ordering_reverse, ordering_then, nat_cmp, is_gt}
use Rattle.std.proofs.lemmas.Bool.{cases_lt, false_from_ne_true}
use Rattle.std.proofs.lemmas.Cmp.{ranked}
use Rattle.can_frame.specs.declared.level.Level.{Level}
use Rattle.can_frame.specs.Parts.{Parts}
use Rattle.can_frame.specs.Arbitration.{arbitration_field, field_cmp}
use Rattle.can_frame.proofs.BeforeLemmas.{field_cmp_total}
use Rattle.can_node.specs.declared.queue.entrant.Entrant.{Entrant}
use Rattle.can_node.specs.Ports.{is_equal}
use Rattle.can_node.specs.Tournament.{entrant_cmp, winner_at, IsPlayed, Under, has_field, NoneUnder, IsFirstUnder, FirstUnder, lower_of}
use Rattle.can_node.proofs.TournamentLemmas.{Leads, under_le, under_split, filled, at-frame, wins, leads-frame}
use Rattle.can_node.proofs.WaitingLemmas.{is_equal-Equal}

pub no_greater : (a b : ℕ) → is_gt (nat_cmp a b) ≡ false → a ≤ b
no_greater a b e = by (nat_cmp a b) (ranked a b (nat_cmp a b) refl) e
  where
    by : (o : Ordering) → MatchOrdering o (a < b) (a ≡ b) (b < a) → is_gt o ≡ false → a ≤ b
    by Less h k = omega (arith, h)
    by Equal h k = omega (arith, h)
    by Greater h k = absurd (let t : true ≡ false = k in cc)

module _ (winners : List (Option Entrant)) (slots : List (Option Parts)) (played : IsPlayed winners slots) (fit : length slots ≤ length winners) (field : List Level) (node : ℕ) (first : 1 ≤ node) where
  abbrev width : ℕ
  width = length winners

  abbrev entrant : Parts → ℕ → Entrant
  entrant f place = record { field = arbitration_field f; place = place }

  led : (e : Entrant) → winner_at winners slots node ≡ Some e → (place : ℕ) (f : Parts) → Under node (width + place) → get_or slots place None ≡ Some f →
      is_gt (entrant_cmp e (entrant f place)) ≡ false
  led e is place f u s = subst (λ a. Leads a (Some (entrant f place))) is (leads-frame winners slots played node place f first fit u s)

  pub none-wins : winner_at winners slots node ≡ None → NoneUnder node width slots field
  none-wins e place f u s = absurd (subst (λ a. Leads a (Some (entrant f place))) e (leads-frame winners slots played node place f first fit u s))

  pub same-wins : (e : Entrant) → winner_at winners slots node ≡ Some e → field_cmp field e.field ≡ Equal → IsFirstUnder node width slots field e.place
  same-wins e is same =
      let won = wins winners slots played node e first is in
      record {
        frame = won.frame;
        stands = won.at;
        has = ap is_equal (ap (field_cmp field) won.field ∙ same);
        first = λ n f less u s. false_from_ne_true (has_field field f) (λ has.
            let has_it : field_cmp field (arbitration_field f) ≡ Equal = is_equal-Equal (field_cmp field (arbitration_field f)) has in
            let alike : field_cmp e.field (arbitration_field f) ≡ Equal = sym (field_cmp_total.congr field e.field (arbitration_field f) same) ∙ has_it in
            let places : is_gt (nat_cmp e.place n) ≡ false = sym (ap (λ o. is_gt (ordering_then o (nat_cmp e.place n))) alike) ∙ led e is n f u s in
            let k = no_greater e.place n places in
            omega (arith, k, less));
      }

  pub higher-wins : (e : Entrant) → winner_at winners slots node ≡ Some e → field_cmp field e.field ≡ Less → NoneUnder node width slots field
  higher-wins e is less place f u s = false_from_ne_true (has_field field f) (λ has.
      let has_it : field_cmp field (arbitration_field f) ≡ Equal = is_equal-Equal (field_cmp field (arbitration_field f)) has in
      let lower : field_cmp (arbitration_field f) e.field ≡ Less = sym (field_cmp_total.congr field (arbitration_field f) e.field has_it) ∙ less in
      let higher : field_cmp e.field (arbitration_field f) ≡ Greater = field_cmp_total.antisymm e.field (arbitration_field f) ∙ ap ordering_reverse lower in
      let t : true ≡ false = sym (ap (λ o. is_gt (ordering_then o (nat_cmp e.place place))) higher) ∙ led e is place f u s in
      cc)

  -- a slot has nothing under it
  pub lower-alone : (e : Entrant) → width ≤ node → winner_at winners slots node ≡ Some e → field_cmp field e.field ≡ Greater → NoneUnder node width slots field
  lower-alone e past is greater place f u s =
      let in_slots = filled slots place f s in
      elim (cases_lt node (width + place)) [
        | inl below ↦ absurd (elim (under_split node (width + place) below u) [
          | inl v ↦ let h = under_le (2 * node) (width + place) v in omega (arith, h, past, in_slots, fit)
          | inr v ↦ let h = under_le (2 * node + 1) (width + place) v in omega (arith, h, past, in_slots, fit)
        ])
        | inr above ↦
            let over = under_le node (width + place) u in
            let here : node ≡ width + place = omega (arith, over, above) in
            let both : Some e ≡ Some (entrant f place) = sym is ∙ ap (winner_at winners slots) here ∙ at-frame winners slots place f s in
            let same : e ≡ entrant f place = cc in
            ap is_equal (ap (field_cmp field) (sym (ap (λ (x : Entrant). x.field) same)) ∙ greater)
      ]

  module _ (inner : node < width) where
    two : (place : ℕ) → Under node (width + place) → Under (2 * node) (width + place) ⊎ Under (2 * node + 1) (width + place)
    two place u = under_split node (width + place) (omega (arith, inner)) u

    of_two : (a b c : ℕ) → c ≤ a → c ≤ b → IsFirstUnder (2 * node) width slots field a → IsFirstUnder (2 * node + 1) width slots field b →
        (frame : Parts) → get_or slots c None ≡ Some frame → has_field field frame ≡ true → IsFirstUnder node width slots field c
    of_two a b c l m h k frame stands has = record {
      frame = frame;
      stands = stands;
      has = has;
      first = λ n f less u s. elim (two n u) [ inl v ↦ h.first n f (omega (arith, less, l)) v s | inr v ↦ k.first n f (omega (arith, less, m)) v s ];
    }

    pub first-of-two : (a b : Option ℕ) → FirstUnder (2 * node) width slots field a → FirstUnder (2 * node + 1) width slots field b → FirstUnder node width slots field (lower_of a b)
    first-of-two None None h k = λ place f u s. elim (two place u) [ inl v ↦ h place f v s | inr v ↦ k place f v s ]
    first-of-two None (Some b) h k = record {
      frame = k.frame;
      stands = k.stands;
      has = k.has;
      first = λ n f less u s. elim (two n u) [ inl v ↦ h n f v s | inr v ↦ k.first n f less v s ];
    }
    first-of-two (Some a) None h k = record {
      frame = h.frame;
      stands = h.stands;
      has = h.has;
      first = λ n f less u s. elim (two n u) [ inl v ↦ h.first n f less v s | inr v ↦ k n f v s ];
    }
    first-of-two (Some a) (Some b) h k =
        elim (cases_lt a b) [
          | inl l ↦ let e : a ≡ min a b = omega (arith, l) in subst (IsFirstUnder node width slots field) e (of_two a b a (omega arith) (omega (arith, l)) h k h.frame h.stands h.has)
          | inr l ↦ let e : b ≡ min a b = omega (arith, l) in subst (IsFirstUnder node width slots field) e (of_two a b b l (omega arith) h k k.frame k.stands k.has)
        ]
