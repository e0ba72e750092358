-- The frames in a queue's slots: which of them waits, and what an offer and a frame that leaves make of them.
use Rattle.std.proofs.Common.{◌≡◌, ◌≢◌, ℕ, zero, suc, ◌+◌, ◌≤◌, ◌<◌, Bool, true, false, cond, List, [], ◌∷◌, ◌++◌, length, take, drop, set, get_or, refl, sym, ◌∙◌, ap, subst, arith, inl, inr}
use Rattle.std.specs.Prelude.{Option, Some, None, MatchOption, slice_get}
use Rattle.std.specs.List.{filter}
use Rattle.std.specs.Option.{is_some}
use Rattle.std.specs.declared.cmp.Ordering.{Ordering}
use Rattle.std.specs.declared.cmp.Ordering.TheVariants.{Less, Equal, Greater}
use Rattle.std.specs.Ordering.{ordering_reverse, ordering_then, nat_cmp, is_gt}
use Rattle.std.proofs.lemmas.Bool.{cond-true, cond-false, cases_lt, cond_both}
use Rattle.std.proofs.lemmas.List.{append-nil, set_split, get_or_past, get_or_append_left, drop_all, length_push}
use Rattle.std.proofs.lemmas.List.Elements.{filter_map-append}
use Rattle.can_frame.specs.Parts.{Parts, IsFrame}
use Rattle.can_frame.specs.Arbitration.{arbitration_field, field_cmp}
use Rattle.can_frame.proofs.BeforeLemmas.{field_cmp_total}
use Rattle.can_node.specs.declared.queue.entrant.Entrant.{Entrant}
use Rattle.can_node.specs.Ports.{is_less, is_equal, goes_before, same_field, earlier, waiting, without}
use Rattle.can_node.specs.Tournament.{frames_in, winner_at, IsPlayed, Under, IsFirstUnder, NoneUnder}
use Rattle.can_node.proofs.TournamentLemmas.{Leads, under_root, filled, wins, leads-frame}
use Rattle.can_node.proofs.SearchLemmas.{no_greater}
use Rattle.can_node.proofs.WaitingLemmas.{behind}

-- ---- places of slots

-- a frame of the queue is in a slot
slot_of : (slots : List (Option Parts)) (n : ℕ) (f : Parts) → slice_get (frames_in slots) n ≡ Some f → (place : ℕ) × (get_or slots place None ≡ Some f)
slot_of [] n f e = absurd (let h : None ≡ Some f = e in cc)
slot_of (None ∷ slots) n f e = let h = slot_of slots n f e in (suc h.0, h.1)
slot_of (Some g ∷ slots) zero f e = (zero, e)
slot_of (Some g ∷ slots) (suc n) f e = let h = slot_of slots n f e in (suc h.0, h.1)

none_stand : (slots : List (Option Parts)) → ((place : ℕ) (f : Parts) → get_or slots place None ≡ Some f → ⊥) → frames_in slots ≡ []
none_stand [] none = refl
none_stand (None ∷ slots) none = none_stand slots (λ place f e. none (suc place) f e)
none_stand (Some g ∷ slots) none = absurd (none zero g refl)

-- ---- the frame that waits

waiting_one_of : (queue : List Parts) (w : Parts) → waiting queue ≡ Some w → (n : ℕ) × (slice_get queue n ≡ Some w)
unfolding waiting
waiting_one_of [] w e = absurd (let h : None ≡ Some w = e in cc)
waiting_one_of (g ∷ queue) w e = by (waiting queue) (λ v k. waiting_one_of queue v k) e
  where
    by : (rest : Option Parts) → ((v : Parts) → rest ≡ Some v → (n : ℕ) × (slice_get queue n ≡ Some v)) → Some (earlier g rest) ≡ Some w → (n : ℕ) × (slice_get (g ∷ queue) n ≡ Some w)
    by None some k = (zero, k)
    by (Some v) some k = by_test (goes_before v g) k
      where
        by_test : (t : Bool) → Some (cond t v g) ≡ Some w → (n : ℕ) × (slice_get (g ∷ queue) n ≡ Some w)
        by_test true k = let h = some v refl in (suc h.0, h.1 ∙ k)
        by_test false k = (zero, k)

-- a frame with neither higher nor lower priority has the same field
passes : (f g : Parts) → goes_before g f ≡ false → same_field f g ≡ false → goes_before f g ≡ true
passes f g first other = by (field_cmp (arbitration_field f) (arbitration_field g)) refl
  where
    by : (o : Ordering) → field_cmp (arbitration_field f) (arbitration_field g) ≡ o → is_less o ≡ true
    by Less e = refl
    by Equal e = absurd (let t : true ≡ false = sym (ap is_equal e) ∙ other in cc)
    by Greater e = absurd (let t : true ≡ false = sym (ap is_less (field_cmp_total.antisymm (arbitration_field g) (arbitration_field f) ∙ ap ordering_reverse e)) ∙ first in cc)

-- a frame before which none goes, and which has none of its field in front of it
pub waits-at : (slots : List (Option Parts)) (place : ℕ) (f : Parts) → get_or slots place None ≡ Some f →
    ((n : ℕ) (g : Parts) → get_or slots n None ≡ Some g → goes_before g f ≡ false) →
    ((n : ℕ) (g : Parts) → n < place → get_or slots n None ≡ Some g → same_field f g ≡ false) → waiting (frames_in slots) ≡ Some f
unfolding waiting
waits-at [] place f e least first = absurd (let h : None ≡ Some f = e in cc)
waits-at (None ∷ slots) zero f e least first = absurd (let h : None ≡ Some f = e in cc)
waits-at (None ∷ slots) (suc place) f e least first = waits-at slots place f e (λ n g k. least (suc n) g k) (λ n g l k. first (suc n) g (omega (arith, l)) k)
waits-at (Some g ∷ slots) zero f e least first = by (waiting (frames_in slots)) (λ w k. waiting_one_of (frames_in slots) w k)
  where
    same : g ≡ f
    same = let h : Some g ≡ Some f = e in cc

    by : (rest : Option Parts) → ((w : Parts) → rest ≡ Some w → (n : ℕ) × (slice_get (frames_in slots) n ≡ Some w)) → Some (earlier g rest) ≡ Some f
    by None some = ap Some same
    by (Some w) some =
        let place = slot_of slots (some w refl).0 w (some w refl).1 in
        let behind : goes_before w g ≡ false = ap (goes_before w) same ∙ least (suc place.0) w place.1 in
        ap Some (cond-false (goes_before w g) w g behind ∙ same)
waits-at (Some g ∷ slots) (suc place) f e least first =
    let rest : waiting (frames_in slots) ≡ Some f = waits-at slots place f e (λ n h k. least (suc n) h k) (λ n h l k. first (suc n) h (omega (arith, l)) k) in
    let before : goes_before f g ≡ true = passes f g (least zero g refl) (first zero g (omega arith) refl) in
    ap (λ w. Some (earlier g w)) rest ∙ ap Some (cond-true (goes_before f g) f g before)

-- the winner of the tournament is the frame that waits
module _ (winners : List (Option Entrant)) (slots : List (Option Parts)) (played : IsPlayed winners slots) (fit : length slots ≤ length winners) where
  led : (place : ℕ) (f : Parts) → get_or slots place None ≡ Some f → Leads (winner_at winners slots 1) (Some (record { field = arbitration_field f; place = place }))
  led place f e =
      let in_slots = filled slots place f e in
      leads-frame winners slots played 1 place f (omega arith) fit (under_root (length winners + place) (omega (arith, in_slots, fit))) e

  not_less : (a b : Parts) (m n : ℕ) → is_gt (ordering_then (field_cmp (arbitration_field a) (arbitration_field b)) (nat_cmp m n)) ≡ false → goes_before b a ≡ false
  not_less a b m n e = by (field_cmp (arbitration_field a) (arbitration_field b)) refl e
    where
      by : (o : Ordering) → field_cmp (arbitration_field a) (arbitration_field b) ≡ o → is_gt (ordering_then o (nat_cmp m n)) ≡ false → goes_before b a ≡ false
      by Less k h = ap is_less (field_cmp_total.antisymm (arbitration_field b) (arbitration_field a) ∙ ap ordering_reverse k)
      by Equal k h = ap is_less (field_cmp_total.antisymm (arbitration_field b) (arbitration_field a) ∙ ap ordering_reverse k)
      by Greater k h = absurd (let t : true ≡ false = h in cc)

  not_same : (a b : Parts) (m n : ℕ) → n < m → is_gt (ordering_then (field_cmp (arbitration_field a) (arbitration_field b)) (nat_cmp m n)) ≡ false → same_field a b ≡ false
  not_same a b m n l e = by (field_cmp (arbitration_field a) (arbitration_field b)) e
    where
      by : (o : Ordering) → is_gt (ordering_then o (nat_cmp m n)) ≡ false → is_equal o ≡ false
      by Less h = refl
      by Equal h = absurd (let k = no_greater m n h in omega (arith, k, l))
      by Greater h = refl

  pub winner_waits : MatchOption (winner_at winners slots 1) (waiting (frames_in slots) ≡ None) (λ e. get_or slots e.place None ≡ waiting (frames_in slots))
  unfolding waiting
  winner_waits = by (winner_at winners slots 1) refl
    where
      by : (o : Option Entrant) → winner_at winners slots 1 ≡ o → MatchOption o (waiting (frames_in slots) ≡ None) (λ e. get_or slots e.place None ≡ waiting (frames_in slots))
      by None is = ap waiting (none_stand slots (λ place f e. subst (λ a. Leads a (Some (record { field = arbitration_field f; place = place }))) is (led place f e)))
      by (Some e) is =
          let won = wins winners slots played 1 e (omega arith) is in
          let ahead : (n : ℕ) (g : Parts) → get_or slots n None ≡ Some g → is_gt (ordering_then (field_cmp (arbitration_field won.frame) (arbitration_field g)) (nat_cmp e.place n)) ≡ false = λ n g s. ap (λ field. is_gt (ordering_then (field_cmp field (arbitration_field g)) (nat_cmp e.place n))) won.field ∙ subst (λ a. Leads a (Some (record { field = arbitration_field g; place = n }))) is (led n g s) in
          won.at ∙ sym (waits-at slots e.place won.frame won.at (λ n g s. not_less won.frame g e.place n (ahead n g s)) (λ n g l s. not_same won.frame g e.place n l (ahead n g s)))

-- ---- an offer

pub frames-push : (slots : List (Option Parts)) (f : Parts) → frames_in (slots ++ Some f ∷ []) ≡ frames_in slots ++ f ∷ []
frames-push slots f = filter_map-append (λ (slot : Option Parts). slot) slots (Some f ∷ [])

-- ---- a frame that leaves

pub frames-leave : (slots : List (Option Parts)) (place : ℕ) (sent f : Parts) → get_or slots place None ≡ Some f → same_field sent f ≡ true →
    ((n : ℕ) (g : Parts) → n < place → get_or slots n None ≡ Some g → same_field sent g ≡ false) → frames_in (set slots place None) ≡ without sent (frames_in slots)
unfolding without
frames-leave [] place sent f e has first = absurd (let h : None ≡ Some f = e in cc)
frames-leave (None ∷ slots) zero sent f e has first = absurd (let h : None ≡ Some f = e in cc)
frames-leave (None ∷ slots) (suc place) sent f e has first = frames-leave slots place sent f e has (λ n g l k. first (suc n) g (omega (arith, l)) k)
frames-leave (Some g ∷ slots) zero sent f e has first =
    let same : g ≡ f = (let h : Some g ≡ Some f = e in cc) in
    sym (cond-true (same_field sent g) (frames_in slots) (g ∷ without sent (frames_in slots)) (ap (same_field sent) same ∙ has))
frames-leave (Some g ∷ slots) (suc place) sent f e has first =
    ap (λ q. g ∷ q) (frames-leave slots place sent f e has (λ n h l k. first (suc n) h (omega (arith, l)) k))
    ∙ sym (cond-false (same_field sent g) (frames_in slots) (g ∷ without sent (frames_in slots)) (first zero g (omega arith) refl))

pub frames-stay : (slots : List (Option Parts)) (sent : Parts) → ((n : ℕ) (g : Parts) → get_or slots n None ≡ Some g → same_field sent g ≡ false) → frames_in slots ≡ without sent (frames_in slots)
unfolding without
frames-stay [] sent none = refl
frames-stay (None ∷ slots) sent none = frames-stay slots sent (λ n g k. none (suc n) g k)
frames-stay (Some g ∷ slots) sent none =
    ap (λ q. g ∷ q) (frames-stay slots sent (λ n h k. none (suc n) h k))
    ∙ sym (cond-false (same_field sent g) (frames_in slots) (g ∷ without sent (frames_in slots)) (none zero g refl))

-- one frame less
pub frames-fewer : (slots : List (Option Parts)) (place : ℕ) (f : Parts) → get_or slots place None ≡ Some f → length (frames_in slots) ≡ length (frames_in (set slots place None)) + 1
frames-fewer [] place f e = absurd (let h : None ≡ Some f = e in cc)
frames-fewer (None ∷ slots) zero f e = absurd (let h : None ≡ Some f = e in cc)
frames-fewer (None ∷ slots) (suc place) f e = frames-fewer slots place f e
frames-fewer (Some g ∷ slots) zero f e = omega arith
frames-fewer (Some g ∷ slots) (suc place) f e = let h = frames-fewer slots place f e in omega (arith, h)

-- the last slot may go with its frame
pub frames-last : (slots : List (Option Parts)) (place : ℕ) → place + 1 ≡ length slots → frames_in (take place slots) ≡ frames_in (set slots place None)
frames-last slots place e =
    let split : set slots place None ≡ take place slots ++ None ∷ drop (suc place) slots = set_split slots place None (omega (arith, e)) in
    let none : drop (suc place) slots ≡ [] = drop_all (suc place) slots (omega (arith, e)) in
    sym (ap frames_in (split ∙ ap (λ rest. take place slots ++ None ∷ rest) none) ∙ filter_map-append (λ (slot : Option Parts). slot) (take place slots) (None ∷ []) ∙ append-nil (frames_in (take place slots)))

-- ---- frames that are moved together

pub frames-together : (slots : List (Option Parts)) → frames_in (filter is_some slots) ≡ frames_in slots
frames-together [] = refl
frames-together (None ∷ slots) = frames-together slots
frames-together (Some f ∷ slots) = ap (λ q. f ∷ q) (frames-together slots)

pub length-together : (slots : List (Option Parts)) → length (filter is_some slots) ≡ length (frames_in slots)
length-together [] = refl
length-together (None ∷ slots) = length-together slots
length-together (Some f ∷ slots) = ap suc (length-together slots)

-- ---- slots that differ at one place

pub same-push : (slots : List (Option Parts)) (x : Option Parts) (n : ℕ) → n ≢ length slots → get_or (slots ++ x ∷ []) n None ≡ get_or slots n None
same-push slots x n apart =
    elim (cases_lt n (length slots)) [
      | inl l ↦ get_or_append_left slots (x ∷ []) None n l
      | inr past ↦ get_or_past (slots ++ x ∷ []) n None (omega (arith, length_push slots x, past, apart)) ∙ sym (get_or_past slots n None past)
    ]

-- ---- the frames of a queue

pub each-push : (queue : List Parts) (f : Parts) → ((n : ℕ) (g : Parts) → slice_get queue n ≡ Some g → IsFrame g) → IsFrame f →
    (n : ℕ) (g : Parts) → slice_get (queue ++ f ∷ []) n ≡ Some g → IsFrame g
each-push [] f each is zero g e = let same : f ≡ g = (let h : Some f ≡ Some g = e in cc) in subst IsFrame same is
each-push [] f each is (suc n) g e = absurd (let h : None ≡ Some g = e in cc)
each-push (h ∷ queue) f each is zero g e = each zero g e
each-push (h ∷ queue) f each is (suc n) g e = each-push queue f (λ m k l. each (suc m) k l) is n g e

pub first-push : (first : Option Parts) (f with_f : Parts) → MatchOption first (with_f ≡ f) (λ w. with_f ≡ earlier w (Some f)) → Some with_f ≡ behind first f
first-push None f with_f e = ap Some e
first-push (Some w) f with_f e = ap Some e

pub first-left : (winner : Option Entrant) (slots : List (Option Parts)) (first waits : Option Parts) →
    MatchOption winner (first ≡ None) (λ e. first ≡ get_or slots e.place None) → MatchOption winner (waits ≡ None) (λ e. get_or slots e.place None ≡ waits) → first ≡ waits
first-left None slots first waits a b = a ∙ sym b
first-left (Some e) slots first waits a b = a ∙ b

pub each-without : (sent : Parts) (queue : List Parts) → ((n : ℕ) (g : Parts) → slice_get queue n ≡ Some g → IsFrame g) →
    (n : ℕ) (g : Parts) → slice_get (without sent queue) n ≡ Some g → IsFrame g
unfolding without
each-without sent [] each = each
each-without sent (h ∷ queue) each = cond_both (same_field sent h) queue (h ∷ without sent queue) (λ q. (n : ℕ) (g : Parts) → slice_get q n ≡ Some g → IsFrame g)
    (λ e n g k. each (suc n) g k) (λ e. in_front (without sent queue) (each zero h refl) (each-without sent queue (λ m x l. each (suc m) x l)))
  where
    in_front : (rest : List Parts) → IsFrame h → ((n : ℕ) (g : Parts) → slice_get rest n ≡ Some g → IsFrame g) → (n : ℕ) (g : Parts) → slice_get (h ∷ rest) n ≡ Some g → IsFrame g
    in_front rest is others zero g k = let same : h ≡ g = (let e : Some h ≡ Some g = k in cc) in subst IsFrame same is
    in_front rest is others (suc n) g k = others n g k

-- ---- a frame that was looked for in the tournament

module _ (slots : List (Option Parts)) (width : ℕ) (fit : length slots ≤ width) (sent : Parts) where
  under : (n : ℕ) (g : Parts) → get_or slots n None ≡ Some g → Under 1 (width + n)
  under n g e = let in_slots = filled slots n g e in under_root (width + n) (omega (arith, in_slots, fit))

  pub found-leaves : (place : ℕ) → IsFirstUnder 1 width slots (arbitration_field sent) place → frames_in (set slots place None) ≡ without sent (frames_in slots)
  found-leaves place h = frames-leave slots place sent h.frame h.stands h.has (λ n g l e. h.first n g l (under n g e) e)

  pub none-leaves : NoneUnder 1 width slots (arbitration_field sent) → frames_in slots ≡ without sent (frames_in slots)
  none-leaves h = frames-stay slots sent (λ n g e. h n g (under n g e) e)
