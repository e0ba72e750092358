-- No spelling begins another.
use Rattle.std.proofs.Common.{◌≡◌, Bool, true, false, List, [], ◌++◌, refl, sym, ◌∙◌, ap, append_assoc}
use Rattle.std.proofs.lemmas.List.{append_cancel_left}
use Rattle.can_frame.specs.declared.level.Level.{Level}
use Rattle.can_wire.specs.Stuffing.{kept}
use Rattle.can_wire.specs.Wire.{tail}
use Rattle.can_wire.specs.Heard.{HeardParts, heard_head, ack_slot, Spells}
use Rattle.can_wire.proofs.LayoutRead.{heard_head-once, heard_head-complete}
use Rattle.can_wire.proofs.StuffedFronts.{Stuffs-once}

-- the ACK slot shows whether a receiver has acknowledged
ack_slot-once : (a b : Bool) → ack_slot a ≡ ack_slot b → a ≡ b
ack_slot-once true true e = refl
ack_slot-once false false e = refl
ack_slot-once true false e = cc
ack_slot-once false true e = cc

-- a tail determines its two levels, whatever follows it
tail-once : (a l b m : Level) (x y : List Level) → tail a l ++ x ≡ tail b m ++ y → (a ≡ b) × (l ≡ m)
tail-once a l b m x y same = (cc, cc)

-- two spellings at the front of one list
module _ (h g : HeardParts) (v w x y : List Level) (s : Spells h v) (t : Spells g w) (same : v ++ x ≡ w ++ y) where
  abbrev tail_h : List Level
  tail_h = tail (ack_slot h.acked) h.last

  abbrev tail_g : List Level
  tail_g = tail (ack_slot g.acked) g.last

  same_fronts : s.spelling.stuffed ++ (tail_h ++ x) ≡ t.spelling.stuffed ++ (tail_g ++ y)
  same_fronts =
      sym (append_assoc s.spelling.stuffed tail_h x) ∙ ap (λ z. z ++ x) (sym s.spelling.whole) ∙ same
      ∙ ap (λ z. z ++ y) t.spelling.whole ∙ append_assoc t.spelling.stuffed tail_g y

  -- the stuffed parts are one, since neither goes on to the other
  same_stuffed : s.spelling.stuffed ≡ t.spelling.stuffed
  same_stuffed =
      Stuffs-once (heard_head h ++ s.spelling.check) (heard_head g ++ t.spelling.check) s.spelling.stuffed t.spelling.stuffed (tail_h ++ x) (tail_g ++ y)
      (heard_head-complete h s.spelling.check s.heard s.spelling.is_check.length) (heard_head-complete g t.spelling.check t.heard t.spelling.is_check.length)
      s.spelling.is_stuffed t.spelling.is_stuffed same_fronts

  -- so the tails are one
  same_tail : (ack_slot h.acked ≡ ack_slot g.acked) × (h.last ≡ g.last)
  same_tail =
      tail-once (ack_slot h.acked) h.last (ack_slot g.acked) g.last x y
      (append_cancel_left s.spelling.stuffed (tail_h ++ x) (tail_g ++ y) (same_fronts ∙ ap (λ z. z ++ (tail_g ++ y)) (sym same_stuffed)))

  -- and the unstuffed levels are
  same_unstuffed : heard_head h ++ s.spelling.check ≡ heard_head g ++ t.spelling.check
  same_unstuffed = sym s.spelling.is_stuffed.rest ∙ ap (λ b. kept b 0 b) same_stuffed ∙ t.spelling.is_stuffed.rest

  same_spelling : v ≡ w
  same_spelling =
      s.spelling.whole ∙ ap (λ z. z ++ tail_h) same_stuffed
      ∙ ap (λ a. t.spelling.stuffed ++ tail a h.last) same_tail.0 ∙ ap (λ l. t.spelling.stuffed ++ tail (ack_slot g.acked) l) same_tail.1
      ∙ sym t.spelling.whole

  -- so what is heard is one, and the spellings are
  pub Spells-apart : (h ≡ g) × (v ≡ w)
  Spells-apart =
      let heard = heard_head-once h g s.spelling.check t.spelling.check s.heard t.heard (ack_slot-once h.acked g.acked same_tail.0) same_tail.1 same_unstuffed in
      (heard, same_spelling)

-- a list spells at most one
pub Spells-one : (h g : HeardParts) (w : List Level) → Spells h w → Spells g w → h ≡ g
Spells-one h g w s t = let apart = Spells-apart h g w w [] [] s t refl in apart.0
