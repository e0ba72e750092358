-- What is heard has one spelling.
use Rattle.std.proofs.Common.{◌≡◌, ◌≤◌, false, List, length, refl, sym, ◌∙◌, ap, cond}
use Rattle.can_frame.specs.declared.level.Level.{Level}
use Rattle.can_frame.specs.declared.level.Level.TheVariants.{Dominant, Recessive}
use Rattle.can_frame.specs.Parts.{Parts}
use Rattle.can_wire.specs.Wire.{wire, driven}
use Rattle.can_wire.specs.Heard.{HeardParts, IsHeard, sent, heard_head, ack_slot, Spells, spelling}
use Rattle.can_wire.proofs.LayoutHead.{heard_head-sent, length-heard_head-le}
use Rattle.can_wire.proofs.WireLemmas.{spelling_of, IsSpelling-spelling_of, IsSpelling-only, length-spelling_of-le, wire-spelling_of, driven-spelling_of}

-- the spelling is that of the head, with its tail
pub spelling-spelling_of : (h : HeardParts) → spelling h ≡ spelling_of (heard_head h) (ack_slot h.acked) h.last
unfolding spelling
spelling-spelling_of h = refl

-- what is computed spells
pub Spells-spelling : (h : HeardParts) → IsHeard h → Spells h (spelling h)
unfolding spelling
Spells-spelling h is = record { heard = is; spelling = IsSpelling-spelling_of (heard_head h) (ack_slot h.acked) h.last }

-- and nothing more
pub Spells-only : (h : HeardParts) (w : List Level) → Spells h w → w ≡ spelling h
unfolding spelling
Spells-only h w s = IsSpelling-only (heard_head h) (ack_slot h.acked) h.last w s.spelling

module _ (h : HeardParts) (is : IsHeard h) where
  -- the longest spelling of each format
  pub length-spelling-le : length (spelling h) ≤ cond h.frame.id.extended 157 132
  unfolding spelling
  length-spelling-le = length-spelling_of-le h.frame.id.extended (heard_head h) (ack_slot h.acked) h.last (length-heard_head-le h is.frame)

-- if all levels are as sent, the frame's encoding is received
pub spelling-sent : (f : Parts) → spelling (sent f) ≡ wire f
unfolding spelling
spelling-sent f = ap (λ u. spelling_of u Dominant Recessive) (heard_head-sent f) ∙ sym (wire-spelling_of f)

-- what a sender drives is what would be heard if nobody acknowledged
pub spelling-unacknowledged : (f : Parts) → spelling (record (sent f) { acked = false }) ≡ driven f
unfolding spelling heard_head
spelling-unacknowledged f = ap (λ u. spelling_of u Recessive Recessive) (heard_head-sent f) ∙ sym (driven-spelling_of f)
