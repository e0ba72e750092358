-- A message's longest frame.
use Rattle.std.proofs.Common.{◌≡◌, ℕ, Bool, List, length, ap, subst, ◌∙◌, sym}
use Rattle.std.specs.Prelude.{if◌then◌else◌}
use Rattle.can_frame.specs.declared.level.Level.{Level}
use Rattle.can_frame.specs.Arbitration.{arbitration_field, extended_field, standard_field}
use Rattle.can_frame.specs.Ident.{Ident}
use Rattle.can_frame.specs.Parts.{Parts}
use Rattle.can_wire.specs.Wire.{wire}
use Rattle.can_longest.specs.Longest.{IsFrameOf, IsLongestWire}
use Rattle.can_plan_text.specs.declared.plan.Planned.{Planned}
use Rattle.can_plan_text.specs.Worst.{IsLongestFrame, frame_dlc}

pub longest-is : (p : Planned) (id : Ident) (remote : Bool) (dlc : ℕ) (f : Parts) → id ≡ p.head.id → remote ≡ p.head.remote → dlc ≡ frame_dlc p → IsFrameOf id remote dlc f →
    IsLongestWire id remote dlc (length (wire f)) → IsLongestFrame p f
longest-is p id remote dlc f same_id same_kind same_dlc is long = record {
  same = subst (λ (i : Ident). IsFrameOf i p.head.remote (frame_dlc p) f) same_id (subst (λ (r : Bool). IsFrameOf id r (frame_dlc p) f) same_kind (subst (λ (d : ℕ). IsFrameOf id remote d f) same_dlc is));
  longest =
      subst (λ (i : Ident). IsLongestWire i p.head.remote (frame_dlc p) (length (wire f))) same_id
      (subst (λ (r : Bool). IsLongestWire id r (frame_dlc p) (length (wire f))) same_kind (subst (λ (d : ℕ). IsLongestWire id remote d (length (wire f))) same_dlc long));
}

-- an arbitration field by the parts that it has
field-by : Ident → Bool → List Level
field-by id remote = if id.extended then extended_field id.raw remote else standard_field id.raw remote

field-same : (f g : Parts) → f.id ≡ g.id → f.remote ≡ g.remote → arbitration_field f ≡ arbitration_field g
unfolding arbitration_field field-by
field-same f g same_id same_kind = ap (λ (i : Ident). field-by i f.remote) same_id ∙ ap (λ (r : Bool). field-by g.id r) same_kind

pub field-of : (p : Planned) (f : Parts) → IsLongestFrame p f → arbitration_field f ≡ p.message.field
field-of p f is = field-same f p.head is.same.same_id is.same.same_kind ∙ sym p.named
