use Rattle.std.proofs.Common.{◌≡◌, List, [], ◌∷◌, ◌++◌, ap, sym, ◌∙◌, append_assoc}
use Rattle.can_frame.specs.declared.level.Level.{Level}
use Rattle.can_frame.specs.declared.level.Level.TheVariants.{Dominant}
use Rattle.can_frame.specs.Parts.{Parts}
use Rattle.can_wire.specs.Wire.{data_field}
use Rattle.can_wire.specs.Heard.{HeardParts, heard_head}
use Rattle.can_wire.proofs.LayoutHead.{heard_head-standard, heard_head-extended}
use Rattle.can_wire.proofs.layout.head.Goals as goal
use Rattle.can_wire.proofs.layout.head.Goals.{then-is_extended, else-is_extended}

-- the start of frame, then the bits of a format, then r0 and the data field
pieces : (h : HeardParts) (format : List Level) {f : Parts} {r0 : Level} {start front more levels : List Level}
    → f ≡ h.frame → r0 ≡ h.r0 → start ≡ Dominant ∷ [] → front ≡ start ++ format → more ≡ front ++ r0 ∷ [] → levels ≡ more ++ data_field f
    → heard_head h ≡ Dominant ∷ (format ++ h.r0 ∷ data_field h.frame) → levels ≡ heard_head h
pieces h format {f} {r0} {start} {front} frame reserved sof bits one behind whole =
    behind ∙ ap (λ t. t ++ data_field f) one ∙ append_assoc front (r0 ∷ []) (data_field f)
    ∙ ap (λ t. front ++ r0 ∷ data_field t) frame ∙ ap (λ t. front ++ t ∷ data_field h.frame) reserved
    ∙ ap (λ t. t ++ h.r0 ∷ data_field h.frame) (bits ∙ ap (λ t. t ++ format) sof) ∙ sym whole

pub returns-clause-levels : goal.returns-clause-levels
returns-clause-levels g c =
    let h = c.args.heard.now in
    let frame = c.frame-frame.ensures.value in
    let sof = c.start-levels.ensures in
    let kind = ap (λ f. f.id.extended) (sym frame) ∙ sym c.is_extended.ensures in
    elim c.if-is_extended.branch [
      | then-is_extended w ↦
          let bits = ap (λ t. g.B.FrameBits.levels t) w.levels-is ∙ w.push_extended_format.ensures.levels in
          pieces h _ frame c.r0-r0.ensures sof bits c.push.ensures c.push_data_field.ensures.levels (heard_head-extended h (kind ∙ w.if-is_extended.true))
      | else-is_extended w ↦
          let bits = ap (λ t. g.B.FrameBits.levels t) w.levels-is ∙ w.push_standard_format.ensures.levels in
          pieces h _ frame c.r0-r0.ensures sof bits c.push.ensures c.push_data_field.ensures.levels (heard_head-standard h (kind ∙ w.if-is_extended.false))
    ]
