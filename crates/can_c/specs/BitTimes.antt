-- What a port drives over several bit times. (bindings/README.md, "From C")
use Rattle.std.specs.Prelude.{List, [], ◌∷◌, Option, Some, None}
use Rattle.can_frame.specs.declared.level.Level.{Level}
use Rattle.can_terms.specs.declared.event.Event.{Event}
use Rattle.can_terms.specs.declared.event.Event.TheVariants.{Sent, Received, Lost, Error, Overload, WentOff, Recovered}
use Rattle.can_node.specs.Ports.{PortState, port_drives, port_step}
use Rattle.can_c.specs.declared.plain.PlainFrame.{PlainFrame}
use Rattle.can_c.specs.PlainFrames.{plain_frame}

-- the levels that a port drives in the bit times in which it samples these levels
unfoldable pub drives_over : PortState → List Level → List Level
drives_over p [] = []
drives_over p (x ∷ levels) = port_drives p ∷ drives_over (port_step p x) levels

-- the plain fields of the frame that was transmitted or received; otherwise the fields that were there before
abbrev pub told_frame : Option Event → PlainFrame → PlainFrame
told_frame (Some (Sent f)) before = plain_frame f
told_frame (Some (Received f)) before = plain_frame f
told_frame (Some Lost) before = before
told_frame (Some (Error kind)) before = before
told_frame (Some Overload) before = before
told_frame (Some WentOff) before = before
told_frame (Some Recovered) before = before
told_frame None before = before
