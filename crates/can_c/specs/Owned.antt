-- The memory that a handle owns: that of a `Box` of its port, or nothing if it has none. (bindings/README.md, "What is
-- proved")
use Rattle.std.specs.Prelude.{Bool, true, false, Option, Some, None}
use Rattle.std.specs.Coded.{coded_option}
use base.Fml.{Fml, ftrue, ffalse}
use base.Stored.{Coded}
use denote.RawPtr.{Ptr}
use Rattle.std.specs.Box.Ownership.{box_owns}
use Rattle.std.specs.declared.alloc.Global.{Global}
use Rattle.std.specs.contracts.impls.GlobalAllocator.TheImpl.{ghosts}
use Rattle.can_c.specs.contracts.controller.Controller.{the_row}

-- the only value of the allocator's type, which has no bytes
abbrev heap : Global
heap = record { memory = record { seal = tt } }

-- a handle with a flag and a pointer owns the port's `Box`, if it is live; otherwise nothing
abbrev pub handle_owns : Bool → Ptr → Option the_row.Denot → Fml
handle_owns true p (Some x) = box_owns (ghosts.dealloc_token heap) the_row p x
handle_owns true p None = ffalse
handle_owns false p (Some x) = ffalse
handle_owns false p None = ftrue

-- the state of a port, if there is one, as a ghost field
abbrev pub port_coded : Coded (Option the_row.Denot)
port_coded = coded_option the_row.coded
