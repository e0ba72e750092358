-- A box of a port on the heap, as a call takes it that is generic over both types.
use Rattle.std.proofs.Common.{[], ◌∷◌, refl}
use mir.Raw.{raw as bare}
use mir.Syntax.{Dict, impl, tcons, tnil, dnil}
use denote.Exit.{no}
use denote.Param.{arg, layout}
use denote.Param.Laws.{Laws, arg_laws}
use denote.RattleType.{RattleType}
use Rattle.std_alloc.proofs.BoxSteps.Form.{Bx}
use Rattle.std_alloc.specs.contracts.boxed.Box as boxed
use Rattle.std_heap.specs.contracts.Global as heap
use Rattle.std_heap.specs.contracts.GlobalAllocator.TheImpl.{ghosts, dict}
use Rattle.std_heap.proofs.Global.TheLaws as heap_laws
use Rattle.can_c.specs.contracts.controller.Controller as port
use Rattle.can_c.proofs.controller.Controller.TheLaws as port_laws

-- the two types, as arguments of a generic call
abbrev pub Port : RattleType
Port = arg (bare (layout port.the_row)) no port.the_row

abbrev pub port_lawful : Laws Port
port_lawful = arg_laws (bare (layout port.the_row)) no port.the_row port_laws.the_row_laws refl

abbrev pub Heap : RattleType
Heap = arg (bare (layout heap.the_row)) no heap.the_row

abbrev pub heap_lawful : Laws Heap
heap_lawful = arg_laws (bare (layout heap.the_row)) no heap.the_row heap_laws.the_row_laws refl

-- their drops: a port's is derived, and the heap's handle has nothing to drop
abbrev pub port_drop : Dict
port_drop = impl ("can_c::can_c++controller++Controller+Destruct::drop" ∷ []) tnil dnil

abbrev pub heap_drop : Dict
heap_drop = impl ("can_c::Destruct++none::drop" ∷ []) (tcons (layout Heap) tnil) dnil

-- the box
abbrev pub PortBox : Bx
PortBox = record { row = Port; laws = port_lawful; al = record { row = Heap; laws = heap_lawful; g = ghosts; d = dict; drops = heap_drop } }

abbrev pub BoxedPort : RattleType
BoxedPort = boxed.the_row port.the_row heap.the_row ghosts
