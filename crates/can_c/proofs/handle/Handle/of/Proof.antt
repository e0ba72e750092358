-- `of` takes the box apart, and its controller is the handle's.
use Rattle.std.proofs.Common.{◌≡◌, List, [], ◌∷◌, ◌++◌, refl}
use mathlib.Core.Bool.{true}
use mir.Val.{Val}
use prog.Wp.{WpFn}
use base.Logic.{emp}
use base.Fml.{ftrue, fsep}
use contract.Running.{tables}
use types.Kit.{‵, raw, ◌⊛◌, some, given, later, prop, ◌$◌, ◌∵◌, !, qed, done, keep, drop, use1, split, fsplit, fjoin, join, pick, learn, await, regoal, suffices}
use types.Run.{enter, of_opd, no_more, and_then, true_lit, returns}
use types.ByLocal.{alloc_all, pass_all, free_all, look_at, get, sets, lands_as}
use types.Part.{agg}
use denote.Exit.{yes}
use denote.Param.NoDrop.{glues}
use denote.RawPtr.{Ptr, ptr_val}
use denote.Signature.{plain}
use denote.Steps.{nothing}
use denote.Triple.Call.{calls_at}
use denote.Triple.Table.{framed}
use denote.Triple.Walked.{says, Stays, stay_dropped, walk_of, ends_at}
use Rattle.core.proofs.alloc.Calls.{Goes-blank}
use Rattle.core.proofs.atomic.Steps.{Ptr-Good}
use Rattle.std.proofs.raw_atomic.Walks.{proved_at}
use Rattle.std.specs.Prelude.{Some}
use Rattle.std_alloc.proofs.BoxSteps.Form as box
use Rattle.std_alloc.proofs.BoxSteps.Steps.{box_out, box_in}
use Rattle.std_alloc.proofs.ResultValues.{and_tt}
use Rattle.std_alloc.proofs.boxed.Box.into_raw.Met.{met}
use Rattle.std_heap.specs.contracts.GlobalAllocator.TheImpl.{ghosts, dict}
use Rattle.std_heap.proofs.GlobalAllocator.TheImpl.Met.{passed}
use Rattle.can_c.specs.Owned.{handle_owns}
use Rattle.can_c.proofs.Destruct++none.drop.Code.{code as none}
use Rattle.can_c.proofs.PortBox.{Port, Heap, port_lawful, heap_lawful, port_drop, heap_drop, PortBox, BoxedPort}
use Rattle.can_c.proofs.BoxCalls.{IntoRaw, into_with, into_takes, into_gives}
use Rattle.can_c.proofs.PortDrop.{port_drops}
use Rattle.can_c.proofs.HandleValues.{word, held, handle_in}
use Rattle.can_c.specs.contracts.handle.Handle.of as f
use Rattle.can_c.proofs.handle.Handle.of.Statement.{statement}
use Rattle.can_c.proofs.handle.Handle.of.Code as code

abbrev stayed : Stays f.ended.signature.params f.ended.kept
stayed = (stay_dropped (plain (λ _. BoxedPort)) yes, tt)

pub of_spec : {M : Type 1} → statement M
unfolding none
of_spec {M = M} 𝓤 𝓛 𝓜 𝓡 wired =
    let c = f.clauses 𝓛 𝓜.mem 𝓡.returns in
    let 𝓣 = tables 𝓤 𝓛.H 𝓜 𝓡 𝓡.env in
    let no_drops = code.calls-can_c::Destruct++none::drop 𝓡.env wired in
    let called =
    met 𝓤 𝓛 𝓜 𝓡 (code.calls-std_alloc::boxed::Box::into_raw 𝓡.env wired) Port Heap port_lawful heap_lawful ghosts dict heap_drop port_drop
    (passed 𝓡.env (code.calls-std_heap::GlobalAllocator::allocate 𝓡.env wired) (code.calls-std_heap::GlobalAllocator::deallocate 𝓡.env wired) (code.calls-std_heap::GlobalAllocator::grow 𝓡.env wired) (code.calls-std_heap::GlobalAllocator::shrink 𝓡.env wired) M 𝓤 𝓛 𝓜 𝓡)
    (glues "can_c::Destruct++none::drop" 𝓡.env no_drops Heap heap_lawful M 𝓤 𝓛 𝓜 𝓡)
    (port_drops 𝓤 𝓛 𝓜 𝓡 (code.calls-can_c::can_c++controller++Controller+Destruct::drop 𝓡.env wired)) in
    proved_at 𝓛 f.ended stayed c 𝓜 𝓡 (Goes-blank 𝓛 0 (plain (λ _. BoxedPort)) yes (λ κs x w. tt), tt)
    f.Key.name code.function (code.unfolded 𝓤 𝓛.H 𝓜 𝓡 wired) (λ z are.
    let b = z.0.3.0 in
    let Post = (walk_of 𝓛 f.ended stayed c).post z in
    qed 𝓛 ((‵ ftrue ⊛ ‵ (fsep (BoxedPort.own_val b z.0.4.0) ftrue)) ∷ raw (emp 𝓤) ∷ []) ∵ split ! $ drop ! $ fsplit ! $
    box_out PortBox ! b z.0.4.0 (λ bl o h at is fits. box_in PortBox ! b bl o b.value at refl $ keep ! (0 ∷ []) $
    let w = box.word PortBox h bl o in
    let y = into_with 𝓛 𝓜.mem 𝓡.returns b w in
    let owned = box.box_typed PortBox h bl o fits in
    regoal ! (λ (us : List Val). prop (WpFn 𝓤 𝓛.H 𝓣.C 𝓣.Λ code.function (us ++ []) Post)) is refl $
    enter ! _ _ _ _ _ $ alloc_all ! (λ l. pass_all ! refl (owned, tt) $
    sets ! (of_opd ! (get ! refl)) refl owned $
    use1 𝓛 (raw ((IntoRaw 𝓛 𝓜.mem 𝓡.returns).pre y)) (into_takes 𝓛 𝓜.mem 𝓡.returns b w) $
    calls_at ! (framed 𝓤 𝓛.H 𝓜 𝓣) (IntoRaw 𝓛 𝓜.mem 𝓡.returns) called y (and_then ! (get ! refl) (no_more !)) (λ v.
    use1 𝓛 (later (some (λ (p : Ptr). given (v ≡ ptr_val p) (‵ (handle_owns true p (Some b.value)))))) (into_gives 𝓛 𝓜.mem 𝓡.returns b w v) $
    await ! tt $ pick ! (λ p. learn ! (λ is_p.
    let good = Ptr-Good p in
    lands_as ! is_p refl good $
    sets ! (of_opd ! (get ! refl)) refl good $
    sets ! (agg ! (and_then ! (get ! refl) (and_then ! (true_lit !) (no_more !)))) refl (and_tt _ good.0, (good.1, (tt, tt))) $
    returns ! (look_at ! 0 refl) $ free_all ! refl $
    handle_in p true (Some b.value) ! $
    suffices ! _ (ends_at 𝓛 f.ended stayed c z (word p true) (held p true (Some b.value)) (tt, tt) (tt, tt)) $ says ! refl $
    nothing ! $ nothing ! $ fjoin ! $ join ! $ nothing ! $ join ! $ done !))))))
