-- What `into_raw` takes and gives at a box of a port, and what `from_raw` does.
use Rattle.std.proofs.Common.{◌≡◌, List, [], ◌∷◌, refl, sym, ap, subst}
use mathlib.Core.Bool.{true}
use seplogic.Ra.Ura.{Ura}
use mir.Val.{Val}
use base.Fraction.{full_share}
use base.Logic.{SProp, ent, ex, guard, emp, id⊢}
use base.Fml.{ftrue, fsep, flft}
use prog.Memory.{Memory}
use prog.Routine.{Routine}
use contract.BorrowLft.{◌⊑◌, ⊑_refl}
use contract.Monad.{Fun, fact, fact_i}
use types.Logic.{Logic, sem}
use types.Kit.{Item, ‵, raw, ◌⊛◌, some, later, ◌$◌, ◌∵◌, !, qed, move, drop, use0, use1, split, split3, join, pick, fsplit, fjoin, rewrite, feq_l, feq_i, check, show, await, updating, now, done}
use denote.Param.{layout}
use denote.RawPtr.{Ptr, RawPtr, ptr_val}
use denote.Steps.{nothing, only, heard}
use denote.Triple.Clauses.{Ended, Lasts, lasts}
use denote.Triple.Spec.{triple_of}
use denote.Triple.Statement.{Contract}
use Rattle.core.proofs.cell.Inside.{Good}
use Rattle.std.specs.Prelude.{Some}
use Rattle.std.specs.declared.alloc.Global.{Global}
use Rattle.std_alloc.proofs.BoxSteps.Form.{D, box_typed}
use Rattle.std_alloc.proofs.BoxSteps.Steps.{box_out, box_in}
use Rattle.std_alloc.specs.contracts.boxed.Box.into_raw as into
use Rattle.std_alloc.specs.contracts.boxed.Box.from_raw as from
use Rattle.std_heap.specs.contracts.GlobalAllocator.TheImpl.{ghosts, dict}
use Rattle.can_c.specs.Owned.{handle_owns}
use Rattle.can_c.proofs.PortBox.{Port, Heap, port_drop, heap_drop, PortBox, BoxedPort}

module _ {M : Type 1} {𝓤 : Ura M} (𝓛 : Logic 𝓤) (at_mem : Memory → SProp 𝓤) (run : Routine → Fun 𝓤) where
  open 𝓛 use {H}

  -- the tokens of the lifetimes inside the two types, which never end
  abbrev tokens : Item 𝓤
  tokens = ‵ (flft [] full_share) ⊛ ‵ (flft [] full_share) ⊛ ‵ ftrue

  -- `into_raw` takes a box, and gives an address at which a handle owns what it owned
  abbrev into_ended : Ended
  into_ended = into.ended Port Heap ghosts dict heap_drop port_drop

  abbrev pub IntoRaw : Contract 𝓤
  IntoRaw = triple_of 𝓛 into_ended.signature (into.spec Port Heap ghosts dict heap_drop port_drop 𝓛 at_mem run)

  module _ (b : D PortBox) (w : Val) where
    abbrev pub into_with : IntoRaw.Ghost
    into_with = ((([], ([], tt)), (full_share, (full_share, tt)), tt, (b, tt), (w ∷ [], tt)), tt)

    pub into_takes : ent 𝓤 (sem 𝓛 (BoxedPort.own_val b (w ∷ []))) (IntoRaw.pre into_with)
    into_takes =
        qed 𝓛 (‵ (BoxedPort.own_val b (w ∷ [])) ∷ []) ∵
        nothing ! $ use0 𝓛 (raw (fact 𝓤 ([] ⊑ []))) (fact_i 𝓤 ([] ⊑ []) (emp 𝓤) (⊑_refl [])) $ join ! $ use0 𝓛 (raw (fact 𝓤 ([] ⊑ []))) (fact_i 𝓤 ([] ⊑ []) (emp 𝓤) (⊑_refl [])) $ join ! $
        -- [that the lifetimes are within the types; the box]
        nothing ! $ move ! (2 ∷ 0 ∷ []) $ fjoin ! $
        nothing ! $ use0 𝓛 (‵ (flft [] full_share)) (𝓛.lfts.lft-nil full_share) $ join ! $ use0 𝓛 (‵ (flft [] full_share)) (𝓛.lfts.lft-nil full_share) $ join ! $
        -- [the tokens; the box; that the lifetimes are within the types]
        join ! $ done !

    pub into_gives : (v : Val) → ent 𝓤 (IntoRaw.post into_with v) (H.⇛ (ex 𝓤 (λ (p : Ptr). guard 𝓤 (v ≡ ptr_val p) (sem 𝓛 (handle_owns true p (Some b.value))))))
    into_gives v =
        qed 𝓛 (raw (IntoRaw.post into_with v) ∷ []) ∵ updating ! $
        use1 𝓛 (later (some (λ (p : Ptr). (tokens ⊛ ‵ (RawPtr.own_val p (v ∷ []))) ⊛ some (λ (ls : Lasts into_ended ([], ([], tt)) (b, tt)). ‵ (lasts into_ended ([], ([], tt)) (b, tt) ls) ⊛ ‵ (handle_owns true p (Some b.value)))))) (id⊢ 𝓤 _) $
        await ! tt $ pick ! (λ p. split ! $ move ! (1 ∷ []) $ pick ! (λ ls. split ! $ drop ! $
        -- [what a handle owns; the tokens and the result]
        move ! (1 ∷ []) $ split ! $ drop ! $ feq_l ! (λ is. now ! $
        show ! (λ (q : Ptr). guard 𝓤 (v ≡ ptr_val q) (sem 𝓛 (handle_owns true q (Some b.value)))) p $ check ! (ap only is) $ done !)))

  -- `from_raw` takes what a live handle owns, and gives a box of the same port
  abbrev from_ended : Ended
  from_ended = from.ended Port Heap ghosts dict heap_drop

  abbrev pub FromRaw : Contract 𝓤
  FromRaw = triple_of 𝓛 from_ended.signature (from.spec Port Heap ghosts dict heap_drop 𝓛 at_mem run)

  module _ (a : Global) (h : Val) (p : Ptr) (x : Port.Denot) where
    abbrev pub from_with : FromRaw.Ghost
    from_with = ((([], ([], tt)), (full_share, (full_share, tt)), tt, (a, (p, tt)), (h ∷ [], (ptr_val p ∷ [], tt))), x)

    pub from_takes : ent 𝓤 (sem 𝓛 (fsep (handle_owns true p (Some x)) (Heap.own_val a (h ∷ [])))) (FromRaw.pre from_with)
    from_takes =
        qed 𝓛 (‵ (fsep (handle_owns true p (Some x)) (Heap.own_val a (h ∷ []))) ∷ []) ∵ fsplit ! $
        use0 𝓛 (raw (fact 𝓤 ([] ⊑ []))) (fact_i 𝓤 ([] ⊑ []) (emp 𝓤) (⊑_refl [])) $ join ! $ use0 𝓛 (raw (fact 𝓤 ([] ⊑ []))) (fact_i 𝓤 ([] ⊑ []) (emp 𝓤) (⊑_refl [])) $ join ! $
        -- [what it requires; the heap's handle]
        nothing ! $ feq_i ! (List Val) (ptr_val p ∷ []) (ptr_val p ∷ []) refl $ fjoin ! $ move ! (2 ∷ 0 ∷ []) $ fjoin ! $
        nothing ! $ use0 𝓛 (‵ (flft [] full_share)) (𝓛.lfts.lft-nil full_share) $ join ! $ use0 𝓛 (‵ (flft [] full_share)) (𝓛.lfts.lft-nil full_share) $ join ! $
        -- [the tokens; the heap's handle and the pointer; what it requires]
        join ! $ done !

    pub from_gives : (v : Val) → ent 𝓤 (FromRaw.post from_with v) (H.⇛ (ex 𝓤 (λ (b : D PortBox). guard 𝓤 ((b.value ≡ x) × Good (layout BoxedPort) v) (sem 𝓛 (BoxedPort.own_val b (v ∷ []))))))
    from_gives v =
        qed 𝓛 (raw (FromRaw.post from_with v) ∷ []) ∵ updating ! $
        use1 𝓛 (later (some (λ (b : D PortBox). (tokens ⊛ ‵ (BoxedPort.own_val b (v ∷ []))) ⊛ some (λ (ls : Lasts from_ended ([], ([], tt)) (a, (p, tt))). ‵ (lasts from_ended ([], ([], tt)) (a, (p, tt)) ls) ⊛ (raw (fact 𝓤 (b.value ≡ x)) ⊛ raw (fact 𝓤 (b.alloc ≡ a))))))) (id⊢ 𝓤 _) $
        await ! tt $ pick ! (λ b. split ! $ move ! (1 ∷ []) $ pick ! (λ ls. split3 ! $ drop ! $ heard ! (b.value ≡ x) (λ same. drop ! $ split ! $ drop ! $
        -- [the box]
        box_out PortBox ! b (v ∷ []) (λ n o w at is fits. box_in PortBox ! b n o b.value at refl $ rewrite ! 0 (λ (us : List Val). ‵ (BoxedPort.own_val b us)) (sym is) refl $
        let good : Good (layout BoxedPort) v = subst (Good (layout BoxedPort)) (sym (ap only is)) (box_typed PortBox w n o fits) in now ! $
        show ! (λ (c : D PortBox). guard 𝓤 ((c.value ≡ x) × Good (layout BoxedPort) v) (sem 𝓛 (BoxedPort.own_val c (v ∷ [])))) b $ check ! (same, good) $ done !))))
