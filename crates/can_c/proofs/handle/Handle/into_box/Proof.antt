-- `into_box` makes a box of what a handle owns, if it is live.
use Rattle.std.proofs.Common.{◌≡◌, List, [], ◌∷◌, ◌++◌, refl, sym, ap, lit<}
use mathlib.Core.Bool.{Bool, true, false}
use seplogic.Ra.Ura.{Ura}
use mir.Syntax.{Body, place, copy, int, w8, assign, aggregate, rv_opd, seq}
use mir.Val.{Val, vcons, vnil}
use prog.Memory.{Memory}
use prog.Routine.{Routine}
use prog.Wp.{Wp, WpFn, Tables, after_seq, at_return}
use contract.Monad.{Fun}
use types.Logic.{Logic}
use sound.WpLaws.{fm_of}
use base.Logic.{SProp, ent, emp, never_e}
use base.Fml.{ftrue, fsep}
use contract.Running.{tables, tables_of}
use types.Kit.{Item, ‵, raw, at_ret, any_q, ◌⊛◌, some, given, later, prop, ◌$◌, ◌∵◌, !, qed, done, move, keep, drop, use0, use1, split, fsplit, fjoin, join, pick, learn, await, regoal, suffices}
use types.Match.{live}
use types.Part.{whole, sub, agg}
use types.Run.{enter, stop, fld, of_opd, lit, no_more, and_then, first, blocks, branches, exec, returns}
use types.ByLocal.{alloc_all, pass_all, free_all, look_at, get, get_in, sets, sets_last, lands_last, env}
use denote.Exit.{yes}
use denote.Param.{layout}
use denote.Param.NoDrop.{glues}
use denote.RattleType.{RattleType}
use denote.RawPtr.{Ptr}
use denote.Signature.{plain, type_at}
use denote.Steps.{nothing}
use denote.Triple.Call.{calls_at_last}
use denote.Triple.Statement.{Contract, Triple}
use denote.Triple.Walked.{says, Stays, stay_dropped, walk_of, ends_at, Goes-dropped}
use Rattle.core.proofs.alloc.Calls.{handle_tells}
use Rattle.core.proofs.atomic.Steps.{Ptr-Good}
use Rattle.core.proofs.cell.Inside.{Good}
use Rattle.core.proofs.option.Made.{Some-of, none_of}
use Rattle.std.proofs.raw_atomic.Walks.{proved_at}
use Rattle.std.specs.declared.alloc.Global.{Global}
use Rattle.std.specs.Prelude.{Option, Some, None}
use Rattle.std_alloc.proofs.BoxSteps.Form as box
use Rattle.std_alloc.proofs.ResultValues.{and_tt}
use Rattle.std_alloc.proofs.boxed.Box.from_raw.Met.{met}
use Rattle.std_alloc.proofs.boxed.Box.from_raw.Symbol as symbol
use Rattle.std_heap.specs.contracts.Global as heap
use Rattle.std_heap.specs.contracts.GlobalAllocator.TheImpl.{ghosts, dict}
use Rattle.std_heap.proofs.GlobalAllocator.TheImpl.Met.{passed}
use Rattle.can_c.proofs.Destruct++none.drop.Code.{code as none}
use Rattle.can_c.proofs.PortBox.{Port, Heap, port_lawful, heap_lawful, heap_drop, PortBox, BoxedPort}
use Rattle.can_c.proofs.BoxCalls.{FromRaw, from_with, from_takes, from_gives}
use Rattle.can_c.proofs.HandleValues.{Handle, word, held, handle_out}
use Rattle.can_c.specs.contracts.handle.Handle.into_box as f
use Rattle.can_c.proofs.handle.Handle.into_box.Statement.{statement}
use Rattle.can_c.proofs.handle.Handle.into_box.Code as code

abbrev stayed : Stays f.ended.signature.params f.ended.kept
stayed = (stay_dropped (plain (λ _. Handle)) yes, (stay_dropped (plain (λ _. heap.the_row)) yes, tt))

abbrev Result : RattleType
Result = type_at f.signature.result tt

-- what the arm of a live handle does with the box
abbrev rest : Body
rest = seq (assign (place 7 []) (rv_opd (copy (place 8 [])))) (assign (place 6 []) (aggregate (int w8 1 ∷ copy (place 7 []) ∷ [])))

module _ {M : Type 1} {𝓤 : Ura M} (𝓛 : Logic 𝓤) (at_mem : Memory → SProp 𝓤) (run : Routine → Fun 𝓤) (𝓣 : Tables 𝓤 𝓛.H) (called : Triple 𝓤 (𝓣.C (symbol.name (box.args PortBox))) (FromRaw 𝓛 at_mem run)) (a : Global) (vs us : List Val) where
  abbrev W : Contract 𝓤
  W = walk_of 𝓛 f.ended stayed (f.clauses 𝓛 at_mem run)

  module _ (p : Ptr) (t : Bool) (m : Option Port.Denot) where
    abbrev y : W.Ghost
    y = ((tt, tt, tt, (held p t m, (a, tt)), (vs, (us, tt))), tt)

    abbrev Runs : List Val → SProp 𝓤
    Runs ws = WpFn 𝓤 𝓛.H 𝓣.C 𝓣.Λ code.function ws (W.post y)

    abbrev Had : List (Item 𝓤)
    Had = (‵ ftrue ⊛ ‵ (fsep (Handle.own_val (held p t m) vs) (fsep (Heap.own_val a us) ftrue))) ∷ raw (emp 𝓤) ∷ []

  walk : (p : Ptr) (t : Bool) (m : Option Port.Denot) → ent 𝓤 (W.pre (y p t m)) (Runs p t m (vs ++ (us ++ [])))
  walk p true (Some x) =
      let Run = Runs p true (Some x) in
      let End = W.post (y p true (Some x)) in
      let good = Ptr-Good p in
      qed 𝓛 (Had p true (Some x)) ∵ split ! $ drop ! $ fsplit ! $
      handle_out p true (Some x) ! vs (λ is. move ! (1 ∷ []) $ fsplit ! $ handle_tells PortBox.al ! a us (λ h is_heap fits. move ! (2 ∷ 0 ∷ []) $ fjoin ! $ keep ! (0 ∷ []) $
      -- [what the handle owns, and the heap's handle]
      regoal ! (λ (ws : List Val). prop (Run (ws ++ (us ++ [])))) is refl $ regoal ! (λ (ws : List Val). prop (Run (word p true ∷ (ws ++ [])))) is_heap refl $
      enter ! _ _ _ _ _ $ alloc_all ! (λ l. pass_all ! refl ((and_tt _ good.0, (good.1, (tt, tt))), (fits, tt)) $
      let here = env (code.function).locals l in
      let end = at_return 𝓤 𝓛.H here End in
      sets ! (of_opd ! (get_in ! (fld ! refl (stop !)) (sub ! 0 refl (whole !)))) refl good $
      sets ! (of_opd ! (get_in ! (fld ! refl (stop !)) (sub ! 1 refl (whole !)))) refl (tt, tt) $
      sets ! (of_opd ! (get ! refl)) refl (tt, tt) $
      first ! $ branches ! (get ! refl)
      (λ _. first ! $ blocks ! $ sets ! (of_opd ! (get ! refl)) refl fits $ sets ! (of_opd ! (get ! refl)) refl good $ sets ! (of_opd ! (get ! refl)) refl good $
      use1 𝓛 (raw ((FromRaw 𝓛 at_mem run).pre (from_with 𝓛 at_mem run a h p x))) (from_takes 𝓛 at_mem run a h p x) $
      calls_at_last ! (fm_of 𝓤 𝓛.H 𝓛.laws 𝓣) (FromRaw 𝓛 at_mem run) called (from_with 𝓛 at_mem run a h p x) (and_then ! (get ! refl) (and_then ! (get ! refl) (no_more !))) (λ v.
      use1 𝓛 (later (some (λ (b : box.D PortBox). given ((b.value ≡ x) × Good (layout BoxedPort) v) (‵ (BoxedPort.own_val b (v ∷ [])))))) (from_gives 𝓛 at_mem run a h p x v) $
      await ! tt $ pick ! (λ b. learn ! (λ told.
      -- [the box]
      let out : Val = live 1 (vcons v vnil) in
      let fine : Good (layout Result) out = (and_tt _ told.1.0, (record { fits = lit< tt }, (told.1.1, tt))) in
      lands_last ! refl told.1 $ exec ! 𝓣.C 𝓣.Λ here rest (any_q (after_seq 𝓤 𝓛.H (Wp 𝓤 𝓛.H 𝓣.C 𝓣.Λ here code.Mir.t-5 end) end)) $
      sets ! (of_opd ! (get ! refl)) refl told.1 $ sets_last ! (agg ! (and_then ! (lit ! tt) (and_then ! (get ! refl) (no_more !)))) refl fine $
      exec ! 𝓣.C 𝓣.Λ here code.Mir.t-5 (at_ret here End) $ sets ! (of_opd ! (get ! refl)) refl fine $ returns ! (look_at ! 0 refl) $ free_all ! refl $
      use1 𝓛 (‵ (Result.own_val (Some b) (out ∷ []))) (Some-of 𝓛 BoxedPort b v) $
      suffices ! _ (ends_at 𝓛 f.ended stayed (f.clauses 𝓛 at_mem run) (y p true (Some x)) out (Some b) (tt, (tt, tt)) (tt, (tt, tt))) $ says ! (ap Some (sym told.0)) $
      nothing ! $ nothing ! $ fjoin ! $ nothing ! $ fjoin ! $ join ! $ nothing ! $ join ! $ done !))))
      (λ wrong. absurd wrong))))
  walk p false None =
      let Run = Runs p false None in
      let End = W.post (y p false None) in
      let good = Ptr-Good p in
      let out : Val = live 0 vnil in
      let fine : Good (layout Result) out = (tt, (record { fits = lit< tt }, tt)) in
      qed 𝓛 (Had p false None) ∵ split ! $ drop ! $ fsplit ! $
      handle_out p false None ! vs (λ is. drop ! $ fsplit ! $ handle_tells PortBox.al ! a us (λ h is_heap fits. keep ! [] $
      regoal ! (λ (ws : List Val). prop (Run (ws ++ (us ++ [])))) is refl $ regoal ! (λ (ws : List Val). prop (Run (word p false ∷ (ws ++ [])))) is_heap refl $
      enter ! _ _ _ _ _ $ alloc_all ! (λ l. pass_all ! refl ((and_tt _ good.0, (good.1, (tt, tt))), (fits, tt)) $
      let here = env (code.function).locals l in
      sets ! (of_opd ! (get_in ! (fld ! refl (stop !)) (sub ! 0 refl (whole !)))) refl good $
      sets ! (of_opd ! (get_in ! (fld ! refl (stop !)) (sub ! 1 refl (whole !)))) refl (tt, tt) $
      sets ! (of_opd ! (get ! refl)) refl (tt, tt) $
      first ! $ branches ! (get ! refl)
      (λ wrong. absurd wrong)
      (λ _. sets_last ! (agg ! (and_then ! (lit ! tt) (no_more !))) refl fine $
      exec ! 𝓣.C 𝓣.Λ here code.Mir.t-5 (at_ret here End) $ sets ! (of_opd ! (get ! refl)) refl fine $ returns ! (look_at ! 0 refl) $ free_all ! refl $
      use0 𝓛 (‵ (Result.own_val None (out ∷ []))) (none_of 𝓛 BoxedPort) $
      suffices ! _ (ends_at 𝓛 f.ended stayed (f.clauses 𝓛 at_mem run) (y p false None) out None (tt, (tt, tt)) (tt, (tt, tt))) $ says ! refl $
      nothing ! $ nothing ! $ fjoin ! $ nothing ! $ fjoin ! $ join ! $ nothing ! $ join ! $ done !))))
  -- no handle is live and owns nothing, or owns a port and isn't
  walk p true None = qed 𝓛 (Had p true None) ∵ split ! $ drop ! $ fsplit ! $ handle_out p true None ! vs (λ _. use1 𝓛 (given ⊥ (‵ ftrue)) (never_e 𝓤 _) $ learn ! (λ wrong. absurd wrong))
  walk p false (Some x) = qed 𝓛 (Had p false (Some x)) ∵ split ! $ drop ! $ fsplit ! $ handle_out p false (Some x) ! vs (λ _. use1 𝓛 (given ⊥ (‵ ftrue)) (never_e 𝓤 _) $ learn ! (λ wrong. absurd wrong))

pub into_box_spec : {M : Type 1} → statement M
unfolding none tables_of
into_box_spec {M = M} 𝓤 𝓛 𝓜 𝓡 wired =
    let c = f.clauses 𝓛 𝓜.mem 𝓡.returns in
    let 𝓣 : Tables 𝓤 𝓛.H = tables_of 𝓤 𝓛.H 𝓜 (tables 𝓤 𝓛.H 𝓜 𝓡 𝓡.env) in
    let called =
    met 𝓤 𝓛 𝓜 𝓡 (code.calls-std_alloc::boxed::Box::from_raw 𝓡.env wired) Port Heap port_lawful heap_lawful ghosts dict heap_drop
    (passed 𝓡.env (code.calls-std_heap::GlobalAllocator::allocate 𝓡.env wired) (code.calls-std_heap::GlobalAllocator::deallocate 𝓡.env wired) (code.calls-std_heap::GlobalAllocator::grow 𝓡.env wired) (code.calls-std_heap::GlobalAllocator::shrink 𝓡.env wired) M 𝓤 𝓛 𝓜 𝓡)
    (glues "can_c::Destruct++none::drop" 𝓡.env (code.calls-can_c::Destruct++none::drop 𝓡.env wired) Heap heap_lawful M 𝓤 𝓛 𝓜 𝓡) in
    proved_at 𝓛 f.ended stayed c 𝓜 𝓡 (Goes-dropped 𝓛 0 (plain (λ _. Handle)) yes (λ κs x w. refl), (Goes-dropped 𝓛 0 (plain (λ _. heap.the_row)) yes (λ κs x w. refl), tt))
    f.Key.name code.function (code.unfolded 𝓤 𝓛.H 𝓜 𝓡 wired) (λ z are.
    walk 𝓛 𝓜.mem 𝓡.returns 𝓣 called z.0.3.1.0 z.0.4.0 z.0.4.1.0 z.0.3.0.at z.0.3.0.live z.0.3.0.held)
