-- The machine value of a handle, and what it owns.
use mathlib.Core.Path.{◌≡◌, refl, subst}
use mathlib.Core.Bool.{Bool}
use mathlib.Core.List.{List, [], ◌∷◌, ◌++◌}
use seplogic.Ra.Ura.{Ura}
use mir.Val.{Val, vbool, vstruct, vcons, vnil, of_list}
use types.Logic.{Logic}
use types.Kit.{Item, Goal, Seq, Step, step, ‵, ◌$◌, drop, fsplit, fjoin, fpick, fpack, feq_i, feq_l}
use denote.RattleType.{RattleType, Valss}
use denote.Builtin.{RawPtr, bool}
use denote.RawPtr.{Ptr, ptr_val}
use denote.Steps.{nothing}
use denote.Struct.Struct.{within}
use denote.Struct.Owning.{shape}
use Rattle.can_c.specs.contracts.handle.Handle as handle
use Rattle.can_c.specs.contracts.controller.Controller as port
use Rattle.std.specs.Prelude.{Option}
use Rattle.can_c.specs.Owned.{handle_owns}

abbrev pub Handle : RattleType
Handle = handle.the_row

abbrev pub word : Ptr → Bool → Val
word p t = vstruct (vcons (ptr_val p) (vcons (vbool t) vnil))

abbrev pub held : Ptr → Bool → Option port.the_row.Denot → Handle.Denot
held p t x = record { at = p; live = t; held = x }

module _ {M : Type 1} {𝓤 : Ura M} {𝓛 : Logic 𝓤} {K : Type 0} {Γ : List (Item 𝓤)} {G : Goal 𝓤 𝓛.H} (p : Ptr) (t : Bool) (x : Option port.the_row.Denot) where
  pub handle_in : K → Step K 𝓛 (‵ (Handle.own_val (held p t x) (word p t ∷ [])) ∷ Γ) G (‵ (handle_owns t p x) ∷ Γ) G
  handle_in k = step (λ s.
      nothing k $ feq_i k (List Val) (vbool t ∷ []) (vbool t ∷ []) refl $ fjoin k $ feq_i k (List Val) (ptr_val p ∷ []) (ptr_val p ∷ []) refl $ fjoin k $
      feq_i k (List Val) (word p t ∷ []) (word p t ∷ []) refl $ fjoin k $
      fpack k (Valss (RawPtr ∷ bool ∷ [])) (within (shape handle.the_type) (p, (t, tt)) (word p t ∷ [])) (ptr_val p ∷ [], (vbool t ∷ [], tt)) $ fjoin k $ s)

  pub handle_out : K → (vs : List Val) → (vs ≡ word p t ∷ [] → Seq K 𝓛 (‵ (handle_owns t p x) ∷ Γ) G) → Seq K 𝓛 (‵ (Handle.own_val (held p t x) vs) ∷ Γ) G
  handle_out k vs s =
      fsplit k $ fpick k (λ vss. fsplit k $ feq_l k (λ ev. fsplit k $ feq_l k (λ ep. fsplit k $ feq_l k (λ eb. drop k $
      s (subst (λ (ws : List Val). vs ≡ vstruct (of_list (ptr_val p ∷ (ws ++ []))) ∷ []) eb (subst (λ (ps : List Val). vs ≡ vstruct (of_list (ps ++ (vss.1.0 ++ []))) ∷ []) ep ev))))))
