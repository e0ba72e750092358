-- The drop of a controller, as a call takes it that is generic over the type.
use Rattle.std.proofs.Common.{[], ◌∷◌, refl}
use seplogic.Ra.Ura.{Ura}
use mir.Syntax.{Callee, method, no_args}
use base.Logic.{sep, emp, emp∗, comm∗, via}
use base.Fml.{ftrue, fsep}
use contract.BorrowLft.{◌⊑◌}
use contract.Monad.{fact}
use contract.Running.{Running}
use denote.Param.Glue as glue
use denote.Signature.{Signature}
use denote.Steps.{nothing}
use denote.Triple.Carry.{beside, spared}
use denote.Triple.Spec.{Spec, Meets, triple_of}
use denote.Triple.Table.{run_framed, widened}
use prog.Model.{Model}
use prog.Wired.{Wired}
use types.Kit.{raw, ◌$◌, ◌∵◌, !, qed, keep, join, show, done}
use types.Logic.{Logic, sem}
use Rattle.can_c.specs.contracts.can_c++controller++Controller+Destruct.drop as dropped
use Rattle.can_c.proofs.can_c++controller++Controller+Destruct.drop.Symbol as symbol
use Rattle.can_c.proofs.can_c++controller++Controller+Destruct.drop.Met.{met}
use Rattle.can_c.proofs.PortBox.{Port, port_drop}

pub port_drops : {M : Type 1} (𝓤 : Ura M) (𝓛 : Logic 𝓤) (𝓜 : Model 𝓤 𝓛.H) (𝓡 : Running 𝓤 𝓛.H 𝓜) → Wired 𝓡.env symbol.code → glue.Met 𝓛 𝓜 𝓡 𝓡.env Port port_drop
port_drops 𝓤 𝓛 𝓜 𝓡 wired =
    let called : Callee = method port_drop 0 no_args in
    let S : Signature = dropped.signature in
    let c : Spec 𝓤 S = dropped.spec 𝓛 𝓜.mem 𝓡.returns in
    let framed = run_framed 𝓤 𝓛.H 𝓜 𝓡 (𝓡.env called) in
    let meets : Meets 𝓛 S (𝓡.run (𝓡.env called)) c = widened 𝓤 𝓛.H (triple_of 𝓛 S c) 𝓜 𝓡 𝓡.env (𝓡.env symbol.name) (𝓡.env called) (symbol.as_method 𝓡.env wired called refl) (met 𝓤 𝓛 𝓜 𝓡 wired) in
    let within : Spec 𝓤 (glue.signature Port) = λ κs a. record { ghost = Unit {0}; requires = λ _. sep 𝓤 (fact 𝓤 (κs.0 ⊑ Port.lives)) (emp 𝓤); ensures = λ _ r. (c tt a).ensures tt r } in
    beside 𝓛 (glue.signature Port) (𝓡.run (𝓡.env called)) framed within (glue.spent 𝓛 Port) (λ κs a x. x) (λ κs a x. emp 𝓤)
    (λ κs a x. via 𝓤 (sep 𝓤 (emp 𝓤) ((within κs a).requires x)) (emp∗ 𝓤 ((within κs a).requires x)) (comm∗ 𝓤 (emp 𝓤) ((within κs a).requires x)))
    (λ κs a x r. qed 𝓛 (raw ((within κs a).ensures x r) ∷ raw (emp 𝓤) ∷ []) ∵ keep ! [] $ show ! (λ (_ : Unit {0} × Unit {0}). sep 𝓤 (sem 𝓛 (fsep ftrue ftrue)) (emp 𝓤)) (tt, tt) $
    nothing ! $ nothing ! $ nothing ! $ join ! $ done !)
    (spared 𝓛 S (𝓡.run (𝓡.env called)) framed 1 (Port.lives, tt) c meets)
