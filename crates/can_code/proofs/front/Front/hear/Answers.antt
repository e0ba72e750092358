use Rattle.std.proofs.Common.{◌≡◌, ◌≢◌, ◌++◌, ◌∷◌, [], ◌⊎◌, true, false, not, length, ap, ◌∙◌, sym, rules}
use Rattle.std.specs.Option.{is_some}
use Rattle.std.proofs.lemmas.Bool.{eqb-false}
use Rattle.can_wire.specs.Layout.{data_place}
use Rattle.can_code.specs.Front.{FrontParts, next_place}
use Rattle.can_code.proofs.FrontLemmas.{IsFront-room, IsFront-bit, next_place-partial, TellsLength-push, TellsLength-wait}
use Rattle.can_code.proofs.front.Front.hear.Goals as goal

pub push-requires : goal.push-requires
push-requires g c =
    let inside = c.self.inside in
    let front : FrontParts = record { unstuffed = g.B.FrameBits.levels inside.bits; last = inside.run.last; run = inside.run.run } in
    let not_due : front.run ≢ 5 = eqb-false front.run 5 (sym c.is_longest.ensures ∙ c.if-is_longest.false) in
    let partial = next_place-partial front (λ e. c.requires (ap next_place (sym c.self.view_is) ∙ e)) not_due in
    IsFront-room front c.self.invariant.0 not_due partial

pub invariant_of-self-then-ends_dlc : goal.invariant_of-self-then-ends_dlc
invariant_of-self-then-ends_dlc g c =
    let inside = c.self.inside in
    let front : FrontParts = record { unstuffed = g.B.FrameBits.levels inside.bits; last = inside.run.last; run = inside.run.run } in
    let not_due : front.run ≢ 5 = eqb-false front.run 5 (sym c.is_longest.ensures ∙ c.if-is_longest.false) in
    let partial = next_place-partial front (λ e. c.requires (ap next_place (sym c.self.view_is) ∙ e)) not_due in (
      rw (c.push.ensures, c.and-self-inside.ensures) (IsFront-bit front c.self.invariant.0 not_due partial c.args.level),
      c.frame_len-self-inside.ensures,
    )

pub invariant_of-self-else-ends_dlc : goal.invariant_of-self-else-ends_dlc
invariant_of-self-else-ends_dlc g c =
    let inside = c.self.inside in
    let front : FrontParts = record { unstuffed = g.B.FrameBits.levels inside.bits; last = inside.run.last; run = inside.run.run } in
    let not_due : front.run ≢ 5 = eqb-false front.run 5 (sym c.is_longest.ensures ∙ c.if-is_longest.false) in
    let partial = next_place-partial front (λ e. c.requires (ap next_place (sym c.self.view_is) ∙ e)) not_due in
    let waits : is_some inside.length ≡ false = c.is_none.ensures ∙ ap not c.if-is_none.true in
    let size : c.len.result ≡ length (front.unstuffed ++ c.args.level ∷ []) = c.len.ensures ∙ ap length c.push.ensures in
    let no_end : ((length (front.unstuffed ++ c.args.level ∷ []) ≡ data_place false) ⊎ (length (front.unstuffed ++ c.args.level ∷ []) ≡ data_place true)) → ⊥
    = λ e. (let ends : c.ends_dlc.result ≡ true = c.ends_dlc.ensures.1 (rw size e) in cc (c.if-ends_dlc.false)) in (
      rw (c.push.ensures, c.and-self-inside.ensures) (IsFront-bit front c.self.invariant.0 not_due partial c.args.level),
      rw c.push.ensures (TellsLength-wait front.unstuffed c.args.level inside.length waits c.self.invariant.1 no_end),
    )

pub invariant_of-self-else-is_none : goal.invariant_of-self-else-is_none
invariant_of-self-else-is_none g c =
    let inside = c.self.inside in
    let front : FrontParts = record { unstuffed = g.B.FrameBits.levels inside.bits; last = inside.run.last; run = inside.run.run } in
    let not_due : front.run ≢ 5 = eqb-false front.run 5 (sym c.is_longest.ensures ∙ c.if-is_longest.false) in
    let partial = next_place-partial front (λ e. c.requires (ap next_place (sym c.self.view_is) ∙ e)) not_due in (
      rw (c.push.ensures, c.and-self-inside.ensures) (IsFront-bit front c.self.invariant.0 not_due partial c.args.level),
      rw c.push.ensures (TellsLength-push front.unstuffed c.args.level inside.length (c.is_none.ensures ∙ ap not c.if-is_none.false) c.self.invariant.1),
    )

pub returns-then-eq-clause-error : goal.returns-then-eq-clause-error
returns-then-eq-clause-error g c = search rules

pub returns-then-eq-clause-ok : goal.returns-then-eq-clause-ok
returns-then-eq-clause-ok g c = search rules
