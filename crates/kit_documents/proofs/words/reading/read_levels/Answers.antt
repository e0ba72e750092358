use Rattle.std.proofs.Common.{◌≡◌, Bool, true, false, not, Bor, List, [], ◌∷◌, ◌++◌, ℕ, length, map, sym, subst, arith, rules}
use Rattle.std.proofs.lemmas.List.{map-append}
use Rattle.std.proofs.lemmas.Iterator.Splits.{YieldsList-from_str_split}
use Rattle.std.proofs.lemmas.Iterator.Consumers.{YieldsList-turn, YieldsList-end}
use Rattle.kit_documents.specs.LevelTexts.{pieces_of}
use Rattle.kit_documents.proofs.ReadTexts.{pieces-other, some-before, some-here, some-none, text-none, text-said, AreSome}
use Rattle.kit_documents.proofs.words.reading.read_levels.Goals as goal

pub loop-piece-init : goal.loop-piece-init
loop-piece-init c = some-none c.args.most c.args.levels.now.items c.requires

pub returns-then-not-branch-clause-none : goal.returns-then-not-branch-clause-none
returns-then-not-branch-clause-none c = λ no read says.
    let t = YieldsList-turn (YieldsList-from_str_split 32 c.args.text.now (omega arith) (cc) (cc) (cc)) c.loop-piece.yielded _ c.loop-piece.yielded_by _ _ c.in-Some.piece c.in-Some.is c.next.ensures.steps in
    let said : c.in_ok-read_piece.field-0 ≡ false = search rules in
    pieces-other (pieces_of c.args.text.now) (length c.loop-piece.yielded) c.in-Some.piece.now t.0 t.1 (c.in_ok-read_piece.ensures.none said) read says.pieces

pub loop-piece-preserved : goal.loop-piece-preserved
loop-piece-preserved c =
    let now = λ (piece : Bor (List ℕ)). piece.now in
    let said : c.in_ok-read_piece.field-0 ≡ true = search rules in
    let are = subst (λ (some : Bool). AreSome (map now c.loop-piece.yielded) c.args.most c.args.levels.now.items c.loop-piece.levels.items some) c.if-some.false c.loop-piece.invariant in
    subst (λ (pieces : List (List ℕ)). AreSome pieces c.args.most c.args.levels.now.items c.read_piece.new.levels.items (not c.is_empty.result))
    (sym (map-append now c.loop-piece.yielded (c.in-Some.piece ∷ [])))
    (some-here (map now c.loop-piece.yielded) c.in-Some.piece.now c.args.most c.args.levels.now.items c.loop-piece.levels.items c.read_piece.new.levels.items c.is_empty.result c.is_empty.ensures are (c.in_ok-read_piece.ensures.said said))

pub returns-clause-said : goal.returns-clause-said
returns-clause-said c = λ more.
    let e = YieldsList-end (YieldsList-from_str_split 32 c.args.text.now (omega arith) (cc) (cc) (cc)) c.loop-piece.yielded _ c.loop-piece.yielded_by _ _ c.in-None.is c.next.ensures.steps in
    text-said c.args.text.now c.args.most c.args.levels.now.items c.loop-piece.levels.items
    (subst (λ (some : Bool). AreSome (pieces_of c.args.text.now) c.args.most c.args.levels.now.items c.loop-piece.levels.items some) more
    (subst (λ (pieces : List (List ℕ)). AreSome pieces c.args.most c.args.levels.now.items c.loop-piece.levels.items c.loop-piece.some) e.0 c.loop-piece.invariant))

pub returns-clause-none : goal.returns-clause-none
returns-clause-none c = λ none.
    let e = YieldsList-end (YieldsList-from_str_split 32 c.args.text.now (omega arith) (cc) (cc) (cc)) c.loop-piece.yielded _ c.loop-piece.yielded_by _ _ c.in-None.is c.next.ensures.steps in
    text-none c.args.text.now c.args.most c.args.levels.now.items c.loop-piece.levels.items
    (subst (λ (some : Bool). AreSome (pieces_of c.args.text.now) c.args.most c.args.levels.now.items c.loop-piece.levels.items some) none
    (subst (λ (pieces : List (List ℕ)). AreSome pieces c.args.most c.args.levels.now.items c.loop-piece.levels.items c.loop-piece.some) e.0 c.loop-piece.invariant))

pub loop-piece-preserved-then-some : goal.loop-piece-preserved-then-some
loop-piece-preserved-then-some c =
    let now = λ (piece : Bor (List ℕ)). piece.now in
    let said : c.in_ok-read_piece.field-0 ≡ true = search rules in
    let are = subst (λ (some : Bool). AreSome (map now c.loop-piece.yielded) c.args.most c.args.levels.now.items c.loop-piece.levels.items some) c.if-some.true c.loop-piece.invariant in
    subst (λ (some : Bool). AreSome (map now (c.loop-piece.yielded ++ c.in-Some.piece ∷ [])) c.args.most c.args.levels.now.items c.read_piece.new.levels.items some) (sym c.if-some.true)
    (subst (λ (pieces : List (List ℕ)). AreSome pieces c.args.most c.args.levels.now.items c.read_piece.new.levels.items true)
    (sym (map-append now c.loop-piece.yielded (c.in-Some.piece ∷ [])))
    (some-before (map now c.loop-piece.yielded) c.in-Some.piece.now c.args.most c.args.levels.now.items c.loop-piece.levels.items c.read_piece.new.levels.items are (c.in_ok-read_piece.ensures.said said)))
