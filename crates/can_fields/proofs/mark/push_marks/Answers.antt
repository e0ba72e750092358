use Rattle.std.proofs.Common.{◌≡◌, ◌≢◌, ◌+◌, ◌-◌, ◌≤◌, [], ◌∷◌, ◌++◌, suc, false, length, take, drop, get_or, sym, ◌∙◌, ap, subst, arith, is_err}
use Rattle.std.proofs.lemmas.Bool.{both_ways, false_from_ne_true}
use Rattle.std.proofs.lemmas.List.{drop_more, length-drop}
use Rattle.can_frame.specs.declared.level.Level.TheVariants.{Dominant}
use Rattle.can_code.specs.declared.front.Place.TheVariants.{StuffBit, Bit, CrcDelimiter}
use Rattle.can_code.specs.Front.{first_front, heard_level, is_stuff_error, next_place}
use Rattle.can_code.proofs.HeardLevels.{at_ok}
use Rattle.can_fields.specs.Fields.{field_at}
use Rattle.can_fields.specs.Marks.{bit_of, stuff_bit_of, heard_to, marks_behind, tail_marks}
use Rattle.can_fields.proofs.MarkLemmas.{heard_to-going, heard_to-longer}
use Rattle.can_fields.proofs.MarkSteps.{marked_bit, marked_ended, marked_stuff}
use Rattle.can_fields.proofs.mark.push_marks.Goals as goal
use Rattle.can_fields.proofs.mark.push_marks.Goals.{in-StuffBit, in-Bit}

pub returns-in-CrcDelimiter : goal.returns-in-CrcDelimiter
returns-in-CrcDelimiter c =
    let f = c.loop-index.front in
    let i = c.loop-index.index in
    let rest = c.args.rest.now in
    let u = c.args.bits.now in
    let marks = c.loop-index.marks.items in
    let x = get_or rest i Dominant in
    let first = drop_more rest i Dominant c.loop-index-test.true in
    let told = ap (λ l. marks ++ marks_behind u f l) (sym first) ∙ c.loop-index.invariant.told in
    let count : length rest - i ≡ suc (length (drop (i + 1) rest)) = omega (arith, length-drop (i + 1) rest, c.loop-index-test.true) in
    c.push_tail.ensures ∙ ap (λ n. marks ++ take n tail_marks) count
    ∙ marked_ended marks _ u f x (drop (i + 1) rest) told (sym c.next_place.ensures.place ∙ c.in-CrcDelimiter.is)
    ∙ ap (λ v. c.args.marks.now.items ++ marks_behind v first_front rest) c.requires.bits

pub field_at-requires : goal.field_at-requires
field_at-requires c =
    let longer = heard_to-longer (drop c.loop-index.index c.args.rest.now) c.loop-index.front in
    let known : length c.loop-index.front.unstuffed ≤ length c.args.bits.now = subst (λ u. length c.loop-index.front.unstuffed ≤ length u) c.loop-index.invariant.heard longer in
    omega (arith, known, c.len.ensures)

pub field_at-requires-in-Bit : goal.field_at-requires-in-Bit
field_at-requires-in-Bit c =
    let longer = heard_to-longer (drop c.loop-index.index c.args.rest.now) c.loop-index.front in
    let known : length c.loop-index.front.unstuffed ≤ length c.args.bits.now = subst (λ u. length c.loop-index.front.unstuffed ≤ length u) c.loop-index.invariant.heard longer in
    omega (arith, known, c.len-in-Bit.ensures)

pub loop-index-preserved : goal.loop-index-preserved
loop-index-preserved c =
    let f = c.loop-index.front in
    let i = c.loop-index.index in
    let rest = c.args.rest.now in
    let u = c.args.bits.now in
    let marks = c.loop-index.marks.items in
    let x = get_or rest i Dominant in
    let xs = drop (i + 1) rest in
    let g = c.hear.new.self in
    let first = drop_more rest i Dominant c.loop-index-test.true in
    let told = ap (λ l. marks ++ marks_behind u f l) (sym first) ∙ c.loop-index.invariant.told in
    let heard_well = sym c.is_err.ensures.value ∙ c.if-is_err.false in
    let fine : is_stuff_error f x ≡ false = false_from_ne_true (is_stuff_error f x) (λ error. both_ways (is_err c.hear.result) heard_well (c.hear.ensures.error.1 error)) in
    let next : g ≡ heard_level f x = at_ok c.hear.result heard_well c.hear.ensures.ok in
    let heard : (next_place f ≢ CrcDelimiter) → (heard_to g xs).unstuffed ≡ u = λ going.
    ap (λ h. (heard_to h xs).unstuffed) next ∙ ap (λ h. h.unstuffed) (sym (ap (heard_to f) first ∙ heard_to-going f x xs going fine)) ∙ c.loop-index.invariant.heard in
    let told_next = ap (λ h. marks_behind u h xs) next in
    elim c.match-next_place.branch [
      | in-StuffBit w ↦
          let at : next_place f ≡ StuffBit = sym c.next_place.ensures.place ∙ w.in-StuffBit.is in
          let going : next_place f ≢ CrcDelimiter = λ e. let both : StuffBit ≡ CrcDelimiter = sym at ∙ e in cc in
          let y = stuff_bit_of (field_at u (length f.unstuffed - 1)) in
          let field_is = w.field_at.ensures ∙ ap (λ n. field_at u (n - 1)) w.len.ensures in
          let marks_are : c.match-next_place.marks.items ≡ marks ++ y ∷ [] = ap (λ m. m.items) w.marks-is ∙ w.push.ensures.items ∙ ap (λ field. marks ++ stuff_bit_of field ∷ []) field_is in
          let size : length c.match-next_place.marks.items ≡ length marks + 1 = ap (λ m. length m.items) w.marks-is ∙ w.push.ensures.len in
          record {
            room = omega (arith, size, c.loop-index.invariant.room);
            heard = heard going;
            told = ap (λ m. m ++ marks_behind u g xs) marks_are ∙ ap (λ l. (marks ++ y ∷ []) ++ l) told_next ∙ marked_stuff marks _ u f x xs told at fine;
          }
      | in-Bit w ↦
          let at : next_place f ≡ Bit = sym c.next_place.ensures.place ∙ w.in-Bit.is in
          let going : next_place f ≢ CrcDelimiter = λ e. let both : Bit ≡ CrcDelimiter = sym at ∙ e in cc in
          let y = bit_of (field_at u (length f.unstuffed)) in
          let field_is = w.field_at-in-Bit.ensures ∙ ap (λ n. field_at u n) w.len-in-Bit.ensures in
          let marks_are : c.match-next_place.marks.items ≡ marks ++ y ∷ [] = ap (λ m. m.items) w.marks-is ∙ w.push-in-Bit.ensures.items ∙ ap (λ m. marks ++ m ∷ []) (w.bit.ensures ∙ ap bit_of field_is) in
          let size : length c.match-next_place.marks.items ≡ length marks + 1 = ap (λ m. length m.items) w.marks-is ∙ w.push-in-Bit.ensures.len in
          record {
            room = omega (arith, size, c.loop-index.invariant.room);
            heard = heard going;
            told = ap (λ m. m ++ marks_behind u g xs) marks_are ∙ ap (λ l. (marks ++ y ∷ []) ++ l) told_next ∙ marked_bit marks _ u f x xs told at;
          }
    ]
