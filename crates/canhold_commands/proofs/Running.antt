-- Replies to lines, one after another.
use Rattle.std.proofs.Common.{◌≡◌, ℕ, ◌+◌, ◌-◌, ◌^◌, ◌<◌, true, List, [], ◌∷◌, ◌++◌, length, Option, None, refl, ap, sym, subst, ◌∙◌, append_assoc, append-nil, arith}
use Rattle.std.proofs.lemmas.List.{length-append}
use Rattle.can_node.specs.Ports.{PortState}
use Rattle.can_stream.specs.LineReader.{ReadsLine}
use Rattle.can_stream.specs.Outbox.{PassesOn}
use Rattle.can_stream.specs.declared.lines.LineReader.{LineReader}
use Rattle.canhold_commands.specs.Adapters.{AreAnswered, IsAnswered}
use Rattle.canhold_commands.specs.Plays.{IsConversation, greeting}

-- one more line has its reply
pub AreAnswered-push : (before : Option PortState) (lines : List (List ℕ)) (answers : List ℕ) (between : Option PortState) (line answer : List ℕ) (after : Option PortState)
    → AreAnswered before lines answers between → IsAnswered line between answer after → AreAnswered before (lines ++ line ∷ []) (answers ++ answer) after
AreAnswered-push before [] answers between line answer after run step =
    (answer, ([], (after, (subst (λ p. IsAnswered line p answer after) run.1 step, (ap (λ t. t ++ answer) run.0 ∙ sym (append-nil answer), (refl, refl))))))
AreAnswered-push before (first ∷ lines) answers between line answer after run step =
    let rest = run.1.0 in
    let mid = run.1.1.0 in
    let facts = run.1.1.1 in
    (run.0, (rest ++ answer, (mid, (facts.0, (ap (λ t. t ++ answer) facts.1.0 ∙ append_assoc run.0 rest answer, AreAnswered-push mid lines rest between line answer after facts.1.1 step)))))

-- no line has its reply yet
pub IsConversation-none : IsConversation None [] greeting
IsConversation-none = record { answers = []; run = (refl, refl); text = sym (append-nil greeting) }

pub IsConversation-push : (between : Option PortState) (lines : List (List ℕ)) (output line answer : List ℕ) (after : Option PortState)
    → IsConversation between lines output → IsAnswered line between answer after → IsConversation after (lines ++ line ∷ []) (output ++ answer)
IsConversation-push between lines output line answer after so_far step = record {
  answers = so_far.answers ++ answer;
  run = AreAnswered-push None lines so_far.answers between line answer after so_far.run step;
  text = ap (λ t. t ++ answer) so_far.text ∙ append_assoc greeting so_far.answers answer;
}

-- if nothing waits to be written, nothing does after a flush
pub none_waits : (held holds : Option (List ℕ)) (waiting : List ℕ) → PassesOn held holds [] waiting [] → waiting ≡ []
none_waits held holds waiting passes = from_nil passes.taken waiting (sym passes.same)
  where
    from_nil : (xs ys : List ℕ) → xs ++ ys ≡ [] → ys ≡ []
    from_nil [] ys none = none
    from_nil (x ∷ xs) ys none = absurd (let no : x ∷ (xs ++ ys) ≡ [] = none in cc)

-- a line that was read leaves less to read, of at most 2^64 bytes
pub falls-read : (before after : Option (List ℕ)) (kept : ℕ) (old new : LineReader kept) → ReadsLine true before after kept old new
    → new.inbox.taken < 2 ^ 64 → (2 ^ 64 - new.inbox.taken) + length new.inbox.unread < (2 ^ 64 - old.inbox.taken) + length old.inbox.unread
falls-read before after kept old new reads fits =
    omega (arith, reads.taken, fits, length-append old.inbox.unread reads.input, ap length reads.splits.split, length-append reads.line (10 ∷ new.inbox.unread))
