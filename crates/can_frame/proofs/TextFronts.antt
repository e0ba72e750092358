-- Reading a frame's text from its front: what the bytes before a place determine of the frames whose text
-- begins with them, and the fault of the bytes if they leave every frame's text.
use Rattle.std.proofs.Common.{◌≡◌, ◌≢◌, ℕ, ◌+◌, ◌-◌, ◌<◌, ◌≤◌, List, [], ◌++◌, length, get_or, take, drop, Result, Ok, Err, IfOk, IfErr, refl, sym, ◌∙◌, ap, subst, arith, append_assoc, length-append}
use Rattle.std.proofs.Math.Seq.{take-add, take-append-add}
use Rattle.std.proofs.lemmas.List.{append-nil, take-append-le, take-append-drop, take_at, drop_at, get_or-drop, get_or-take, get_or_append_left, length-drop, length-take-le, take-take}
use Rattle.can_frame.specs.Parts.{Parts, IsFrame}
use Rattle.can_frame.specs.Text.{frame_text, part_at, BeginsText, BeginsSomeText, IsTextFault}
use Rattle.can_frame.specs.TextParts.{Leaves, LeavesPart, StandsAt}
use Rattle.can_frame.specs.declared.text.TextFaultKind.{TextFaultKind}
use Rattle.can_frame.specs.declared.text.TextFaultKind.TheVariants.{Trailing}
use Rattle.can_frame.specs.declared.text.TextFault.{TextFault}
use Rattle.can_frame.proofs.Leaving.{agrees_less, agrees_behind, Leaves-some_lt}

-- the bytes have this fault, and are no frame's text
pub record Refuses (text : List ℕ) (fault : TextFault) : Type 0 where
  pub is_fault : IsTextFault text fault
  pub none : (f : Parts) → IsFrame f → frame_text f ≡ text → ⊥

-- Q is what is true of the frames whose text begins with the bytes before a place, and `rest` is what
-- follows in such a frame's text
pub record Past (text : List ℕ) (place : ℕ) (Q : Parts → Type 0) (rest : Parts → List ℕ) : Type 0 where
  pub within : place ≤ length text
  pub goes_on : (f : Parts) → IsFrame f → Q f → frame_text f ≡ take place text ++ rest f
  pub only : (f : Parts) → IsFrame f → take place (frame_text f) ≡ take place text → Q f

-- a text that begins with a front has the front's bytes
pub front_same : (n : ℕ) (xs front rest : List ℕ) → n ≤ length front → xs ≡ front ++ rest → take n xs ≡ take n front
front_same n xs front rest h e = ap (take n) e ∙ take-append-le n front rest h

-- ---- the fault

-- Some frame's text begins with the bytes before the place, and each that does has a further byte, which
-- is not theirs and lies in this part.
module _ (text : List ℕ) (place : ℕ) (kind : TextFaultKind) (within : place ≤ length text) (part : kind ≢ Trailing)
    (some : Parts) (is_frame : IsFrame some) (begun : take place (frame_text some) ≡ take place text)
    (each : (f : Parts) → IsFrame f → take place (frame_text f) ≡ take place text
    → (place < length (frame_text f)) × (place < length text → get_or (frame_text f) place 0 ≢ get_or text place 0)
    × (kind ≡ part_at f place)) where
  size : length (take place text) ≡ place
  size = length-take-le place text within

  begins_with : (front : List ℕ) (f : Parts) → place ≤ length front → take place front ≡ take place text → BeginsText front f
      → take place (frame_text f) ≡ take place text
  begins_with front f long same b = front_same place (frame_text f) front b.rest long b.text ∙ same

  no_longer : (m : ℕ) → place < m → m ≤ length text → BeginsSomeText (take m text) → ⊥
  no_longer m more fits (f, b) =
      let length_is : length (take m text) ≡ m = length-take-le m text fits in
      let long : place < length (take m text) = omega arith in
      let same = begins_with (take m text) f (omega arith) (take-take place m text (omega arith)) b in
      let byte : get_or (frame_text f) place 0 ≡ get_or text place 0 =
      ap (λ t. get_or t place 0) b.text ∙ get_or_append_left (take m text) b.rest 0 place long
      ∙ get_or-take m text place 0 more in
      (each f b.frame same).1 (omega arith) byte

  whole : (f : Parts) → IsFrame f → frame_text f ≡ take place text → ⊥
  whole f h e =
      let short = (each f h (ap (take place) e ∙ take-take place place text (omega arith))).0 in
      omega (arith, short, ap length e, size)

  pub stops : Refuses text (record { kind = kind; place = place })
  stops = record {
    is_fault = record {
      place = record {
        within = within;
        begins = (
          some,
          record {
            frame = is_frame;
            rest = drop place (frame_text some);
            text = sym (take-append-drop place (frame_text some)) ∙ ap (λ t. t ++ drop place (frame_text some)) begun;
          },
        );
        longest = no_longer;
      };
      trailing = (λ e. absurd (part e), λ w. absurd (whole w.0 w.1 w.2));
      part = λ f b partial. (each f b.frame
          (begins_with (take place text) f (omega (arith, size)) (take-take place place text (omega arith)) b)).2;
    };
    none = λ f h e.
        let here = each f h (ap (take place) e) in
        here.1 (omega (arith, here.0, ap length e)) (ap (λ t. get_or t place 0) e);
  }

-- the bytes before the place are a frame's text, and no frame's text continues with the next byte
pub trails : (text : List ℕ) (place : ℕ) (f : Parts) → place < length text → IsFrame f → frame_text f ≡ take place text
    → ((g : Parts) → IsFrame g → take (place + 1) (frame_text g) ≡ take (place + 1) text → ⊥)
    → Refuses text (record { kind = Trailing; place = place })
trails text place f more is_frame whole apart =
    record {
      is_fault = record {
        place = record {
          within = omega arith;
          begins = (f, record { frame = is_frame; rest = []; text = whole ∙ sym (append-nil (take place text)) });
          longest = λ m longer fits (g, b).
              let long : place + 1 ≤ length (take m text) = omega (arith, length-take-le m text fits) in
              apart g b.frame (front_same (place + 1) (frame_text g) (take m text) b.rest long b.text
              ∙ take-take (place + 1) m text (omega arith));
        };
        trailing = (λ e. (f, is_frame, whole), λ w. refl);
        part = λ g b partial. absurd (partial (f, is_frame, whole));
      };
      none = λ g h e. apart g h (ap (take (place + 1)) e);
    }

-- ---- reading on

module _ (text : List ℕ) (place : ℕ) (Q : Parts → Type 0) (first next : Parts → List ℕ)
    (past : Past text place Q (λ f. first f ++ next f)) where
  -- a frame whose text begins with the bytes and some more
  pub goes_behind : (n : ℕ) (f : Parts) → IsFrame f → take (place + n) (frame_text f) ≡ take (place + n) text
      → Q f × (take n (first f ++ next f) ≡ take n (drop place text))
  goes_behind n f h e =
      let q = past.only f h (agrees_less place (place + n) (frame_text f) text (omega arith) e) in
      let tail : drop place (frame_text f) ≡ first f ++ next f =
      ap (drop place) (past.goes_on f h q)
      ∙ drop_at (take place text) (first f ++ next f) place (length-take-le place text past.within) in
      (q, ap (take n) (sym tail) ∙ agrees_behind place n (frame_text f) text e)

  -- after a spelling of a part that determines the frame there
  pub Past-step : (v : List ℕ) (end : ℕ) → StandsAt v text place end → (Q' : Parts → Type 0)
      → ((f : Parts) → IsFrame f → Q' f → Q f × (first f ≡ v))
      → ((f : Parts) → IsFrame f → Q f → (x y : List ℕ) → first f ++ x ≡ v ++ y → Q' f) → Past text end Q' next
  Past-step v end s Q' has tells =
      let n = length v in
      let within : place ≤ length text = past.within in
      let until : end ≤ length text = s.within in
      let there : end ≡ place + n = omega
      (arith, ap length s.spelt, length-append v (drop end text), length-drop place text, length-drop end text) in
      let v_is : take n (drop place text) ≡ v = ap (take n) s.spelt ∙ take_at v (drop end text) n refl in
      let front : take (place + n) text ≡ take place text ++ v = take-add place n text ∙ ap (λ t. take place text ++ t) v_is in
      let here : Past text (place + n) Q' next = record {
        within = omega arith;
        goes_on = λ f h q.
            past.goes_on f h (has f h q).0 ∙ ap (λ t. take place text ++ (t ++ next f)) (has f h q).1
            ∙ sym (append_assoc (take place text) v (next f)) ∙ ap (λ t. t ++ next f) (sym front);
        only = λ f h e.
            let b = goes_behind n f h e in
            let all = first f ++ next f in
            tells f h b.0 (next f) (drop n all) (sym (take-append-drop n all) ∙ ap (λ t. t ++ drop n all) (b.1 ∙ v_is));
      } in
      subst (λ p. Past text p Q' next) (sym there) here

  -- if the text leaves a part, it has the fault of that part
  pub Past-stop : (kind : TextFaultKind) → kind ≢ Trailing → (Spells : List ℕ → Type 0)
      → ((f : Parts) → IsFrame f → Q f → Spells (first f))
      → ((w : List ℕ) → Spells w → (f : Parts) × IsFrame f × Q f × (first f ≡ w))
      → ((f : Parts) (n : ℕ) → IsFrame f → Q f → n < length (first f) → kind ≡ part_at f (place + n))
      → (fault : TextFault) → LeavesPart kind Spells text place fault → Refuses text fault
  Past-stop kind part Spells sound complete lies fault l =
      let n = fault.place - place in
      let begun : place ≤ fault.place = l.begun in
      let there : place + n ≡ fault.place = omega arith in
      let within : place ≤ length text = past.within in
      let leaves : Leaves Spells (drop place text) n = l.leaves in
      let f = complete leaves.some.0 leaves.some.1 in
      let long : n ≤ length (first f.0) = omega (arith, Leaves-some_lt Spells (drop place text) n leaves, ap length f.3) in
      let size : length (take place text) ≡ place = length-take-le place text within in
      let same : take (place + n) (frame_text f.0) ≡ take (place + n) text =
      ap (take (place + n)) (past.goes_on f.0 f.1 f.2)
      ∙ ap (λ m. take (m + n) (take place text ++ (first f.0 ++ next f.0))) (sym size)
      ∙ take-append-add (take place text) (first f.0 ++ next f.0) n
      ∙ ap (λ t. take place text ++ t) (take-append-le n (first f.0) (next f.0) long ∙ ap (take n) f.3 ∙ leaves.some.2)
      ∙ sym (take-add place n text) in
      let each : (g : Parts) → IsFrame g → take (place + n) (frame_text g) ≡ take (place + n) text
      → (place + n < length (frame_text g))
      × (place + n < length text → get_or (frame_text g) (place + n) 0 ≢ get_or text (place + n) 0)
      × (kind ≡ part_at g (place + n)) = λ g h e.
      let b = goes_behind n g h e in
      let here = leaves.each (first g) (next g) (sound g h b.0) b.1 in
      let inside : n < length (first g) = here.0 in
      let whole = past.goes_on g h b.0 in
      let byte : get_or (frame_text g) (place + n) 0 ≡ get_or (first g) n 0 =
      ap (λ t. get_or t (place + n) 0) whole ∙ sym (get_or-drop place (take place text ++ (first g ++ next g)) n 0)
      ∙ ap (λ t. get_or t n 0) (drop_at (take place text) (first g ++ next g) place size)
      ∙ get_or_append_left (first g) (next g) 0 n inside in (
        omega (
          arith,
          ap length whole,
          length-append (take place text) (first g ++ next g),
          length-append (first g) (next g),
          size,
        ),
        λ more q. here.1 (omega (arith, length-drop place text)) (sym byte ∙ q ∙ sym (get_or-drop place text n 0)),
        lies g n h b.0 inside,
      ) in
      let last : place + n ≤ length text = omega (arith, leaves.within, length-drop place text) in
      subst (λ k. Refuses text (record { kind = k; place = fault.place })) (sym l.kind)
      (subst (λ p. Refuses text (record { kind = kind; place = p })) there
      (stops text (place + n) kind last part f.0 f.1 same each))

-- a result that refuses the bytes meets the contract
pub refused : (text : List ℕ) (answer : Result Parts TextFault) (given fault : TextFault) → answer ≡ Err given
    → given ≡ fault → Refuses text fault
    → record {
      found : IfOk answer (λ f. IsFrame f × (frame_text f ≡ text));
      only : (f : Parts) → IsFrame f
          → frame_text f ≡ text → answer ≡ Ok f;
      fault : IfErr answer (IsTextFault text);
    }
refused text answer given fault a e r = rw (a, e)
    (record { found = tt; only = λ f h same. absurd (r.none f h same); fault = r.is_fault })
