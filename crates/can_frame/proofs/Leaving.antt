-- The place at which bytes leave the spellings of a part that is made of smaller ones.
use Rattle.std.proofs.Common.{◌≡◌, ◌≢◌, ℕ, ◌+◌, ◌-◌, ◌<◌, ◌≤◌, List, [], ◌++◌, length, get_or, take, drop, refl, sym, subst, ◌∙◌, ap, arith, append_assoc, length-append}
use Rattle.std.proofs.Math.Seq.{take-add, take-append-add}
use Rattle.std.proofs.lemmas.List.{append-nil, take-append-le, drop-append-le, drop-take, take-take, get_or-drop, get_or_append_left, length-drop, length-take-le, drop-drop}
use Rattle.can_frame.specs.TextParts.{Leaves, LeavesPart}
use Rattle.can_frame.specs.declared.text.TextFaultKind.{TextFaultKind}
use Rattle.can_frame.specs.declared.text.TextFault.{TextFault}

-- if fewer bytes agree
pub agrees_less : (m n : ℕ) (xs ys : List ℕ) → m ≤ n → take n xs ≡ take n ys → take m xs ≡ take m ys
agrees_less m n xs ys h e = sym (take-take m n xs h) ∙ ap (take m) e ∙ take-take m n ys h

-- what agrees after the first k bytes
pub agrees_behind : (k n : ℕ) (xs ys : List ℕ) → take (k + n) xs ≡ take (k + n) ys → take n (drop k xs) ≡ take n (drop k ys)
agrees_behind k n xs ys e = sym (drop-take k n xs) ∙ ap (drop k) e ∙ drop-take k n ys

-- the spelling that the bytes leave is longer than what they have of it
pub Leaves-some_lt : (Part : List ℕ → Type 0) (bytes : List ℕ) (n : ℕ) (l : Leaves Part bytes n) → n < length l.some.0
Leaves-some_lt Part bytes n l =
    let w = l.some.0 in
    (l.each w [] l.some.1 (ap (take n) (append-nil w) ∙ l.some.2)).0

module _ (Whole Part : List ℕ → Type 0) (bytes : List ℕ) (k : ℕ) (fits : k ≤ length bytes)
    (fill : (v : List ℕ) → Part v → (z : List ℕ) × Whole (take k bytes ++ (v ++ z)))
    (split : (w rest : List ℕ) → Whole w → take k (w ++ rest) ≡ take k bytes
    → (v : List ℕ) × (z : List ℕ) × Part v × (drop k w ≡ v ++ z) × (k ≤ length w))
    (n : ℕ) (part : Leaves Part (drop k bytes) n) where
  some_behind : (w : List ℕ) × Whole w × (take (k + n) w ≡ take (k + n) bytes)
  some_behind =
      let v = part.some.0 in
      let rest = fill v part.some.1 in
      let front = take k bytes in
      let size : length front ≡ k = length-take-le k bytes fits in
      let short : n ≤ length v = omega (arith, Leaves-some_lt Part (drop k bytes) n part) in
      let e : take (k + n) (front ++ (v ++ rest.0)) ≡ take (k + n) bytes =
      ap (λ m. take (m + n) (front ++ (v ++ rest.0))) (sym size) ∙ take-append-add front (v ++ rest.0) n
      ∙ ap (λ t. front ++ t) (take-append-le n v rest.0 short ∙ part.some.2) ∙ sym (take-add k n bytes)
      in (front ++ (v ++ rest.0), rest.1, e)

  each_behind : (w rest : List ℕ) → Whole w → take (k + n) (w ++ rest) ≡ take (k + n) bytes
      → (k + n < length w) × (k + n < length bytes → get_or w (k + n) 0 ≢ get_or bytes (k + n) 0)
  each_behind w rest h e =
      let s = split w rest h (agrees_less k (k + n) (w ++ rest) bytes (omega arith) e) in
      let v = s.0 in
      let z = s.1 in
      let long : k ≤ length w = s.4 in
      let shape : drop k w ≡ v ++ z = s.3 in
      let tail : drop k (w ++ rest) ≡ v ++ (z ++ rest) =
      drop-append-le k w rest long ∙ ap (λ t. t ++ rest) shape ∙ append_assoc v z rest in
      let here = part.each v (z ++ rest) s.2 (ap (take n) (sym tail) ∙ agrees_behind k n (w ++ rest) bytes e) in
      let within : n < length v = here.0 in
      let same : get_or w (k + n) 0 ≡ get_or v n 0 =
      sym (get_or-drop k w n 0) ∙ ap (λ t. get_or t n 0) shape ∙ get_or_append_left v z 0 n within in (
        omega (arith, length-drop k w, ap length shape, length-append v z),
        λ more q. here.1 (omega (arith, length-drop k bytes)) (sym same ∙ q ∙ sym (get_or-drop k bytes n 0)),
      )

  -- if the bytes after the first k leave a part that begins there, all of them leave the whole
  pub Leaves-behind : Leaves Whole bytes (k + n)
  Leaves-behind = record {
    within = omega (arith, part.within, length-drop k bytes);
    some = some_behind;
    each = each_behind;
  }

-- this for a part of the text that begins k bytes after another
pub LeavesPart-behind : (kind : TextFaultKind) (Whole Part : List ℕ → Type 0) (text : List ℕ) (start k : ℕ)
    → start + k ≤ length text
    → ((v : List ℕ) → Part v → (z : List ℕ) × Whole (take k (drop start text) ++ (v ++ z)))
    → ((w rest : List ℕ) → Whole w → take k (w ++ rest) ≡ take k (drop start text)
    → (v : List ℕ) × (z : List ℕ) × Part v × (drop k w ≡ v ++ z) × (k ≤ length w))
    → (fault : TextFault) → LeavesPart kind Part text (start + k) fault → LeavesPart kind Whole text start fault
LeavesPart-behind kind Whole Part text start k fits fill split fault l =
    let n = fault.place - (start + k) in
    let begun : start + k ≤ fault.place = l.begun in
    let there : Leaves Part (drop k (drop start text)) n = subst (λ bytes. Leaves Part bytes n)
    (sym (drop-drop k start text)) l.leaves in
    let place : k + n ≡ fault.place - start = omega arith in
    let room : k ≤ length (drop start text) = omega (arith, length-drop start text) in
    record {
      kind = l.kind;
      begun = omega arith;
      leaves = subst (Leaves Whole (drop start text)) place
          (Leaves-behind Whole Part (drop start text) k room fill split n there);
    }

-- if no spelling of a part begins with the first byte
pub LeavesPart-first : (kind : TextFaultKind) (Spells : List ℕ → Type 0) (text : List ℕ) (start : ℕ)
    → start ≤ length text → (w : List ℕ) → Spells w
    → ((v : List ℕ) → Spells v → (0 < length v) × (start < length text → get_or v 0 0 ≢ get_or text start 0))
    → LeavesPart kind Spells text start (record { kind = kind; place = start })
LeavesPart-first kind Spells text start fits w spelt each =
    let none : 0 ≡ start - start = omega arith in
    let first : get_or (drop start text) 0 0 ≡ get_or text start 0 = get_or-drop start text 0 0
    ∙ ap (λ i. get_or text i 0) (omega arith) in
    let here : Leaves Spells (drop start text) 0 = record {
      within = omega arith;
      some = (w, spelt, refl);
      each = λ v rest s e. ((each v s).0, λ more q. (each v s).1 (omega (arith, length-drop start text)) (q ∙ first));
    } in record {
      kind = refl;
      begun = omega arith;
      leaves = subst (Leaves Spells (drop start text)) none here;
    }
