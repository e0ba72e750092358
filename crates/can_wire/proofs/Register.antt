-- The register of a CRC sequence: the remainder of long division of the levels so far.
use Rattle.std.proofs.Common.{◌≡◌, ℕ, suc, zero, ◌+◌, ◌≤◌, List, [], ◌∷◌, ◌++◌, length, refl, sym, ◌∙◌, ap, arith, append_assoc, length-append}
use Rattle.std.proofs.lemmas.List.{length-replicate}
use Rattle.can_frame.specs.declared.level.Level.{Level}
use Rattle.can_frame.specs.declared.level.Level.TheVariants.{Dominant}
use Rattle.can_wire.specs.Crc.{xor, scaled, reduced, crc_of}
use Rattle.can_wire.proofs.XorLemmas.{xor_comm, xor_assoc, xor_zeros, xor_zeros_longer, xor-append, length-xor}
use Rattle.can_wire.proofs.DivisionLemmas.{none, reduced-xor, reduced_none_front, xor-behind}

-- the register after the levels b, from the register r: what long division leaves of b with r added at its front
abbrev pub register : List Level → List Level → List Level
register r b = reduced (length b) (xor r (b ++ none 15))

pub register-nil : (r : List Level) → length r ≡ 15 → register r [] ≡ r
register-nil r h = xor_zeros r 15 (omega arith)

-- the register that starts empty ends as the CRC sequence
pub register-crc_of : (b : List Level) → register (none 15) b ≡ crc_of b
unfolding crc_of
register-crc_of b =
    let long : 15 ≤ length (b ++ none 15) = omega (arith, length-append b (none 15)) in
    ap (reduced (length b)) (xor_comm (none 15) (b ++ none 15) ∙ xor_zeros (b ++ none 15) 15 long)

reduced-nil : (n : ℕ) → reduced n [] ≡ []
reduced-nil zero = refl
reduced-nil (suc n) = refl

reduced-add : (m n : ℕ) (l : List Level) → reduced (m + n) l ≡ reduced n (reduced m l)
reduced-add zero n l = ap (λ k. reduced k l) (let e : 0 + n ≡ n = omega arith in e)
reduced-add (suc m) n [] = reduced-nil (suc m + n) ∙ sym (reduced-nil n)
reduced-add (suc m) n (x ∷ l) =
    let e : suc m + n ≡ suc (m + n) = omega arith in
    ap (λ k. reduced k (x ∷ l)) e ∙ reduced-add m n (xor l (scaled x))

-- the register continues after b
pub register-append : (r b c : List Level) → register r (b ++ c) ≡ register (register r b) c
register-append r b c =
    let rest = c ++ none 15 in
    let long : 15 ≤ length rest = omega (arith, length-append c (none 15)) in
    let front = xor r (b ++ none 15) in
    let parts : xor r ((b ++ c) ++ none 15) ≡ xor front (none (length b) ++ rest) =
    ap (xor r) (append_assoc b c (none 15) ∙ sym (xor-behind b rest long)) ∙ sym (xor_assoc r (b ++ none 15) (none (length b) ++ rest)) in
    ap (λ n. reduced n (xor r ((b ++ c) ++ none 15))) (length-append b c) ∙ reduced-add (length b) (length c) (xor r ((b ++ c) ++ none 15))
    ∙ ap (reduced (length c)) (ap (reduced (length b)) parts ∙ reduced-xor (length b) front (none (length b) ++ rest)
    ∙ ap (xor (register r b)) (reduced_none_front (length b) rest long))

-- Levels b go into the top of the register: it is shifted by their number, and the CRC sequence of their sum
-- with its top is added.
pub register-top : (top low b : List Level) → length top ≡ length b → length low + length b ≡ 15 → register (top ++ low) b ≡ xor (low ++ none (length b)) (crc_of (xor top b))
unfolding crc_of
register-top top low b h k =
    let n = length b in
    let sum = xor top b in
    let moved = low ++ none n in
    let size : length sum ≡ n = length-xor top b (omega arith) ∙ h in
    let long : 15 ≤ length moved = omega (arith, length-append low (none n), length-replicate n Dominant) in
    let parts : xor (top ++ low) (b ++ none 15) ≡ sum ++ moved =
    xor-append top b low (none 15) h ∙ ap (λ m. sum ++ xor low (none m)) (sym k) ∙ ap (λ t. sum ++ t) (xor_zeros_longer low n) in
    ap (λ m. reduced m (xor (top ++ low) (b ++ none 15))) (sym size)
    ∙ ap (reduced (length sum)) (parts ∙ sym (xor-behind sum moved long))
    ∙ reduced-xor (length sum) (sum ++ none 15) (none (length sum) ++ moved)
    ∙ ap (xor (crc_of sum)) (reduced_none_front (length sum) moved long) ∙ xor_comm (crc_of sum) moved

-- a CRC sequence continues as a register
pub crc_of-on : (a b : List Level) → crc_of (a ++ b) ≡ register (crc_of a) b
crc_of-on a b = sym (register-crc_of (a ++ b)) ∙ register-append (none 15) a b ∙ ap (λ r. register r b) (register-crc_of a)

-- the CRC sequence of dominant levels
pub crc_of-none : (k : ℕ) → crc_of (none k) ≡ none 15
unfolding crc_of
crc_of-none k = ap (λ n. reduced n (none k ++ none 15)) (length-replicate k Dominant) ∙ reduced_none_front k (none 15) (omega arith)

-- in front they add nothing
pub crc_of-behind_none : (k : ℕ) (b : List Level) → crc_of (none k ++ b) ≡ crc_of b
crc_of-behind_none k b = crc_of-on (none k) b ∙ ap (λ r. register r b) (crc_of-none k) ∙ register-crc_of b
