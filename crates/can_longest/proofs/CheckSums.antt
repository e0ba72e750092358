-- A CRC sequence is the sum of what its levels add.
use Rattle.std.proofs.Common.{◌≡◌, ℕ, suc, List, ◌++◌, length, sym, ◌∙◌, ap, arith, length-append}
use Rattle.std.proofs.lemmas.List.{length-replicate}
use Rattle.can_frame.specs.declared.level.Level.{Level}
use Rattle.can_frame.specs.declared.level.Level.TheVariants.{Dominant}
use Rattle.can_wire.specs.Crc.{xor, reduced, crc_of}
use Rattle.can_wire.proofs.DivisionLemmas.{none, length-crc_of, reduced-xor}
use Rattle.can_wire.proofs.Register.{crc_of-behind_none, crc_of-none}
use Rattle.can_wire.proofs.XorLemmas.{length-xor, xor-append, xor_comm, xor_zeros}
use Rattle.can_longest.specs.ToCome.{next_check}

crc_of-xor : (a b : List Level) → length a ≡ length b → crc_of (xor a b) ≡ xor (crc_of a) (crc_of b)
unfolding crc_of
crc_of-xor a b same =
    let size : length (xor a b) ≡ length a = length-xor a b (omega arith) in
    ap (λ n. reduced n (xor a b ++ none 15)) size
    ∙ ap (reduced (length a)) (sym (xor-append a b (none 15) (none 15) same))
    ∙ reduced-xor (length a) (a ++ none 15) (b ++ none 15)
    ∙ ap (λ n. xor (reduced (length a) (a ++ none 15)) (reduced n (b ++ none 15))) same

-- that of two lists, one after the other
pub crc_of-parts : (a d : List Level) → crc_of (a ++ d) ≡ xor (crc_of (a ++ none (length d))) (crc_of d)
crc_of-parts a d =
    let n = length d in
    let front = none (length a) in
    let fronts : length a ≡ length front = sym (length-replicate (length a) Dominant) in
    let same : length (a ++ none n) ≡ length (front ++ d) = omega (arith, length-append a (none n), length-append front d, length-replicate n Dominant, fronts) in
    let sum : xor (a ++ none n) (front ++ d) ≡ a ++ d =
    xor-append a front (none n) d fronts ∙ ap (λ t. t ++ xor (none n) d) (xor_zeros a (length a) (omega arith)) ∙ ap (λ t. a ++ t) (xor_comm (none n) d ∙ xor_zeros d n (omega arith)) in
    ap crc_of (sym sum) ∙ crc_of-xor (a ++ none n) (front ++ d) same ∙ ap (xor (crc_of (a ++ none n))) (crc_of-behind_none (length a) d)

pub next_check-dominant : (k : ℕ) (check : List Level) → length check ≡ 15 → next_check k check Dominant ≡ check
next_check-dominant k check size = ap (xor check) (crc_of-none (suc k)) ∙ xor_zeros check 15 (omega arith)

-- the sum of a CRC sequence and another has the same length
pub length-added : (check b : List Level) → length check ≡ 15 → length (xor check (crc_of b)) ≡ 15
length-added check b size = length-xor check (crc_of b) (omega (arith, length-crc_of b)) ∙ size
