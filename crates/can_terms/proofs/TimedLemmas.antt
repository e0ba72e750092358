-- Things with their bit times.
use Rattle.std.proofs.Common.{◌≡◌, ap, ◌∙◌}
use Rattle.can_terms.specs.declared.timed.Timed.{Timed}

-- two of the same time and the same contents are equal
pub timed-is : {A : Type 0} (x y : Timed A) → x.time ≡ y.time → x.told ≡ y.told → x ≡ y
timed-is {A} x y time told =
    ap (λ k. let r : Timed A = record { time = k; told = x.told } in r) time ∙ ap (λ v. let r : Timed A = record { time = y.time; told = v } in r) told
