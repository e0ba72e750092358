use Rattle.std.proofs.Common.{◌%◌, true, false, arith}
use Rattle.std.proofs.Math.Nat.{mod-lt}
use Rattle.std.proofs.lemmas.List.{get_or-replicate}
use Rattle.can_conform.proofs.OutlookLemmas.{foresees-every}
use Rattle.can_conform.proofs.outlook.Outlook.begin.Goals as goal

pub returns : goal.returns
returns c = λ s. foresees-every s 0 _ (λ n. get_or-replicate 256 (n % 256) true false (mod-lt n (omega arith)))
