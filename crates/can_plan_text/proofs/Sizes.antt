-- That the messages of a document say how long their frames are.
use Rattle.std.proofs.Common.{◌≡◌, ℕ, ◌<◌, List, sym, subst, arith}
use Rattle.std.proofs.lemmas.List.Sorted.{IsPermutation-sym}
use Rattle.can_frame.specs.Parts.{Parts}
use Rattle.can_bus.proofs.Members.{stands-permuted}
use Rattle.can_plan.specs.FramesOf.{IsLongestBusy}
use Rattle.can_plan_text.specs.declared.plan.Plan.{Plan}
use Rattle.can_plan_text.specs.Plans.{IsPlanText, SaysMessage, messages_in}
use Rattle.can_plan_text.proofs.PlanParts.{paired-back}
use Rattle.can_plan_text.specs.Keeping.{AreSized}
use Rattle.can_plan_text.specs.Worst.{frame_dlc}

pub sized : (document : List ℕ) (plan : Plan) → IsPlanText document plan → AreSized plan.messages.items
sized document plan is p there =
    let says = is.2 in
    let listed = stands-permuted plan.messages.items says.listed p (IsPermutation-sym says.listed plan.messages.items says.ordered.all) there in
    let message = paired-back (SaysMessage plan.rate) (messages_in is.0) says.listed listed.0 p says.messages listed.1 in
    let said = message.2.0 in
    let planned = message.2.2 in
    let frame = planned.longest.one_as_long.1 in
    let small : said.dlc < 16 = omega (arith, frame.is_frame.dlc, frame.same_dlc) in
    let dlc : said.dlc ≡ frame_dlc p = omega (arith, small, planned.dlc) in
    subst (λ (h : Parts). IsLongestBusy h.id h.remote (frame_dlc p) p.message.longest) (sym planned.head)
    (subst (λ (d : ℕ). IsLongestBusy said.head.id said.head.remote d p.message.longest) dlc planned.longest)
