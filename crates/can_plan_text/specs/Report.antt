-- The output for a network, as text. (docs/PLANNING.md, "`canplan`")
use Rattle.std.specs.Prelude.{ℕ, ◌≡◌, ◌+◌, ◌-◌, ◌*◌, ◌/◌, ◌%◌, if◌then◌else◌, nat_lt, List, [], ◌++◌, length, take, slice_get, codes, decimal, Option, Some, None}
use Rattle.std.specs.List.{flat_map, sum_by}
use Rattle.can_frame.specs.Text.{frame_text}
use Rattle.can_plan.specs.declared.borne.Borne.{Borne}
use Rattle.can_plan.specs.declared.borne.Borne.TheVariants.{Ever, For, Never}
use Rattle.can_plan_text.specs.declared.name.Name.{Name}
use Rattle.can_plan_text.specs.declared.verdict.Analysis.{Analysis}
use Rattle.can_plan_text.specs.declared.verdict.Verdict.{Verdict}
use Rattle.can_plan_text.specs.declared.plan.Plan.{Plan}
use Rattle.can_plan_text.specs.declared.plan.Planned.{Planned}
use Rattle.can_plan_text.specs.Answers.{IsAnalysis, KeepsDeadline, late_in}
use Rattle.can_plan_text.specs.Names.{name_bytes}
use Rattle.can_plan_text.specs.Plans.{IsPlanText}

-- ---- the load

-- the share of the time that frames of the message take at most, in billionths, rounded up
abbrev pub share_of : Verdict → ℕ
share_of v = (v.planned.message.longest * 1000000000 + v.planned.message.period - 1) / v.planned.message.period

-- the load: the sum of these shares, in thousandths, rounded down
abbrev pub load_thousandths : List Verdict → ℕ
load_thousandths verdicts = sum_by share_of verdicts / 1000000

-- thousandths with their point, as 0.972
abbrev pub thousandths : ℕ → List ℕ
thousandths n = decimal (n / 1000) ++ (codes "." ++ (decimal (n / 100 % 10) ++ (decimal (n / 10 % 10) ++ decimal (n % 10))))

-- ---- lines

-- `S 100 D 7`: the text of the head up to its last digit, which is its DLC, and the DLC of the message
abbrev pub message_head : Planned → List ℕ
message_head p = take (length (frame_text p.head) - 1) (frame_text p.head) ++ decimal p.dlc

-- `246`, or `none`
abbrev pub bound_text : Option ℕ → List ℕ
bound_text None = codes "none"
bound_text (Some bound) = decimal bound

-- ` slack 66 ok`
abbrev pub slack_text : ℕ → List ℕ
slack_text slack = codes " slack " ++ (decimal slack ++ codes " ok")

-- how much a bound is within the deadline; ` late` if it is above, or there is none
abbrev pub outcome_text : ℕ → Option ℕ → List ℕ
outcome_text deadline None = codes " late"
outcome_text deadline (Some bound) = if nat_lt deadline bound then codes " late" else slack_text (deadline - bound)

-- ` bound 246 deadline 312`, and the outcome
abbrev pub times_text : ℕ → Option ℕ → List ℕ
times_text deadline bound =
    codes " bound " ++ (bound_text bound ++ (codes " deadline " ++ (decimal deadline ++ outcome_text deadline bound)))

-- ` name "Speed"`, and the end of the line
abbrev pub quoted_text : List ℕ → List ℕ
quoted_text name = codes " name \"" ++ (name ++ codes "\"\n")

-- the end of the line, after the name if there is one
abbrev pub end_text : Option Name → List ℕ
end_text None = codes "\n"
end_text (Some name) = quoted_text (name_bytes name)

-- `S 100 D 7 longest 122 blocking 121`, bound and deadline, and the name
unfoldable pub message_line : Verdict → List ℕ
message_line v =
    message_head v.planned ++ (codes " longest " ++ (decimal v.planned.message.longest ++
    (codes " blocking " ++ (decimal v.blocking ++ (times_text v.planned.deadline v.bound ++ end_text v.planned.name)))))

-- `network messages 3 load 0.972 rate 125000`
unfoldable pub first_line : ℕ → List Verdict → List ℕ
first_line rate verdicts =
    codes "network messages " ++ (decimal (length verdicts) ++ (codes " load " ++ (thousandths (load_thousandths verdicts) ++
    (codes " rate " ++ (decimal rate ++ codes "\n")))))

-- `load 0.972 late 1 of 3`
unfoldable pub last_line : List Verdict → List ℕ
last_line verdicts =
    codes "load " ++ (thousandths (load_thousandths verdicts) ++ (codes " late " ++ (decimal (late_in verdicts) ++
    (codes " of " ++ (decimal (length verdicts) ++ codes "\n")))))

-- `hits at most 15 within 149999`, if the document has errors
abbrev pub borne_line : Option Borne → List ℕ
borne_line None = []
borne_line (Some Ever) = codes "hits at most 15 for ever\n"
borne_line (Some (For long)) = codes "hits at most 15 within " ++ (decimal long ++ codes "\n")
borne_line (Some Never) = codes "hits above 15 at once\n"

-- the whole output
abbrev pub plan_report : ℕ → Analysis → List ℕ
plan_report rate analysis =
    first_line rate analysis.verdicts.items ++ (flat_map message_line analysis.verdicts.items ++
    (last_line analysis.verdicts.items ++ borne_line analysis.borne))

-- The output for a document, which describes a network. It is that of the network's analysis; `late` is the number of messages
-- that may miss their deadline, and the others meet theirs.
pub record IsAnswer (input output : List ℕ) (late : ℕ) : Type 0 where
  pub plan : Plan
  pub said : IsPlanText input plan
  pub analysis : Analysis
  pub answered : IsAnalysis plan analysis
  pub written : output ≡ plan_report plan.rate analysis
  pub counted : late ≡ late_in analysis.verdicts.items
  pub kept : (place : ℕ) (v : Verdict) → slice_get analysis.verdicts.items place ≡ Some v → KeepsDeadline plan v
