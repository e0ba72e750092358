-- The parts of the bounds of a network, its margins, and the output with both. (docs/PLANNING.md, "What makes a bound", "What is
-- left")
use Rattle.std.specs.Prelude.{ℕ, ◌≡◌, ◌+◌, ◌-◌, ◌*◌, ◌==◌, nat_lt, if◌then◌else◌, List, [], ◌++◌, length, map, take, slice_get, codes, decimal, Option, Some, None, MatchOption}
use Rattle.std.specs.List.{flat_map}
use Rattle.can_plan.specs.declared.latest.Latest.{Latest}
use Rattle.can_plan.specs.declared.margin.Margin.{Margin}
use Rattle.can_plan.specs.declared.margin.Strain.{Strain}
use Rattle.can_plan.specs.declared.margin.Strain.TheVariants.{MoreHits, ShorterPeriods}
use Rattle.can_plan.specs.Analysis.{Ranking, arrivals, ranking_at}
use Rattle.can_plan.specs.Latest.{IsLatest, sum_of_parts}
use Rattle.can_plan.specs.Margins.{IsMargin, MeetDeadlines}
use Rattle.can_plan_text.specs.declared.answer.Form.{Form}
use Rattle.can_plan_text.specs.declared.answer.Form.TheVariants.{Brief, Detailed}
use Rattle.can_plan_text.specs.declared.detail.Detail.{Detail}
use Rattle.can_plan_text.specs.declared.left.Left.{Left}
use Rattle.can_plan_text.specs.declared.plan.Plan.{Plan}
use Rattle.can_plan_text.specs.declared.plan.Planned.{Planned}
use Rattle.can_plan_text.specs.declared.verdict.Analysis.{Analysis}
use Rattle.can_plan_text.specs.declared.verdict.Verdict.{Verdict}
use Rattle.can_plan_text.specs.Answers.{IsAnalysis, KeepsDeadline, hit_rate_of, late_in, limit, most_of}
use Rattle.can_plan_text.specs.Plans.{IsPlanText, messages_of}
use Rattle.can_plan_text.specs.Report.{IsAnswer, borne_line, end_text, first_line, message_head, last_line, message_line, slack_text}
use Rattle.can_plan_text.specs.Times.{time_down, time_up}

-- ---- the latest frame

-- the latest frame of the message at a place, if this is its bound: its parts add up to the bound
abbrev pub IsLatestOf : Plan → ℕ → Verdict → Option ℕ → Option Latest → Type 0
IsLatestOf plan place v None latest = latest ≡ None
IsLatestOf plan place v (Some bound) latest =
    let ranking : Ranking = ranking_at (messages_of plan.messages.items) place v.planned.message in
    (l : Latest) × (latest ≡ Some l) × IsLatest (most_of plan) ranking bound l × (bound ≡ sum_of_parts ranking l)

-- the verdict on the message at a place, and its latest frame
pub record IsDetail (plan : Plan) (at : ℕ) (v : Verdict) (d : Detail) : Type 0 where
  pub verdict : d.verdict ≡ v
  pub place : d.place ≡ at
  pub latest : IsLatestOf plan at v v.bound d.latest

-- one of these for each verdict
abbrev pub AreDetails : Plan → List Verdict → List Detail → Type 0
AreDetails plan verdicts details = (length details ≡ length verdicts)
    × ((n : ℕ) (v : Verdict) (d : Detail) → slice_get verdicts n ≡ Some v → slice_get details n ≡ Some d → IsDetail plan n v d)

-- ---- margins

-- the deadlines of messages
abbrev pub deadlines_of : List Planned → List ℕ
deadlines_of planned = map (λ p. p.deadline) planned

-- the margin of the network for this change; none if a message may miss its deadline without it
abbrev pub IsMarginOf : Plan → Strain → Option Margin → Type 0
IsMarginOf plan strain margin =
    MatchOption margin
    (¬ MeetDeadlines (hit_rate_of plan.errors) limit (messages_of plan.messages.items) (deadlines_of plan.messages.items))
    (IsMargin strain (hit_rate_of plan.errors) limit (messages_of plan.messages.items) (deadlines_of plan.messages.items))

-- the margins for shorter periods and for more hits
pub record IsLeft (plan : Plan) (left : Left) : Type 0 where
  pub periods : IsMarginOf plan ShorterPeriods left.periods
  pub hits : IsMarginOf plan MoreHits left.hits

-- ---- lines

-- `  jitter 12`
abbrev pub number_line : List ℕ → ℕ → List ℕ
number_line word n = word ++ (decimal n ++ codes "\n")

-- `  hits 2 bits 270`
abbrev pub cost_line : List ℕ → ℕ → ℕ → List ℕ
cost_line word n bits = word ++ (decimal n ++ number_line (codes " bits ") bits)

-- ` slack 40 ok`, in microseconds rounded down; ` late` if the bound is above the deadline
abbrev pub time_outcome : ℕ → ℕ → ℕ → List ℕ
time_outcome rate deadline bound = if nat_lt deadline bound then codes " late" else slack_text (time_down rate (deadline - bound))

-- `  microseconds bound 3376 deadline 3416 slack 40 ok`: the bound rounded up, the deadline down
unfoldable pub time_line : ℕ → ℕ → ℕ → List ℕ
time_line rate deadline bound =
    codes "  microseconds bound " ++ (decimal (time_up rate bound) ++ (codes " deadline " ++ (decimal (time_down rate deadline) ++
    (time_outcome rate deadline bound ++ codes "\n"))))

-- this line, if there is a bit rate
abbrev pub time_lines : ℕ → ℕ → ℕ → List ℕ
time_lines rate deadline bound = if rate == 0 then [] else time_line rate deadline bound

-- `  before frames 3 bits 366 of S 100 D 7`, and its name: how many frames of a message are sent before one with this delay
unfoldable pub before_line : ℕ → Planned → List ℕ
before_line delay p =
    codes "  before frames "
    ++ (decimal (arrivals p.message (delay + 1)) ++ (codes " bits " ++ (decimal (arrivals p.message (delay + 1) * p.message.longest) ++
    (codes " of " ++ (message_head p ++ end_text p.name)))))

-- `  latest frame 1 start 730`
abbrev pub latest_line : Latest → List ℕ
latest_line l = codes "  latest frame " ++ (decimal l.number ++ number_line (codes " start ") l.delay)

-- jitter, blocking, and the earlier frames of the message itself
unfoldable pub own_lines : Verdict → Latest → List ℕ
own_lines v l =
    number_line (codes "  jitter ") v.planned.message.jitter ++ (number_line (codes "  blocking ") v.blocking ++
    cost_line (codes "  earlier frames ") l.number l.earlier)

-- hits, the wire of the frame, and the periods to subtract
unfoldable pub last_lines : Verdict → Latest → List ℕ
last_lines v l =
    cost_line (codes "  hits ") l.hits l.hits_cost ++ (number_line (codes "  wire ") (v.planned.message.longest - 3) ++
    cost_line (codes "  less periods ") l.number l.later)

-- the parts of a bound
abbrev pub part_lines : List Planned → Verdict → Latest → List ℕ
part_lines higher v l = latest_line l ++ (own_lines v l ++ (flat_map (before_line l.delay) higher ++ last_lines v l))

-- the parts of the latest frame's bound, if there is one
abbrev pub latest_lines : ℕ → List Planned → Verdict → Option Latest → List ℕ
latest_lines rate higher v None = []
latest_lines rate higher v (Some l) = time_lines rate v.planned.deadline l.end ++ part_lines higher v l

-- the line of a message, and the parts of its bound after it
abbrev pub detail_lines : Plan → Detail → List ℕ
detail_lines plan d = message_line d.verdict ++ latest_lines plan.rate (take d.place plan.messages.items) d.verdict d.latest

-- the message at a place, if one is given
abbrev pub planned_at : List Planned → Option ℕ → Option Planned
planned_at planned None = None
planned_at planned (Some place) = slice_get planned place

-- ` 2 per cent late S 300 D 7`, and its name: the first message that may miss its deadline with `more` units
abbrev pub late_text : List ℕ → ℕ → Option Planned → List ℕ
late_text unit more None = codes "\n"
late_text unit more (Some p) = codes " " ++ (decimal more ++ (unit ++ (codes " late " ++ (message_head p ++ end_text p.name))))

-- `shorter periods 1 per cent ok`, and the first message that may miss its deadline with one more
unfoldable pub margin_line : List ℕ → List ℕ → List Planned → Margin → List ℕ
margin_line word unit planned m =
    word ++ (decimal m.most ++ (unit ++ (codes " ok" ++ late_text unit (m.most + 1) (planned_at planned m.late))))

-- this line, if no message may miss its deadline without the change
abbrev pub margin_lines : List ℕ → List ℕ → List Planned → Option Margin → List ℕ
margin_lines word unit planned None = []
margin_lines word unit planned (Some m) = margin_line word unit planned m

-- the lines of both margins
abbrev pub left_lines : List Planned → Left → List ℕ
left_lines planned left =
    margin_lines (codes "shorter periods ") (codes " per cent") planned left.periods ++
    margin_lines (codes "more hits ") [] planned left.hits

-- the whole output
abbrev pub details_text : Plan → Analysis → List Detail → Left → List ℕ
details_text plan analysis details left =
    first_line plan.rate analysis.verdicts.items ++ (flat_map (detail_lines plan) details ++
    (last_line analysis.verdicts.items ++ (borne_line analysis.borne ++ left_lines plan.messages.items left)))

-- The output for a document with details: the output without them, with the parts of each bound after the line of its message,
-- and the margins after the last line.
pub record IsDetailedAnswer (input output : List ℕ) (late : ℕ) : Type 0 where
  pub plan : Plan
  pub said : IsPlanText input plan
  pub analysis : Analysis
  pub answered : IsAnalysis plan analysis
  pub details : List Detail
  pub detailed : AreDetails plan analysis.verdicts.items details
  pub left : Left
  pub leaves : IsLeft plan left
  pub written : output ≡ details_text plan analysis details left
  pub counted : late ≡ late_in analysis.verdicts.items
  pub kept : (place : ℕ) (v : Verdict) → slice_get analysis.verdicts.items place ≡ Some v → KeepsDeadline plan v

-- the output in a form
abbrev pub IsAnswerIn : Form → List ℕ → List ℕ → ℕ → Type 0
IsAnswerIn Brief = IsAnswer
IsAnswerIn Detailed = IsDetailedAnswer
