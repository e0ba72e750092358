-- Two quiet buses with the same frames have the same levels, and in the end the same frames in all logs.
use Rattle.std.specs.Prelude.{slice_get, All}
use Rattle.std.specs.List.Sorted.{IsPermutation}
use Rattle.std.proofs.Common.{◌≡◌, ℕ, ◌+◌, ◌≤◌, ◌<◌, Some, List, [], ◌∷◌, length, map, get_or, refl, sym, ◌∙◌, ap, arith}
use Rattle.std.proofs.lemmas.List.Elements.{All-tail}
use Rattle.std.proofs.lemmas.List.Sorted.{sum_by-IsPermutation}
use Rattle.std.proofs.lemmas.Option.{slice_get_within, slice_get-get_or}
use Rattle.can_frame.specs.Parts.{Parts}
use Rattle.can_wire.specs.Wire.{wire}
use Rattle.can_node.specs.Ports.{PortState, IsPort}
use Rattle.can_bus.specs.Run.{BusState, bus_level, bus_run}
use Rattle.can_bus.specs.Quiet.{IsQuietCall, ascending, queued, span, line_at, marked}
use Rattle.can_bus.specs.Agreement.{IsQuietBus, AreAlike, LogsAgree, frames_logged}
use Rattle.can_bus.proofs.Ascending.{ascending_there, ascending_permuted}
use Rattle.can_bus.proofs.Contests.{AllPorts}
use Rattle.can_bus.proofs.QuietNetworks.{call-line, call-whole}
use Rattle.can_bus.proofs.RunLemmas.{length-run}

all-ports : (P : PortState → Type 0) (ports : List PortState) → All P ports → AllPorts P ports
all-ports P [] all = tt
all-ports P (p ∷ ports) all = (all 0 p (omega arith), all-ports P ports (All-tail P p ports all))

-- ---- what the frames alone decide

pub span-permuted : (v w : List Parts) → IsPermutation v w → span w ≡ span v
unfolding span
span-permuted v w moved = sum_by-IsPermutation (λ f. length (wire f) + 3) v w moved

marked-frames : (queue frames : List Parts) → map (λ entry. entry.frame) (marked queue frames) ≡ frames
marked-frames queue [] = refl
marked-frames queue (f ∷ frames) = ap (λ fs. f ∷ fs) (marked-frames queue frames)

module _ (bus : BusState) (is : IsQuietBus bus) where
  abbrev frames : List Parts
  frames = ascending (queued bus.ports)

  call : IsQuietCall [] bus.ports frames
  call = record { undisturbed = refl; quiet = is.quiet; ascending = ascending_there (queued bus.ports) is.quiet.different }

  valid : AllPorts IsPort bus.ports
  valid = all-ports IsPort bus.ports is.ports

  pub line-ascending : (t : ℕ) → bus_level [] t bus ≡ line_at frames t
  line-ascending t = call-line [] bus valid frames call t

  pub logs-ascending : (n : ℕ) → span (queued bus.ports) ≤ n → (k : ℕ) (q : PortState) → slice_get (bus_run [] n bus).ports k ≡ Some q → frames_logged q ≡ frames
  logs-ascending n past k q there =
      let within : k < length (bus_run [] n bus).ports = slice_get_within (bus_run [] n bus).ports k q there in
      let before : k < length bus.ports = omega (arith, length-run [] n bus) in
      let p : PortState = get_or bus.ports k q in
      let long : span frames ≤ n = omega (arith, span-permuted (queued bus.ports) frames call.ascending.all) in
      let whole : q.log ≡ marked p.queue frames =
      call-whole [] bus valid n (bus_run [] n bus) refl frames call long k p q (slice_get-get_or bus.ports k q before) there in
      ap (λ log. map (λ entry. entry.frame) log) whole ∙ marked-frames p.queue frames

-- ---- two of them

module _ (one other : BusState) (are : AreAlike one other) where
  same-frames : ascending (queued one.ports) ≡ ascending (queued other.ports)
  same-frames = ascending_permuted (queued one.ports) (queued other.ports) are.frames are.first.quiet.different

  pub levels-agree : (t : ℕ) → bus_level [] t one ≡ bus_level [] t other
  levels-agree t = line-ascending one are.first t ∙ ap (λ frames. line_at frames t) same-frames ∙ sym (line-ascending other are.second t)

  pub spans-agree : span (queued one.ports) ≡ span (queued other.ports)
  spans-agree = sym (span-permuted (queued one.ports) (queued other.ports) are.frames)

  pub logs-agree : (m n : ℕ) → span (queued one.ports) ≤ m → span (queued other.ports) ≤ n → LogsAgree (bus_run [] m one) (bus_run [] n other)
  logs-agree m n past later j k p q here there =
      logs-ascending one are.first m past j p here ∙ same-frames ∙ sym (logs-ascending other are.second n later k q there)
