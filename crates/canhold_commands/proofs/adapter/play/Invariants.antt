use Rattle.canhold_commands.proofs.Playing.{IsPlaying}
use Rattle.canhold_commands.proofs.adapter.play.Given as goal

-- this number of bit times was played
abbrev pub invariant-loop-place : goal.invariant-loop-place
invariant-loop-place g l = IsPlaying l.digits (g.P.Port.port l.fn.port) l.fn.out.items l.place (g.P.Port.port l.port) l.out.items l.drove.items
