-- Hand-computed test vectors: the definitions computed on bytes.
use Rattle.std.proofs.Common.{◌≡◌, ℕ, true, false, List, [], ◌∷◌, ◌++◌, codes, refl}
use Rattle.can_gates.specs.declared.literal.Literal.{Literal}
use Rattle.can_gates.specs.declared.circuit.Gate.{Gate}
use Rattle.can_gates.specs.Binary.{groups, gates_in, number_in}
use Rattle.can_gates.specs.Statements.{And, Assign, Take, words_by_line}
use Rattle.can_gates.specs.Module.{Comment, Declaration, End, EndModule, Module, Says, Steps, lines_said}
use Rattle.can_gates.specs.Files.{read_ascii, read_binary}

abbrev plain : ℕ → Literal
plain s = record { signal = s; negated = false }

abbrev turned : ℕ → Literal
turned s = record { signal = s; negated = true }

-- 300 is two times 128 and 44
two_groups : groups 9 300 ≡ 172 ∷ 2 ∷ []
two_groups = refl

read_groups : number_in (172 ∷ 2 ∷ 7 ∷ []) ≡ (300, 7 ∷ [])
read_groups = refl

-- the gates of a toggle: 3 is ~2 and 1, 4 is 2 and ~1, 5 is ~4 and ~3
abbrev toggle : List Gate
toggle = record { signal = 3; left = turned 2; right = plain 1 } ∷ record { signal = 4; left = plain 2; right = turned 1 } ∷ record { signal = 5; left = turned 4; right = turned 3 } ∷ []

toggle_read : gates_in 3 3 (1 ∷ 3 ∷ 4 ∷ 1 ∷ 1 ∷ 2 ∷ []) ≡ toggle
toggle_read = refl

-- ---- whole files

two_lines : words_by_line [] [] (codes "a <= b;\nend\n") ≡ (codes "a" ∷ codes "<=" ∷ codes "b" ∷ []) ∷ (codes "end" ∷ []) ∷ []
two_lines = refl

-- a module by the words of its lines: it has two ports, turned and plain
toggle_module : lines_said false
    ((codes "//" ∷ codes "Toggle" ∷ []) ∷ (codes "module" ∷ codes "toggle(clock," ∷ codes "on," ∷ codes "told)" ∷ []) ∷ (codes "input" ∷ codes "on" ∷ codes "//" ∷ codes "changes" ∷ []) ∷ (codes "output" ∷ codes "[1:0]" ∷ codes "told" ∷ codes "//" ∷ codes "two" ∷ [])
    ∷ (codes "wire" ∷ codes "n3" ∷ codes "=" ∷ codes "~n2" ∷ codes "&" ∷ codes "n1" ∷ []) ∷ (codes "assign" ∷ codes "told[0]" ∷ codes "=" ∷ codes "~n2" ∷ []) ∷ (codes "always" ∷ codes "begin" ∷ [])
    ∷ (codes "held" ∷ codes "<=" ∷ codes "~n5" ∷ []) ∷ (codes "end" ∷ []) ∷ (codes "endmodule" ∷ []) ∷ [])
    ≡ Comment (codes "Toggle" ∷ []) ∷ Module (codes "toggle") (codes "on" ∷ codes "told" ∷ []) ∷ Declaration (codes "input") 1 (codes "on") (codes "changes" ∷ []) ∷ Declaration (codes "output") 2 (codes "told") (codes "two" ∷ [])
    ∷ Says (And (record { signal = 3; left = turned 2; right = plain 1 })) ∷ Says (Assign (codes "told[0]") (turned 2)) ∷ Steps (codes "begin" ∷ []) ∷ Says (Take (codes "held") (turned 5)) ∷ End ∷ EndModule ∷ []
toggle_module = refl

-- signal 1 is an input, and there is nothing else
ascii_file : read_ascii (codes "aag 1 1 0 0 0\n2\nc\n") ≡ record { numbers = (1 ∷ 1 ∷ 0 ∷ 0 ∷ 0 ∷ []) ∷ (2 ∷ []) ∷ []; names = (codes "c" ∷ []) ∷ [] }
ascii_file = refl

-- signal 2 is the and of signal 1, which comes in, and of signal 0
binary_file : read_binary (codes "aig 2 1 0 0 1\n" ++ (2 ∷ 2 ∷ codes "c\n")) ≡ record { numbers = (2 ∷ 1 ∷ 0 ∷ 0 ∷ 1 ∷ []) ∷ []; gates = record { signal = 2; left = plain 1; right = plain 0 } ∷ []; names = (codes "c" ∷ []) ∷ [] }
binary_file = refl
