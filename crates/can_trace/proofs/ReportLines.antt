-- The lines of a report, part by part.
use Rattle.std.proofs.Common.{◌≡◌, ℕ, ◌+◌, ◌<◌, List, ◌++◌, length, map, get_or, drop, sym, ap, ◌∙◌, append_assoc}
use Rattle.std.proofs.lemmas.List.{map-append, at_drop_more}
use Rattle.std.specs.List.{flat_map}
use Rattle.can_frame.specs.declared.level.Level.{Level}
use Rattle.can_node.specs.declared.entry.Entry.{Entry}
use Rattle.can_node.specs.Ports.{PortState}
use Rattle.can_frame.specs.Levels.{digit_of}
use Rattle.can_stream.specs.Lines.{line_end}
use Rattle.can_trace.specs.Report.{entry_line, port_lines, ports_lines, reported}

-- how the pieces of a port's line are put together
pub port_parts : (a n b s c t d r e m f : List ℕ) →
    ((((((a ++ n) ++ b) ++ s) ++ (c ++ t)) ++ (d ++ r)) ++ (e ++ m)) ++ f ≡ a ++ (n ++ (b ++ (s ++ (c ++ (t ++ (d ++ (r ++ (e ++ (m ++ f)))))))))
port_parts a n b s c t d r e m f = simp append_assoc

-- bytes after what a line had
pub pushed : (new old bytes piece before : List ℕ) → new ≡ old ++ bytes → bytes ≡ piece → old ≡ before → new ≡ before ++ piece
pushed new old bytes piece before push is held = push ∙ ap (λ t. old ++ t) is ∙ ap (λ t. t ++ piece) held

-- the digits of some levels, and then those of the rest
pub digits-split : (ahead front rest : List Level) → ahead ≡ front ++ rest → map digit_of ahead ++ line_end ≡ map digit_of front ++ (map digit_of rest ++ line_end)
digits-split ahead front rest split =
    ap (λ levels. map digit_of levels ++ line_end) split ∙ ap (λ t. t ++ line_end) (map-append digit_of front rest)
    ∙ append_assoc (map digit_of front) (map digit_of rest) line_end

-- the line of an entry, and then those of the rest
pub entries-next : (entries : List Entry) (n : ℕ) (x : Entry) → n < length entries → x ≡ get_or entries n x →
    flat_map entry_line (drop n entries) ≡ entry_line x ++ flat_map entry_line (drop (n + 1) entries)
entries-next entries n x h is =
    at_drop_more (flat_map entry_line) entries n x h ∙ ap (λ y. entry_line y ++ flat_map entry_line (drop (n + 1) entries)) (sym is)

module _ {P : Type 0} (port : P → PortState) (ports : List P) (n : ℕ) where
  -- the lines of the ports that are left
  abbrev pub lines_left : List ℕ
  lines_left = ports_lines n (map reported (map port (drop n ports)))

  -- the lines of a port, and then those of the rest
  pub ports-next : (x : P) → n < length ports → x ≡ get_or ports n x →
      lines_left ≡ port_lines n (reported (port x)) ++ ports_lines (n + 1) (map reported (map port (drop (n + 1) ports)))
  ports-next x h is =
      at_drop_more (λ ps. ports_lines n (map reported (map port ps))) ports n x h
      ∙ ap (λ y. port_lines n (reported (port y)) ++ ports_lines (n + 1) (map reported (map port (drop (n + 1) ports)))) (sym is)
