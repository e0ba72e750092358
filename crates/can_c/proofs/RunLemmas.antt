-- Many bit times of a port, level by level: those that have passed, and those that are left.
use Rattle.std.proofs.Common.{◌≡◌, ℕ, ◌+◌, ◌<◌, ◌≤◌, List, [], ◌∷◌, ◌++◌, length, take, drop, map, get_or, set, refl, sym, ◌∙◌, ap, subst, arith, length-set}
use Rattle.std.proofs.lemmas.List.{append-nil, append_assoc, drop_all, drop_more, take_all, take_more_set}
use Rattle.can_frame.specs.declared.level.Level.{Level}
use Rattle.can_frame.specs.Levels.{level_of, level_code, levels_of_codes}
use Rattle.can_terms.specs.Codes.{event_code}
use Rattle.can_node.specs.Ports.{PortState, port_drives, port_event, port_events, port_run, port_step}
use Rattle.can_c.specs.BitTimes.{drives_over}

-- the numbers of the levels that a port drives, and of its events
abbrev pub drives_codes : PortState → List ℕ → List ℕ
drives_codes p codes = map level_code (drives_over p (levels_of_codes codes))

abbrev pub event_codes : PortState → List ℕ → List ℕ
event_codes p codes = map event_code (port_events p (levels_of_codes codes))

-- n bit times have brought the port p to q, and are written
pub record IsPassed (p q : PortState) (codes drives events : List ℕ) (n : ℕ) : Type 0 where
  pub run : port_run q (levels_of_codes (drop n codes)) ≡ port_run p (levels_of_codes codes)
  pub driven : take n drives ++ drives_codes q (drop n codes) ≡ drives_codes p codes
  pub told : take n events ++ event_codes q (drop n codes) ≡ event_codes p codes
  pub long_drives : length drives ≡ length codes
  pub long_events : length events ≡ length codes

-- the next one
run_first : (q : PortState) (c : ℕ) (rest : List ℕ) → port_run q (levels_of_codes (c ∷ rest)) ≡ port_run (port_step q (level_of c)) (levels_of_codes rest)
unfolding port_run
run_first q c rest = refl

drives_first : (q : PortState) (c : ℕ) (rest : List ℕ) → drives_codes q (c ∷ rest) ≡ level_code (port_drives q) ∷ drives_codes (port_step q (level_of c)) rest
unfolding drives_over
drives_first q c rest = refl

events_first : (q : PortState) (c : ℕ) (rest : List ℕ) → event_codes q (c ∷ rest) ≡ event_code (port_event q (level_of c)) ∷ event_codes (port_step q (level_of c)) rest
unfolding port_events
events_first q c rest = refl

-- what was written, and one more element, is a longer front of the whole
one_more : (written : List ℕ) (n x : ℕ) (left whole rest : List ℕ) → n < length written → take n written ++ left ≡ whole → left ≡ x ∷ rest → take (n + 1) (set written n x) ++ rest ≡ whole
one_more written n x left whole rest within so first =
    ap (λ t. t ++ rest) (take_more_set written n x within) ∙ append_assoc (take n written) (x ∷ []) rest ∙ sym (ap (λ t. take n written ++ t) first) ∙ so

one_more_passed : (p q : PortState) (codes drives events : List ℕ) (n : ℕ) → IsPassed p q codes drives events n → n < length codes →
    IsPassed p (port_step q (level_of (get_or codes n 0))) codes (set drives n (level_code (port_drives q))) (set events n (event_code (port_event q (level_of (get_or codes n 0))))) (n + 1)
one_more_passed p q codes drives events n h within =
    let c = get_or codes n 0 in
    let rest = drop (n + 1) codes in
    let next = drop_more codes n 0 within in
    let in_drives : n < length drives = omega (arith, h.long_drives) in
    let in_events : n < length events = omega (arith, h.long_events) in
    record {
      run = sym (ap (λ l. port_run q (levels_of_codes l)) next ∙ run_first q c rest) ∙ h.run;
      driven = one_more drives n (level_code (port_drives q)) _ _ _ in_drives h.driven (ap (drives_codes q) next ∙ drives_first q c rest);
      told = one_more events n (event_code (port_event q (level_of c))) _ _ _ in_events h.told (ap (event_codes q) next ∙ events_first q c rest);
      long_drives = length-set drives n _ ∙ h.long_drives;
      long_events = length-set events n _ ∙ h.long_events;
    }

-- the step of values that are given by equations
pub next_passed : (p q next : PortState) (codes drives events : List ℕ) (n drive event code : ℕ) (seen : Level) → IsPassed p q codes drives events n → n < length codes →
    code ≡ get_or codes n 0 → seen ≡ level_of code → drive ≡ level_code (port_drives q) → next ≡ port_step q seen → event ≡ event_code (port_event q seen) →
    IsPassed p next codes (set drives n drive) (set events n event) (n + 1)
next_passed p q next codes drives events n drive event code seen h within is_code is_seen is_drive is_next is_event =
    let x = level_of (get_or codes n 0) in
    let seen_is : seen ≡ x = is_seen ∙ ap level_of is_code in
    let at_next : port_step q x ≡ next = sym (is_next ∙ ap (port_step q) seen_is) in
    let at_event : event_code (port_event q x) ≡ event = sym (is_event ∙ ap (λ y. event_code (port_event q y)) seen_is) in
    subst (λ s. IsPassed p s codes (set drives n drive) (set events n event) (n + 1)) at_next
    (subst (λ e. IsPassed p (port_step q x) codes (set drives n drive) (set events n e) (n + 1)) at_event
    (subst (λ d. IsPassed p (port_step q x) codes (set drives n d) (set events n (event_code (port_event q x))) (n + 1)) (sym is_drive) (one_more_passed p q codes drives events n h within)))

-- all have
run_none : (q : PortState) → port_run q [] ≡ q
unfolding port_run
run_none q = refl

drives_none : (q : PortState) → drives_codes q [] ≡ []
unfolding drives_over
drives_none q = refl

events_none : (q : PortState) → event_codes q [] ≡ []
unfolding port_events
events_none q = refl

whole : (written left all : List ℕ) (n : ℕ) → length written ≤ n → take n written ++ left ≡ all → left ≡ [] → written ≡ all
whole written left all n long so none = sym (append-nil written) ∙ sym (ap (λ t. t ++ []) (take_all n written long)) ∙ sym (ap (λ t. take n written ++ t) none) ∙ so

pub record AllPassed (p q : PortState) (codes drives events : List ℕ) : Type 0 where
  pub run : q ≡ port_run p (levels_of_codes codes)
  pub driven : drives ≡ drives_codes p codes
  pub told : events ≡ event_codes p codes

pub all_passed : (p q : PortState) (codes drives events : List ℕ) (n : ℕ) → IsPassed p q codes drives events n → length codes ≤ n → AllPassed p q codes drives events
all_passed p q codes drives events n h long =
    let end = drop_all n codes long in
    record {
      run = sym (ap (λ l. port_run q (levels_of_codes l)) end ∙ run_none q) ∙ h.run;
      driven = whole drives _ _ n (omega (arith, h.long_drives)) h.driven (ap (drives_codes q) end ∙ drives_none q);
      told = whole events _ _ n (omega (arith, h.long_events)) h.told (ap (event_codes q) end ∙ events_none q);
    }
