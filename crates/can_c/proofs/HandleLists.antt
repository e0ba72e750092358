-- Handles, each of which holds a port, and which change places with other ports.
use Rattle.std.specs.Prelude.{not, is_some}
use Rattle.std.proofs.Common.{◌≡◌, ℕ, zero, suc, ◌+◌, ◌<◌, ◌≤◌, Bool, true, false, Option, Some, None, List, [], ◌∷◌, ◌++◌, length, map, take, drop, get_or, set, refl, sym, ap, ◌∙◌, arith, add-one, length-set}
use Rattle.std.proofs.lemmas.List.{drop_more, drop-set-lt, get_or-map, length-map, map-set, map_more, map_push, set-get_or, take_all, take_more_set}
use Rattle.can_wire.specs.declared.checked_bits.CheckedBits.{CheckedBits}
use Rattle.can_wire.specs.contracts.checked_bits.CheckedBitsFrameBits.TheImpl as checked_bits
use Rattle.can_node.specs.declared.node.Node.{Node}
use Rattle.can_node.specs.Ports.{PortState}
use Rattle.can_node.proofs.NodePort.{node_port}
use Rattle.can_c.specs.declared.handle.Handle.{Handle}
use Rattle.can_c.specs.Play.{held_by, held_in, lacks_port, ports_held}

-- what ports are that are the same
pub same-ports : (n m : Node CheckedBits checked_bits.ghosts) → n ≡ m → Some (node_port n) ≡ Some (node_port m)
same-ports n m is = ap (λ (k : Node CheckedBits checked_bits.ghosts). Some (node_port k)) is

-- ---- whether each handle holds a port

lacks-next : (held : List (Option PortState)) (n : ℕ) (d : Option PortState) → n < length held → lacks_port (take n held) ≡ false → is_some (get_or held n d) ≡ true → lacks_port (take (suc n) held) ≡ false
lacks-next [] n d within none some = absurd (omega arith)
lacks-next (None ∷ held) zero d within none some = absurd (let e : false ≡ true = some in cc)
lacks-next (Some p ∷ held) zero d within none some = refl
lacks-next (None ∷ held) (suc n) d within none some = absurd (let e : true ≡ false = none in cc)
lacks-next (Some p ∷ held) (suc n) d within none some = lacks-next held n d (omega arith) none some

lacks-here : (held : List (Option PortState)) (n : ℕ) (d : Option PortState) → n < length held → is_some (get_or held n d) ≡ false → lacks_port held ≡ true
lacks-here [] n d within none = absurd (omega arith)
lacks-here (None ∷ held) n d within none = refl
lacks-here (Some p ∷ held) zero d within none = absurd (let e : true ≡ false = none in cc)
lacks-here (Some p ∷ held) (suc n) d within none = lacks-here held n d (omega arith) none

lacks-nowhere : (held : List (Option PortState)) (n : ℕ) (d : Option PortState) → n < length held → lacks_port held ≡ false → is_some (get_or held n d) ≡ true
lacks-nowhere [] n d within none = absurd (omega arith)
lacks-nowhere (None ∷ held) n d within none = absurd (let e : true ≡ false = none in cc)
lacks-nowhere (Some p ∷ held) zero d within none = refl
lacks-nowhere (Some p ∷ held) (suc n) d within none = lacks-nowhere held n d (omega arith) none

-- handles that hold these ports
pub lacks-none : (ports : List PortState) → lacks_port (map Some ports) ≡ false
lacks-none [] = refl
lacks-none (p ∷ ports) = lacks-none ports

pub ports-held : (ports : List PortState) → ports_held (map Some ports) ≡ ports
ports-held [] = refl
ports-held (p ∷ ports) = ap (λ qs. p ∷ qs) (ports-held ports)

-- a handle that was asked holds what it held
kept : (handles : List Handle) (n : ℕ) (h asked : Handle) → n < length handles → h ≡ get_or handles n h → asked.held ≡ h.held → held_in (set handles n asked) ≡ held_in handles
kept handles n h asked within is same =
    map-set held_by handles n asked
    ∙ ap (λ (x : Option PortState). set (held_in handles) n x) (same ∙ ap held_by is ∙ sym (get_or-map held_by handles n h h.held within))
    ∙ set-get_or (held_in handles) n h.held

-- the first n of them hold one each
pub record HoldSoFar (first handles : List Handle) (n : ℕ) : Type 0 where
  pub unchanged : held_in handles ≡ held_in first
  pub some : lacks_port (take n (held_in first)) ≡ false

module _ (first handles : List Handle) (n : ℕ) (h asked : Handle) (answer : Bool) (so : HoldSoFar first handles n) (within : n < length handles)
    (is : h ≡ get_or handles n h) (told : answer ≡ is_some h.held) (same : asked.held ≡ h.held) where
  inside : n < length (held_in first)
  inside = let size : length (held_in handles) ≡ length handles = length-map handles held_by in let other : length (held_in handles) ≡ length (held_in first) = ap length so.unchanged in omega (arith, size, other, within)

  here : is_some (get_or (held_in first) n h.held) ≡ answer
  here = ap (λ (xs : List (Option PortState)). is_some (get_or xs n h.held)) (sym so.unchanged) ∙ ap is_some (get_or-map held_by handles n h h.held within) ∙ ap (λ (x : Handle). is_some x.held) (sym is) ∙ sym told

  pub hold-unchanged : held_in (set handles n asked) ≡ held_in first
  hold-unchanged = kept handles n h asked within is same ∙ so.unchanged

  pub hold-next : answer ≡ true → HoldSoFar first (set handles n asked) (n + 1)
  hold-next held = record { unchanged = hold-unchanged; some = rw add-one (lacks-next (held_in first) n h.held inside so.some (here ∙ held)) }

  pub hold-not : answer ≡ false → false ≡ not (lacks_port (held_in first))
  hold-not lacks = sym (ap not (lacks-here (held_in first) n h.held inside (here ∙ lacks)))

pub hold-all : (first handles : List Handle) (n : ℕ) → HoldSoFar first handles n → length handles ≤ n → true ≡ not (lacks_port (held_in first))
hold-all first handles n so long =
    let size : length (held_in handles) ≡ length handles = length-map handles held_by in
    let other : length (held_in handles) ≡ length (held_in first) = ap length so.unchanged in
    sym (ap not (sym (ap lacks_port (take_all n (held_in first) (omega (arith, size, other, long)))) ∙ so.some))

-- ---- ports that change places

module _ {N : Type 0} (port : N → PortState) where
  abbrev some_ports : List N → List (Option PortState)
  some_ports nodes = map Some (map port nodes)

  some-more : (nodes : List N) (n : ℕ) (d : N) → n < length nodes → some_ports (take (n + 1) nodes) ≡ some_ports (take n nodes) ++ Some (port (get_or nodes n d)) ∷ []
  some-more nodes n d within = ap (map Some) (map_more port nodes n d within) ∙ map_push Some (map port (take n nodes)) (port (get_or nodes n d))

  some-set : (nodes : List N) (n : ℕ) (node : N) → n < length nodes → some_ports (take (n + 1) (set nodes n node)) ≡ some_ports (take n nodes) ++ Some (port node) ∷ []
  some-set nodes n node within =
      ap some_ports (take_more_set nodes n node within) ∙ ap (map Some) (map_push port (take n nodes) node) ∙ map_push Some (map port (take n nodes)) (port node)

  held-more : (handles : List Handle) (n : ℕ) (d : Handle) → n < length handles → held_in (take (n + 1) handles) ≡ held_in (take n handles) ++ (get_or handles n d).held ∷ []
  held-more handles n d within = map_more held_by handles n d within

  held-set : (handles : List Handle) (n : ℕ) (h : Handle) → n < length handles → held_in (take (n + 1) (set handles n h)) ≡ held_in (take n handles) ++ h.held ∷ []
  held-set handles n h within = ap held_in (take_more_set handles n h within) ∙ map_push held_by (take n handles) h

  -- the first n handles and nodes have changed places, and the others are as they were
  pub record IsExchanged (first : List Handle) (others : List N) (handles : List Handle) (nodes : List N) (n : ℕ) : Type 0 where
    pub front-handles : held_in (take n handles) ≡ some_ports (take n others)
    pub front-nodes : held_in (take n first) ≡ some_ports (take n nodes)
    pub rest-handles : drop n handles ≡ drop n first
    pub rest-nodes : drop n nodes ≡ drop n others
    pub size_handles : length handles ≡ length first
    pub size_nodes : length nodes ≡ length others

  pub exchange-none : (first : List Handle) (others : List N) → IsExchanged first others first others 0
  exchange-none first others = record { front-handles = refl; front-nodes = refl; rest-handles = refl; rest-nodes = refl; size_handles = refl; size_nodes = refl }

  module _ (first : List Handle) (others : List N) (handles : List Handle) (nodes : List N) (n : ℕ) (so : IsExchanged first others handles nodes n)
      (h : Handle) (x : N) (in-handles : n < length handles) (in-nodes : n < length nodes) (h-is : h ≡ get_or handles n h) (x-is : x ≡ get_or nodes n x) where
    in-first : n < length first
    in-first = omega (arith, so.size_handles, in-handles)

    in-others : n < length others
    in-others = omega (arith, so.size_nodes, in-nodes)

    next-handles : get_or handles n h ∷ drop (n + 1) handles ≡ get_or first n h ∷ drop (n + 1) first
    next-handles = sym (drop_more handles n h in-handles) ∙ so.rest-handles ∙ drop_more first n h in-first

    next-nodes : get_or nodes n x ∷ drop (n + 1) nodes ≡ get_or others n x ∷ drop (n + 1) others
    next-nodes = sym (drop_more nodes n x in-nodes) ∙ so.rest-nodes ∙ drop_more others n x in-others

    was-handle : h ≡ get_or first n h
    was-handle = let e : get_or handles n h ∷ drop (n + 1) handles ≡ get_or first n h ∷ drop (n + 1) first = next-handles in let k : get_or handles n h ≡ get_or first n h = (cc) in h-is ∙ k

    was-node : x ≡ get_or others n x
    was-node = let e : get_or nodes n x ∷ drop (n + 1) nodes ≡ get_or others n x ∷ drop (n + 1) others = next-nodes in let k : get_or nodes n x ≡ get_or others n x = (cc) in x-is ∙ k

    tail-handles : drop (n + 1) handles ≡ drop (n + 1) first
    tail-handles = let e : get_or handles n h ∷ drop (n + 1) handles ≡ get_or first n h ∷ drop (n + 1) first = next-handles in (cc)

    tail-nodes : drop (n + 1) nodes ≡ drop (n + 1) others
    tail-nodes = let e : get_or nodes n x ∷ drop (n + 1) nodes ≡ get_or others n x ∷ drop (n + 1) others = next-nodes in (cc)

    -- the next handle holds a port, if all do
    pub exchange-held : lacks_port (held_in first) ≡ false → is_some h.held ≡ true
    exchange-held none =
        let size : length (held_in first) ≡ length first = length-map first held_by in
        ap (λ (k : Handle). is_some k.held) was-handle ∙ ap is_some (sym (get_or-map held_by first n h h.held in-first))
        ∙ lacks-nowhere (held_in first) n h.held (omega (arith, size, in-first)) none

    pub exchange-next : (h' : Handle) (x' : N) → h'.held ≡ Some (port x) → h.held ≡ Some (port x') → IsExchanged first others (set handles n h') (set nodes n x') (n + 1)
    exchange-next h' x' handle-is node-is = record {
      front-handles = held-set handles n h' in-handles ∙ ap (λ (l : List (Option PortState)). l ++ h'.held ∷ []) so.front-handles
          ∙ ap (λ (y : Option PortState). some_ports (take n others) ++ y ∷ []) (handle-is ∙ ap (λ (y : N). Some (port y)) was-node)
          ∙ sym (some-more others n x in-others);
      front-nodes = held-more first n h in-first ∙ ap (λ (l : List (Option PortState)). l ++ (get_or first n h).held ∷ []) so.front-nodes
          ∙ ap (λ (y : Option PortState). some_ports (take n nodes) ++ y ∷ []) (sym (ap held_by was-handle) ∙ node-is)
          ∙ sym (some-set nodes n x' in-nodes);
      rest-handles = drop-set-lt (n + 1) handles n h' (omega arith) ∙ tail-handles;
      rest-nodes = drop-set-lt (n + 1) nodes n x' (omega arith) ∙ tail-nodes;
      size_handles = length-set handles n h' ∙ so.size_handles;
      size_nodes = length-set nodes n x' ∙ so.size_nodes;
    }

  -- all have
  module _ (first : List Handle) (others : List N) (handles : List Handle) (nodes : List N) (n : ℕ) (so : IsExchanged first others handles nodes n) (each : length first ≡ length others) (long : length nodes ≤ n) where
    pub exchanged-handles : held_in handles ≡ some_ports others
    exchanged-handles =
        sym (ap held_in (take_all n handles (omega (arith, so.size_handles, so.size_nodes, each, long)))) ∙ so.front-handles
        ∙ ap some_ports (take_all n others (omega (arith, so.size_nodes, long)))

    pub exchanged-nodes : held_in first ≡ some_ports nodes
    exchanged-nodes =
        sym (ap held_in (take_all n first (omega (arith, so.size_nodes, each, long)))) ∙ so.front-nodes ∙ ap some_ports (take_all n nodes long)
