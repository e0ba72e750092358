-- A table describes at most one transcript.
use Rattle.std.proofs.Common.{◌≡◌, ℕ, pos, List, codes, Option, Some, None, Vec, Global, sym, ap, subst, ◌∙◌}
use Rattle.toml.specs.Data.{Data, string, integer}
use Rattle.can_terms.specs.declared.timed.Timed.{Timed}
use Rattle.can_terms.specs.declared.transcript.Counters.{Counters}
use Rattle.can_terms.specs.declared.transcript.Ending.{Ending}
use Rattle.can_terms.proofs.TimedLemmas.{timed-is}
use Rattle.can_terms.specs.declared.event.Event.{Event}
use Rattle.can_fault.specs.declared.state.State.{State}
use Rattle.can_fault.specs.Words.{state_word}
use Rattle.kit_documents.specs.Events.{SaysEvent}
use Rattle.kit_documents.proofs.OneEvent.{one-event, one-state}
use Rattle.document_values.specs.Values.{elements, named, three, two, ArePaired, IsRequired}
use Rattle.document_values.proofs.OneReading.{one-list, one-number}
use Rattle.document_values.proofs.Pairs.{same-three}
use Rattle.kit_documents.specs.Cases.{case_name}
use Rattle.kit_documents.specs.CaseWords.{IsText}
use Rattle.kit_documents.proofs.TesterParts.{one-strings}
use Rattle.kit_documents.specs.declared.transcripts.told.Told.{Told}
use Rattle.kit_documents.specs.Elements.{SayCounters, SaysChange, SaysEnd, SaysEventAt, SaysIfThere}
use Rattle.kit_documents.specs.Transcripts.{drove_of, place_where, AreBoth, AreSameTranscripts, SaysTranscript}

-- ---- elements

one_time : (m n : ℕ) → integer (pos m) ≡ integer (pos n) → m ≡ n
one_time m n e = cc

one_text : (a b : List ℕ) → string a ≡ string b → a ≡ b
one_text a b e = cc

one_event_at : (d : Data) (a b : Timed Event) → SaysEventAt d a → SaysEventAt d b → a ≡ b
one_event_at d a b x y =
    let pairs : two (integer (pos a.time)) (string x.0) ≡ two (integer (pos b.time)) (string y.0) = sym x.1 ∙ y.1 in
    let texts : x.0 ≡ y.0 = cc in
    let times : a.time ≡ b.time = cc in
    timed-is a b times (one-event x.0 a.told b.told x.2 (subst (λ (text : List ℕ). SaysEvent text b.told) (sym texts) y.2))

one_counters : (t r : Data) (a b : Counters) → SayCounters t r a → SayCounters t r b → a ≡ b
one_counters t r a b x y =
    let of : ℕ → ℕ → Counters = λ transmit receive. record { transmit = transmit; receive = receive } in
    ap (λ n. of n a.receive) (one-number a.transmit b.transmit t x.transmits y.transmits) ∙ ap (of b.transmit) (one-number a.receive b.receive r x.receives y.receives)

-- of an array of three, the last two of which are counters
one_three : (d first other t r u s : Data) (a b : Counters) → d ≡ three first t r → d ≡ three other u s → SayCounters t r a → SayCounters u s b → (first ≡ other) × (a ≡ b)
one_three d first other t r u s a b x y says said =
    let same = same-three first t r other u s (sym x ∙ y) in
    let here : SayCounters t s b = subst (λ (e : Data). SayCounters e s b) (sym same.1) said in
    (same.0, one_counters t r a b says (subst (λ (e : Data). SayCounters t e b) (sym same.2) here))

one_change : (d : Data) (a b : Timed Counters) → SaysChange d a → SaysChange d b → a ≡ b
one_change d a b x y =
    let same = one_three d (integer (pos a.time)) (integer (pos b.time)) x.0 x.1 y.0 y.1 a.told b.told x.2 y.2 x.3 y.3 in
    timed-is a b (one_time a.time b.time same.0) same.1

one_end : (d : Data) (a b : Ending) → SaysEnd d a → SaysEnd d b → a ≡ b
one_end d a b x y =
    let of : State → Counters → Ending = λ state counters. record { state = state; counters = counters } in
    let same = one_three d (string (state_word a.state)) (string (state_word b.state)) x.0 x.1 y.0 y.1 a.counters b.counters x.2 y.2 x.3 y.3 in
    let states : a.state ≡ b.state = one-state a.state b.state (one_text (state_word a.state) (state_word b.state) same.0) in
    ap (λ state. of state a.counters) states ∙ ap (of b.state) same.1

-- ---- fields

one_case : (cases : List Data) (field : Option Data) (m n : ℕ) → IsRequired (IsText (λ name. place_where case_name name cases ≡ Some m)) field → IsRequired (IsText (λ name. place_where case_name name cases ≡ Some n)) field
    → m ≡ n
one_case cases None m n x y = absurd x
one_case cases (Some d) m n x y =
    let texts : x.0 ≡ y.0 = one_text x.0 y.0 (sym x.1 ∙ y.1) in
    let places : Some m ≡ Some n = sym x.2 ∙ ap (λ (name : List ℕ). place_where case_name name cases) texts ∙ y.2 in
    cc

one_if_there : {A : Type 0} (Says : Data → A → Type 0) (Same : A → A → Type 0) → ((d : Data) (a b : A) → Says d a → Says d b → Same a b) → (field : Option Data) (a b : Option A)
    → SaysIfThere Says field a → SaysIfThere Says field b → AreBoth Same a b
one_if_there Says Same one None None None x y = tt
one_if_there Says Same one None None (Some b) x y = absurd y
one_if_there Says Same one None (Some a) b x y = absurd x
one_if_there Says Same one (Some d) None b x y = absurd x
one_if_there Says Same one (Some d) (Some a) None x y = absurd y
one_if_there Says Same one (Some d) (Some a) (Some b) x y = one d a b x y

one_told : {A : Type 0} (Says : Data → Timed A → Type 0) → ((d : Data) (a b : Timed A) → Says d a → Says d b → a ≡ b) → (field : Option Data) (a b : Option (Vec (Timed A) Global))
    → SaysIfThere (λ list xs. ArePaired Says (elements list) xs.items) field a → SaysIfThere (λ list xs. ArePaired Says (elements list) xs.items) field b → AreBoth (λ xs ys. xs.items ≡ ys.items) a b
one_told {A} Says one field a b x y =
    one_if_there (λ list (xs : Vec (Timed A) Global). ArePaired Says (elements list) xs.items) (λ xs ys. xs.items ≡ ys.items) (λ d xs ys p q. one-list Says one (elements d) xs.items ys.items p q) field a b x y

-- ---- a transcript

pub one-transcript : (cases : List Data) (d : Data) (a b : Told) → SaysTranscript cases d a → SaysTranscript cases d b → AreSameTranscripts a b
one-transcript cases d a b x y =
    let telling = x.telling in
    let other = y.telling in
    record {
      case = one_case cases (named (codes "case") d) a.case b.case x.case y.case;
      drove = one-strings (drove_of d) a.transcript.drove.items b.transcript.drove.items telling.drove other.drove;
      events = one_told SaysEventAt one_event_at (named (codes "events") d) a.transcript.events b.transcript.events telling.events other.events;
      counters = one_told SaysChange one_change (named (codes "counters") d) a.transcript.counters b.transcript.counters telling.counters other.counters;
      end = one_if_there SaysEnd (λ e f. e ≡ f) one_end (named (codes "end") d) a.transcript.end b.transcript.end telling.end other.end;
    }
