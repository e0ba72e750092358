-- What an attempt makes of a window.
use Rattle.std.proofs.Common.{◌≡◌, ℕ, ◌+◌, ◌-◌, ◌<◌, ◌≤◌, Some, None, List, [], ◌∷◌, ◌++◌, length, sym, ◌∙◌, subst, inl, inr, arith}
use Rattle.std.proofs.lemmas.Bool.{cases_lt}
use Rattle.can_frame.specs.Parts.{Parts}
use Rattle.can_frame.specs.Arbitration.{arbitration_field, Before}
use Rattle.can_frame.proofs.BeforeLemmas.{Before-differs, Before-one_way}
use Rattle.can_wire.specs.Wire.{wire}
use Rattle.can_bus.specs.Course.{Transmission, hit_time}
use Rattle.can_bus.specs.Quiet.{busy_time}
use Rattle.can_bus.proofs.Members.{stands-none, stands-here, stands-cases, stands-middle, stands-among, stands-either}
use Rattle.can_plan.specs.declared.message.Message.{Message}
use Rattle.can_plan.specs.Messages.{IsIn, Release, IsOf, IsWithin, hit_times}
use Rattle.can_plan.specs.Analysis.{Ranking, blocking, widest, busied, IsBound, arrivals}
use Rattle.can_plan.proofs.Counts.{busy-cons, busy-none, count, of-has, count-yes, count-more, count-span, greatest-le, stretch-cons}
use Rattle.can_plan.proofs.Windows.{Fits, Apart, InOrder, IsLeft, IsNextOf, upper, IsRanked, IsUpper, AreSince, Window, Ready, counted}

module _ (messages : List Message) (x : Release) (after : List Release) where
  ordered-among : (before : List Release) → InOrder messages (before ++ x ∷ after) → InOrder messages (before ++ after)
  ordered-among [] o = o.1
  ordered-among (z ∷ before) o = (λ y s. o.0 y (stands-among before x after y s), ordered-among before o.1)

  ordered-behind : (before : List Release) → InOrder messages (before ++ x ∷ after) → (z : Release) → IsIn after z → Apart messages x z
  ordered-behind [] o z s = o.0 z s
  ordered-behind (y ∷ before) o z s = ordered-behind before o.1 z s

  pub left-among : (before : List Release) → IsLeft messages (before ++ x ∷ after) → IsLeft messages (before ++ after)
  left-among before is = record { fits = λ z s. is.fits z (stands-among before x after z s); ordered = ordered-among before is.ordered }

  -- of one message, the next to start comes before all others
  pub apart-next : (free start : ℕ) (before : List Release) → IsLeft messages (before ++ x ∷ after) → IsNextOf free start x before after → (z : Release) → IsIn (before ++ after) z → Apart messages x z
  apart-next free start before is next z s m there of_x of_z =
      elim (stands-either before after z s) [
        | inl first ↦ absurd (next.foremost z first (of_z ∙ sym of_x))
        | inr behind ↦ ordered-behind before is.ordered z behind m there of_x of_z
      ]

-- the level at which an attempt is hit, and how long it keeps the bus then
pub record IsHitIn (f : Parts) (offset : ℕ) : Type 0 where
  pub behind : 1 ≤ offset
  pub before_last : offset + 2 ≤ length (wire f)
  pub cost : hit_time f offset ≤ busy_time f + 13

abbrev pub sent_attempt : ℕ → Parts → Transmission
sent_attempt start f = record { time = start; frame = f; hit = None }

abbrev pub broken_attempt : ℕ → Parts → ℕ → Transmission
broken_attempt start f offset = record { time = start; frame = f; hit = Some offset }

module _ (messages : List Message) (ranking : Ranking) (is : IsRanked messages ranking) (most : ℕ → ℕ) (long free start : ℕ) (x : Release) (before after : List Release) (coming : List Transmission)
    (lefts : IsLeft messages (before ++ x ∷ after)) (next : IsNextOf free start x before after) where
  abbrev left : List Release
  left = before ++ x ∷ after

  stands : IsIn (before ++ x ∷ after) x
  stands = stands-middle before x after

  -- ---- a frame of the message, or of one before it

  module _ (of : IsUpper ranking x) where
    short : IsWithin of.0 x
    short = (lefts.fits x stands).within of.0 (is.members of.0 of.1) of.2

    since-sent : {a : List Transmission} → (w : Window messages ranking most long start left a) → AreSince messages ranking w.from (x ∷ w.served)
    since-sent w = record {
      began = λ y s. elim (stands-cases x w.served y s) [ inl e ↦ subst (λ (k : Release). w.from ≤ k.offered) e (w.later x stands of) | inr k ↦ w.since.began y k ];
      members = λ y s. elim (stands-cases x w.served y s) [
        | inl e ↦ subst (λ (k : Release). (m : Message) × IsIn (upper ranking) m × IsOf m k × (busy_time k.frame ≤ m.longest)) e (of.0, of.1, of.2, short.short)
        | inr k ↦ w.since.members y k
      ];
      fits = λ y s. elim (stands-cases x w.served y s) [ inl e ↦ subst (Fits messages) e (lefts.fits x stands) | inr k ↦ w.since.fits y k ];
      spaced = λ m s. (λ y k a b. w.apart y x k stands m s a b, w.since.spaced m s);
    }

    offers-sent : {a : List Transmission} → (r : Ready messages ranking most long start left a) → (y : Release) → IsIn (x ∷ r.window.served) y → y.offered < r.window.from + long
    offers-sent r y s = elim (stands-cases x r.window.served y s) [
      | inl e ↦ subst (λ (k : Release). k.offered < r.window.from + long) e (let a = next.in_time in let b = r.soon in omega arith)
      | inr k ↦ r.window.in_long.offers y k
    ]

    pub sent-upper : Ready messages ranking most long start left (sent_attempt start x.frame ∷ coming) → Window messages ranking most long (start + busy_time x.frame) (before ++ after) coming
    sent-upper r = record {
      from = w.from;
      served = x ∷ w.served;
      past = w.past;
      since = since-sent w;
      later = λ z s. w.later z (stands-among before x after z s);
      apart = λ y z s t. elim (stands-cases x w.served y s) [
        | inl e ↦ subst (λ (k : Release). Apart messages k z) e (apart-next messages x after free start before lefts next z t)
        | inr k ↦ w.apart y z k (stands-among before x after z t)
      ];
      spent = (let h = w.spent in let one = busy-cons x w.served in omega arith);
      hits_began = w.hits_began;
      few = w.few;
      in_long = record { offers = offers-sent r; hits = w.in_long.hits };
      in_delay = λ q d enough few.
          let fewer : count ranking.message w.served ≤ q = (let a = count-more ranking.message x w.served in omega arith) in
          let early = r.delay q d enough fewer in
          record {
            offers = λ y s. elim (stands-cases x w.served y s) [
              | inl e ↦ subst (λ (k : Release). k.offered < w.from + (d + 1)) e (let a = next.in_time in omega arith)
              | inr k ↦ (w.in_delay q d enough fewer).offers y k
            ];
            hits = (w.in_delay q d enough fewer).hits;
          };
    }
      where
        w : Window messages ranking most long start left (sent_attempt start x.frame ∷ coming)
        w = r.window

    broken-cost : (offset : ℕ) → IsHitIn x.frame offset → hit_time x.frame offset ≤ widest ranking + 13
    broken-cost offset hit =
        let a = hit.cost in
        let b = short.short in
        let c = greatest-le (λ m. m.longest) (upper ranking) of.0 of.1 in
        omega arith

    broken-far : (offset : ℕ) → IsHitIn x.frame offset → offset + 5 ≤ widest ranking
    broken-far offset hit =
        let a = hit.before_last in
        let b = short.short in
        let c = greatest-le (λ m. m.longest) (upper ranking) of.0 of.1 in
        omega arith

    pub broken-upper : (offset : ℕ) → IsHitIn x.frame offset → Ready messages ranking most long start left (broken_attempt start x.frame offset ∷ coming) →
        Window messages ranking most long (start + hit_time x.frame offset) left coming
    broken-upper offset hit r = record {
      from = w.from;
      served = w.served;
      past = (start + offset) ∷ w.past;
      since = w.since;
      later = w.later;
      apart = w.apart;
      spent = (let h = w.spent in let cost = broken-cost offset hit in omega arith);
      hits_began = λ t s. elim (stands-cases (start + offset) w.past t s) [ inl e ↦ (let a = w.later x stands of in let b = next.in_time in omega arith) | inr k ↦ w.hits_began t k ];
      few = λ t len. (let h = w.few t len in
          let a = stretch-cons t len (start + offset) w.past in
          let b = stretch-cons t len (start + offset) (hit_times coming) in
          omega (arith, h, a, b));
      in_long = record {
        offers = w.in_long.offers;
        hits = λ t s. elim (stands-cases (start + offset) w.past t s) [
          | inl e ↦ (let a = r.soon in let far = broken-far offset hit in omega arith)
          | inr k ↦ w.in_long.hits t k
        ];
      };
      in_delay = λ q d enough few.
          let early = r.delay q d enough few in
          record {
            offers = (w.in_delay q d enough few).offers;
            hits = λ t s. elim (stands-cases (start + offset) w.past t s) [
              | inl e ↦ (let far = broken-far offset hit in omega arith)
              | inr k ↦ (w.in_delay q d enough few).hits t k
            ];
          };
    }
      where
        w : Window messages ranking most long start left (broken_attempt start x.frame offset ∷ coming)
        w = r.window

  -- ---- a frame of a lower message: then no other is offered yet

  module _ (n : Message) (lower : IsIn ranking.lower n) (of : IsOf n x) where
    none-offered : (z : Release) → IsIn left z → IsUpper ranking z → start + 1 ≤ z.offered
    none-offered z s upper_of =
        elim (cases_lt start z.offered) [
          | inl late ↦ omega arith
          | inr early ↦
              let before_n : Before upper_of.0.field n.field = is.above upper_of.0 n upper_of.1 lower in
              absurd (elim (next.first z s early) [
                | inl first ↦ Before-one_way upper_of.0.field n.field before_n
                    (subst (λ f. Before f upper_of.0.field) of (subst (Before (arbitration_field x.frame)) upper_of.2 first))
                | inr same ↦ Before-differs upper_of.0.field n.field before_n (sym upper_of.2 ∙ sym same ∙ of)
              ])
        ]

    fits-lower : IsWithin n x
    fits-lower = (lefts.fits x stands).within n (is.others n lower) of

    blocked : n.longest ≤ blocking ranking + 1
    blocked = let h = greatest-le (λ m. m.longest - 1) ranking.lower n lower in omega arith

    wide : 0 < widest ranking
    wide = let h = greatest-le (λ m. m.longest) (upper ranking) ranking.message (stands-here ranking.message ranking.higher) in let some = is.sized in omega arith

    pub sent-lower : Window messages ranking most long free left (sent_attempt start x.frame ∷ coming) → Window messages ranking most long (start + busy_time x.frame) (before ++ after) coming
    sent-lower w = record {
      from = start + 1;
      served = [];
      past = [];
      since = record { began = λ y s. absurd (stands-none y s); members = λ y s. absurd (stands-none y s); fits = λ y s. absurd (stands-none y s); spaced = λ m s. tt };
      later = λ z s. none-offered z (stands-among before x after z s);
      apart = λ y z s. absurd (stands-none y s);
      spent = (let a = fits-lower.short in let b = blocked in let none = busy-none in omega arith);
      hits_began = λ t s. absurd (stands-none t s);
      few = λ t len. (let h = w.few t len in omega arith);
      in_long = record { offers = λ y s. absurd (stands-none y s); hits = λ t s. absurd (stands-none t s) };
      in_delay = λ q d e f. record { offers = λ y s. absurd (stands-none y s); hits = λ t s. absurd (stands-none t s) };
    }

    pub broken-lower : (offset : ℕ) → IsHitIn x.frame offset → busied most ranking long ≤ long →
        Window messages ranking most long free left (broken_attempt start x.frame offset ∷ coming) → Window messages ranking most long (start + hit_time x.frame offset) left coming
    broken-lower offset hit enough w = record {
      from = start + 1;
      served = [];
      past = (start + offset) ∷ [];
      since = record { began = λ y s. absurd (stands-none y s); members = λ y s. absurd (stands-none y s); fits = λ y s. absurd (stands-none y s); spaced = λ m s. tt };
      later = none-offered;
      apart = λ y z s. absurd (stands-none y s);
      spent = (let a = fits-lower.short in let b = blocked in let c = hit.cost in let none = busy-none in omega arith);
      hits_began = λ t s. elim (stands-cases (start + offset) [] t s) [ inl e ↦ (let a = hit.behind in omega arith) | inr k ↦ absurd (stands-none t k) ];
      few = λ t len. (let h = w.few t len in
          let a = stretch-cons t len (start + offset) [] in
          let b = stretch-cons t len (start + offset) (hit_times coming) in
          omega (arith, h, a, b));
      in_long = record {
        offers = λ y s. absurd (stands-none y s);
        hits = λ t s. elim (stands-cases (start + offset) [] t s) [
          | inl e ↦ (let a = fits-lower.short in let b = blocked in let c = hit.before_last in let d = wide in omega arith)
          | inr k ↦ absurd (stands-none t k)
        ];
      };
      in_delay = λ q d delays f. record {
        offers = λ y s. absurd (stands-none y s);
        hits = λ t s. elim (stands-cases (start + offset) [] t s) [
          | inl e ↦ (let a = fits-lower.short in let b = blocked in let c = hit.before_last in let k = wide in omega arith)
          | inr k ↦ absurd (stands-none t k)
        ];
      };
    }

  -- ---- a frame of the message itself ends in time

  pub ends-within : (bound limit : ℕ) → (b : IsBound most limit ranking bound) → long ≡ b.long → IsOf ranking.message x → Ready messages ranking most long start left (sent_attempt start x.frame ∷ coming) →
      start + length (wire x.frame) ≤ x.released + bound
  ends-within bound limit b at of r =
      let w = r.window in
      let own : IsIn (upper ranking) ranking.message = stands-here ranking.message ranking.higher in
      let here : IsUpper ranking x = (ranking.message, own, of) in
      let since = since-sent here w in
      let in_network = is.members ranking.message own in
      let k = short here in
      let some = counted messages ranking is w.from long (x ∷ w.served) since (offers-sent here r) ranking.message own in
      let one = count-yes ranking.message x w.served (of-has ranking.message x of) in
      let q : ℕ = count ranking.message w.served in
      let few : q < arrivals ranking.message b.long = (let h : 1 + q ≤ arrivals ranking.message long = (let c : count ranking.message (x ∷ w.served) ≤ arrivals ranking.message long = some in omega arith) in
      subst (λ l. q < arrivals ranking.message l) at (omega arith)) in
      let each = b.each q few in
      let early = r.delay q each.0 each.2.delays (omega arith) in
      let span = count-span ranking.message w.from x w.served (since.spaced ranking.message in_network)
      (λ y s is_of. let f = (since.fits y s).within ranking.message in_network is_of in let a = since.began y s in let c = f.soon in omega arith) of in
      let enough = each.2.enough in
      let size = k.short in
      omega arith
