use Rattle.std.proofs.Common.{subst}
use Rattle.can_conform.specs.Walks.{AreMarked}
use Rattle.can_conform.proofs.OutlookLemmas.{marked-kept}
use Rattle.can_conform.proofs.outlook.Outlook.look.Goals as goal

pub returns-clause-foresees : goal.returns-clause-foresees
returns-clause-foresees c =
    let s = c.args.script.now in
    let t = c.args.time in
    let last = c.saturating_add-self.result in
    let first = c.mark_all.new.marks in
    let both = c.mark_all-2.new.marks in
    record {
      offers = marked-kept s.offers.items t last first both c.mark_all-2.ensures.kept (subst (λ xs. AreMarked xs t last first) c.deref.ensures.value c.mark_all.ensures.marked);
      holds = subst (λ xs. AreMarked xs t last both) c.deref-2.ensures.value c.mark_all-2.ensures.marked;
    }
