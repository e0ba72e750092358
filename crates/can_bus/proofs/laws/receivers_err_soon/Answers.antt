use Rattle.can_bus.proofs.Lateness.{lateness-few, late-at_once, refused-exactly}
use Rattle.can_bus.proofs.LatenessFaults.{refused-late}
use Rattle.can_bus.proofs.laws.receivers_err_soon.Goals as goal

pub returns : goal.returns
returns c = record {
  few = lateness-few;
  at_once = λ f o is some. late-at_once f o is some;
  refused = λ f o k is some. refused-exactly f o k is some;
  fault = λ f o is some within. refused-late f is o some within;
}
