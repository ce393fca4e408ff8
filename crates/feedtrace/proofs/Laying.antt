-- Laws of changing a store: all but it is as it was. Assumes nothing.
use Rattle.std.proofs.Common.{◌≡◌, Some, refl}
use Rattle.feedtrace.specs.declared.session.Session.{Session}
use Rattle.feedtrace.specs.Failures.{Carried}
use Rattle.feedtrace.specs.Layerings.{Layered}
use Rattle.feedtrace.specs.Laying.{Changed}

pub changed_some : (P : Layered → Carried → Layered → Type 0) (s : Session) (l m : Layered) (r : Carried)
    → s.store ≡ Some l → P l r m
    → Changed P s r (record { queries = s.queries; store = Some m; book = s.book; loading = s.loading })
changed_some P s l m r is p =
    (record { queries = refl; book = refl; loading = refl }, rw is (m, (refl, p)))
