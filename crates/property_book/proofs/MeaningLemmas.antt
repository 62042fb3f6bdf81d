-- What holds with up to so many failed links holds with up to fewer.
use Rattle.std.proofs.Common.{arith}
use Rattle.property_book.specs.Laws.{HoldsWithFewer}

pub holds_with_fewer : HoldsWithFewer
holds_with_fewer net property fewer less holds = λ u is failed permitted.
    holds u is failed (record { few = (let f = permitted.few in omega arith); ascending = permitted.ascending; below = permitted.below })
