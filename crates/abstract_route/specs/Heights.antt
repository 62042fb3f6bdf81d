-- How far a row has grown, as a number: the measure of all that grows rows until nothing changes.
use Rattle.std.specs.Prelude.{ℕ, ◌+◌, ◌-◌}
use Rattle.abstract_route.specs.declared.rows.Row.{Row}
use Rattle.abstract_route.specs.declared.rows.Range.{Range}

-- how far a range has grown from the empty one
unfoldable pub range_rank : Range → ℕ
range_rank r = (18446744073709551615 - r.low) + r.high

-- how far a row has grown from the row of no route; a set grows as the number that it is
unfoldable pub row_rank : Row → ℕ
row_rank r = range_rank r.weight + range_rank r.preference + range_rank r.length + range_rank r.origin + range_rank r.med +
    (r.has + r.lacks + r.may + (18446744073709551615 - r.must))
