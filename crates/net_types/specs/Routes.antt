-- Words of routes: an origin in a text; a router on a path and the MED that is sent (RFC 4271, sections 9.1.2 and 5.1.4).
use Rattle.std.specs.Prelude.{ℕ, ◌==◌, Bool, List, codes, Option, Some, None, if◌then◌else◌}
use Rattle.std.specs.List.{list_any}
use Rattle.net_types.specs.declared.config.Origin.{Origin}
use Rattle.net_types.specs.declared.config.Origin.TheVariants.{Igp, Egp, Incomplete}
use Rattle.net_types.specs.declared.routes.Source.{Source}
use Rattle.net_types.specs.declared.routes.Source.TheVariants.{Local, Learned}
use Rattle.net_types.specs.Order.{same_text}

-- the origin of a text
abbrev pub origin_of : List ℕ → Option Origin
origin_of text =
    if same_text (codes "igp") text then Some Igp else
    (if same_text (codes "egp") text then Some Egp else (if same_text (codes "incomplete") text then Some Incomplete else None))

-- the router is on the path
abbrev pub is_on : ℕ → List ℕ → Bool
is_on router path = list_any (λ hop. router == hop) path

-- the MED that is sent: that of a local route; what a learned route came with stays at its router, and 0 is sent
abbrev pub sent_med : Source → ℕ → ℕ
sent_med Local med = med
sent_med (Learned arc) med = 0
