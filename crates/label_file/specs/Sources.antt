-- The source of a label: local, or learned over one direction of a link.
use Rattle.std.specs.Prelude.{ℕ, ◌==◌, Bool, true, false, List as Seq, [], ◌∷◌, find, codes, Option, Some, None, option_map, option_and_then, if◌then◌else◌}
use Rattle.std.specs.Option.{option_map_or}
use Rattle.toml.specs.Data.{Members}
use Rattle.net_types.specs.declared.arcs.Arc.{Arc}
use Rattle.net_types.specs.declared.routes.Source.{Source}
use Rattle.net_types.specs.declared.routes.Source.TheVariants.{Local, Learned}
use Rattle.net_types.specs.Arcs.{receiver_of}
use Rattle.net_types.specs.NetValue.{NetValue}
use Rattle.net_types.specs.Order.{same_text}
use Rattle.toml_fields.specs.Fields.{text_at, number_at}

-- whether the arc goes to the router
abbrev pub is_to : NetValue → ℕ → Arc → Bool
is_to net router arc = option_map_or (λ receiver. receiver == router) (receiver_of net arc) false

-- the two directions of a link
abbrev pub directions : ℕ → Seq Arc
directions link = record { link = link; down = true } ∷ record { link = link; down = false } ∷ []

-- the direction of a link that goes to the router: there is none where the link has no end there, or is none
-- of the network
abbrev pub arc_to : NetValue → ℕ → ℕ → Option Arc
arc_to net router link = find (is_to net router) (directions link)

-- the source of a label learned by the router over the link of the key `link`
abbrev pub learned_at : NetValue → ℕ → Members → Option Source
learned_at net router fields = option_map Learned (option_and_then (arc_to net router) (number_at 0 255 (codes "link") fields))

-- the source that a word says
abbrev pub source_of : NetValue → ℕ → Members → Seq ℕ → Option Source
source_of net router fields word =
    if same_text word (codes "local") then Some Local else
    if same_text word (codes "learned") then learned_at net router fields else None

abbrev pub source_at : NetValue → ℕ → Members → Option Source
source_at net router fields = option_and_then (source_of net router fields) (text_at (codes "source") fields)
