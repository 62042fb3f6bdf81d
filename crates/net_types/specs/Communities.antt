-- Communities in a text (RFC 1997).
use Rattle.std.specs.Prelude.{ℕ, ◌+◌, ◌*◌, List, [], ◌∷◌, codes, Option, Some, None, if◌then◌else◌}
use Rattle.net_types.specs.Cut.{parts}
use Rattle.net_types.specs.NetFacts.{no_export, no_advertise}
use Rattle.net_types.specs.Numerals.{number_in}
use Rattle.net_types.specs.Order.{same_text}

-- half of a community: a decimal number from 0 to 65,535
abbrev pub half_of : List ℕ → Option ℕ
half_of text = number_in 0 65535 text

-- the first half counts 65,536 times
abbrev pub of_halves : Option ℕ → Option ℕ → Option ℕ
of_halves (Some first) (Some second) = Some (first * 65536 + second)
of_halves _ _ = None

abbrev pub community_of_parts : List (List ℕ) → Option ℕ
community_of_parts (first ∷ second ∷ []) = of_halves (half_of first) (half_of second)
community_of_parts _ = None

-- the community of a text: two halves joined by `:`, or the name of a well-known one
abbrev pub community_of : List ℕ → Option ℕ
community_of text =
    if same_text (codes "no-export") text then Some no_export else
    (if same_text (codes "no-advertise") text then Some no_advertise else community_of_parts (parts 58 text))
