-- Which of two routes is better: the first step that sees a difference decides, else both may be taken.
-- Local preference, length of the path, origin and MED are after RFC 4271, 9.1.1 and 9.1.2.2, a to c.
-- Weight, local before learned, MED of one sending router alone and the open tie are this project's own.
use Rattle.std.specs.Prelude.{ℕ, ◌==◌, if◌then◌else◌, Bool, false, List, [], ◌∷◌, length, Option, Some}
use Rattle.std.specs.declared.cmp.Ordering.{Ordering}
use Rattle.std.specs.declared.cmp.Ordering.TheVariants.{Equal}
use Rattle.std.specs.Ordering.{is_lt, nat_cmp, ordering_then}
use Rattle.net_types.specs.declared.config.Origin.{Origin}
use Rattle.net_types.specs.declared.config.Origin.TheVariants.{Igp, Egp, Incomplete}
use Rattle.net_types.specs.declared.routes.Source.{Source}
use Rattle.net_types.specs.declared.routes.Source.TheVariants.{Local, Learned}
use Rattle.net_types.specs.declared.routes.Route.{Route}
use Rattle.net_types.specs.Arcs.{sender_of}
use Rattle.net_types.specs.NetValue.{NetValue}

-- local comes before learned
abbrev pub source_rank : Source → ℕ
source_rank Local = 0
source_rank (Learned arc) = 1

-- the order of origins, IGP first
abbrev pub origin_rank : Origin → ℕ
origin_rank Igp = 0
origin_rank Egp = 1
origin_rank Incomplete = 2

-- the two are one router
abbrev pub same_router : Option ℕ → Option ℕ → Bool
same_router (Some u) (Some v) = u == v
same_router _ _ = false

-- lower MED first, where both routes are learned from one router, maybe over two links; else no difference
abbrev pub med_step : NetValue → Source → Source → ℕ → ℕ → Ordering
med_step net (Learned a) (Learned b) m n = if same_router (sender_of net a) (sender_of net b) then nat_cmp m n else Equal
med_step net _ _ m n = Equal

-- the steps in their order; `Less` says that a is better
abbrev pub steps : NetValue → Route → Route → List Ordering
steps net a b =
    nat_cmp b.weight a.weight ∷
    nat_cmp b.preference a.preference ∷
    nat_cmp (source_rank a.source) (source_rank b.source) ∷
    nat_cmp (length a.path) (length b.path) ∷
    nat_cmp (origin_rank a.origin) (origin_rank b.origin) ∷
    med_step net a.source b.source a.med b.med ∷
    []

-- the first step that sees a difference
abbrev pub first_difference : List Ordering → Ordering
first_difference [] = Equal
first_difference (step ∷ later) = ordering_then step (first_difference later)

-- a is better than b
abbrev pub is_better : NetValue → Route → Route → Bool
is_better net a b = is_lt (first_difference (steps net a b))
