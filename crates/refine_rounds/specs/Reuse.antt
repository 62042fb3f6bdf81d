-- What an idle link is good for: where it fails too, the result of the case stays the same. All of this is the project's
-- own.
use Rattle.std.specs.Prelude.{ℕ, ◌≡◌, ◌↔◌, true, false, List, Some}
use Rattle.net_types.specs.declared.arcs.Arc.{Arc}
use Rattle.net_types.specs.Arcs.{sender_of}
use Rattle.net_types.specs.FailSets.{holds, without}
use Rattle.net_types.specs.NetFacts.{IsNet}
use Rattle.net_types.specs.NetValue.{NetValue}
use Rattle.net_types.specs.PrefixValue.{PrefixValue}
use Rattle.net_types.specs.Sets.{has}
use Rattle.abstract_route.specs.Rows.{bottom, row_at}
use Rattle.abstract_maps.specs.Transfer.{transfer}
use Rattle.refine_rounds.specs.Idle.{IsIdle}
use Rattle.refine_rounds.specs.Results.{CaseValue, result_of}

-- the idle links of a result are those of its case
abbrev pub IdleLinksAre : Type 0
IdleLinksAre =
    (net : NetValue) (prefix : PrefixValue) (failed : List ℕ) → (link : ℕ) →
    (has (result_of net prefix failed).idle link ≡ true) ↔ IsIdle net prefix failed link

-- nothing comes over an idle link, at the rows of the last round too
abbrev pub IdleLinksBringNothing : Type 0
IdleLinksBringNothing =
    (net : NetValue) (prefix : PrefixValue) (failed : List ℕ) (link : ℕ) → IsNet net → IsIdle net prefix failed link →
    (arc : Arc) (v : ℕ) → arc.link ≡ link → sender_of net arc ≡ Some v →
    transfer net prefix arc (row_at (result_of net prefix failed).rows v) ≡ bottom

-- two results are the same, but for which links of the failure set are idle
pub record AreAlike (failed : List ℕ) (a b : CaseValue) : Type 0 where
  pub rows : a.rows ≡ b.rows
  pub certain : a.certain ≡ b.certain
  pub alive : a.alive ≡ b.alive
  pub distances : a.distances ≡ b.distances
  pub idle : (link : ℕ) → holds failed link ≡ false → has a.idle link ≡ has b.idle link

-- the result of a failure set is that of the set without a link which is idle there
abbrev pub IdleLinksMayFail : Type 0
IdleLinksMayFail =
    (net : NetValue) (prefix : PrefixValue) (set : List ℕ) (link : ℕ) → IsNet net → holds set link ≡ true →
    IsIdle net prefix (without set link) link →
    AreAlike set (result_of net prefix set) (result_of net prefix (without set link))
