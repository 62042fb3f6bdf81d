-- The stable routing problem: what stability, and each proof about it, reads of a network, a prefix, a failure
-- set and the OSPF distances.
use Rattle.std.specs.Prelude.{ℕ, Bool, List, length, Option, unwrap_or}
use Rattle.net_types.specs.declared.arcs.Arc.{Arc}
use Rattle.net_types.specs.declared.routes.Route.{Route}
use Rattle.net_types.specs.Arcs.{is_up, receiver_of, sender_of}
use Rattle.net_types.specs.Better.{is_better}
use Rattle.net_types.specs.Distance.{distance_at}
use Rattle.net_types.specs.NetValue.{NetValue}
use Rattle.net_types.specs.Owners.{owns}
use Rattle.net_types.specs.PrefixValue.{PrefixValue}
use Rattle.concrete_algebra.specs.Carrying.{carry_gives}
use Rattle.concrete_algebra.specs.LocalRoutes.{local_of}

-- Routers and links are numbered from 0, and `routers` and `links` are their counts. The arcs that are up are those
-- of sessions without failed links; `sender` and `receiver` are asked of them alone.
pub record Problem : Type 0 where
  pub routers : ℕ
  pub links : ℕ
  pub up : Arc → Bool
  pub sender : Arc → ℕ
  pub receiver : Arc → ℕ
  pub owner : ℕ → Bool
  pub local : ℕ → Option Route
  pub carry : Arc → Route → Option Route
  pub better : Route → Route → Bool

-- the problem of a network, for one prefix, with these links failed and these distances
abbrev pub problem_of : NetValue → PrefixValue → List ℕ → List (Option ℕ) → Problem
problem_of net prefix failed distances = record {
  routers = length net.routers;
  links = length net.links;
  up = is_up net failed;
  sender = λ arc. unwrap_or (sender_of net arc) 0;
  receiver = λ arc. unwrap_or (receiver_of net arc) 0;
  owner = λ u. owns net u prefix;
  local = λ u. local_of net prefix u (distance_at distances u);
  carry = carry_gives net prefix;
  better = is_better net;
}
