-- What is known of a file after some of its lines.
use Rattle.std.specs.Prelude.{ℕ, ◌≡◌, ◌<◌, List, [], length, Option, None, IsSome}
use Rattle.net_types.specs.declared.config.Interface.{Interface}
use Rattle.net_types.specs.declared.config.BgpConfig.{BgpConfig}
use Rattle.net_types.specs.declared.config.PrefixList.{PrefixList}
use Rattle.net_types.specs.declared.config.CommunityList.{CommunityList}
use Rattle.net_types.specs.declared.config.RouteMap.{RouteMap}
use Rattle.net_types.specs.PrefixValue.{PrefixValue}
use Rattle.frr_reader.specs.declared.modes.Mode.{Mode}
use Rattle.frr_reader.specs.declared.modes.Mode.TheVariants.{Top, InInterface, InBgp, InOspf, InMap, InFamily}
use Rattle.frr_reader.specs.declared.needs.Need.{Need}
use Rattle.frr_reader.specs.Entries.{entry_at}

-- the number of the line, the mode, and the places of the interface, the map and the map's entry that are
-- open, or were last; then the configuration so far, and what its lines need of the whole file
pub record State : Type 0 where
  pub number : ℕ
  pub mode : Mode
  pub open_place : ℕ
  pub open_map : ℕ
  pub open_entry : ℕ
  pub host : Option (List ℕ)
  pub interfaces : List Interface
  pub ospf : Option (List PrefixValue)
  pub bgp : Option BgpConfig
  pub prefix_lists : List PrefixList
  pub community_lists : List CommunityList
  pub maps : List RouteMap
  pub needed : List Need

-- wherever a line stands in a block, what the block is of is there
pub record IsOpen (s : State) : Type 0 where
  pub interface : s.mode ≡ InInterface → s.open_place < length s.interfaces
  pub ospf : s.mode ≡ InOspf → IsSome s.ospf
  pub bgp : s.mode ≡ InBgp → IsSome s.bgp
  pub family : s.mode ≡ InFamily → IsSome s.bgp
  pub entry : s.mode ≡ InMap → IsSome (entry_at s.open_map s.open_entry s.maps)

-- before the first line
abbrev pub start : State
start = record {
  number = 0;
  mode = Top;
  open_place = 0;
  open_map = 0;
  open_entry = 0;
  host = None;
  interfaces = [];
  ospf = None;
  bgp = None;
  prefix_lists = [];
  community_lists = [];
  maps = [];
  needed = [];
}
