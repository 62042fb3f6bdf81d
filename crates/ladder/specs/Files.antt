-- The configuration files of a ladder, byte by byte.
use Rattle.std.specs.Prelude.{ℕ, ◌+◌, ◌*◌, ◌==◌, List as Seq, [], ◌∷◌, map, codes, if◌then◌else◌}
use Rattle.std.specs.List.{range_with_len}
use Rattle.std.specs.Fmt.{decimal}
use Rattle.net_types.specs.declared.config.SourceFile.{SourceFile}
use Rattle.net_types.specs.Then.{◌then◌}
use Rattle.ladder.specs.declared.links.LadderLink.{LadderLink}
use Rattle.ladder.specs.declared.ports.Port.{Port}
use Rattle.ladder.specs.Links.{ladder_links}
use Rattle.ladder.specs.Names.{host_name}
use Rattle.ladder.specs.Ports.{ports_of}

-- the interfaces of a router, one for each end of a link, numbered from the first on
unfoldable pub interface_line : ℕ → Port → Seq ℕ
interface_line number port =
    codes "interface eth" then decimal number then codes "\n ip address 10.0." then decimal port.link then codes "." then
    decimal port.own then codes "/30\n"

abbrev pub interface_lines : ℕ → Seq Port → Seq ℕ
interface_lines first [] = []
interface_lines first (port ∷ ports) = interface_line first port then interface_lines (first + 1) ports

-- its neighbors, where a link is a session; router k has AS 65001 + k
unfoldable pub neighbor_line : Port → Seq ℕ
neighbor_line port =
    if port.session
    then codes " neighbor 10.0." then decimal port.link then codes "." then decimal port.theirs then codes " remote-as " then
    decimal (65001 + port.other) then codes "\n"
    else []

abbrev pub neighbor_lines : Seq Port → Seq ℕ
neighbor_lines [] = []
neighbor_lines (port ∷ ports) = neighbor_line port then neighbor_lines ports

-- the first router originates the prefix
unfoldable pub network_line : ℕ → Seq ℕ
network_line router = if router == 0 then codes " network 10.9.0.0/24\n" else []

-- its BGP: each router has a session along its row
unfoldable pub speaker_lines : ℕ → Seq ℕ → Seq ℕ
speaker_lines router neighbors =
    codes "router bgp " then decimal (65001 + router) then codes "\n no bgp ebgp-requires-policy\n" then neighbors then
    network_line router

unfoldable pub file_text : Seq ℕ → ℕ → Seq Port → Seq ℕ
file_text host router ports =
    codes "hostname " then host then codes "\n" then interface_lines 0 ports then speaker_lines router (neighbor_lines ports)

abbrev pub file_name : Seq ℕ → Seq ℕ
file_name host = host then codes ".conf"

-- the file of a router
unfoldable pub file_of : ℕ → Seq LadderLink → ℕ → SourceFile
file_of columns links router = record {
  name = file_name (host_name columns router);
  text = file_text (host_name columns router) router (ports_of links router);
}

-- the files of all routers, in the order of their numbers, which is that of their names
abbrev pub ladder_files : ℕ → Seq SourceFile
ladder_files columns = map (file_of columns (ladder_links columns)) (range_with_len 0 (2 * columns))
