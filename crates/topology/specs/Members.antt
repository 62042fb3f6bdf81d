-- The members of each group of interfaces, as far as the kind of the group needs them.
use Rattle.std.specs.Prelude.{ℕ, ◌≡◌, List, Option, Some, None, fold}
use Rattle.std.specs.BTreeMap.{BTreeMap}
use Rattle.net_types.specs.PrefixValue.{PrefixValue}
use Rattle.topology.specs.declared.interfaces.Port.{Port}
use Rattle.topology.specs.declared.groups.Group.{Group}
use Rattle.topology.specs.declared.groups.Group.TheVariants.{Alone, Shared}
use Rattle.topology.specs.declared.groups.Members.{Members}
use Rattle.topology.specs.declared.groups.Members.TheVariants.{One, Two, More}
use Rattle.topology.specs.ByPrefix.{value_at}
use Rattle.topology.specs.Groups.{group, joined}

-- these members and one more
abbrev pub with_member : Option Members → Port → Members
with_member None port = One port
with_member (Some (One a)) port = Two a port
with_member (Some (Two a b)) port = More
with_member (Some More) port = More

-- the members of a group, if it has any
abbrev pub members_of : List Port → Option Members
members_of ports = fold (λ members port. Some (with_member members port)) None ports

-- what they make
abbrev pub kind_of_members : Option Members → Group
kind_of_members None = Shared
kind_of_members (Some (One a)) = Alone
kind_of_members (Some (Two a b)) = joined a b
kind_of_members (Some More) = Shared

-- the table has the members of the group of each subnet
abbrev pub IsTableOf : List Port → BTreeMap (ℕ × ℕ) Members → Type 0
IsTableOf ports table = (subnet : PrefixValue) → value_at table subnet ≡ members_of (group ports subnet)
