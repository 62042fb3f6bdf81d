-- What is true of each live interface of a bundle.
use Rattle.std.proofs.Common.{ℕ, ◌+◌, ◌≤◌, ◌<◌, ◌^◌, Bool, true, false, cond, List, [], ◌∷◌, length, arith}
use Rattle.std.specs.List.{AllByRecursion}
use Rattle.std.specs.Option.{IfSome, option_map, unwrap_or}
use Rattle.std.specs.Prelude.{Option, Some, None}
use Rattle.std.proofs.lemmas.List.Elements.{recursion_from_All}
use Rattle.net_types.specs.PrefixValue.{PrefixValue, IsPrefix}
use Rattle.net_types.specs.ConfigFacts.{IsConfig, IsInterface, IsAddressed, IsCost}
use Rattle.net_types.specs.declared.config.RouterConfig.{RouterConfig}
use Rattle.net_types.specs.declared.config.Interface.{Interface}
use Rattle.topology.specs.declared.interfaces.Port.{Port}
use Rattle.topology.specs.Live.{port_of, ports_of, ports_from, is_loopback, runs_ospf}
use Rattle.topology.proofs.RisingLemmas.{All-append, All-filter_map}

-- a live interface of one of so many routers
pub record IsPort (count : ℕ) (port : Port) : Type 0 where
  pub router : port.router < count
  pub address : port.address < 2 ^ 32
  pub subnet : IsPrefix port.subnet
  pub least : 1 ≤ port.cost
  pub most : port.cost ≤ 65535

cost-least : (cost : Option ℕ) → IfSome cost IsCost → 1 ≤ unwrap_or cost 10
cost-least None h = omega arith
cost-least (Some n) h = h.least

cost-most : (cost : Option ℕ) → IfSome cost IsCost → unwrap_or cost 10 ≤ 65535
cost-most None h = omega arith
cost-most (Some n) h = h.most

IsPort-port_of : (count router : ℕ) (config : RouterConfig) (interface : Interface) → router < count → IsInterface interface → IfSome (port_of router config interface) (IsPort count)
IsPort-port_of count router config interface l i = go interface.shutdown interface.address i.address where
  go : (b : Bool) (a : Option (ℕ × PrefixValue)) → IfSome a IsAddressed → IfSome (option_map (λ a. record {
    router = router;
    address = a.0;
    subnet = a.1;
    loopback = is_loopback interface;
    ospf = runs_ospf config interface a.1;
    cost = unwrap_or interface.cost 10;
  }) (cond b None a)) (IsPort count)
  go true a h = tt
  go false None h = tt
  go false (Some a) h = record { router = l; address = h.word; subnet = h.prefix; least = cost-least interface.cost i.cost; most = cost-most interface.cost i.cost }

IsPort-ports_of : (count router : ℕ) (config : RouterConfig) → router < count → IsConfig config → AllByRecursion (IsPort count) (ports_of router config)
IsPort-ports_of count router config l c =
    All-filter_map (λ interface. port_of router config interface) IsInterface (IsPort count) (λ interface i. IsPort-port_of count router config interface l i) config.interfaces (recursion_from_All IsInterface config.interfaces c.interfaces)

pub IsPort-ports_from : (count router : ℕ) (configs : List RouterConfig) → router + length configs ≤ count → AllByRecursion IsConfig configs → AllByRecursion (IsPort count) (ports_from router configs)
IsPort-ports_from count router [] l a = tt
IsPort-ports_from count router (config ∷ configs) l a =
    All-append (IsPort count) (ports_of router config) (ports_from (router + 1) configs) (IsPort-ports_of count router config (omega arith) a.0) (IsPort-ports_from count (router + 1) configs (omega arith) a.1)
