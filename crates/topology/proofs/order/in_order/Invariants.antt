use Rattle.std.proofs.Common.{◌≡◌, map, drop, fold}
use Rattle.topology.specs.Ascending.{put}
use Rattle.topology.specs.Live.{host_before, same_host, in_order}
use Rattle.topology.proofs.order.in_order.Given as goal

abbrev pub invariant-loop-config : goal.invariant-loop-config
invariant-loop-config l = fold (λ done x. put same_host host_before done x) (map (λ c. c.now) l.done.items) (drop l.config-index l.configs) ≡ in_order l.configs
