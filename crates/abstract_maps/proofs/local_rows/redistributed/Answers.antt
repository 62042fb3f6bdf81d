use Rattle.std.proofs.Common.{ap, ◌∙◌, arith}
use Rattle.abstract_route.specs.declared.rows.Row.{Row}
use Rattle.concrete_algebra.specs.LocalRoutes.{originated}
use Rattle.abstract_maps.specs.AbstractMap.{abstract_map}
use Rattle.abstract_maps.proofs.MapLemmas.{map_exact}
use Rattle.abstract_maps.proofs.local_rows.redistributed.Goals as goal

pub returns : goal.returns
returns c =
    c.run_map_abs.ensures ∙
    ap (λ (row : Row). abstract_map c.args.net.now c.args.u c.args.policy c.args.prefix row) c.originated-begun.ensures ∙
    map_exact c.args.net.now c.args.u c.args.policy c.args.prefix (originated c.args.origin c.args.med) c.valid.ensures c.requires (omega arith)
