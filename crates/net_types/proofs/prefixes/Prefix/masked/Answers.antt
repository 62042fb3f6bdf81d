use Rattle.std.proofs.Common.{◌<◌, ◌^◌}
use Rattle.net_types.proofs.MaskLemmas.{masked_is_prefix}
use Rattle.net_types.proofs.prefixes.Prefix.masked.Goals as goal

pub invariant_of-result : goal.invariant_of-result
invariant_of-result c = masked_is_prefix _ _ _ (let small : c.args.address < 2 ^ 32 = c.ranges.address.fits in rw c.from.ensures small) c.requires c.span-span.ensures
