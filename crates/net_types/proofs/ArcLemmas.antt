-- What is left of the arcs of links, where a link is left.
use Rattle.std.proofs.Common.{ℕ, zero, suc, ◌≡◌, ◌<◌, ◌+◌, ◌-◌, ◌∷◌, Some, None, arith, refl}
use Rattle.std.specs.List.{range_with_len}
use Rattle.net_types.specs.Arcs.{arcs_left, both_ways, down_of, up_of}

numbers_left : (link end more : ℕ) → end - link ≡ suc more → end - (link + 1) ≡ more
numbers_left link end more e = omega arith

by_length : (link end left : ℕ) → end - link ≡ left → link < end →
    both_ways (range_with_len link left) ≡ up_of link ∷ down_of link ∷ both_ways (range_with_len (link + 1) (end - (link + 1)))
by_length link end zero e less = absurd (omega arith)
by_length link end (suc more) e less = rw (numbers_left link end more e) refl

-- the first of these links gives its two arcs first
pub first_left : (link end : ℕ) → link < end → arcs_left None link end ≡ up_of link ∷ arcs_left (Some (down_of link)) (link + 1) end
first_left link end less = by_length link end (end - link) refl less
