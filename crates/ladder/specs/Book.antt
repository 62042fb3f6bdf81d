-- The book that is asked of a ladder.
use Rattle.std.specs.Prelude.{ℕ, ◌*◌, ◌-◌, List as Seq, [], ◌∷◌, codes}
use Rattle.net_types.specs.Masks.{masked}
use Rattle.net_types.specs.PrefixValue.{PrefixValue}
use Rattle.property_book.specs.declared.property.Kind.TheVariants.{Reach}
use Rattle.property_book.specs.declared.property.Property.{Property}
use Rattle.ladder.specs.Names.{host_name}

-- 10.9.0.0/24
abbrev pub ladder_prefix : PrefixValue
ladder_prefix = masked 168361984 24

-- the last one of the b's, which is farthest from the first one of the a's, reaches the prefix of that one with so many
-- failed links
abbrev pub far_property : Seq ℕ → ℕ → ℕ → Property
far_property name columns failures = record {
  name = name;
  kind = Reach;
  router = host_name columns (2 * columns - 1);
  prefix = ladder_prefix;
  failures = failures;
}

abbrev pub ladder_book : ℕ → Seq Property
ladder_book columns = far_property (codes "far-1") columns 1 ∷ far_property (codes "far-2") columns 2 ∷ []
