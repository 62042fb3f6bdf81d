-- The order of sets, of ranges and of rows, and their joins.
use Rattle.std.proofs.Common.{ℕ, ◌≡◌, Bool, true, false, bit_or, bit_and, arith, sym, refl}
use Rattle.std.proofs.lemmas.Bool.Decides.{nat_tests}
use Rattle.net_types.specs.Sets.{has, IsPart}
use Rattle.net_types.proofs.SetLemmas.{has_union, has_common, same_sets}
use Rattle.abstract_route.specs.declared.rows.Row.{Row}
use Rattle.abstract_route.specs.declared.rows.Range.{Range}
use Rattle.abstract_route.specs.Rows.{Lies, IsBelow, IsJoin, joined, hull_of}

pub part_refl : (a : ℕ) → IsPart a a
part_refl a = record { members = λ x h. h }

pub part_trans : (a b c : ℕ) → IsPart a b → IsPart b c → IsPart a c
part_trans a b c p q = record { members = λ x h. q.members x (p.members x h) }

bool_same : (p q : Bool) → (p ≡ true → q ≡ true) → (q ≡ true → p ≡ true) → p ≡ q
bool_same true true f g = refl
bool_same true false f g = sym (f refl)
bool_same false true f g = g refl
bool_same false false f g = refl

pub part_anti : (a b : ℕ) → IsPart a b → IsPart b a → a ≡ b
part_anti a b p q = same_sets a b (λ x. bool_same (has a x) (has b x) (p.members x) (q.members x))

pub part_left : (a b : ℕ) → IsPart a (bit_or a b)
part_left a b = record { members = λ x h. let e = has_union a b x in grind (arith, nat_tests) }

pub part_right : (a b : ℕ) → IsPart b (bit_or a b)
part_right a b = record { members = λ x h. let e = has_union a b x in grind (arith, nat_tests) }

pub part_least : (a b c : ℕ) → IsPart a c → IsPart b c → IsPart (bit_or a b) c
part_least a b c p q = record { members = λ x h. let e = has_union a b x in let f = p.members x in let g = q.members x in grind (arith, nat_tests) }

pub common_left : (a b : ℕ) → IsPart (bit_and a b) a
common_left a b = record { members = λ x h. let e = has_common a b x in grind (arith, nat_tests) }

pub common_right : (a b : ℕ) → IsPart (bit_and a b) b
common_right a b = record { members = λ x h. let e = has_common a b x in grind (arith, nat_tests) }

pub common_greatest : (a b c : ℕ) → IsPart c a → IsPart c b → IsPart c (bit_and a b)
common_greatest a b c p q = record { members = λ x h. let e = has_common a b x in let f = p.members x h in let g = q.members x h in grind (arith, nat_tests) }

pub lies_left : (a b : Range) → Lies a (hull_of a b)
lies_left a b = (omega arith, omega arith)

pub lies_right : (a b : Range) → Lies b (hull_of a b)
lies_right a b = (omega arith, omega arith)

pub lies_least : (a b c : Range) → Lies a c → Lies b c → Lies (hull_of a b) c
lies_least a b c p q = (omega arith, omega arith)

pub lies_trans : (a b c : Range) → Lies a b → Lies b c → Lies a c
lies_trans a b c p q = (omega arith, omega arith)

pub range_same : (a b : Range) → a.low ≡ b.low → a.high ≡ b.high → a ≡ b
range_same a b p q = λ i. record { low = p i; high = q i }

pub lies_anti : (a b : Range) → Lies a b → Lies b a → a ≡ b
lies_anti a b p q = range_same a b (omega arith) (omega arith)

pub below_refl : (a : Row) → IsBelow a a
below_refl a = record {
  weight = (omega arith, omega arith);
  preference = (omega arith, omega arith);
  length = (omega arith, omega arith);
  origin = (omega arith, omega arith);
  med = (omega arith, omega arith);
  has = part_refl a.has;
  lacks = part_refl a.lacks;
  may = part_refl a.may;
  must = part_refl a.must;
}

pub below_trans : (a b c : Row) → IsBelow a b → IsBelow b c → IsBelow a c
below_trans a b c p q = record {
  weight = lies_trans a.weight b.weight c.weight p.weight q.weight;
  preference = lies_trans a.preference b.preference c.preference p.preference q.preference;
  length = lies_trans a.length b.length c.length p.length q.length;
  origin = lies_trans a.origin b.origin c.origin p.origin q.origin;
  med = lies_trans a.med b.med c.med p.med q.med;
  has = part_trans a.has b.has c.has p.has q.has;
  lacks = part_trans a.lacks b.lacks c.lacks p.lacks q.lacks;
  may = part_trans a.may b.may c.may p.may q.may;
  must = part_trans c.must b.must a.must q.must p.must;
}

pub row_same : (a b : Row) → a.weight ≡ b.weight → a.preference ≡ b.preference → a.length ≡ b.length → a.origin ≡ b.origin → a.med ≡ b.med → a.has ≡ b.has → a.lacks ≡ b.lacks → a.may ≡ b.may → a.must ≡ b.must → a ≡ b
row_same a b e1 e2 e3 e4 e5 e6 e7 e8 e9 = λ i. record { weight = e1 i; preference = e2 i; length = e3 i; origin = e4 i; med = e5 i; has = e6 i; lacks = e7 i; may = e8 i; must = e9 i }

pub below_anti : (a b : Row) → IsBelow a b → IsBelow b a → a ≡ b
below_anti a b p q = row_same a b
    (lies_anti a.weight b.weight p.weight q.weight) (lies_anti a.preference b.preference p.preference q.preference)
    (lies_anti a.length b.length p.length q.length) (lies_anti a.origin b.origin p.origin q.origin) (lies_anti a.med b.med p.med q.med)
    (part_anti a.has b.has p.has q.has) (part_anti a.lacks b.lacks p.lacks q.lacks) (part_anti a.may b.may p.may q.may) (part_anti a.must b.must q.must p.must)

pub join_left : (a b : Row) → IsBelow a (joined a b)
join_left a b = record {
  weight = lies_left a.weight b.weight;
  preference = lies_left a.preference b.preference;
  length = lies_left a.length b.length;
  origin = lies_left a.origin b.origin;
  med = lies_left a.med b.med;
  has = part_left a.has b.has;
  lacks = part_left a.lacks b.lacks;
  may = part_left a.may b.may;
  must = common_left a.must b.must;
}

pub join_right : (a b : Row) → IsBelow b (joined a b)
join_right a b = record {
  weight = lies_right a.weight b.weight;
  preference = lies_right a.preference b.preference;
  length = lies_right a.length b.length;
  origin = lies_right a.origin b.origin;
  med = lies_right a.med b.med;
  has = part_right a.has b.has;
  lacks = part_right a.lacks b.lacks;
  may = part_right a.may b.may;
  must = common_right a.must b.must;
}

pub join_least : (a b c : Row) → IsBelow a c → IsBelow b c → IsBelow (joined a b) c
join_least a b c p q = record {
  weight = lies_least a.weight b.weight c.weight p.weight q.weight;
  preference = lies_least a.preference b.preference c.preference p.preference q.preference;
  length = lies_least a.length b.length c.length p.length q.length;
  origin = lies_least a.origin b.origin c.origin p.origin q.origin;
  med = lies_least a.med b.med c.med p.med q.med;
  has = part_least a.has b.has c.has p.has q.has;
  lacks = part_least a.lacks b.lacks c.lacks p.lacks q.lacks;
  may = part_least a.may b.may c.may p.may q.may;
  must = common_greatest a.must b.must c.must p.must q.must;
}

pub joined_is_join : (a b : Row) → IsJoin a b (joined a b)
joined_is_join a b = record { left = join_left a b; right = join_right a b; least = λ c p q. join_least a b c p q }
