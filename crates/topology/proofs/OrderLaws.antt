-- The orders of prefixes, of hosts, of numbers and of notices.
use Rattle.std.proofs.Common.{ℕ, ◌≡◌, ◌==◌, ◌&&◌, true, false, List, refl, ap, sym, ◌∙◌, arith, nat_eq, nat_lt}
use Rattle.std.proofs.lemmas.Bool.{false≢true}
use Rattle.std.proofs.lemmas.Bool.Decides.{nat_tests}
use Rattle.std.proofs.lemmas.Cmp.{nat_list_cmp_total, same_from_slice_cmp}
use Rattle.std.specs.Cmp.Lexicographic.{slice_cmp, pointwise}
use Rattle.std.specs.Ordering.{is_lt, is_eq, nat_cmp, ordering_reverse}
use Rattle.std.specs.declared.cmp.Ordering.{Ordering}
use Rattle.std.specs.declared.cmp.Ordering.TheVariants.{Less, Equal, Greater}
use Rattle.net_types.specs.Prefixes.{same_prefix, prefix_before}
use Rattle.net_types.specs.Order.{same_text, text_before}
use Rattle.net_types.specs.NetFacts.{notice_before}
use Rattle.net_types.specs.declared.network.Notice.{Notice}
use Rattle.topology.specs.Notices.{same_notice}
use Rattle.topology.specs.Live.{same_host, host_before}
use Rattle.net_types.specs.PrefixValue.{PrefixValue}
use Rattle.topology.specs.Ascending.{IsLinear}
use Rattle.topology.proofs.RisingLemmas.{IsOrder}

prefix_trans : (a b c d e f : ℕ) → prefix_before (record { bits = a; len = b }) (record { bits = c; len = d }) ≡ true → prefix_before (record { bits = c; len = d }) (record { bits = e; len = f }) ≡ true → prefix_before (record { bits = a; len = b }) (record { bits = e; len = f }) ≡ true
prefix_trans a b c d e f h k = grind (arith, nat_tests)

prefix_total : (a b c d : ℕ) → prefix_before (record { bits = a; len = b }) (record { bits = c; len = d }) ≡ false → same_prefix (record { bits = c; len = d }) (record { bits = a; len = b }) ≡ false → prefix_before (record { bits = c; len = d }) (record { bits = a; len = b }) ≡ true
prefix_total a b c d h k = grind (arith, nat_tests)

pub prefix_order : IsOrder same_prefix prefix_before
prefix_order = record {
  trans = λ x y z h k. prefix_trans x.bits x.len y.bits y.len z.bits z.len h k;
  total = λ x y h k. prefix_total x.bits x.len y.bits y.len h k;
}

less_from : (o : Ordering) → is_lt o ≡ true → o ≡ Less
less_from Less h = refl
less_from Equal h = absurd (false≢true h)
less_from Greater h = absurd (false≢true h)

less_back : (o p : Ordering) → o ≡ ordering_reverse p → is_lt p ≡ false → is_eq o ≡ false → is_lt o ≡ true
less_back o Less e h k = absurd (false≢true (sym h))
less_back o Equal e h k = absurd (false≢true (sym k ∙ ap is_eq e))
less_back o Greater e h k = rw e refl

same_tests : (xs ys : List ℕ) → is_eq (slice_cmp nat_cmp xs ys) ≡ pointwise nat_eq xs ys
same_tests xs ys = same_from_slice_cmp nat_cmp is_eq (λ a b. pointwise nat_eq a b) refl (λ _ _. refl) (λ _ _. refl) (λ x y xs ys o h. grind (arith, nat_tests)) xs ys (slice_cmp nat_cmp xs ys) refl

pub text_order : IsOrder same_text text_before
text_order = record {
  trans = λ x y z h k. rw (nat_list_cmp_total.trans x y z (less_from (slice_cmp nat_cmp x y) h) (less_from (slice_cmp nat_cmp y z) k)) refl;
  total = λ x y h k. less_back (slice_cmp nat_cmp y x) (slice_cmp nat_cmp x y) (nat_list_cmp_total.antisymm y x) h (same_tests y x ∙ k);
}

pub host_order : IsOrder same_host host_before
host_order = record {
  trans = λ x y z h k. text_order.trans x.host y.host z.host h k;
  total = λ x y h k. text_order.total x.host y.host h k;
}

number_trans : (x y z : ℕ) → nat_lt x y ≡ true → nat_lt y z ≡ true → nat_lt x z ≡ true
number_trans x y z h k = grind (arith, nat_tests)

number_total : (x y : ℕ) → nat_lt x y ≡ false → nat_eq y x ≡ false → nat_lt y x ≡ true
number_total x y h k = grind (arith, nat_tests)

pub number_order : IsOrder nat_eq nat_lt
number_order = record { trans = λ x y z h k. number_trans x y z h k; total = λ x y h k. number_total x y h k }

pub number-equal : (x y : ℕ) → nat_eq x y ≡ true → x ≡ y
number-equal x y h = grind (arith, nat_tests)

notice_trans : (a b c d e f : ℕ) → notice_before (record { router = a; address = b }) (record { router = c; address = d }) ≡ true → notice_before (record { router = c; address = d }) (record { router = e; address = f }) ≡ true → notice_before (record { router = a; address = b }) (record { router = e; address = f }) ≡ true
notice_trans a b c d e f h k = grind (arith, nat_tests)

notice_total : (a b c d : ℕ) → notice_before (record { router = a; address = b }) (record { router = c; address = d }) ≡ false → same_notice (record { router = c; address = d }) (record { router = a; address = b }) ≡ false → notice_before (record { router = c; address = d }) (record { router = a; address = b }) ≡ true
notice_total a b c d h k = grind (arith, nat_tests)

pub notice_order : IsOrder same_notice notice_before
notice_order = record {
  trans = λ x y z h k. notice_trans x.router x.address y.router y.address z.router z.address h k;
  total = λ x y h k. notice_total x.router x.address y.router y.address h k;
}

pub notice-equal : (x y : Notice) → same_notice x y ≡ true → x ≡ y
notice-equal x y h =
    let router : x.router ≡ y.router = first x.router x.address y.router y.address h in
    let address : x.address ≡ y.address = second x.router x.address y.router y.address h in
    λ i. record { router = router i; address = address i } where
      first : (a b c d : ℕ) → ((a == c) && (b == d)) ≡ true → a ≡ c
      first a b c d h = grind (arith, nat_tests)

      second : (a b c d : ℕ) → ((a == c) && (b == d)) ≡ true → b ≡ d
      second a b c d h = grind (arith, nat_tests)

-- each is the order of an ascending list
prefix_one_way : (a b c d : ℕ) → prefix_before (record { bits = a; len = b }) (record { bits = c; len = d }) ≡ true → prefix_before (record { bits = c; len = d }) (record { bits = a; len = b }) ≡ false
prefix_one_way a b c d h = grind (arith, nat_tests)

pub same_prefix-equal : (x y : PrefixValue) → same_prefix x y ≡ true → x ≡ y
same_prefix-equal x y h =
    let bits : x.bits ≡ y.bits = first x.bits x.len y.bits y.len h in
    let len : x.len ≡ y.len = second x.bits x.len y.bits y.len h in
    λ i. record { bits = bits i; len = len i } where
      first : (a b c d : ℕ) → ((a == c) && (b == d)) ≡ true → a ≡ c
      first a b c d h = grind (arith, nat_tests)

      second : (a b c d : ℕ) → ((a == c) && (b == d)) ≡ true → b ≡ d
      second a b c d h = grind (arith, nat_tests)

pub prefix_linear : IsLinear same_prefix prefix_before
prefix_linear = record {
  trans = prefix_order.trans;
  total = prefix_order.total;
  one_way = λ x y h. prefix_one_way x.bits x.len y.bits y.len h;
  one = same_prefix-equal;
}

number_one_way : (x y : ℕ) → nat_lt x y ≡ true → nat_lt y x ≡ false
number_one_way x y h = grind (arith, nat_tests)

pub number_linear : IsLinear nat_eq nat_lt
number_linear = record {
  trans = number_order.trans;
  total = number_order.total;
  one_way = λ x y h. number_one_way x y h;
  one = number-equal;
}

notice_one_way : (a b c d : ℕ) → notice_before (record { router = a; address = b }) (record { router = c; address = d }) ≡ true → notice_before (record { router = c; address = d }) (record { router = a; address = b }) ≡ false
notice_one_way a b c d h = grind (arith, nat_tests)

pub notice_linear : IsLinear same_notice notice_before
notice_linear = record {
  trans = notice_order.trans;
  total = notice_order.total;
  one_way = λ x y h. notice_one_way x.router x.address y.router y.address h;
  one = notice-equal;
}
