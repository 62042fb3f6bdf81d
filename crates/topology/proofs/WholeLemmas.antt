-- The refusals of the whole: the least subnet whose group is refused, and the counts.
use Rattle.std.proofs.Common.{ℕ, ◌≡◌, ◌<◌, ◌≤◌, ◌==◌, ◌&&◌, ◌||◌, inl, inr, ⊎_elim, Bool, true, false, cond, nat_lt, List, [], ◌∷◌, map, length, refl, ap, sym, subst, ◌∙◌, arith, Contains, Option, Some, None, MatchOption}
use Rattle.std.specs.List.{filter, find}
use Rattle.std.specs.Option.{option_map}
use Rattle.std.specs.Prelude.{Result, Ok, Err}
use Rattle.std.proofs.lemmas.Bool.{false≢true}
use Rattle.std.proofs.lemmas.Bool.Decides.{nat_tests}
use Rattle.std.proofs.lemmas.List.Elements.{recursion_from_All}
use Rattle.net_types.specs.PrefixValue.{PrefixValue}
use Rattle.net_types.specs.Prefixes.{same_prefix, prefix_before}
use Rattle.net_types.specs.NetValue.{NetValue}
use Rattle.net_types.specs.declared.config.RouterConfig.{RouterConfig}
use Rattle.net_types.specs.declared.refusals.NetRefusal.{NetRefusal}
use Rattle.net_types.specs.declared.refusals.NetRefusal.TheVariants.{SameHost, SameAs, SameAddress, SharedSubnet, TooManyLinks, TooManyCommunities, TooManyRouters, NoMemory}
use Rattle.topology.specs.declared.interfaces.Port.{Port}
use Rattle.topology.specs.Live.{ports, can_link}
use Rattle.topology.specs.Groups.{group, is_in, is_shared, kind_at, subnets_of, shared_subnet, wires}
use Rattle.topology.specs.Communities.{communities}
use Rattle.topology.specs.Network.{Answers, unless, whole_refusals, net_of}
use Rattle.topology.specs.Meaning.{IsRefused, IsLeastRefused, NoneRefused, NamesWhole, IsAscending}
use Rattle.topology.proofs.RisingLemmas.{Rises, Rises-ascending}
use Rattle.topology.proofs.OrderLaws.{prefix_order, same_prefix-equal}
use Rattle.topology.proofs.MemberLemmas.{In, Contains-from_In, In-from_Contains, In-filter, from-filter, IsAscending-ascending, in-all, from-map}
use Rattle.topology.proofs.MeaningLemmas.{same_prefix-itself, subnet-in}

prefix_behind : (p q : PrefixValue) → prefix_before p q ≡ true → prefix_before q p ≡ false
prefix_behind p q h = go p.bits p.len q.bits q.len h where
  go : (a b c d : ℕ) → (nat_lt a c || ((a == c) && nat_lt b d)) ≡ true → (nat_lt c a || ((c == a) && nat_lt d b)) ≡ false
  go a b c d h = grind (arith, nat_tests)

prefix_itself : (p : PrefixValue) → prefix_before p p ≡ false
prefix_itself p = go p.bits p.len where
  go : (a b : ℕ) → (nat_lt a a || ((a == a) && nat_lt b b)) ≡ false
  go a b = grind (arith, nat_tests)

-- the first of a rising list that passes is the least
abbrev IsFound : (PrefixValue → Bool) → List PrefixValue → Option PrefixValue → Type 0
IsFound p xs found = MatchOption found ((y : PrefixValue) → In y xs → p y ≡ false) (λ x. In x xs × (p x ≡ true) × ((y : PrefixValue) → In y xs → p y ≡ true → prefix_before y x ≡ false))

find-behind : (p : PrefixValue → Bool) (x : PrefixValue) (xs : List PrefixValue) (found : Option PrefixValue) → p x ≡ false → IsFound p xs found → IsFound p (x ∷ xs) found
find-behind p x xs None e h = λ y i. ⊎_elim (λ f. ap p (sym f) ∙ e) (λ j. h y j) i
find-behind p x xs (Some z) e h = (inr h.0, h.1, λ y i t. ⊎_elim (λ f. absurd (false≢true (sym e ∙ ap p f ∙ t))) (λ j. h.2 y j t) i)

find-least : (p : PrefixValue → Bool) (xs : List PrefixValue) → Rises prefix_before xs → IsFound p xs (find p xs)
find-least p [] r = λ y i. absurd i
find-least p (x ∷ xs) r = go (p x) refl (find-least p xs r.1) where
  go : (b : Bool) → p x ≡ b → IsFound p xs (find p xs) → IsFound p (x ∷ xs) (cond b (Some x) (find p xs))
  go true e h = (inl refl, e, λ y i t. ⊎_elim (λ f. rw (← f) (prefix_itself x)) (λ j. prefix_behind x y (in-all (λ z. prefix_before x z ≡ true) y xs r.0 j)) i)
  go false e h = find-behind p x xs (find p xs) e h

-- each of the subnets has an interface
port-in : (all : List Port) (subnet : PrefixValue) → In subnet (subnets_of all) → (port : Port) × Contains (group all subnet) port
port-in all subnet i =
    let ends = filter (λ port. can_link port.loopback port.subnet) all in
    let law : IsAscending prefix_before (map (λ port. port.subnet) ends) (subnets_of all) = IsAscending-ascending same_prefix prefix_before prefix_order same_prefix-equal (map (λ port. port.subnet) ends) in
    let there = in-all (λ y. Contains (map (λ port. port.subnet) ends) y) subnet (subnets_of all) (recursion_from_All (λ y. Contains (map (λ port. port.subnet) ends) y) (subnets_of all) law.taken) i in
    let w = from-map (λ port. port.subnet) subnet ends (In-from_Contains subnet (map (λ port. port.subnet) ends) there) in
    let k = from-filter (λ port. can_link port.loopback port.subnet) w.0 all w.1 in
    let test : is_in subnet w.0 ≡ true = rw (k.1, w.2) (same_prefix-itself subnet) in
    (w.0, Contains-from_In w.0 (group all subnet) (In-filter (λ port. is_in subnet port) w.0 all k.0 test))

refused-there : (all : List Port) (subnet : PrefixValue) → IsRefused all subnet → In subnet (subnets_of all)
refused-there all subnet r = subnet-in all subnet r.port (In-from_Contains r.port (group all subnet) r.there)

IsRefused-from : (all : List Port) (subnet : PrefixValue) → In subnet (subnets_of all) → is_shared (kind_at all subnet) ≡ true → IsRefused all subnet
IsRefused-from all subnet i t = let w = port-in all subnet i in record { port = w.0; there = w.1; shared = t }

IsLeast-shared_subnet : (all : List Port) → MatchOption (shared_subnet all) (NoneRefused all) (λ subnet. IsLeastRefused all subnet)
IsLeast-shared_subnet all = go (shared_subnet all) (find-least (λ subnet. is_shared (kind_at all subnet)) (subnets_of all) (Rises-ascending same_prefix prefix_before prefix_order (map (λ port. port.subnet) (filter (λ port. can_link port.loopback port.subnet) all)))) where
  go : (found : Option PrefixValue) → IsFound (λ subnet. is_shared (kind_at all subnet)) (subnets_of all) found → MatchOption found (NoneRefused all) (λ subnet. IsLeastRefused all subnet)
  go None h = λ subnet r. false≢true (sym (h subnet (refused-there all subnet r)) ∙ r.shared)
  go (Some subnet) h = record { refused = IsRefused-from all subnet h.0 h.1; least = λ other r. h.2 other (refused-there all other r) r.shared }

-- what the test of a count says
abbrev Counts : ℕ → Bool → Type 0
Counts n true = 64 < n
Counts n false = n ≤ 64

counted : (n : ℕ) → Counts n (nat_lt 64 n)
counted n = go (nat_lt 64 n) refl where
  go : (b : Bool) → nat_lt 64 n ≡ b → Counts n b
  go true h = grind (arith, nat_tests)
  go false h = grind (arith, nat_tests)

-- the answer by what was found and counted
named : (configs : List RouterConfig) (o : Option PrefixValue) (b c d : Bool) → MatchOption o (NoneRefused (ports configs)) (λ subnet. IsLeastRefused (ports configs) subnet) → Counts (length (wires (ports configs))) b → Counts (length (communities configs)) c → Counts (length configs) d → NamesWhole configs (unless (option_map (λ prefix. SharedSubnet prefix) o ∷ cond b (Some (TooManyLinks (length (wires (ports configs))))) None ∷ cond c (Some (TooManyCommunities (length (communities configs)))) None ∷ cond d (Some (TooManyRouters (length configs))) None ∷ []) (net_of configs))
named configs (Some subnet) b c d l f g h = l
named configs None true c d l f g h = (l, refl, f)
named configs None false true d l f g h = (l, f, refl, g)
named configs None false false true l f g h = (l, f, g, refl, h)
named configs None false false false l f g h = (l, f, g, h)

NamesWhole-unless : (configs : List RouterConfig) → NamesWhole configs (unless (whole_refusals configs) (net_of configs))
NamesWhole-unless configs =
    named configs (shared_subnet (ports configs)) (nat_lt 64 (length (wires (ports configs)))) (nat_lt 64 (length (communities configs))) (nat_lt 64 (length configs)) (IsLeast-shared_subnet (ports configs))
    (counted (length (wires (ports configs)))) (counted (length (communities configs))) (counted (length configs))

pub NamesWhole-answer : (configs : List RouterConfig) (answer : Result NetValue NetRefusal) → Answers (unless (whole_refusals configs) (net_of configs)) answer → NamesWhole configs answer
NamesWhole-answer configs (Ok net) e = let P : Result NetValue NetRefusal → Type 0 = λ r. NamesWhole configs r in subst P e (NamesWhole-unless configs)
NamesWhole-answer configs (Err (SharedSubnet subnet)) e = let P : Result NetValue NetRefusal → Type 0 = λ r. NamesWhole configs r in subst P e (NamesWhole-unless configs)
NamesWhole-answer configs (Err (TooManyLinks n)) e = let P : Result NetValue NetRefusal → Type 0 = λ r. NamesWhole configs r in subst P e (NamesWhole-unless configs)
NamesWhole-answer configs (Err (TooManyCommunities n)) e = let P : Result NetValue NetRefusal → Type 0 = λ r. NamesWhole configs r in subst P e (NamesWhole-unless configs)
NamesWhole-answer configs (Err (TooManyRouters n)) e = let P : Result NetValue NetRefusal → Type 0 = λ r. NamesWhole configs r in subst P e (NamesWhole-unless configs)
NamesWhole-answer configs (Err (SameHost i j)) e = tt
NamesWhole-answer configs (Err (SameAs i j)) e = tt
NamesWhole-answer configs (Err (SameAddress i j)) e = tt
NamesWhole-answer configs (Err NoMemory) e = tt
