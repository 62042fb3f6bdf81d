-- What the least pairs of configurations mean: one host, one AS number, or one address.
use Rattle.std.proofs.Common.{ℕ, zero, suc, ◌≡◌, ◌+◌, ◌<◌, ◌==◌, ◌||◌, ◌⊎◌, inl, inr, ⊎_elim, Bool, true, false, cond, nat_lt, List, [], ◌∷◌, length, get_or, refl, ap, sym, subst, ◌∙◌, arith, zero-add, Option, Some, None, nat_eq, MatchOption}
use Rattle.std.specs.List.{list_any, slice_get}
use Rattle.std.specs.Prelude.{Result, Ok, Err}
use Rattle.std.specs.Option.{option_map}
use Rattle.std.specs.Cmp.Lexicographic.{pointwise}
use Rattle.std.proofs.lemmas.Bool.{false≢true}
use Rattle.std.proofs.lemmas.Bool.Decides.{nat_tests}
use Rattle.std.proofs.lemmas.Cmp.{nat_list_eq_equiv}
use Rattle.std.proofs.lemmas.Option.{slice_get_within, get_or_from_slice_get, slice_get_read}
use Rattle.std.proofs.lemmas.List.Folds.{Any-from_list_any, list_any-from_Any}
use Rattle.net_types.specs.declared.config.RouterConfig.{RouterConfig}
use Rattle.net_types.specs.declared.config.Interface.{Interface}
use Rattle.net_types.specs.declared.refusals.NetRefusal.{NetRefusal}
use Rattle.net_types.specs.declared.refusals.NetRefusal.TheVariants.{SameHost, SameAs, SameAddress, SharedSubnet, TooManyLinks, TooManyCommunities, TooManyRouters, NoMemory}
use Rattle.net_types.specs.NetValue.{NetValue}
use Rattle.net_types.specs.PrefixValue.{PrefixValue}
use Rattle.topology.specs.Pairs.{any_pair}
use Rattle.topology.specs.Live.{same_host, same_number, same_asn, asn_of, share_address, link_address, has_address_twice, meet_at_address}
use Rattle.topology.specs.Live.{ports}
use Rattle.topology.specs.Groups.{wires, shared_subnet}
use Rattle.topology.specs.Communities.{communities}
use Rattle.topology.specs.Network.{Answers, unless, whole_refusals, net_of, host_pair, asn_pair, address_pair}
use Rattle.topology.specs.Meaning.{HaveOneHost, HaveOneAsn, HaveOneAddress, IsLeastPair, NoPair, NoneMeet, NamesLeastPair}
use Rattle.topology.proofs.PairLemmas.{Meet, IsPair, IsPair-least_pair}

pub same_text-equal : (xs ys : List ℕ) → pointwise nat_eq xs ys ≡ true → xs ≡ ys
same_text-equal [] [] h = refl
same_text-equal [] (y ∷ ys) h = absurd (false≢true h)
same_text-equal (x ∷ xs) [] h = absurd (false≢true h)
same_text-equal (x ∷ xs) (y ∷ ys) h =
    let heads : x ≡ y = grind (arith, nat_tests) in
    let tails : pointwise nat_eq xs ys ≡ true = grind (arith, nat_tests) in
    let rest = same_text-equal xs ys tails in
    cc

-- hosts
host-from_meet : (configs : List RouterConfig) (i j : ℕ) → Meet (λ _. false) same_host configs i j → HaveOneHost configs i j
host-from_meet configs i j m = ⊎_elim
    (λ h. record { first = m.x; second = m.y; first_at = m.x_at; second_at = m.y_at; order = h.0; host = same_text-equal m.x.host m.y.host h.1 })
    (λ h. absurd (false≢true h.1)) m.how

meet-from_host : (configs : List RouterConfig) (i j : ℕ) → HaveOneHost configs i j → Meet (λ _. false) same_host configs i j
meet-from_host configs i j m = record {
  x = m.first;
  y = m.second;
  x_at = m.first_at;
  y_at = m.second_at;
  how = inl (m.order, rw m.host (nat_list_eq_equiv.refl m.second.host));
}

-- addresses
at_place : {A : Type 0} (xs : List A) (k : ℕ) (x : A) → k < length xs → get_or xs k x ≡ x → slice_get xs k ≡ Some x
at_place xs k x h e = slice_get_read xs (length xs) k x refl h (sym e)

one_number : (a b : Option ℕ) → same_number a b ≡ true → (n : ℕ) × (a ≡ Some n) × (b ≡ Some n)
one_number None b h = absurd (false≢true h)
one_number (Some x) None h = absurd (false≢true h)
one_number (Some x) (Some y) h = let e : y ≡ x = grind (arith, nat_tests) in (x, refl, ap (λ n. Some n) e)

number-one : (a b : Option ℕ) (n : ℕ) → a ≡ Some n → b ≡ Some n → same_number a b ≡ true
number-one a b n e f = rw (e, f) (let same : (n == n) ≡ true = grind (arith, nat_tests) in same)

-- AS numbers
asn-from_meet : (configs : List RouterConfig) (i j : ℕ) → Meet (λ _. false) same_asn configs i j → HaveOneAsn configs i j
asn-from_meet configs i j m = ⊎_elim
    (λ h. let n = one_number (asn_of m.x) (asn_of m.y) h.1 in record { first = m.x; second = m.y; first_at = m.x_at; second_at = m.y_at; order = h.0; asn = n.0; first_has = n.1; second_has = n.2 })
    (λ h. absurd (false≢true h.1)) m.how

meet-from_asn : (configs : List RouterConfig) (i j : ℕ) → HaveOneAsn configs i j → Meet (λ _. false) same_asn configs i j
meet-from_asn configs i j m = record {
  x = m.first;
  y = m.second;
  x_at = m.first_at;
  y_at = m.second_at;
  how = inl (m.order, number-one (asn_of m.first) (asn_of m.second) m.asn m.first_has m.second_has);
}

-- two interfaces of one list that share an address, and their places
record HasTwice (interfaces : List Interface) : Type 0 where
  k : ℕ
  l : ℕ
  order : k < l
  one : Interface
  other : Interface
  one_at : slice_get interfaces k ≡ Some one
  other_at : slice_get interfaces l ≡ Some other
  share : share_address one other ≡ true

twice-from_any : (xs : List Interface) → any_pair share_address xs ≡ true → HasTwice xs
twice-from_any [] h = absurd (false≢true h)
twice-from_any (x ∷ xs) h = go (λ q. twice-from_any xs q) (list_any (λ y. share_address x y) xs) refl h where
  go : (any_pair share_address xs ≡ true → HasTwice xs) → (b : Bool) → list_any (λ y. share_address x y) xs ≡ b → (b || any_pair share_address xs) ≡ true → HasTwice (x ∷ xs)
  go later true e q = let a = Any-from_list_any (λ y. share_address x y) xs e in
      record { k = 0; l = suc a.0; order = omega arith; one = x; other = a.1; one_at = refl; other_at = at_place xs a.0 a.1 a.2 a.3; share = a.4 }
  go later false e q = let t = later q in
      record { k = suc t.k; l = suc t.l; order = omega (arith, t.order); one = t.one; other = t.other; one_at = t.one_at; other_at = t.other_at; share = t.share }

any_at : (p : Interface → Bool) (xs : List Interface) (k : ℕ) (x : Interface) → slice_get xs k ≡ Some x → p x ≡ true → list_any p xs ≡ true
any_at p xs k x h t = list_any-from_Any p xs (k, x, slice_get_within xs k x h, get_or_from_slice_get xs k x x h, t)

or_right : (b : Bool) → (b || true) ≡ true
or_right true = refl
or_right false = refl

any-from_twice : (xs : List Interface) (k l : ℕ) (x y : Interface) → k < l → slice_get xs k ≡ Some x → slice_get xs l ≡ Some y → share_address x y ≡ true → any_pair share_address xs ≡ true
any-from_twice [] k l x y h e f s = absurd (none x e) where
  none : (x : Interface) → None ≡ Some x → ⊥
  none x e = cc
any-from_twice (z ∷ zs) k zero x y h e f s = absurd (omega arith)
any-from_twice (z ∷ zs) zero (suc l) x y h e f s =
    let first : z ≡ x = same z x e in
    rw (any_at (λ w. share_address z w) zs l y f (rw first s)) refl where
      same : (a b : Interface) → Some a ≡ Some b → a ≡ b
      same a b e = cc
any-from_twice (z ∷ zs) (suc k) (suc l) x y h e f s = rw (any-from_twice zs k l x y (omega arith) e f s) (or_right (list_any (λ w. share_address z w) zs))

address-from_meet : (configs : List RouterConfig) (i j : ℕ) → Meet has_address_twice meet_at_address configs i j → HaveOneAddress configs i j
address-from_meet configs i j m = ⊎_elim across within m.how where
  across : (i < j) × (meet_at_address m.x m.y ≡ true) → HaveOneAddress configs i j
  across h =
      let a = Any-from_list_any (λ x. list_any (λ y. share_address x y) m.y.interfaces) m.x.interfaces h.1 in
      let b = Any-from_list_any (λ y. share_address a.1 y) m.y.interfaces a.4 in
      let n = one_number (link_address a.1) (link_address b.1) b.4 in
      record {
        first = m.x;
        second = m.y;
        first_at = m.x_at;
        second_at = m.y_at;
        k = a.0;
        l = b.0;
        order = inl h.0;
        one = a.1;
        other = b.1;
        one_at = at_place m.x.interfaces a.0 a.1 a.2 a.3;
        other_at = at_place m.y.interfaces b.0 b.1 b.2 b.3;
        address = n.0;
        one_has = n.1;
        other_has = n.2;
      }

  within : (i ≡ j) × (has_address_twice m.x ≡ true) → HaveOneAddress configs i j
  within h =
      let t = twice-from_any m.x.interfaces h.1 in
      let n = one_number (link_address t.one) (link_address t.other) t.share in
      record {
        first = m.x;
        second = m.x;
        first_at = m.x_at;
        second_at = rw (← h.0) m.x_at;
        k = t.k;
        l = t.l;
        order = inr (h.0, t.order);
        one = t.one;
        other = t.other;
        one_at = t.one_at;
        other_at = t.other_at;
        address = n.0;
        one_has = n.1;
        other_has = n.2;
      }

meet-from_address : (configs : List RouterConfig) (i j : ℕ) → HaveOneAddress configs i j → Meet has_address_twice meet_at_address configs i j
meet-from_address configs i j m = record {
  x = m.first;
  y = m.second;
  x_at = m.first_at;
  y_at = m.second_at;
  how = ⊎_elim across within m.order;
} where
  share : share_address m.one m.other ≡ true
  share = number-one (link_address m.one) (link_address m.other) m.address m.one_has m.other_has

  across : i < j → ((i < j) × (meet_at_address m.first m.second ≡ true)) ⊎ ((i ≡ j) × (has_address_twice m.first ≡ true))
  across h = inl (h, any_at (λ x. list_any (λ y. share_address x y) m.second.interfaces) m.first.interfaces m.k m.one m.one_at (any_at (λ y. share_address m.one y) m.second.interfaces m.l m.other m.other_at share))

  same : (a b : RouterConfig) → Some a ≡ Some b → a ≡ b
  same a b e = cc

  within : (i ≡ j) × (m.k < m.l) → ((i < j) × (meet_at_address m.first m.second ≡ true)) ⊎ ((i ≡ j) × (has_address_twice m.first ≡ true))
  within h =
      let one : m.second ≡ m.first = same m.second m.first (sym m.second_at ∙ ap (λ p. slice_get configs p) (sym h.0) ∙ m.first_at) in
      inr (h.0, any-from_twice m.first.interfaces m.k m.l m.one m.other h.1 m.one_at (ap (λ (c : RouterConfig). slice_get c.interfaces m.l) (sym one) ∙ m.other_at) share)

-- a least pair of one relation is that of another that holds of the same pairs
carried : (P Q : ℕ → ℕ → Type 0) → ((i j : ℕ) → P i j → Q i j) → ((i j : ℕ) → Q i j → P i j) → (i j k l : ℕ) → i ≡ 0 + k → j ≡ 0 + l → IsLeastPair P k l → IsLeastPair Q i j
carried P Q f g i j k l e h p = rw (e, h, zero-add k, zero-add l) (record { meets = f k l p.meets; least = λ a b q. p.least a b (g a b q) })

pub least-host_pair : (configs : List RouterConfig) → MatchOption (host_pair configs) (NoPair (HaveOneHost configs)) (λ p. IsLeastPair (HaveOneHost configs) p.0 p.1)
least-host_pair configs = go (host_pair configs) (IsPair-least_pair (λ _. false) same_host 0 configs) where
  go : (found : Option (ℕ × ℕ)) → IsPair (λ _. false) same_host 0 configs found → MatchOption found (NoPair (HaveOneHost configs)) (λ p. IsLeastPair (HaveOneHost configs) p.0 p.1)
  go None p = λ i j m. p i j (meet-from_host configs i j m)
  go (Some q) p = carried (Meet (λ _. false) same_host configs) (HaveOneHost configs) (host-from_meet configs) (meet-from_host configs) q.0 q.1 p.0 p.1 p.2 p.3 p.4

pub least-asn_pair : (configs : List RouterConfig) → MatchOption (asn_pair configs) (NoPair (HaveOneAsn configs)) (λ p. IsLeastPair (HaveOneAsn configs) p.0 p.1)
least-asn_pair configs = go (asn_pair configs) (IsPair-least_pair (λ _. false) same_asn 0 configs) where
  go : (found : Option (ℕ × ℕ)) → IsPair (λ _. false) same_asn 0 configs found → MatchOption found (NoPair (HaveOneAsn configs)) (λ p. IsLeastPair (HaveOneAsn configs) p.0 p.1)
  go None p = λ i j m. p i j (meet-from_asn configs i j m)
  go (Some q) p = carried (Meet (λ _. false) same_asn configs) (HaveOneAsn configs) (asn-from_meet configs) (meet-from_asn configs) q.0 q.1 p.0 p.1 p.2 p.3 p.4

pub least-address_pair : (configs : List RouterConfig) → MatchOption (address_pair configs) (NoPair (HaveOneAddress configs)) (λ p. IsLeastPair (HaveOneAddress configs) p.0 p.1)
least-address_pair configs = go (address_pair configs) (IsPair-least_pair has_address_twice meet_at_address 0 configs) where
  go : (found : Option (ℕ × ℕ)) → IsPair has_address_twice meet_at_address 0 configs found → MatchOption found (NoPair (HaveOneAddress configs)) (λ p. IsLeastPair (HaveOneAddress configs) p.0 p.1)
  go None p = λ i j m. p i j (meet-from_address configs i j m)
  go (Some q) p = carried (Meet has_address_twice meet_at_address configs) (HaveOneAddress configs) (address-from_meet configs) (meet-from_address configs) q.0 q.1 p.0 p.1 p.2 p.3 p.4

-- the refusals of the whole name no pair
abbrev Pairs : NetRefusal → ℕ → ℕ → Type 0
Pairs r i j = (r ≡ SameHost i j) ⊎ ((r ≡ SameAs i j) ⊎ (r ≡ SameAddress i j))

whole-names : {A : Type 0} (o : Option PrefixValue) (b c d : Bool) (l m n : ℕ) (net : A) (r : NetRefusal) → unless (option_map (λ prefix. SharedSubnet prefix) o ∷ cond b (Some (TooManyLinks l)) None ∷ cond c (Some (TooManyCommunities m)) None ∷ cond d (Some (TooManyRouters n)) None ∷ []) net ≡ Err r → (i j : ℕ) → Pairs r i j → ⊥
whole-names (Some prefix) b c d l m n net r e i j h = ⊎_elim (λ f. cc) (λ g. ⊎_elim (λ f. cc) (λ f. cc) g) h
whole-names None true c d l m n net r e i j h = ⊎_elim (λ f. cc) (λ g. ⊎_elim (λ f. cc) (λ f. cc) g) h
whole-names None false true d l m n net r e i j h = ⊎_elim (λ f. cc) (λ g. ⊎_elim (λ f. cc) (λ f. cc) g) h
whole-names None false false true l m n net r e i j h = ⊎_elim (λ f. cc) (λ g. ⊎_elim (λ f. cc) (λ f. cc) g) h
whole-names None false false false l m n net r e i j h = ⊎_elim (λ f. cc) (λ g. ⊎_elim (λ f. cc) (λ f. cc) g) h

abbrev pub IsWhole : List RouterConfig → Result NetValue NetRefusal → Type 0
IsWhole configs result = Answers (unless (whole_refusals configs) (net_of configs)) result

no-pair : (configs : List RouterConfig) (r : NetRefusal) (i j : ℕ) → unless (whole_refusals configs) (net_of configs) ≡ Err r → Pairs r i j → ⊥
no-pair configs r i j e h = whole-names (shared_subnet (ports configs)) (nat_lt 64 (length (wires (ports configs)))) (nat_lt 64 (length (communities configs))) (nat_lt 64 (length configs)) (length (wires (ports configs))) (length (communities configs)) (length configs) (net_of configs) r e i j h

-- where no pair meets, the answer of the whole says so
pub names-whole : (configs : List RouterConfig) (result : Result NetValue NetRefusal) → NoneMeet configs → IsWhole configs result → NamesLeastPair configs result
names-whole configs (Ok net) h e = h
names-whole configs (Err (SameHost i j)) h e = absurd (no-pair configs (SameHost i j) i j e (inl refl))
names-whole configs (Err (SameAs i j)) h e = absurd (no-pair configs (SameAs i j) i j e (inr (inl refl)))
names-whole configs (Err (SameAddress i j)) h e = absurd (no-pair configs (SameAddress i j) i j e (inr (inr refl)))
names-whole configs (Err (SharedSubnet p)) h e = h
names-whole configs (Err (TooManyLinks n)) h e = h
names-whole configs (Err (TooManyCommunities n)) h e = h
names-whole configs (Err (TooManyRouters n)) h e = h
names-whole configs (Err NoMemory) h e = tt

-- the same of what was found
pub named-host : (configs : List RouterConfig) (found : Option (ℕ × ℕ)) (i j : ℕ) → found ≡ host_pair configs → found ≡ Some (i, j) → IsLeastPair (HaveOneHost configs) i j
named-host configs found i j e f = let P : Option (ℕ × ℕ) → Type 0 = λ o. MatchOption o (NoPair (HaveOneHost configs)) (λ p. IsLeastPair (HaveOneHost configs) p.0 p.1) in subst P (sym e ∙ f) (least-host_pair configs)

pub no-host : (configs : List RouterConfig) (found : Option (ℕ × ℕ)) → found ≡ host_pair configs → ((p : ℕ × ℕ) → found ≡ Some p → ⊥) → NoPair (HaveOneHost configs)
no-host configs None e n = let P : Option (ℕ × ℕ) → Type 0 = λ o. MatchOption o (NoPair (HaveOneHost configs)) (λ p. IsLeastPair (HaveOneHost configs) p.0 p.1) in subst P (sym e) (least-host_pair configs)
no-host configs (Some p) e n = absurd (n p refl)

pub named-asn : (configs : List RouterConfig) (found : Option (ℕ × ℕ)) (i j : ℕ) → found ≡ asn_pair configs → found ≡ Some (i, j) → IsLeastPair (HaveOneAsn configs) i j
named-asn configs found i j e f = let P : Option (ℕ × ℕ) → Type 0 = λ o. MatchOption o (NoPair (HaveOneAsn configs)) (λ p. IsLeastPair (HaveOneAsn configs) p.0 p.1) in subst P (sym e ∙ f) (least-asn_pair configs)

pub no-asn : (configs : List RouterConfig) (found : Option (ℕ × ℕ)) → found ≡ asn_pair configs → ((p : ℕ × ℕ) → found ≡ Some p → ⊥) → NoPair (HaveOneAsn configs)
no-asn configs None e n = let P : Option (ℕ × ℕ) → Type 0 = λ o. MatchOption o (NoPair (HaveOneAsn configs)) (λ p. IsLeastPair (HaveOneAsn configs) p.0 p.1) in subst P (sym e) (least-asn_pair configs)
no-asn configs (Some p) e n = absurd (n p refl)

pub none-asn : (configs : List RouterConfig) (found : Option (ℕ × ℕ)) → found ≡ asn_pair configs → ((p : ℕ × ℕ) → found ≡ Some p → ⊥) → asn_pair configs ≡ None
none-asn configs None e n = sym e
none-asn configs (Some p) e n = absurd (n p refl)

pub named-address : (configs : List RouterConfig) (found : Option (ℕ × ℕ)) (i j : ℕ) → found ≡ address_pair configs → found ≡ Some (i, j) → IsLeastPair (HaveOneAddress configs) i j
named-address configs found i j e f = let P : Option (ℕ × ℕ) → Type 0 = λ o. MatchOption o (NoPair (HaveOneAddress configs)) (λ p. IsLeastPair (HaveOneAddress configs) p.0 p.1) in subst P (sym e ∙ f) (least-address_pair configs)

pub no-address : (configs : List RouterConfig) (found : Option (ℕ × ℕ)) → found ≡ address_pair configs → ((p : ℕ × ℕ) → found ≡ Some p → ⊥) → NoPair (HaveOneAddress configs)
no-address configs None e n = let P : Option (ℕ × ℕ) → Type 0 = λ o. MatchOption o (NoPair (HaveOneAddress configs)) (λ p. IsLeastPair (HaveOneAddress configs) p.0 p.1) in subst P (sym e) (least-address_pair configs)
no-address configs (Some p) e n = absurd (n p refl)
