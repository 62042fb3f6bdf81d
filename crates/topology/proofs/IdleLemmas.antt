-- The notices are the neighbor lines that make no session.
use Rattle.std.proofs.Common.{ℕ, zero, suc, ◌≡◌, ◌+◌, ◌==◌, ◌&&◌, ◌||◌, ◌⊎◌, inl, inr, ⊎_elim, Bool, true, false, not, List, [], ◌∷◌, refl, ap, sym, subst, ◌∙◌, arith, zero-add, add-zero, Contains, Option, Some, None}
use Rattle.std.specs.List.{AllByRecursion, slice_get}
use Rattle.std.specs.Option.{option_map_or}
use Rattle.std.proofs.lemmas.Bool.{false≢true}
use Rattle.std.proofs.lemmas.Bool.Decides.{nat_tests}
use Rattle.std.proofs.lemmas.List.Elements.{All-from_recursion}
use Rattle.net_types.specs.NetFacts.{notice_before}
use Rattle.net_types.specs.declared.config.RouterConfig.{RouterConfig}
use Rattle.net_types.specs.declared.config.BgpConfig.{BgpConfig}
use Rattle.net_types.specs.declared.config.Neighbor.{Neighbor}
use Rattle.net_types.specs.declared.network.Link.{Link}
use Rattle.net_types.specs.declared.network.Notice.{Notice}
use Rattle.topology.specs.Notices.{neighbors_of, is_session_with, makes_session, idle_neighbors, notices_of, notices_from, same_notice, notices}
use Rattle.topology.specs.Meaning.{IsSessionWith, IsIdleLine, AreNotices}
use Rattle.topology.proofs.RisingLemmas.{All-append, All-map, All-ascending}
use Rattle.topology.proofs.OrderLaws.{notice-equal}
use Rattle.topology.proofs.MemberLemmas.{In, Contains-from_In, In-from_Contains, In-map, In-filter, from-filter, In-append-left, In-append-right, from-any, any-from, all-in, In-ascending}
use Rattle.topology.proofs.NoticeLemmas.{notices-rise}

-- a session with an address, by its test
test-parts : (s : Bool) (a b c d e f g h : ℕ) → (s && (((a == b) && (c == d)) || ((e == f) && (g == h)))) ≡ true → (s ≡ true) × (((a ≡ b) × (c ≡ d)) ⊎ ((e ≡ f) × (g ≡ h)))
test-parts false a b c d e f g h t = absurd (false≢true t)
test-parts true a b c d e f g h t = (refl, go ((a == b) && (c == d)) refl t) where
  pair : (a b c d : ℕ) → ((a == b) && (c == d)) ≡ true → (a ≡ b) × (c ≡ d)
  pair a b c d t = (let e : a ≡ b = grind (arith, nat_tests) in e, let e : c ≡ d = grind (arith, nat_tests) in e)

  go : (x : Bool) → ((a == b) && (c == d)) ≡ x → (x || ((e == f) && (g == h))) ≡ true → ((a ≡ b) × (c ≡ d)) ⊎ ((e ≡ f) × (g ≡ h))
  go true q t = inl (pair a b c d q)
  go false q t = inr (pair e f g h t)

equal-test : (a b c d : ℕ) → a ≡ b → c ≡ d → ((a == b) && (c == d)) ≡ true
equal-test a b c d h k = grind (arith, nat_tests)

or-right : (x : Bool) → (x || true) ≡ true
or-right true = refl
or-right false = refl

session-from_test : (router address : ℕ) (link : Link) → is_session_with router address link ≡ true → IsSessionWith router address link
session-from_test router address link t =
    let w = test-parts link.session link.low.router router link.high.address address link.high.router router link.low.address address t in
    record { session = w.0; far = w.1 }

test-from_session : (router address : ℕ) (link : Link) → IsSessionWith router address link → is_session_with router address link ≡ true
test-from_session router address link s = rw s.session (⊎_elim
    (λ h. rw (equal-test link.low.router router link.high.address address h.0 h.1) refl)
    (λ h. rw (equal-test link.high.router router link.low.address address h.0 h.1) (or-right ((link.low.router == router) && (link.high.address == address))))
    s.far)

idle-from_test : (links : List Link) (router address : ℕ) → not (makes_session links router address) ≡ true → (link : Link) → Contains links link → IsSessionWith router address link → ⊥
idle-from_test links router address t link i s = false≢true (ap not (sym (any-from (λ l. is_session_with router address l) link links (In-from_Contains link links i) (test-from_session router address link s))) ∙ t)

test-from_idle : (links : List Link) (router address : ℕ) → ((link : Link) → Contains links link → IsSessionWith router address link → ⊥) → not (makes_session links router address) ≡ true
test-from_idle links router address h = go (makes_session links router address) refl where
  go : (b : Bool) → makes_session links router address ≡ b → not b ≡ true
  go false e = refl
  go true e = let w = from-any (λ l. is_session_with router address l) links e in absurd (h w.0 (Contains-from_In w.0 links w.1) (session-from_test router address w.0 w.2))

-- each notice is of such a line
each-notices_of : (configs : List RouterConfig) (links : List Link) (k : ℕ) (config : RouterConfig) → slice_get configs k ≡ Some config → AllByRecursion (IsIdleLine configs links) (notices_of links k config)
each-notices_of configs links k config at =
    All-map (λ (n : Neighbor). record { router = k; address = n.address }) (IsIdleLine configs links) (idle_neighbors links k config)
    (all-in (idle_neighbors links k config) (λ (n : Neighbor). IsIdleLine configs links (record { router = k; address = n.address })) (λ n i. one n (from-filter (λ (m : Neighbor). not (makes_session links k m.address)) n (neighbors_of config) i))) where
      line : (n : Neighbor) (bgp : Option BgpConfig) → config.bgp ≡ bgp → In n (option_map_or (λ (b : BgpConfig). b.neighbors) bgp []) → not (makes_session links k n.address) ≡ true → IsIdleLine configs links (record { router = k; address = n.address })
      line n None e i t = absurd i
      line n (Some b) e i t = record {
        config = config;
        config_at = at;
        bgp = b;
        runs = e;
        neighbor = n;
        line = Contains-from_In n b.neighbors i;
        address = refl;
        idle = idle-from_test links k n.address t;
      }

      one : (n : Neighbor) → In n (neighbors_of config) × (not (makes_session links k n.address) ≡ true) → IsIdleLine configs links (record { router = k; address = n.address })
      one n w = line n config.bgp refl w.0 w.1

each-notices_from : (all : List RouterConfig) (links : List Link) (m : ℕ) (configs : List RouterConfig) → ((k : ℕ) → slice_get all (m + k) ≡ slice_get configs k) → AllByRecursion (IsIdleLine all links) (notices_from links m configs)
each-notices_from all links m [] h = tt
each-notices_from all links m (config ∷ configs) h =
    All-append (IsIdleLine all links) (notices_of links m config) (notices_from links (m + 1) configs)
    (each-notices_of all links m config (ap (λ n. slice_get all n) (sym (add-zero m)) ∙ h 0))
    (each-notices_from all links (m + 1) configs (λ k. let e : m + 1 + k ≡ m + suc k = omega arith in ap (λ n. slice_get all n) e ∙ h (suc k)))

-- each such line has its notice
notice-in : (links : List Link) (n : Neighbor) (m : ℕ) (configs : List RouterConfig) (k : ℕ) (config : RouterConfig) → slice_get configs k ≡ Some config → In n (neighbors_of config) → not (makes_session links (m + k) n.address) ≡ true → In (record { router = m + k; address = n.address }) (notices_from links m configs)
notice-in links n m [] k config at i t = absurd (false≢true (none config at)) where
  none : (config : RouterConfig) → None ≡ Some config → false ≡ true
  none config e = cc
notice-in links n m (first ∷ configs) zero config at i t =
    In-append-left (record { router = m + 0; address = n.address }) (notices_of links m first) (notices_from links (m + 1) configs) (here (m + 0) (add-zero m) t) where
      same : (a b : RouterConfig) → Some a ≡ Some b → a ≡ b
      same a b e = cc

      here : (r : ℕ) → r ≡ m → not (makes_session links r n.address) ≡ true → In (record { router = r; address = n.address }) (notices_of links m first)
      here r e q = rw (same first config at, e) (In-map (λ (l : Neighbor). record { router = m; address = l.address }) n (idle_neighbors links m config) (In-filter (λ (l : Neighbor). not (makes_session links m l.address)) n (neighbors_of config) i (ap (λ x. not (makes_session links x n.address)) (sym e) ∙ q)))
notice-in links n m (first ∷ configs) (suc k) config at i t =
    let e : m + 1 + k ≡ m + suc k = omega arith in
    In-append-right (record { router = m + suc k; address = n.address }) (notices_of links m first) (notices_from links (m + 1) configs)
    (rw (← e) (notice-in links n (m + 1) configs k config at i (ap (λ x. not (makes_session links x n.address)) e ∙ t)))

in-bgp : (config : RouterConfig) (bgp : BgpConfig) (n : Neighbor) → config.bgp ≡ Some bgp → In n bgp.neighbors → In n (neighbors_of config)
in-bgp config bgp n e i = let P : Option BgpConfig → Type 0 = λ o. In n (option_map_or (λ (b : BgpConfig). b.neighbors) o []) in subst P (sym e) i

complete-notices : (configs : List RouterConfig) (links : List Link) (notice : Notice) → IsIdleLine configs links notice → Contains (notices links configs) notice
complete-notices configs links notice h =
    let there = In-from_Contains h.neighbor h.bgp.neighbors h.line in
    let test = test-from_idle links notice.router notice.address h.idle in
    let one = notice-in links h.neighbor 0 configs notice.router h.config h.config_at (in-bgp h.config h.bgp h.neighbor h.runs there) (ap (λ x. not (makes_session links x h.neighbor.address)) (zero-add notice.router) ∙ ap (λ x. not (makes_session links notice.router x)) h.address ∙ test) in
    let is : (let n : Notice = record { router = 0 + notice.router; address = h.neighbor.address } in n) ≡ notice = λ i. record { router = zero-add notice.router i; address = h.address i } in
    Contains-from_In notice (notices links configs) (In-ascending same_notice notice_before notice-equal notice (notices_from links 0 configs) (let P : Notice → Type 0 = λ x. In x (notices_from links 0 configs) in subst P is one))

pub AreNotices-notices : (configs : List RouterConfig) (links : List Link) → AreNotices configs links (notices links configs)
AreNotices-notices configs links = record {
  rise = notices-rise links configs;
  each = All-from_recursion (IsIdleLine configs links) (notices links configs)
      (All-ascending (IsIdleLine configs links) same_notice notice_before (notices_from links 0 configs) (each-notices_from configs links 0 configs (λ k. ap (λ n. slice_get configs n) (zero-add k))));
  complete = complete-notices configs links;
}
