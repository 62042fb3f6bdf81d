-- The values of a label are the network's, and fit their types.
use Rattle.std.proofs.Common.{ℕ, ℤ, pos, negsuc, ◌≡◌, ◌≢◌, ◌<◌, ◌≤◌, ◌^◌, ◌||◌, ◌&&◌, Bool, true, false, List, [], ◌∷◌, length, fold, All, Option, Some, None, IfSome, nat_lt, nat_le, nat_eq, bit_or, eqb, if◌then◌else◌, arith, refl, sym, ◌∙◌}
use Rattle.std.proofs.lemmas.Bool.Decides.{nat_tests}
use Rattle.std.proofs.lemmas.List.Elements.{All-head, All-tail}
use Rattle.std.proofs.Math.Pow.{pow-lt}
use Rattle.std.proofs.lemmas.Nat.{or_lt}
use Rattle.std.proofs.lemmas.Nat.Bits.{bit_at-pow_other, bit_at-zero}
use Rattle.std.specs.List.{position, position_or_len}
use Rattle.toml.specs.Data.{Data, Items, Members, as_str}
use Rattle.net_types.specs.Numbering.{community_number, router_number}
use Rattle.net_types.specs.declared.network.Router.{Router}
use Rattle.net_types.specs.NetValue.{NetValue}
use Rattle.net_types.specs.NetFacts.{IsMask}
use Rattle.net_types.specs.Order.{same_text}
use Rattle.net_types.specs.Sets.{has}
use Rattle.net_types.proofs.SetLemmas.{has_union, bit_from}
use Rattle.net_types.specs.Communities.{community_of}
use Rattle.toml_fields.specs.Fields.{within, integer_at, text_at, array_at}
use Rattle.toml_fields.specs.Tables.{each_of}
use Rattle.label_file.specs.Communities.{community_in, with_number, set_of}
use Rattle.label_file.specs.Values.{router_at, word_at, hop_of, if_short, path_in, path_at, member_of, communities_in, communities_at}
use Rattle.label_file.proofs.OptionLemmas.{IfSome-test, IfSome-and_then, IfSome-behind, IfSome-map, IfSome-each_of}

-- a position is inside the list
IfSome-position : {A : Type 0} (test : A → Bool) (xs : List A) → IfSome (position test xs) (λ i. i < length xs)
IfSome-position test xs = IfSome-test (λ i. i < length xs) (nat_lt (position_or_len test xs) (length xs)) (position_or_len test xs) (λ e. grind (arith, nat_tests))

within_bound : (low high : ℕ) (z : ℤ) → IfSome (within low high z) (λ n. n ≤ high)
within_bound low high (pos n) = IfSome-test (λ n. n ≤ high) (nat_le low n && nat_le n high) n (λ e. bound (nat_le low n) n high e) where
  bound : (b : Bool) (n high : ℕ) → (b && nat_le n high) ≡ true → n ≤ high
  bound true n high e = grind (arith, nat_tests)
  bound false n high e = grind (arith, nat_tests)
within_bound low high (negsuc n) = tt

pub IfSome-word_at : (key : List ℕ) (fields : Members) → IfSome (word_at key fields) (λ n. n < 2 ^ 32)
IfSome-word_at key fields = IfSome-behind (λ n. n < 2 ^ 32) (within 0 4294967295) (integer_at key fields) (λ z. fits (within 0 4294967295 z) (within_bound 0 4294967295 z)) where
  fits : (o : Option ℕ) → IfSome o (λ n. n ≤ 4294967295) → IfSome o (λ n. n < 2 ^ 32)
  fits (Some n) h = omega arith
  fits None h = tt

pub IfSome-router_number : (net : NetValue) (host : List ℕ) → IfSome (router_number net host) (λ u. u < length net.routers)
IfSome-router_number net host = IfSome-position (λ (router : Router). same_text router.host host) net.routers

pub IfSome-router_at : (net : NetValue) (key : List ℕ) (fields : Members) → IfSome (router_at net key fields) (λ u. u < length net.routers)
IfSome-router_at net key fields = IfSome-behind (λ u. u < length net.routers) (router_number net) (text_at key fields) (IfSome-router_number net)

-- a path of the network
pub record IsPath (net : NetValue) (path : List ℕ) : Type 0 where
  pub short : length path ≤ 1344
  pub hops : All (λ hop. hop < length net.routers) path

short_path : (net : NetValue) (path : List ℕ) → All (λ hop. hop < length net.routers) path → IfSome (if_short path) (IsPath net)
short_path net path all = go (nat_lt 1344 (length path)) refl where
  few : (n : ℕ) → nat_lt 1344 n ≡ false → n ≤ 1344
  few n e = grind (arith, nat_tests)

  go : (b : Bool) → nat_lt 1344 (length path) ≡ b → IfSome (if b then None else Some path) (IsPath net)
  go true e = tt
  go false e = record { short = few (length path) e; hops = all }

pub IfSome-path_at : (net : NetValue) (key : List ℕ) (fields : Members) → IfSome (path_at net key fields) (IsPath net)
IfSome-path_at net key fields = IfSome-behind (IsPath net) (path_in net) (array_at key fields) in_items where
  hop : (value : Data) → IfSome (hop_of net value) (λ hop. hop < length net.routers)
  hop value = IfSome-behind (λ hop. hop < length net.routers) (router_number net) (as_str value) (IfSome-router_number net)

  in_items : (items : Items) → IfSome (path_in net items) (IsPath net)
  in_items items =
      IfSome-and_then (All (λ hop. hop < length net.routers)) (IsPath net) if_short (each_of (hop_of net) items)
      (IfSome-each_of (λ hop. hop < length net.routers) (hop_of net) items hop) (short_path net)

-- one more number below the count in a set
has_power : (k x : ℕ) → has (2 ^ k) x ≡ true → x ≡ k
has_power k x h = go (eqb x k) refl where
  go : (b : Bool) → eqb x k ≡ b → x ≡ k
  go true e = grind (arith, nat_tests)
  go false e = let d : x ≢ k = grind (arith, nat_tests) in let o = bit_at-pow_other k x d in let i = bit_from (2 ^ k) x h in omega arith

with_mask : (count set number : ℕ) → count ≤ 64 → IsMask count set → number < count → IsMask count (with_number set number)
with_mask count set number few mask below = record {
  word = or_lt 64 set (2 ^ number) mask.word (pow-lt {i = number} {j = 64} (omega arith));
  named = λ x h. named x (has set x) refl h;
} where
  named : (x : ℕ) (b : Bool) → has set x ≡ b → has (bit_or set (2 ^ number)) x ≡ true → x < count
  named x true e h = mask.named x e
  named x false e h =
      let p : (has set x || has (2 ^ number) x) ≡ true = sym (has_union set (2 ^ number) x) ∙ h in
      let q : has (2 ^ number) x ≡ true = rw e at p in
      let i : x ≡ number = has_power number x q in
      omega arith

fold_mask : (count set : ℕ) (numbers : List ℕ) → count ≤ 64 → IsMask count set → All (λ c. c < count) numbers → IsMask count (fold with_number set numbers)
fold_mask count set [] few mask all = mask
fold_mask count set (number ∷ more) few mask all =
    fold_mask count (with_number set number) more few (with_mask count set number few mask (All-head (λ c. c < count) number more all)) (All-tail (λ c. c < count) number more all)

no_member : (count : ℕ) → IsMask count 0
no_member count = record { word = omega arith; named = λ x h. let z = bit_at-zero x in let i = bit_from 0 x h in absurd (omega arith) }

pub IfSome-communities_at : (net : NetValue) (key : List ℕ) (fields : Members) → length net.communities ≤ 64 → IfSome (communities_at net key fields) (IsMask (length net.communities))
IfSome-communities_at net key fields few = IfSome-behind (IsMask (length net.communities)) (communities_in net) (array_at key fields) in_items where
  place : (text : List ℕ) → IfSome (community_in net text) (λ c. c < length net.communities)
  place text = IfSome-behind (λ c. c < length net.communities) (community_number net) (community_of text) (λ value. IfSome-position (λ known. nat_eq known value) net.communities)

  member : (value : Data) → IfSome (member_of net value) (λ c. c < length net.communities)
  member value = IfSome-behind (λ c. c < length net.communities) (community_in net) (as_str value) place

  in_items : (items : Items) → IfSome (communities_in net items) (IsMask (length net.communities))
  in_items items =
      IfSome-map (All (λ c. c < length net.communities)) (IsMask (length net.communities)) set_of (each_of (member_of net) items)
      (IfSome-each_of (λ c. c < length net.communities) (member_of net) items member) (λ numbers all. fold_mask (length net.communities) 0 numbers few (no_member (length net.communities)) all)
