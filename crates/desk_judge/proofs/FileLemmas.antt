-- What files give is a network that is valid, or a refusal that names some of them.
use Rattle.std.proofs.Common.{ℕ, ◌≡◌, ◌≢◌, ◌+◌, ◌<◌, Bool, true, false, cond, nat_lt, List, [], ◌∷◌, length, All, Option, Some, None, MatchOption, arith, refl, ap, sym, subst, ◌∙◌}
use Rattle.std.specs.Prelude.{Result, Ok, Err}
use Rattle.std.specs.Option.{IfSome, option_map}
use Rattle.std.specs.Result.{IfOk}
use Rattle.std.proofs.lemmas.List.Elements.{All-cons, All-nil}
use Rattle.std.proofs.lemmas.Option.{slice_get_within}
use Rattle.net_types.specs.ConfigFacts.{IsConfig}
use Rattle.net_types.specs.NetFacts.{IsNet}
use Rattle.net_types.specs.NetValue.{NetValue}
use Rattle.net_types.specs.PrefixValue.{PrefixValue}
use Rattle.net_types.specs.declared.config.RouterConfig.{RouterConfig}
use Rattle.net_types.specs.declared.config.SourceFile.{SourceFile}
use Rattle.net_types.specs.declared.refusals.ReadRefusal.{ReadRefusal}
use Rattle.net_types.specs.declared.refusals.ReadRefusal.TheVariants.{NoMemory as NoReadMemory}
use Rattle.net_types.specs.declared.refusals.NetRefusal.{NetRefusal}
use Rattle.net_types.specs.declared.refusals.NetRefusal.TheVariants.{SameHost, SameAs, SameAddress, SharedSubnet, TooManyCommunities, TooManyLinks, TooManyRouters}
use Rattle.net_types.specs.declared.refusals.BundleRefusal.{BundleRefusal}
use Rattle.net_types.specs.declared.refusals.BundleRefusal.TheVariants.{InFile, InNet, TooLarge, TooManyFiles}
use Rattle.frr_reader.specs.Reading.{reading}
use Rattle.frr_reader.proofs.ConfigLemmas.{reading_kept}
use Rattle.frr_reader.proofs.FirstRefusalLemmas.{read_once}
use Rattle.topology.specs.Live.{ports}
use Rattle.topology.specs.Groups.{shared_subnet, wires}
use Rattle.topology.specs.Communities.{communities}
use Rattle.topology.specs.Meaning.{HaveOneAddress, HaveOneAsn, HaveOneHost, IsLeastPair, NoPair}
use Rattle.topology.specs.Network.{address_pair, asn_pair, host_pair, net_of, network_of, refusals, too_many, unless, whole_refusals}
use Rattle.topology.proofs.NetLemmas.{net_is}
use Rattle.topology.proofs.TwinLemmas.{least-address_pair, least-asn_pair, least-host_pair}
use Rattle.topology.proofs.WholeLemmas.{NamesWhole-answer}
use Rattle.bundle_reader.specs.Bundle.{before, bundle_of, bytes_of, configs_of, in_net, max_bytes, max_files, named, net_of_configs}
use Rattle.bundle_reader.proofs.FileLemmas.{said}
use Rattle.review_rules.specs.Judging.{IsBundleRefusal, IsNetRefusal}

err_is : {A E : Type 0} (a b : E) → (let r : Result A E = Err a in r) ≡ Err b → a ≡ b
err_is a b e = cc

ok_is : {A E : Type 0} (a b : A) → (let r : Result A E = Ok a in r) ≡ Ok b → a ≡ b
ok_is a b e = cc

no_ok : {A E R : Type 0} (a : E) (b : A) → (let r : Result A E = Err a in r) ≡ Ok b → R
no_ok a b e = absurd (cc)

no_err : {A E R : Type 0} (a : A) (b : E) → (let r : Result A E = Ok a in r) ≡ Err b → R
no_err a b e = absurd (cc)

-- ---- what the files say

not_memory : (text : List ℕ) (refusal : ReadRefusal) → reading text ≡ Err refusal → refusal ≢ NoReadMemory
not_memory text refusal e n = (read_once text).no_memory (((read_once text).ref NoReadMemory).0 (e ∙ ap (λ (r : ReadRefusal). Err r) n))

-- a refusal of files from this number on names one of them, and its cause
record IsInFile (from past : ℕ) (refusal : BundleRefusal) : Type 0 where
  at : ℕ
  cause : ReadRefusal
  is : refusal ≡ InFile at cause
  low : at < past
  no_memory : cause ≢ NoReadMemory

in_file : (files : List SourceFile) (from : ℕ) (refusal : BundleRefusal) → configs_of from files ≡ Err refusal → IsInFile from (from + length files) refusal
in_file [] from refusal e = no_err [] refusal e
in_file (file ∷ files) from refusal e = go (in_file files (from + 1)) (reading file.text) refl (configs_of (from + 1) files) refl e where
  go : ((r : BundleRefusal) → configs_of (from + 1) files ≡ Err r → IsInFile (from + 1) (from + 1 + length files) r) →
      (read : Result RouterConfig ReadRefusal) → reading file.text ≡ read → (later : Result (List RouterConfig) BundleRefusal) → configs_of (from + 1) files ≡ later →
      before from read later ≡ Err refusal → IsInFile from (from + length (file ∷ files)) refusal
  go rest (Err cause) f later g h = record {
    at = from;
    cause = cause;
    is = sym (err_is (InFile from cause) refusal h);
    low = omega arith;
    no_memory = not_memory file.text cause f;
  }
  go rest (Ok config) f (Ok configs) g h = no_err (config ∷ configs) refusal h
  go rest (Ok config) f (Err other) g h =
      let i = rest other g in
      let l = i.low in
      record { at = i.at; cause = i.cause; is = sym (err_is other refusal h) ∙ i.is; low = omega arith; no_memory = i.no_memory }

-- each of them is valid
configs_are : (files : List SourceFile) (from : ℕ) (configs : List RouterConfig) → configs_of from files ≡ Ok configs → All IsConfig configs
configs_are [] from configs e = subst (λ (cs : List RouterConfig). All IsConfig cs) (ok_is [] configs e) (All-nil IsConfig)
configs_are (file ∷ files) from configs e = go (configs_are files (from + 1)) (reading file.text) (reading_kept file.text) (configs_of (from + 1) files) refl e where
  go : ((cs : List RouterConfig) → configs_of (from + 1) files ≡ Ok cs → All IsConfig cs) →
      (read : Result RouterConfig ReadRefusal) → IfOk read IsConfig → (later : Result (List RouterConfig) BundleRefusal) → configs_of (from + 1) files ≡ later →
      before from read later ≡ Ok configs → All IsConfig configs
  go rest (Err cause) f later g h = no_ok (InFile from cause) configs h
  go rest (Ok config) f (Err refusal) g h = no_ok refusal configs h
  go rest (Ok config) f (Ok cs) g h = subst (λ (all : List RouterConfig). All IsConfig all) (ok_is (config ∷ cs) configs h) (All-cons IsConfig config cs f (rest cs g))

-- ---- the network of configurations

-- each of the refusals that is there names some of so many files
abbrev AllName : ℕ → List (Option NetRefusal) → Type 0
AllName n [] = Unit {0}
AllName n (tried ∷ later) = IfSome tried (IsNetRefusal n) × AllName n later

name_if : {A : Type 0} (n : ℕ) (tried : List (Option NetRefusal)) (value : A) (refusal : NetRefusal) → AllName n tried → unless tried value ≡ Err refusal → IsNetRefusal n refusal
name_if n [] value refusal all e = no_err value refusal e
name_if n (Some first ∷ later) value refusal all e = subst (λ (r : NetRefusal). IsNetRefusal n r) (err_is first refusal e) all.0
name_if n (None ∷ later) value refusal all e = name_if n later value refusal all.1 e

hosts_name : (configs : List RouterConfig) → IfSome (option_map (λ (p : ℕ × ℕ). SameHost p.0 p.1) (host_pair configs)) (IsNetRefusal (length configs))
hosts_name configs = go (host_pair configs) (least-host_pair configs) where
  go : (pair : Option (ℕ × ℕ)) → MatchOption pair (NoPair (HaveOneHost configs)) (λ p. IsLeastPair (HaveOneHost configs) p.0 p.1) →
      IfSome (option_map (λ (p : ℕ × ℕ). SameHost p.0 p.1) pair) (IsNetRefusal (length configs))
  go None h = tt
  go (Some p) h = (slice_get_within configs p.0 h.meets.first h.meets.first_at, slice_get_within configs p.1 h.meets.second h.meets.second_at)

asns_name : (configs : List RouterConfig) → IfSome (option_map (λ (p : ℕ × ℕ). SameAs p.0 p.1) (asn_pair configs)) (IsNetRefusal (length configs))
asns_name configs = go (asn_pair configs) (least-asn_pair configs) where
  go : (pair : Option (ℕ × ℕ)) → MatchOption pair (NoPair (HaveOneAsn configs)) (λ p. IsLeastPair (HaveOneAsn configs) p.0 p.1) →
      IfSome (option_map (λ (p : ℕ × ℕ). SameAs p.0 p.1) pair) (IsNetRefusal (length configs))
  go None h = tt
  go (Some p) h = (slice_get_within configs p.0 h.meets.first h.meets.first_at, slice_get_within configs p.1 h.meets.second h.meets.second_at)

addresses_name : (configs : List RouterConfig) → IfSome (option_map (λ (p : ℕ × ℕ). SameAddress p.0 p.1) (address_pair configs)) (IsNetRefusal (length configs))
addresses_name configs = go (address_pair configs) (least-address_pair configs) where
  go : (pair : Option (ℕ × ℕ)) → MatchOption pair (NoPair (HaveOneAddress configs)) (λ p. IsLeastPair (HaveOneAddress configs) p.0 p.1) →
      IfSome (option_map (λ (p : ℕ × ℕ). SameAddress p.0 p.1) pair) (IsNetRefusal (length configs))
  go None h = tt
  go (Some p) h = (slice_get_within configs p.0 h.meets.first h.meets.first_at, slice_get_within configs p.1 h.meets.second h.meets.second_at)

subnets_name : (n : ℕ) (shared : Option PrefixValue) → IfSome (option_map (λ (prefix : PrefixValue). SharedSubnet prefix) shared) (IsNetRefusal n)
subnets_name n None = tt
subnets_name n (Some prefix) = tt

counts_name : (n : ℕ) (refusal : ℕ → NetRefusal) (count : ℕ) → IsNetRefusal n (refusal count) → IfSome (too_many refusal count) (IsNetRefusal n)
counts_name n refusal count is = go (nat_lt 64 count) where
  go : (b : Bool) → IfSome (cond b (Some (refusal count)) None) (IsNetRefusal n)
  go true = is
  go false = tt

refusals_name : (configs : List RouterConfig) → AllName (length configs) (refusals configs)
refusals_name configs = (
  hosts_name configs,
  (
    asns_name configs,
    (
      addresses_name configs,
      (
        subnets_name (length configs) (shared_subnet (ports configs)),
        (
          counts_name (length configs) (λ n. TooManyLinks n) (length (wires (ports configs))) tt,
          (
            counts_name (length configs) (λ n. TooManyCommunities n) (length (communities configs)) tt,
            (
              counts_name (length configs) (λ n. TooManyRouters n) (length configs) tt,
              tt,
            ),
          ),
        ),
      ),
    ),
  ),
)

value_is : {A : Type 0} (tried : List (Option NetRefusal)) (value net : A) → unless tried value ≡ Ok net → value ≡ net
value_is [] value net e = ok_is value net e
value_is (Some first ∷ later) value net e = no_ok first net e
value_is (None ∷ later) value net e = value_is later value net e

-- no pair of AS numbers is refused, and nothing of the whole
record ArePassed (configs : List RouterConfig) (net : NetValue) : Type 0 where
  asns : asn_pair configs ≡ None
  whole : unless (whole_refusals configs) (net_of configs) ≡ Ok net

are_passed : (configs : List RouterConfig) (net : NetValue) → network_of configs ≡ Ok net → ArePassed configs net
are_passed configs net e = go (host_pair configs) (asn_pair configs) refl (address_pair configs) e where
  go : (hosts asns : Option (ℕ × ℕ)) → asn_pair configs ≡ asns → (addresses : Option (ℕ × ℕ)) →
      unless (option_map (λ (p : ℕ × ℕ). SameHost p.0 p.1) hosts ∷ option_map (λ (p : ℕ × ℕ). SameAs p.0 p.1) asns ∷ option_map (λ (p : ℕ × ℕ). SameAddress p.0 p.1) addresses ∷ whole_refusals configs) (net_of configs) ≡ Ok net →
      ArePassed configs net
  go (Some p) asns f addresses g = no_ok (SameHost p.0 p.1) net g
  go None (Some p) f addresses g = no_ok (SameAs p.0 p.1) net g
  go None None f (Some p) g = no_ok (SameAddress p.0 p.1) net g
  go None None f None g = record { asns = f; whole = g }

network_is : (configs : List RouterConfig) (net : NetValue) → All IsConfig configs → network_of configs ≡ Ok net → IsNet net
network_is configs net valid e =
    let passed = are_passed configs net e in
    let whole = NamesWhole-answer configs (Ok net) passed.whole in
    subst (λ (n : NetValue). IsNet n) (value_is (whole_refusals configs) (net_of configs) net passed.whole)
    (net_is configs valid passed.asns (record { routers = whole.3; links = whole.1; communities = whole.2 }))

-- ---- of files

refused_as : (files : List SourceFile) (a b : BundleRefusal) → a ≡ b → IsBundleRefusal (length files) a → IsBundleRefusal (length files) b
refused_as files a b e is = subst (λ (r : BundleRefusal). IsBundleRefusal (length files) r) e is

-- a refusal of files names some of them, and is no want of memory
pub bundle_refusal : (files : List SourceFile) (refusal : BundleRefusal) → bundle_of files ≡ Err refusal → IsBundleRefusal (length files) refusal
bundle_refusal files refusal e = go (nat_lt max_files (length files)) (nat_lt max_bytes (bytes_of files)) (configs_of 0 files) refl e where
  in_network : (configs : List RouterConfig) → configs_of 0 files ≡ Ok configs → (made : Result NetValue NetRefusal) → network_of configs ≡ made → in_net made ≡ Err refusal → IsBundleRefusal (length files) refusal
  in_network configs f (Ok net) g h = no_err net refusal h
  in_network configs f (Err cause) g h =
      let long : length configs ≡ length files = (said files 0 configs f).long in
      refused_as files (InNet cause) refusal (err_is (InNet cause) refusal h)
      (subst (λ (n : ℕ). IsNetRefusal n cause) long (name_if (length configs) (refusals configs) (net_of configs) cause (refusals_name configs) g))

  go : (many large : Bool) (read : Result (List RouterConfig) BundleRefusal) → configs_of 0 files ≡ read →
      cond many (Err (TooManyFiles (length files))) (cond large (Err (TooLarge (named (bytes_of files)))) (net_of_configs read)) ≡ Err refusal → IsBundleRefusal (length files) refusal
  go true large read f g = refused_as files (TooManyFiles (length files)) refusal (err_is (TooManyFiles (length files)) refusal g) tt
  go false true read f g = refused_as files (TooLarge (named (bytes_of files))) refusal (err_is (TooLarge (named (bytes_of files))) refusal g) tt
  go false false (Err other) f g =
      let i = in_file files 0 other f in
      let l = i.low in
      refused_as files (InFile i.at i.cause) refusal (sym i.is ∙ err_is other refusal g) (let low : i.at < length files = omega arith in low, i.no_memory)
  go false false (Ok configs) f g = in_network configs f (network_of configs) refl g

-- what files make is a network
pub bundle_is : (files : List SourceFile) (net : NetValue) → bundle_of files ≡ Ok net → IsNet net
bundle_is files net e = go (nat_lt max_files (length files)) (nat_lt max_bytes (bytes_of files)) (configs_of 0 files) refl e where
  in_network : (configs : List RouterConfig) → configs_of 0 files ≡ Ok configs → (made : Result NetValue NetRefusal) → network_of configs ≡ made → in_net made ≡ Ok net → IsNet net
  in_network configs f (Err cause) g h = no_ok (InNet cause) net h
  in_network configs f (Ok other) g h = subst (λ (n : NetValue). IsNet n) (ok_is other net h) (network_is configs other (configs_are files 0 configs f) g)

  go : (many large : Bool) (read : Result (List RouterConfig) BundleRefusal) → configs_of 0 files ≡ read →
      cond many (Err (TooManyFiles (length files))) (cond large (Err (TooLarge (named (bytes_of files)))) (net_of_configs read)) ≡ Ok net → IsNet net
  go true large read f g = no_ok (TooManyFiles (length files)) net g
  go false true read f g = no_ok (TooLarge (named (bytes_of files))) net g
  go false false (Err other) f g = no_ok other net g
  go false false (Ok configs) f g = in_network configs f (network_of configs) refl g
