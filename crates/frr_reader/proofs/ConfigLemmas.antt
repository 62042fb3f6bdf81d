-- The configuration of a file keeps all that is promised of one.
use Rattle.std.proofs.Common.{ℕ, ◌≡◌, ◌≤◌, ◌+◌, arith, List, [], ◌∷◌, length, Option, Some, None, Result, Ok, Err, IfSome, IfOk, refl, subst}
use Rattle.net_types.specs.Cut.{parts}
use Rattle.net_types.specs.ConfigFacts.{IsConfig, IsBgp, IsRedistribute, IsMap, IsMapEntry}
use Rattle.net_types.specs.declared.config.BgpConfig.{BgpConfig}
use Rattle.net_types.specs.declared.config.Redistribute.{Redistribute}
use Rattle.net_types.specs.declared.config.Redistribute.TheVariants.{No, Plain, By}
use Rattle.net_types.specs.declared.config.MapEntry.{MapEntry}
use Rattle.net_types.specs.declared.config.RouteMap.{RouteMap}
use Rattle.net_types.specs.declared.config.RouterConfig.{RouterConfig}
use Rattle.net_types.specs.declared.refusals.ReadRefusal.{ReadRefusal}
use Rattle.frr_policy.specs.MapRows.{FitsEntry}
use Rattle.frr_reader.specs.declared.causes.Cause.{Cause}
use Rattle.frr_reader.specs.Lines.{LineValue, line_at, numbered, lines}
use Rattle.frr_reader.specs.State.{State, start}
use Rattle.frr_reader.specs.Needs.{first_undefined, first_foreign}
use Rattle.frr_reader.specs.Reading.{step, RefusedLine, go_on, read_lines, configured, unless_wrong, judged, config_of, concluded, reading, Answers}
use Rattle.frr_reader.proofs.BgpLemmas.{IsKeptBgp}
use Rattle.frr_reader.proofs.NeedLemmas.{AllMet, IsNamedBy, IsNamedBgp, IsNamedEntry, IsNamedMap, whole_of, all_met, is_own_as, ordered_more}
use Rattle.frr_reader.proofs.ListLemmas.{IsKeptMap}
use Rattle.frr_reader.proofs.KeptLemmas.{IsKept, IsTaken, step_taken, start_kept}

-- a file has at most so many lines: the last one ends within its greatest size, and each other has an LF
abbrev most_lines : ℕ
most_lines = 262145

raise : (n m : ℕ) → n ≤ m → (s : State) → IsKept n s → IsKept m s
raise n m l s h = record {
  interfaces = h.interfaces;
  ospf = h.ospf;
  policy = record {
    bgp = h.policy.bgp;
    prefix_lists = h.policy.prefix_lists;
    community_lists = h.policy.community_lists;
    maps = h.policy.maps;
    named = h.policy.named;
    few_prefix_lists = (let k = h.policy.few_prefix_lists in omega arith);
    few_community_lists = (let k = h.policy.few_community_lists in omega arith);
    few_maps = (let k = h.policy.few_maps in omega arith);
    ordered = ordered_more n m l s.needed h.policy.ordered;
  };
  opened = h.opened;
}

-- the state after all lines, of which n stand before these, behind at least n bytes
lines_kept : (ps : List (List ℕ)) (number before n : ℕ) (s : State) → number ≡ n + 1 → n ≤ before → n ≤ most_lines → IsKept n s → IfOk (read_lines s (numbered number before ps)) (IsKept most_lines)
lines_kept [] number before n s at b l h = raise n most_lines l s h
lines_kept (last ∷ []) number before n s at b l h = go (step s line) (step_taken n s line at h) where
  line : LineValue
  line = line_at number last (before + length last)

  go : (r : Result State Cause) → IfOk r (IsTaken (n + 1) line.reach) → IfOk (go_on line.number r (λ t. read_lines t [])) (IsKept most_lines)
  go (Ok t) k = raise (n + 1) most_lines (let m = k.1 in omega arith) t k.0
  go (Err cause) k = tt
lines_kept (part ∷ next ∷ rest) number before n s at b l h = go (λ t c k. lines_kept (next ∷ rest) (number + 1) (before + length part + 1) (n + 1) t (omega arith) (omega arith) c k) (step s line) (step_taken n s line at h) where
  line : LineValue
  line = line_at number part (before + length part + 1)

  go : ((t : State) → n + 1 ≤ most_lines → IsKept (n + 1) t → IfOk (read_lines t (numbered (number + 1) (before + length part + 1) (next ∷ rest))) (IsKept most_lines)) → (r : Result State Cause) → IfOk r (IsTaken (n + 1) line.reach) → IfOk (go_on line.number r (λ t. read_lines t (numbered (number + 1) (before + length part + 1) (next ∷ rest)))) (IsKept most_lines)
  go ih (Ok t) k = ih t (let m = k.1 in omega arith) k.0
  go ih (Err cause) k = tt

redistributed : (config : RouterConfig) (r : Redistribute) → IsNamedBy (whole_of config) r → IsRedistribute config r
redistributed config No h = tt
redistributed config Plain h = tt
redistributed config (By name) h = h

is_bgp : (config : RouterConfig) (b : BgpConfig) → IsKeptBgp b → IsNamedBgp (whole_of config) b → IsBgp config b
is_bgp config b k n = record {
  least = k.least;
  word = k.word;
  networks = k.networks;
  connected = redistributed config b.connected n.connected;
  ospf = redistributed config b.ospf n.ospf;
  neighbors = λ i d l. let a = k.neighbors i d l in let c = n.neighbors i d l in record { address = a.address; asn = a.asn; «import» = c.import; «export» = c.export };
  addresses = k.addresses;
}

bgp_of : (config : RouterConfig) (o : Option BgpConfig) → IfSome o IsKeptBgp → IfSome o (IsNamedBgp (whole_of config)) → IfSome o (IsBgp config)
bgp_of config None k n = tt
bgp_of config (Some b) k n = is_bgp config b k n

is_entry : (config : RouterConfig) (e : MapEntry) → FitsEntry e → IsNamedEntry (whole_of config) e → IsMapEntry config e
is_entry config e f n = record {
  seq = f.seq;
  prefixes = n.prefixes;
  communities = n.communities;
  sets = record {
    weight = f.weight;
    preference = f.preference;
    med = f.med;
    «delete» = n.delete;
    community = f.community;
    few = f.few;
    prepend = λ i d l. is_own_as config _ (n.prepend i d l);
  };
}

is_map : (config : RouterConfig) (m : RouteMap) → IsKeptMap m → IsNamedMap (whole_of config) m → IsMap config m
is_map config m k n = record { few = k.few; ascending = k.ascending; entries = λ i d l. is_entry config _ (k.entries i d l) (n i d l) }

is_config : (s : State) (host : List ℕ) → IsKept most_lines s → AllMet (whole_of (configured s host)) s.needed → IsConfig (configured s host)
is_config s host h m =
    let n = h.policy.named (whole_of (configured s host)) m in
    record {
      interfaces = h.interfaces;
      ospf = h.ospf;
      bgp = bgp_of (configured s host) s.bgp h.policy.bgp n.bgp;
      prefix_lists = h.policy.prefix_lists;
      community_lists = h.policy.community_lists;
      maps = λ i d l. is_map (configured s host) _ (h.policy.maps i d l) (n.maps i d l);
      few_prefix_lists = (let k = h.policy.few_prefix_lists in omega arith);
      few_community_lists = (let k = h.policy.few_community_lists in omega arith);
      few_maps = (let k = h.policy.few_maps in omega arith);
    }

judged_kept : (s : State) (host : List ℕ) → IsKept most_lines s → IfOk (judged (configured s host) s.needed) IsConfig
unfolding judged
judged_kept s host h = go (first_undefined (configured s host) s.needed) refl (first_foreign (configured s host) s.needed) refl where
  go : (u : Option ℕ) → first_undefined (configured s host) s.needed ≡ u → (f : Option ℕ) → first_foreign (configured s host) s.needed ≡ f → IfOk (unless_wrong (configured s host) u f) IsConfig
  go (Some line) e f g = tt
  go None e (Some line) g = tt
  go None e None g = is_config s host h (all_met (configured s host) s.needed e g)

config_kept : (s : State) (host : Option (List ℕ)) → IsKept most_lines s → IfOk (config_of s host) IsConfig
config_kept s None h = tt
config_kept s (Some host) h = judged_kept s host h

concluded_kept : (r : Result State RefusedLine) → IfOk r (IsKept most_lines) → IfOk (concluded r) IsConfig
concluded_kept (Ok s) h = config_kept s s.host h
concluded_kept (Err line) h = tt

pub reading_kept : (text : List ℕ) → IfOk (reading text) IsConfig
unfolding reading lines
reading_kept text = concluded_kept (read_lines start (lines text)) (lines_kept (parts 10 text) 1 0 0 start refl (omega arith) (omega arith) start_kept)

-- so does what a reader answers with
pub answer_kept : (value result : Result RouterConfig ReadRefusal) → IfOk value IsConfig → Answers value result → IfOk result IsConfig
answer_kept value (Ok config) h a = let P : Result RouterConfig ReadRefusal → Type 0 = λ r. IfOk r IsConfig in subst P a h
answer_kept value (Err refusal) h a = tt
