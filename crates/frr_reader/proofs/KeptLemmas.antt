-- What holds of the configuration so far after each line, and so of the configuration of a file.
use Rattle.std.proofs.Common.{ℕ, ◌≡◌, ◌<◌, ◌≤◌, ◌+◌, ◌==◌, arith, not, sym, Bool, true, false, List, [], ◌∷◌, ◌++◌, length, Option, Some, None, Result, Ok, Err, IfSome, IfOk, IsSome, IsSomeAnd, All, slice_get, is_some, option_map, if◌then◌else◌, nat_lt, refl, subst, ap}
use Rattle.std.specs.Option.{option_map_or}
use Rattle.std.specs.List.{list_any}
use Rattle.std.proofs.lemmas.List.Elements.{All-nil, All-cons, All-append, All-set}
use Rattle.std.proofs.lemmas.Bool.Decides.{nat_tests}
use Rattle.std.proofs.lemmas.List.{length-set, length-append}
use Rattle.std.proofs.lemmas.List.Sums.{prefix_len-le-length}
use Rattle.net_types.specs.Order.{same_text}
use Rattle.net_types.specs.declared.config.Interface.{Interface}
use Rattle.net_types.specs.declared.config.BgpConfig.{BgpConfig}
use Rattle.net_types.specs.declared.config.PrefixList.{PrefixList}
use Rattle.net_types.specs.declared.config.PrefixEntry.{PrefixEntry}
use Rattle.net_types.specs.declared.config.CommunityList.{CommunityList}
use Rattle.net_types.specs.declared.config.CommunityEntry.{CommunityEntry}
use Rattle.net_types.specs.declared.config.RouteMap.{RouteMap}
use Rattle.net_types.specs.declared.config.MapEntry.{MapEntry}
use Rattle.net_types.specs.PrefixValue.{PrefixValue, IsPrefix}
use Rattle.net_types.specs.NetFacts.{IsPrefixList}
use Rattle.net_types.specs.ConfigFacts.{IsInterface, IsAddressed, IsCost, IsCommunityList}
use Rattle.frr_policy.specs.declared.map_steps.MapStep.{MapStep}
use Rattle.frr_policy.specs.declared.map_steps.MapStep.TheVariants.{Begin, Change}
use Rattle.frr_policy.specs.declared.refusals.LineRefusal.{LineRefusal as PolicyRefusal}
use Rattle.frr_policy.specs.Lists.{HasRoom}
use Rattle.frr_policy.specs.PrefixLines.{prefix_list_row}
use Rattle.frr_policy.specs.CommunityLines.{community_list_row}
use Rattle.frr_policy.specs.MapRows.{FitsEntry}
use Rattle.frr_policy.specs.MapLines.{map_line, map_numbers, new_entry}
use Rattle.frr_policy.specs.Words.{words}
use Rattle.frr_reader.specs.declared.causes.Cause.{Cause}
use Rattle.frr_reader.specs.declared.causes.Cause.TheVariants.{NotText, LineTooLong, BadValue, Repeated, OutOfLimit}
use Rattle.frr_reader.specs.declared.modes.Mode.TheVariants.{InBgp, InFamily}
use Rattle.frr_reader.specs.declared.needs.Need.{Need}
use Rattle.frr_reader.specs.declared.needs.Needed.TheVariants.{Map}
use Rattle.frr_reader.specs.declared.rows.BgpRow.{BgpRow}
use Rattle.frr_reader.specs.declared.rows.Row.{Row}
use Rattle.frr_reader.specs.declared.rows.Row.TheVariants.{HostName, OpenInterface, OpenBgp, OpenOspf, PrefixListLine, CommunityListLine, MapLine, Address, Area, Cost, Shutdown, OspfNetwork, OfBgp, OpenFamily, Exit, End, ExitFamily, NoEffect}
use Rattle.frr_reader.specs.Lines.{LineValue}
use Rattle.frr_reader.specs.Table.{FoundValue, found_from}
use Rattle.frr_policy.specs.Values.{name_of}
use Rattle.frr_reader.specs.Values.{one, host_of, as_of, interface_address_of, area_of, cost_of, network_of, is_nothing, is_unicast}
use Rattle.frr_reader.specs.Answers.{needs_before, unless_set, alone, and_then, by_policy}
use Rattle.frr_reader.specs.State.{State, start, IsOpen}
use Rattle.frr_reader.specs.Entries.{put, with_entry_at}
use Rattle.frr_reader.specs.Needs.{noted_change}
use Rattle.frr_reader.specs.Bgp.{bgp_effect, named_map}
use Rattle.frr_reader.specs.Effects.{on_open, with_open, host_line, fresh_interface, place_of, with_interface, interface_line, address_line, area_line, cost_line, shutdown_line, or_empty, ospf_line, network_line, with_bgp, bgp_line, by_bgp, with_map_noted, of_bgp_line, family_line, prefix_list_line, community_list_line, open_entry, with_begun, with_change_noted, with_entry_set, with_step, map_row_line, exit_line, end_line, exit_family_line, effect}
use Rattle.frr_reader.specs.Reading.{is_control, line_max, by_row, by_words, begins_comment, within, step}
use Rattle.frr_reader.proofs.BgpLemmas.{IsKeptBgp, needs_ok, needs_before_ok, unless_ok, alone_ok, anything, bgp_effect_kept, fresh_bgp_kept, bgp_effect_named, fresh_bgp_named}
use Rattle.frr_reader.proofs.EntryLemmas.{length-on_first, All-at}
use Rattle.frr_reader.proofs.ListLemmas.{IsKeptMap, prefix_entry_kept, community_entry_kept, map_entry_kept, map_entry_named, with_entry_all, same_length, entry_in, changed_map, old_named}
use Rattle.frr_reader.proofs.NeedLemmas.{Whole, IsMet, AllMet, IsNamed, IsNamedBgp, IsNamedEntry, IsNamedMap, noted_before, noted_now, change_before, change_named, IsOrdered, ordered_more, ordered_noted, ordered_change}
use Rattle.frr_reader.proofs.OpenLemmas.{StaysIn, found_stays, opened_in, opened_outer, opened_top, in_interface, in_ospf, in_bgp, in_family, in_map, begun_there, changed_there}
use Rattle.frr_reader.proofs.PolicyLemmas.{IsNewPrefix, prefix_row_given, IsNewCommunity, community_row_given, IsMapStep, map_line_given}
use Rattle.frr_reader.proofs.RangeLemmas.{IsAs, as_is_as, address_addressed, cost_is_cost, network_prefix}

-- BGP, lists and maps: numbers in their ranges, entries ascending, each name there where the file has what
-- its lines need; and of so many lines, at most so many lists and maps, and needs in the order of lines
pub record IsKeptPolicy (n : ℕ) (b : Option BgpConfig) (ps : List PrefixList) (cs : List CommunityList) (ms : List RouteMap) (all : List Need) : Type 0 where
  pub bgp : IfSome b IsKeptBgp
  pub prefix_lists : All IsPrefixList ps
  pub community_lists : All IsCommunityList cs
  pub maps : All IsKeptMap ms
  pub named : (w : Whole) → AllMet w all → IsNamed w b ms
  pub few_prefix_lists : length ps ≤ n
  pub few_community_lists : length cs ≤ n
  pub few_maps : length ms ≤ n
  pub ordered : IsOrdered n all

abbrev pub PolicyOf : ℕ → State → Type 0
PolicyOf n s = IsKeptPolicy n s.bgp s.prefix_lists s.community_lists s.maps s.needed

-- what is kept, and that what a block is of is there
pub record IsKept (n : ℕ) (s : State) : Type 0 where
  pub interfaces : All IsInterface s.interfaces
  pub ospf : IfSome s.ospf (λ prefixes. All IsPrefix prefixes)
  pub policy : PolicyOf n s
  pub opened : IsOpen s

-- the bound may be greater
more_policy : (n : ℕ) (s : State) → PolicyOf n s → PolicyOf (n + 1) s
more_policy n s h = record {
  bgp = h.bgp;
  prefix_lists = h.prefix_lists;
  community_lists = h.community_lists;
  maps = h.maps;
  named = h.named;
  few_prefix_lists = (let k = h.few_prefix_lists in omega arith);
  few_community_lists = (let k = h.few_community_lists in omega arith);
  few_maps = (let k = h.few_maps in omega arith);
  ordered = ordered_more n (n + 1) (omega arith) s.needed h.ordered;
}

pub more_kept : (n : ℕ) (s : State) → IsKept n s → IsKept (n + 1) s
more_kept n s h = record { interfaces = h.interfaces; ospf = h.ospf; policy = more_policy n s h.policy; opened = h.opened }

and_then_ok : {A B : Type 0} (Q : A → Type 0) (P : B → Type 0) (r : Result A Cause) (next : A → Result B Cause) → IfOk r Q → ((x : A) → Q x → IfOk (next x) P) → IfOk (and_then r next) P
and_then_ok Q P (Ok x) next h k = k x h
and_then_ok Q P (Err cause) next h k = tt

by_policy_ok : {A : Type 0} (P : A → Type 0) (r : Result A PolicyRefusal) → IfOk r P → IfOk (by_policy r) P
by_policy_ok P (Ok x) h = h
by_policy_ok P (Err refusal) h = tt

if_kept : (P : State → Type 0) (b : Bool) (r : Result State Cause) (cause : Cause) → IfOk r P → IfOk (if b then r else Err cause) P
if_kept P true r cause h = h
if_kept P false r cause h = tt

-- interfaces

slice_get_all : (xs : List Interface) (k : ℕ) → All IsInterface xs → IfSome (slice_get xs k) IsInterface
slice_get_all xs k h = go (slice_get xs k) refl where
  go : (o : Option Interface) → slice_get xs k ≡ o → IfSome o IsInterface
  go None e = tt
  go (Some x) e = All-at IsInterface xs k x h e

on_open_kept : (n : ℕ) (s : State) (next : Interface → Result State Cause) → IsKept n s → ((i : Interface) → IsInterface i → IfOk (next i) (IsKept (n + 1))) → IfOk (on_open s next) (IsKept (n + 1))
on_open_kept n s next h k = needs_before_ok IsInterface (IsKept (n + 1)) (slice_get s.interfaces s.open_place) next (slice_get_all s.interfaces s.open_place h.interfaces) k

with_open_kept : (n : ℕ) (s : State) (i : Interface) → IsKept n s → IsInterface i → IsKept (n + 1) (with_open s i)
with_open_kept n s i h k = record {
  interfaces = All-set IsInterface s.interfaces s.open_place i k h.interfaces;
  ospf = h.ospf;
  policy = more_policy n s h.policy;
  opened = record {
    interface = λ e. let p = h.opened.interface e in simp length-set p;
    ospf = h.opened.ospf;
    bgp = h.opened.bgp;
    family = h.opened.family;
    entry = h.opened.entry;
  };
}

is_fresh : (name : List ℕ) → IsInterface (fresh_interface name)
is_fresh name = record { address = tt; cost = tt }

with_interface_kept : (name : List ℕ) (is : List Interface) → All IsInterface is → All IsInterface (with_interface name is)
with_interface_kept name is h = go (nat_lt (place_of name is) (length is)) where
  go : (b : Bool) → All IsInterface (if b then is else is ++ fresh_interface name ∷ [])
  go true = h
  go false = All-append IsInterface is (fresh_interface name ∷ []) h (All-cons IsInterface (fresh_interface name) [] (is_fresh name) (All-nil IsInterface))

place_inside : (name : List ℕ) (is : List Interface) → place_of name is < length (with_interface name is)
place_inside name is = go (nat_lt (place_of name is) (length is)) refl where
  go : (b : Bool) → nat_lt (place_of name is) (length is) ≡ b → place_of name is < length (if b then is else is ++ fresh_interface name ∷ [])
  go true e = grind (arith, nat_tests)
  go false e =
      let h : place_of name is ≤ length is = prefix_len-le-length (λ (i : Interface). not (same_text i.name name)) is in
      let l = length-append is (fresh_interface name ∷ []) in
      omega arith

host_kept : (rest : List (List ℕ)) (n : ℕ) (s : State) → IsKept n s → IfOk (host_line rest s) (IsKept (n + 1))
unfolding host_line
host_kept rest n s h = needs_ok (λ _. Unit {0}) (IsKept (n + 1)) (one host_of rest) (λ host. unless_set (is_some s.host) (record s { host = Some host })) (anything (one host_of rest)) (λ host _. unless_ok (IsKept (n + 1)) (is_some s.host) (record s { host = Some host }) (λ _. record { interfaces = h.interfaces; ospf = h.ospf; policy = more_policy n s h.policy; opened = record { interface = h.opened.interface; ospf = h.opened.ospf; bgp = h.opened.bgp; family = h.opened.family; entry = h.opened.entry } }))

interface_kept : (rest : List (List ℕ)) (n : ℕ) (s : State) → IsKept n s → IfOk (interface_line rest s) (IsKept (n + 1))
unfolding interface_line
interface_kept rest n s h = needs_ok (λ _. Unit {0}) (IsKept (n + 1)) (one name_of rest) _ (anything (one name_of rest)) (λ name _. record { interfaces = with_interface_kept name s.interfaces h.interfaces; ospf = h.ospf; policy = more_policy n s h.policy; opened = in_interface _ refl (place_inside name s.interfaces) })

address_kept : (rest : List (List ℕ)) (n : ℕ) (s : State) → IsKept n s → IfOk (address_line rest s) (IsKept (n + 1))
unfolding address_line
address_kept rest n s h = needs_ok IsAddressed (IsKept (n + 1)) (one interface_address_of rest) _ (address_addressed rest) (λ a is. on_open_kept n s _ h (λ i k. unless_ok (IsKept (n + 1)) (is_some i.address) (with_open s (record i { address = Some a })) (λ _. with_open_kept n s (record i { address = Some a }) h (record { address = is; cost = k.cost }))))

area_kept : (rest : List (List ℕ)) (n : ℕ) (s : State) → IsKept n s → IfOk (area_line rest s) (IsKept (n + 1))
unfolding area_line
area_kept rest n s h = needs_ok (λ _. Unit {0}) (IsKept (n + 1)) (one area_of rest) _ (anything (one area_of rest)) (λ _ _. on_open_kept n s _ h (λ i k. unless_ok (IsKept (n + 1)) i.ospf (with_open s (record i { ospf = true })) (λ _. with_open_kept n s (record i { ospf = true }) h (record { address = k.address; cost = k.cost }))))

cost_kept : (rest : List (List ℕ)) (n : ℕ) (s : State) → IsKept n s → IfOk (cost_line rest s) (IsKept (n + 1))
unfolding cost_line
cost_kept rest n s h = needs_ok IsCost (IsKept (n + 1)) (one cost_of rest) _ (cost_is_cost rest) (λ c is. on_open_kept n s _ h (λ i k. unless_ok (IsKept (n + 1)) (is_some i.cost) (with_open s (record i { cost = Some c })) (λ _. with_open_kept n s (record i { cost = Some c }) h (record { address = k.address; cost = is }))))

shutdown_kept : (rest : List (List ℕ)) (n : ℕ) (s : State) → IsKept n s → IfOk (shutdown_line rest s) (IsKept (n + 1))
unfolding shutdown_line
shutdown_kept rest n s h = if_kept (IsKept (n + 1)) (is_nothing rest) _ BadValue (on_open_kept n s (λ i. Ok (with_open s (record i { shutdown = true }))) h (λ i k. with_open_kept n s (record i { shutdown = true }) h (record { address = k.address; cost = k.cost })))

-- OSPF

or_empty_kept : (o : Option (List PrefixValue)) → IfSome o (λ prefixes. All IsPrefix prefixes) → All IsPrefix (or_empty o)
or_empty_kept None h = All-nil IsPrefix
or_empty_kept (Some xs) h = h

ospf_kept : (rest : List (List ℕ)) (n : ℕ) (s : State) → IsKept n s → IfOk (ospf_line rest s) (IsKept (n + 1))
unfolding ospf_line
ospf_kept rest n s h = alone_ok (IsKept (n + 1)) rest _ (record { interfaces = h.interfaces; ospf = or_empty_kept s.ospf h.ospf; policy = more_policy n s h.policy; opened = in_ospf _ refl refl })

added_kept : (o : Option (List PrefixValue)) (prefix : PrefixValue) → IsPrefix prefix → IfSome o (λ prefixes. All IsPrefix prefixes) → IfSome (option_map (λ prefixes. prefixes ++ prefix ∷ []) o) (λ prefixes. All IsPrefix prefixes)
added_kept None prefix p h = tt
added_kept (Some xs) prefix p h = All-append IsPrefix xs (prefix ∷ []) h (All-cons IsPrefix prefix [] p (All-nil IsPrefix))

added_some : (o : Option (List PrefixValue)) (prefix : PrefixValue) → IsSome o → IsSome (option_map (λ prefixes. prefixes ++ prefix ∷ []) o)
added_some None prefix h = h
added_some (Some xs) prefix h = refl

network_kept : (rest : List (List ℕ)) (n : ℕ) (s : State) → IsKept n s → IfOk (network_line rest s) (IsKept (n + 1))
unfolding network_line
network_kept rest n s h = needs_ok IsPrefix (IsKept (n + 1)) (network_of rest) _ (network_prefix rest) (λ prefix is. record { interfaces = h.interfaces; ospf = added_kept s.ospf prefix is h.ospf; policy = more_policy n s h.policy; opened = record { interface = h.opened.interface; ospf = λ e. added_some s.ospf prefix (h.opened.ospf e); bgp = h.opened.bgp; family = h.opened.family; entry = h.opened.entry } })

-- BGP

with_bgp_kept : (n : ℕ) (asn : ℕ) → IsAs asn → (s : State) → IsKept n s → (o : Option BgpConfig) → s.bgp ≡ o → IfOk (with_bgp asn o s) (IsKept (n + 1))
with_bgp_kept n asn a s h None e = record {
  interfaces = h.interfaces;
  ospf = h.ospf;
  policy = record {
    bgp = fresh_bgp_kept asn a;
    prefix_lists = h.policy.prefix_lists;
    community_lists = h.policy.community_lists;
    maps = h.policy.maps;
    named = λ w m. record { bgp = fresh_bgp_named w asn; maps = (h.policy.named w m).maps };
    few_prefix_lists = (let k = h.policy.few_prefix_lists in omega arith);
    few_community_lists = (let k = h.policy.few_community_lists in omega arith);
    few_maps = (let k = h.policy.few_maps in omega arith);
    ordered = ordered_more n (n + 1) (omega arith) s.needed h.policy.ordered;
  };
  opened = in_bgp _ refl refl;
}
with_bgp_kept n asn a s h (Some b) e = if_kept (IsKept (n + 1)) (b.asn == asn) (Ok (record s { mode = InBgp })) Repeated (record {
  interfaces = h.interfaces;
  ospf = h.ospf;
  policy = more_policy n s h.policy;
  opened = in_bgp _ refl (ap is_some e);
})

bgp_kept : (rest : List (List ℕ)) (n : ℕ) (s : State) → IsKept n s → IfOk (bgp_line rest s) (IsKept (n + 1))
unfolding bgp_line
bgp_kept rest n s h = needs_ok IsAs (IsKept (n + 1)) (one as_of rest) _ (as_is_as rest) (λ asn a. with_bgp_kept n asn a s h s.bgp refl)

-- the state with this BGP in place of its own
abbrev with_new : State → BgpConfig → State
with_new s b = record s { bgp = Some b }

both_ok : {A : Type 0} (P Q : A → Type 0) (r : Result A Cause) → IfOk r P → IfOk r Q → IfOk r (λ x. P x × Q x)
both_ok P Q (Ok x) p q = (p, q)
both_ok P Q (Err cause) p q = tt

named_ok : (s : State) (b : BgpConfig) → ((w : Whole) → AllMet w s.needed → IsNamed w (Some b) s.maps) → (row : BgpRow) (line rest : List (List ℕ)) → IfOk (bgp_effect row line rest b) (λ new. (w : Whole) → AllMet w s.needed → IfSome (option_map Map (named_map row rest)) (IsMet w) → IsNamedBgp w new)
named_ok s b h row line rest = go (bgp_effect row line rest b) (λ w m t. bgp_effect_named w row line rest b (h w m).bgp t) where
  go : (r : Result BgpConfig Cause) → ((w : Whole) → AllMet w s.needed → IfSome (option_map Map (named_map row rest)) (IsMet w) → IfOk r (IsNamedBgp w)) → IfOk r (λ new. (w : Whole) → AllMet w s.needed → IfSome (option_map Map (named_map row rest)) (IsMet w) → IsNamedBgp w new)
  go (Ok new) k = k
  go (Err cause) k = tt

noted_kept : (n : ℕ) (s : State) → s.number ≡ n + 1 → (row : BgpRow) (rest : List (List ℕ)) (b : BgpConfig) → IsKept n s → IsKeptBgp b → ((w : Whole) → AllMet w s.needed → IfSome (option_map Map (named_map row rest)) (IsMet w) → IsNamedBgp w b) → IsKept (n + 1) (with_map_noted row rest (with_new s b))
noted_kept n s e row rest b h k named = record {
  interfaces = h.interfaces;
  ospf = h.ospf;
  policy = record {
    bgp = k;
    prefix_lists = h.policy.prefix_lists;
    community_lists = h.policy.community_lists;
    maps = h.policy.maps;
    named = λ w m. record {
      bgp = named w (noted_before w s.number (option_map Map (named_map row rest)) s.needed m) (noted_now w s.number (option_map Map (named_map row rest)) s.needed m);
      maps = (h.policy.named w (noted_before w s.number (option_map Map (named_map row rest)) s.needed m)).maps;
    };
    few_prefix_lists = (let k = h.policy.few_prefix_lists in omega arith);
    few_community_lists = (let k = h.policy.few_community_lists in omega arith);
    few_maps = (let k = h.policy.few_maps in omega arith);
    ordered = ordered_more s.number (n + 1) (omega arith) _ (ordered_noted n s.number (omega arith) (option_map Map (named_map row rest)) s.needed h.policy.ordered);
  };
  opened = record { interface = h.opened.interface; ospf = h.opened.ospf; bgp = λ _. refl; family = λ _. refl; entry = h.opened.entry };
}

-- a row of BGP from the state's own
of_bgp_from : (row : BgpRow) (line rest : List (List ℕ)) (n : ℕ) (s : State) → s.number ≡ n + 1 → IsKept n s → (o : Option BgpConfig) → s.bgp ≡ o → IfOk (and_then (needs_before o (λ b. and_then (bgp_effect row line rest b) (λ new. Ok (with_new s new)))) (λ t. Ok (with_map_noted row rest t))) (IsKept (n + 1))
of_bgp_from row line rest n s at h None e = tt
of_bgp_from row line rest n s at h (Some b) e = go (bgp_effect row line rest b) (both_ok IsKeptBgp _ (bgp_effect row line rest b) (bgp_effect_kept row line rest b kept) (named_ok s b named row line rest)) where
  kept : IsKeptBgp b
  kept = let P : Option BgpConfig → Type 0 = λ o. IfSome o IsKeptBgp in subst P e h.policy.bgp

  named : (w : Whole) → AllMet w s.needed → IsNamed w (Some b) s.maps
  named w m = let P : Option BgpConfig → Type 0 = λ o. IsNamed w o s.maps in subst P e (h.policy.named w m)

  go : (r : Result BgpConfig Cause) → IfOk r (λ new. IsKeptBgp new × ((w : Whole) → AllMet w s.needed → IfSome (option_map Map (named_map row rest)) (IsMet w) → IsNamedBgp w new)) → IfOk (and_then (and_then r (λ new. Ok (with_new s new))) (λ t. Ok (with_map_noted row rest t))) (IsKept (n + 1))
  go (Ok new) k = noted_kept n s at row rest new h k.0 k.1
  go (Err cause) k = tt

of_bgp_kept : (row : BgpRow) (line rest : List (List ℕ)) (n : ℕ) (s : State) → s.number ≡ n + 1 → IsKept n s → IfOk (of_bgp_line row line rest s) (IsKept (n + 1))
unfolding of_bgp_line by_bgp
of_bgp_kept row line rest n s at h = of_bgp_from row line rest n s at h s.bgp refl

-- the address family opens where BGP is open
family_kept : (rest : List (List ℕ)) (n : ℕ) (s : State) → IsKept n s → IfOk (family_line rest s) (IsKept (n + 1))
unfolding family_line
family_kept rest n s h = go s.bgp refl where
  go : (o : Option BgpConfig) → s.bgp ≡ o → IfOk (needs_before o (λ _. if is_unicast rest then Ok (record s { mode = InFamily }) else Err BadValue)) (IsKept (n + 1))
  go None e = tt
  go (Some b) e = if_kept (IsKept (n + 1)) (is_unicast rest) (Ok (record s { mode = InFamily })) BadValue (record { interfaces = h.interfaces; ospf = h.ospf; policy = more_policy n s h.policy; opened = in_family _ refl (ap is_some e) })

exit_family_kept : (rest : List (List ℕ)) (n : ℕ) (s : State) → IsKept n s → IfOk (exit_family_line rest s) (IsKept (n + 1))
unfolding exit_family_line
exit_family_kept rest n s h = go s.bgp refl where
  go : (o : Option BgpConfig) → s.bgp ≡ o → IfOk (needs_before o (λ _. alone rest (record s { mode = InBgp }))) (IsKept (n + 1))
  go None e = tt
  go (Some b) e = alone_ok (IsKept (n + 1)) rest _ (record { interfaces = h.interfaces; ospf = h.ospf; policy = more_policy n s h.policy; opened = in_bgp _ refl (ap is_some e) })

-- lists

prefix_list_kept : (rest : List (List ℕ)) (n : ℕ) (s : State) → IsKept n s → IfOk (prefix_list_line rest s) (IsKept (n + 1))
unfolding prefix_list_line
prefix_list_kept rest n s h = and_then_ok (IsNewPrefix s.prefix_lists) (IsKept (n + 1)) (by_policy (prefix_list_row rest s.prefix_lists)) _ (by_policy_ok (IsNewPrefix s.prefix_lists) (prefix_list_row rest s.prefix_lists) (prefix_row_given rest s.prefix_lists)) (λ r k. record {
  interfaces = h.interfaces;
  ospf = h.ospf;
  policy = record { bgp = h.policy.bgp; prefix_lists = prefix_entry_kept r.0 r.1 s.prefix_lists k.entry k.room h.policy.prefix_lists; community_lists = h.policy.community_lists; maps = h.policy.maps; named = h.policy.named; few_prefix_lists = (let k = h.policy.few_prefix_lists in let l = length-on_first (λ (l : PrefixList). same_text l.name r.0) (λ l. record l { entries = put (λ (e : PrefixEntry). e.seq) r.1 l.entries }) (record { name = r.0; entries = r.1 ∷ [] }) s.prefix_lists in omega arith); few_community_lists = (let k = h.policy.few_community_lists in omega arith); few_maps = (let k = h.policy.few_maps in omega arith); ordered = ordered_more n (n + 1) (omega arith) s.needed h.policy.ordered };
  opened = record { interface = h.opened.interface; ospf = h.opened.ospf; bgp = h.opened.bgp; family = h.opened.family; entry = h.opened.entry };
})

community_list_kept : (rest : List (List ℕ)) (n : ℕ) (s : State) → IsKept n s → IfOk (community_list_line rest s) (IsKept (n + 1))
unfolding community_list_line
community_list_kept rest n s h = and_then_ok (IsNewCommunity s.community_lists) (IsKept (n + 1)) (by_policy (community_list_row rest s.community_lists)) _ (by_policy_ok (IsNewCommunity s.community_lists) (community_list_row rest s.community_lists) (community_row_given rest s.community_lists)) (λ r k. record {
  interfaces = h.interfaces;
  ospf = h.ospf;
  policy = record { bgp = h.policy.bgp; prefix_lists = h.policy.prefix_lists; community_lists = community_entry_kept r.0 r.1 s.community_lists k.entry k.room h.policy.community_lists; maps = h.policy.maps; named = h.policy.named; few_prefix_lists = (let k = h.policy.few_prefix_lists in omega arith); few_community_lists = (let k = h.policy.few_community_lists in let l = length-on_first (λ (l : CommunityList). same_text l.name r.0) (λ l. record l { entries = put (λ (e : CommunityEntry). e.seq) r.1 l.entries }) (record { name = r.0; entries = r.1 ∷ [] }) s.community_lists in omega arith); few_maps = (let k = h.policy.few_maps in omega arith); ordered = ordered_more n (n + 1) (omega arith) s.needed h.policy.ordered };
  opened = record { interface = h.opened.interface; ospf = h.opened.ospf; bgp = h.opened.bgp; family = h.opened.family; entry = h.opened.entry };
})

-- route maps

-- a new entry names nothing
abbrev NamesNothing : MapEntry → Type 0
NamesNothing e = (w : Whole) → IsNamedEntry w e

new_entry_named : (permit : Bool) (seq : ℕ) → NamesNothing (new_entry permit seq)
new_entry_named permit seq = λ w. record { prefixes = tt; communities = tt; «delete» = tt; prepend = All-nil (λ asn. w.is_own asn ≡ true) }

begun_kept : (name : List ℕ) (entry : MapEntry) (n : ℕ) (s : State) → IsKept n s → FitsEntry entry → HasRoom (map_numbers name s.maps) entry.seq → NamesNothing entry → IsKept (n + 1) (with_begun name entry s)
unfolding with_begun
begun_kept name entry n s h f room nothing = record {
  interfaces = h.interfaces;
  ospf = h.ospf;
  policy = record {
    bgp = h.policy.bgp;
    prefix_lists = h.policy.prefix_lists;
    community_lists = h.policy.community_lists;
    maps = map_entry_kept name entry s.maps f room h.policy.maps;
    named = λ w m. record { bgp = (h.policy.named w m).bgp; maps = map_entry_named w name entry s.maps (nothing w) (h.policy.named w m).maps };
    few_prefix_lists = (let k = h.policy.few_prefix_lists in omega arith);
    few_community_lists = (let k = h.policy.few_community_lists in omega arith);
    few_maps = (let k = h.policy.few_maps in let l = length-on_first (λ (l : RouteMap). same_text l.name name) (λ l. record l { entries = put (λ (e : MapEntry). e.seq) entry l.entries }) (record { name = name; entries = entry ∷ [] }) s.maps in omega arith);
    ordered = ordered_more n (n + 1) (omega arith) s.needed h.policy.ordered;
  };
  opened = in_map _ refl (ap is_some (begun_there name entry s.maps));
}

changed_from : (entry : MapEntry) (n : ℕ) (s : State) → s.number ≡ n + 1 → IsKept n s → FitsEntry entry → (o : Option MapEntry) → open_entry s ≡ o → IsSomeAnd o (λ (c : MapEntry). entry.seq ≡ c.seq) → IsKept (n + 1) (with_entry_set entry (with_change_noted o entry s))
changed_from entry n s at h f None e p = absurd p
changed_from entry n s at h f (Some old) e p = record {
  interfaces = h.interfaces;
  ospf = h.ospf;
  policy = record {
    bgp = h.policy.bgp;
    prefix_lists = h.policy.prefix_lists;
    community_lists = h.policy.community_lists;
    maps = with_entry_all IsKeptMap s.open_map s.open_entry entry s.maps (λ m i k. changed_map m s.open_entry entry old (entry_in s.open_map s.open_entry s.maps m old e i) p f k) h.policy.maps;
    named = λ w m. named w m;
    few_prefix_lists = (let k = h.policy.few_prefix_lists in omega arith);
    few_community_lists = (let k = h.policy.few_community_lists in omega arith);
    few_maps = (let k = h.policy.few_maps in let l = same_length s.open_map s.open_entry entry s.maps in omega arith);
    ordered = ordered_more s.number (n + 1) (omega arith) _ (ordered_change n s.number (omega arith) old entry s.needed h.policy.ordered);
  };
  opened = record { interface = h.opened.interface; ospf = h.opened.ospf; bgp = h.opened.bgp; family = h.opened.family; entry = λ i. changed_there s.open_map s.open_entry entry s.maps (h.opened.entry i) };
} where
  named : (w : Whole) → AllMet w (noted_change s.number old entry s.needed) → IsNamed w s.bgp (with_entry_at s.open_map s.open_entry entry s.maps)
  named w m =
      let before = h.policy.named w (change_before w s.number old entry s.needed m) in
      let was = old_named w s.open_map s.open_entry s.maps old e before.maps in
      let is = change_named w s.number old entry s.needed m was in
      record { bgp = before.bgp; maps = with_entry_all (IsNamedMap w) s.open_map s.open_entry entry s.maps (λ x i k. All-set (IsNamedEntry w) x.entries s.open_entry entry is k) before.maps }

open_fits : (n : ℕ) (s : State) → IsKept n s → IfSome (open_entry s) FitsEntry
open_fits n s h = go (slice_get s.maps s.open_map) refl where
  inner : (m : RouteMap) → IsKeptMap m → (o : Option MapEntry) → slice_get m.entries s.open_entry ≡ o → IfSome o FitsEntry
  inner m k None e = tt
  inner m k (Some entry) e = All-at FitsEntry m.entries s.open_entry entry k.entries e

  go : (o : Option RouteMap) → slice_get s.maps s.open_map ≡ o → IfSome (slice_get (option_map_or (λ (x : RouteMap). x.entries) o []) s.open_entry) FitsEntry
  go None e = tt
  go (Some m) e = inner m (All-at IsKeptMap s.maps s.open_map m h.policy.maps e) (slice_get m.entries s.open_entry) refl

step_of_map : (n : ℕ) (s : State) → s.number ≡ n + 1 → IsKept n s → (m : MapStep) → IsMapStep s.maps (open_entry s) m → IsKept (n + 1) (with_step m s)
step_of_map n s at h (Begin name entry) k = begun_kept name entry n s h k.fits k.place (subst NamesNothing (sym k.fresh) (new_entry_named entry.permit entry.seq))
step_of_map n s at h (Change entry) k = changed_from entry n s at h k.fits (open_entry s) refl k.place

map_kept : (line : List (List ℕ)) (n : ℕ) (s : State) → s.number ≡ n + 1 → IsKept n s → IfOk (map_row_line line s) (IsKept (n + 1))
unfolding map_row_line
map_kept line n s at h = and_then_ok (IsMapStep s.maps (open_entry s)) (IsKept (n + 1)) (by_policy (map_line line s.maps (open_entry s))) _ (by_policy_ok (IsMapStep s.maps (open_entry s)) (map_line line s.maps (open_entry s)) (map_line_given line s.maps (open_entry s) (open_fits n s h))) (λ m k. step_of_map n s at h m k)

-- rows that leave blocks

exit_kept : (rest : List (List ℕ)) (n : ℕ) (s : State) → IsKept n s → IfOk (exit_line rest s) (IsKept (n + 1))
unfolding exit_line
exit_kept rest n s h = alone_ok (IsKept (n + 1)) rest _ (record { interfaces = h.interfaces; ospf = h.ospf; policy = more_policy n s h.policy; opened = opened_outer s h.opened })

end_kept : (rest : List (List ℕ)) (n : ℕ) (s : State) → IsKept n s → IfOk (end_line rest s) (IsKept (n + 1))
unfolding end_line
end_kept rest n s h = alone_ok (IsKept (n + 1)) rest _ (record { interfaces = h.interfaces; ospf = h.ospf; policy = more_policy n s h.policy; opened = opened_top s h.opened })

pub effect_kept : (row : Row) (line rest : List (List ℕ)) (n : ℕ) (s : State) → s.number ≡ n + 1 → IsKept n s → IfOk (effect row line rest s) (IsKept (n + 1))
unfolding effect
effect_kept HostName line rest n s at h = host_kept rest n s h
effect_kept OpenInterface line rest n s at h = interface_kept rest n s h
effect_kept OpenBgp line rest n s at h = bgp_kept rest n s h
effect_kept OpenOspf line rest n s at h = ospf_kept rest n s h
effect_kept PrefixListLine line rest n s at h = prefix_list_kept rest n s h
effect_kept CommunityListLine line rest n s at h = community_list_kept rest n s h
effect_kept MapLine line rest n s at h = map_kept line n s at h
effect_kept Address line rest n s at h = address_kept rest n s h
effect_kept Area line rest n s at h = area_kept rest n s h
effect_kept Cost line rest n s at h = cost_kept rest n s h
effect_kept Shutdown line rest n s at h = shutdown_kept rest n s h
effect_kept OspfNetwork line rest n s at h = network_kept rest n s h
effect_kept (OfBgp row) line rest n s at h = of_bgp_kept row line rest n s at h
effect_kept OpenFamily line rest n s at h = family_kept rest n s h
effect_kept Exit line rest n s at h = exit_kept rest n s h
effect_kept End line rest n s at h = end_kept rest n s h
effect_kept ExitFamily line rest n s at h = exit_family_kept rest n s h
effect_kept NoEffect line rest n s at h = more_kept n s h

by_row_kept : (n : ℕ) (s : State) → s.number ≡ n + 1 → (line : List (List ℕ)) (found : Result FoundValue Cause) → IsKept n s → IfOk found (λ f. StaysIn s.mode f.mode) → IfOk (by_row s line found) (IsKept (n + 1))
by_row_kept n s at line (Ok found) h k = effect_kept found.row line found.rest n (record s { mode = found.mode }) at (record { interfaces = h.interfaces; ospf = h.ospf; policy = h.policy; opened = opened_in s found.mode h.opened k })
by_row_kept n s at line (Err cause) h k = tt

by_words_kept : (n : ℕ) (s : State) → s.number ≡ n + 1 → (line : List (List ℕ)) → IsKept n s → IfOk (by_words s line) (IsKept (n + 1))
unfolding by_words
by_words_kept n s at [] h = more_kept n s h
by_words_kept n s at (word ∷ more) h = go (begins_comment word) where
  go : (b : Bool) → IfOk (if b then Ok s else by_row s (word ∷ more) (found_from s.mode (word ∷ more))) (IsKept (n + 1))
  go true = more_kept n s h
  go false = by_row_kept n s at (word ∷ more) (found_from s.mode (word ∷ more)) h (found_stays s.mode (word ∷ more))

-- what is kept of a line that reaches to this byte
abbrev pub IsTaken : ℕ → ℕ → State → Type 0
IsTaken n reach s = IsKept n s × (reach ≤ 262144)

within_kept : (n reach : ℕ) (r : Result State Cause) → IfOk r (IsKept n) → IfOk (within reach r) (IsTaken n reach)
within_kept n reach (Ok s) h = go (nat_lt 262144 reach) refl where
  go : (b : Bool) → nat_lt 262144 reach ≡ b → IfOk (if b then Err OutOfLimit else Ok s) (IsTaken n reach)
  go true e = tt
  go false e = (h, grind (arith, nat_tests))
within_kept n reach (Err cause) h = tt

refused_or_kept : (P : State → Type 0) (b : Bool) (cause : Cause) (r : Result State Cause) → IfOk r P → IfOk (if b then Err cause else r) P
refused_or_kept P true cause r h = tt
refused_or_kept P false cause r h = h

at_line : (n number : ℕ) (s : State) → IsKept n s → IsKept n (record s { number = number })
at_line n number s h = record { interfaces = h.interfaces; ospf = h.ospf; policy = h.policy; opened = record { interface = h.opened.interface; ospf = h.opened.ospf; bgp = h.opened.bgp; family = h.opened.family; entry = h.opened.entry } }

pub step_taken : (n : ℕ) (s : State) (line : LineValue) → line.number ≡ n + 1 → IsKept n s → IfOk (step s line) (IsTaken (n + 1) line.reach)
unfolding step
step_taken n s line at h = refused_or_kept P (list_any is_control line.text) NotText (if nat_lt line_max (length line.text) then Err LineTooLong else read) (refused_or_kept P (nat_lt line_max (length line.text)) LineTooLong read (within_kept (n + 1) line.reach (by_words (record s { number = line.number }) (words line.text)) (by_words_kept n (record s { number = line.number }) at (words line.text) (at_line n line.number s h)))) where
  P : State → Type 0
  P = IsTaken (n + 1) line.reach

  read : Result State Cause
  read = within line.reach (by_words (record s { number = line.number }) (words line.text))

pub step_kept : (n : ℕ) (s : State) (line : LineValue) → line.number ≡ n + 1 → IsKept n s → IfOk (step s line) (IsKept (n + 1))
step_kept n s line at h = go (step s line) (step_taken n s line at h) where
  go : (r : Result State Cause) → IfOk r (IsTaken (n + 1) line.reach) → IfOk r (IsKept (n + 1))
  go (Ok t) k = k.0
  go (Err cause) k = tt

pub start_kept : IsKept 0 start
start_kept = record {
  interfaces = All-nil IsInterface;
  ospf = tt;
  policy = record { bgp = tt; prefix_lists = All-nil IsPrefixList; community_lists = All-nil IsCommunityList; maps = All-nil IsKeptMap; named = λ w m. record { bgp = tt; maps = All-nil (IsNamedMap w) }; few_prefix_lists = omega arith; few_community_lists = omega arith; few_maps = omega arith; ordered = record { rising = tt; below = All-nil (λ (n : Need). n.line ≤ 0) } };
  opened = record { interface = λ e. cc; ospf = λ e. cc; bgp = λ e. cc; family = λ e. cc; entry = λ e. cc };
}
