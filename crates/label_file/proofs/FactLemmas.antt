-- The labels of every file are labels of the network.
use Rattle.std.proofs.Common.{ℕ, ◌≡◌, ◌<◌, ◌≤◌, ◌^◌, ◌==◌, ◌&&◌, Bool, true, false, List, [], length, All, Option, Some, None, IfSome, Result, Ok, Err, IfOk, option_and_then, find, codes, nat_lt, nat_le, arith, refl, sym, ap, ◌∙◌, if◌then◌else◌, zero-add}
use Rattle.std.proofs.lemmas.Bool.Decides.{nat_tests}
use Rattle.std.proofs.lemmas.List.Elements.{All-nil}
use Rattle.std.proofs.lemmas.List.FromFn.{length-map-range_with_len, get_or-map-range_with_len}
use Rattle.std.proofs.lemmas.Option.{slice_get_within, get_or_from_slice_get, IfSome_then}
use Rattle.std.specs.Option.{option_map_or}
use Rattle.std.specs.List.{slice_get}
use Rattle.toml.specs.Data.{Data, Items, Members, as_integer, as_array, get_member}
use Rattle.net_types.specs.declared.arcs.Arc.{Arc}
use Rattle.net_types.specs.declared.config.Origin.{Origin}
use Rattle.net_types.specs.declared.refusals.FormRefusal.{FormRefusal}
use Rattle.net_types.specs.declared.routes.Route.{Route}
use Rattle.net_types.specs.declared.routes.Source.{Source}
use Rattle.net_types.specs.declared.routes.Source.TheVariants.{Local, Learned}
use Rattle.net_types.specs.Arcs.{receiver_of}
use Rattle.net_types.specs.FailSets.{IsFailureSet}
use Rattle.net_types.specs.NetFacts.{IsMask}
use Rattle.net_types.specs.NetValue.{NetValue}
use Rattle.net_types.specs.Order.{same_text}
use Rattle.net_types.specs.PrefixValue.{PrefixValue}
use Rattle.toml_fields.specs.Document.{Answers, document_of, then_form}
use Rattle.toml_fields.specs.Fields.{has_only, number_at, prefix_at, text_at, within}
use Rattle.toml_fields.specs.Tables.{each_of, first_repeat, rows_from, tables_at}
use Rattle.label_file.specs.declared.contents.Label.{Label}
use Rattle.label_file.specs.declared.contents.Labels.{Labels}
use Rattle.label_file.specs.Facts.{IsSource, IsLabel, AreLabels}
use Rattle.label_file.specs.File.{ascends, if_failure_set, if_link, link_in, down_of, down_in, down_at, held, labelling, unless_repeated, with_labels, labels_of_parts, top_keys, labels_of_top, labels_of}
use Rattle.label_file.specs.Sources.{is_to, directions, arc_to, learned_at, source_of, source_at}
use Rattle.label_file.specs.Tables.{keys_of, route_of, route_at, if_known, label_of_fields, label_of, is_same_router}
use Rattle.label_file.specs.Values.{router_at, word_at, path_at, origin_at, communities_at}
use Rattle.label_file.proofs.LinkLemmas.{failure_set, first_holds, second_holds}
use Rattle.label_file.proofs.OptionLemmas.{IfSome-test, IfSome-else, IfSome-and_then, IfSome-behind, IfSome-map, IfSome-at, IfSome-find, IfSome-found, IfSome-each_of, IfOk-rows_from}
use Rattle.label_file.proofs.ValueLemmas.{IsPath, IfSome-word_at, IfSome-path_at, IfSome-communities_at}

-- the source
is_receiver : (net : NetValue) (router : ℕ) (arc : Arc) → is_to net router arc ≡ true → receiver_of net arc ≡ Some router
is_receiver net router arc h = go (receiver_of net arc) h where
  go : (o : Option ℕ) → option_map_or (λ receiver. receiver == router) o false ≡ true → o ≡ Some router
  go (Some v) e = let i : v ≡ router = grind (arith, nat_tests) in ap Some i
  go None e = absurd (let f : false ≡ true = e in cc)

IfSome-arc_to : (net : NetValue) (router link : ℕ) → IfSome (arc_to net router link) (λ arc. receiver_of net arc ≡ Some router)
IfSome-arc_to net router link = IfSome_then (arc_to net router link) (IfSome-found (is_to net router) (directions link)) (is_receiver net router)

IfSome-source_of : (net : NetValue) (router : ℕ) (fields : Members) (word : List ℕ) → IfSome (source_of net router fields word) (IsSource net router)
IfSome-source_of net router fields word =
    IfSome-else (IsSource net router) (same_text word (codes "local")) (Some Local) _ tt
    (IfSome-else (IsSource net router) (same_text word (codes "learned")) (learned_at net router fields) None learned tt) where
      learned : IfSome (learned_at net router fields) (IsSource net router)
      learned =
          IfSome-map (λ arc. receiver_of net arc ≡ Some router) (IsSource net router) Learned (option_and_then (arc_to net router) (number_at 0 255 (codes "link") fields))
          (IfSome-behind (λ arc. receiver_of net arc ≡ Some router) (arc_to net router) (number_at 0 255 (codes "link") fields) (IfSome-arc_to net router)) (λ arc h. h)

IfSome-source_at : (net : NetValue) (router : ℕ) (fields : Members) → IfSome (source_at net router fields) (IsSource net router)
IfSome-source_at net router fields = IfSome-behind (IsSource net router) (source_of net router fields) (text_at (codes "source") fields) (IfSome-source_of net router fields)

-- the route
whole_route : (net : NetValue) (router : ℕ) (source : Option Source) (weight preference : Option ℕ) (path : Option (List ℕ)) (origin : Option Origin) (med communities : Option ℕ)
    → IfSome source (IsSource net router) → IfSome weight (λ n. n < 2 ^ 32) → IfSome preference (λ n. n < 2 ^ 32) → IfSome path (IsPath net) → IfSome med (λ n. n < 2 ^ 32)
    → IfSome communities (IsMask (length net.communities)) → IfSome (route_of source weight preference path origin med communities) (IsLabel net router)
whole_route net router (Some source) (Some weight) (Some preference) (Some path) (Some origin) (Some med) (Some communities) s w p h m c =
    record { weight = w; preference = p; med = m; short = h.short; path = h.hops; communities = c; source = s }
whole_route net router None weight preference path origin med communities s w p h m c = tt
whole_route net router (Some source) None preference path origin med communities s w p h m c = tt
whole_route net router (Some source) (Some weight) None path origin med communities s w p h m c = tt
whole_route net router (Some source) (Some weight) (Some preference) None origin med communities s w p h m c = tt
whole_route net router (Some source) (Some weight) (Some preference) (Some path) None med communities s w p h m c = tt
whole_route net router (Some source) (Some weight) (Some preference) (Some path) (Some origin) None communities s w p h m c = tt
whole_route net router (Some source) (Some weight) (Some preference) (Some path) (Some origin) (Some med) None s w p h m c = tt

IfSome-route_at : (net : NetValue) (router : ℕ) (fields : Members) → length net.communities ≤ 64 → IfSome (route_at net router fields) (IsLabel net router)
unfolding route_at
IfSome-route_at net router fields few =
    whole_route net router (source_at net router fields) (word_at (codes "weight") fields) (word_at (codes "preference") fields) (path_at net (codes "path") fields)
    (origin_at (codes "origin") fields) (word_at (codes "med") fields) (communities_at net (codes "communities") fields)
    (IfSome-source_at net router fields) (IfSome-word_at (codes "weight") fields) (IfSome-word_at (codes "preference") fields) (IfSome-path_at net (codes "path") fields)
    (IfSome-word_at (codes "med") fields) (IfSome-communities_at net (codes "communities") fields few)

-- the label of a table
abbrev IsOf : NetValue → Label → Type 0
IsOf net label = IsLabel net label.router label.route

IfSome-label_of : (net : NetValue) → length net.communities ≤ 64 → (fields : Members) → IfSome (label_of net fields) (IsOf net)
unfolding label_of
IfSome-label_of net few fields = IfSome-behind (IsOf net) (label_of_fields net fields) (router_at net (codes "router") fields) at_router where
  known : (router : ℕ) (route : Route) → IsLabel net router route → IfSome (if_known router fields route) (IsOf net)
  known router route h = IfSome-test (IsOf net) (has_only (keys_of route.source) fields) (record { router = router; route = route }) (λ e. h)

  at_router : (router : ℕ) → IfSome (label_of_fields net fields router) (IsOf net)
  at_router router = IfSome-and_then (IsLabel net router) (IsOf net) (if_known router fields) (route_at net router fields) (IfSome-route_at net router fields few) (known router)

-- what a router holds
IfSome-held : (net : NetValue) (labels : List Label) (router : ℕ) → All (IsOf net) labels → IfSome (held labels router) (IsLabel net router)
IfSome-held net labels router all =
    IfSome-map (λ (label : Label). ((label.router == router) ≡ true) × IsOf net label) (IsLabel net router) (λ (label : Label). label.route) (find (λ (label : Label). label.router == router) labels)
    (IfSome-find (IsOf net) (λ (label : Label). label.router == router) labels all) (λ label h. let e : label.router ≡ router = same label.router router h.0 in rw e at h.1) where
      same : (a b : ℕ) → (a == b) ≡ true → a ≡ b
      same a b h = grind (arith, nat_tests)

held_at : (labels : List Label) (routers router : ℕ) (route : Route) → slice_get (labelling routers labels) router ≡ Some (Some route) → held labels router ≡ Some route
held_at labels routers router route e =
    let n = length-map-range_with_len (held labels) 0 routers in
    let w = slice_get_within (labelling routers labels) router (Some route) e in
    let g = get_or_from_slice_get (labelling routers labels) router (Some route) None e in
    let f = get_or-map-range_with_len (held labels) 0 routers router router None (rw n at w) (zero-add router) in
    sym f ∙ g

-- the failed links
links_of_net : (net : NetValue) (items : Items) → IfSome (each_of (link_in net) items) (All (λ link. link < length net.links))
links_of_net net items = IfSome-each_of (λ link. link < length net.links) (link_in net) items link where
  below : (n m : ℕ) → nat_lt n m ≡ true → n < m
  below n m h = grind (arith, nat_tests)

  of_net : (number : ℕ) → IfSome (if_link net number) (λ link. link < length net.links)
  of_net number = IfSome-test (λ link. link < length net.links) (nat_lt number (length net.links)) number (below number (length net.links))

  link : (value : Data) → IfSome (link_in net value) (λ link. link < length net.links)
  link value = IfSome-behind (λ link. link < length net.links) (if_link net) (option_and_then (within 0 255) (as_integer value)) of_net

-- a failure set of links of the network
record IsDown (net : NetValue) (down : List ℕ) : Type 0 where
  failed : IsFailureSet down
  links : All (λ link. link < length net.links) down

down_set : (net : NetValue) (links : List ℕ) → All (λ link. link < length net.links) links → IfSome (if_failure_set links) (IsDown net)
down_set net links all = IfSome-test (IsDown net) (nat_le (length links) 3 && ascends links) links (λ e. record {
  failed = failure_set links (few (length links) (first_holds (nat_le (length links) 3) (ascends links) e)) (second_holds (nat_le (length links) 3) (ascends links) e);
  links = all;
}) where
  few : (n : ℕ) → nat_le n 3 ≡ true → n ≤ 3
  few n h = grind (arith, nat_tests)

IfSome-down_at : (net : NetValue) (top : Members) → IfSome (down_at net top) (IsDown net)
IfSome-down_at net top = go (get_member (codes "down") top) where
  in_items : (items : Items) → IfSome (down_of net items) (IsDown net)
  in_items items = IfSome-and_then (All (λ link. link < length net.links)) (IsDown net) if_failure_set (each_of (link_in net) items) (links_of_net net items) (down_set net)

  go : (value : Option Data) → IfSome (down_in net value) (IsDown net)
  go None = record { failed = failure_set [] (omega arith) refl; links = All-nil (λ link. link < length net.links) }
  go (Some value) = IfSome-behind (IsDown net) (down_of net) (as_array value) in_items

-- the labels of the tables
IfOk-with_labels : (net : NetValue) (prefix : PrefixValue) (failed : List ℕ) (labels : List Label) → IsDown net failed → All (IsOf net) labels → IfOk (with_labels net prefix failed labels) (AreLabels net)
IfOk-with_labels net prefix failed labels down all = go (first_repeat is_same_router 1 [] labels) where
  go : (place : Option ℕ) → IfOk (unless_repeated net prefix failed labels place) (AreLabels net)
  go (Some place) = tt
  go None = record {
    failed = down.failed;
    links = down.links;
    whole = length-map-range_with_len (held labels) 0 (length net.routers);
    held = λ router route e. IfSome-at (IsLabel net router) (held labels router) route (IfSome-held net labels router all) (held_at labels (length net.routers) router route e);
  }

IfOk-then : {A B : Type 0} (P : A → Type 0) (Q : B → Type 0) (r : Result A FormRefusal) (next : A → Result B FormRefusal) → IfOk r P → ((a : A) → P a → IfOk (next a) Q) → IfOk (then_form r next) Q
IfOk-then P Q (Ok a) next h k = k a h
IfOk-then P Q (Err refusal) next h k = tt

IfOk-labels_of_parts : (net : NetValue) (prefix : Option PrefixValue) (failed : Option (List ℕ)) (tables : Option Items) → length net.communities ≤ 64 → IfSome failed (IsDown net) → IfOk (labels_of_parts net prefix failed tables) (AreLabels net)
IfOk-labels_of_parts net (Some prefix) (Some failed) (Some tables) few down =
    IfOk-then (All (IsOf net)) (AreLabels net) (rows_from (label_of net) 1 tables) (with_labels net prefix failed)
    (IfOk-rows_from (IsOf net) (label_of net) 1 tables (IfSome-label_of net few)) (λ labels all. IfOk-with_labels net prefix failed labels down all)
IfOk-labels_of_parts net None failed tables few down = tt
IfOk-labels_of_parts net (Some prefix) None tables few down = tt
IfOk-labels_of_parts net (Some prefix) (Some failed) None few down = tt

IfOk-labels_of_top : (net : NetValue) (top : Members) → length net.communities ≤ 64 → IfOk (labels_of_top net top) (AreLabels net)
unfolding labels_of_top
IfOk-labels_of_top net top few = go (has_only top_keys top) where
  go : (b : Bool) → IfOk (if b then labels_of_parts net (prefix_at (codes "prefix") top) (down_at net top) (tables_at (codes "label") top) else Err (FormRefusal.BadField 0)) (AreLabels net)
  go true = IfOk-labels_of_parts net (prefix_at (codes "prefix") top) (down_at net top) (tables_at (codes "label") top) few (IfSome-down_at net top)
  go false = tt

labels_are : (net : NetValue) (text : List ℕ) (labels : Labels) → length net.communities ≤ 64 → labels_of net text ≡ Ok labels → AreLabels net labels
unfolding labels_of
labels_are net text labels few e = go (labels_of_text (document_of text)) e where
  labels_of_text : (document : Result Members FormRefusal) → IfOk (then_form document (labels_of_top net)) (AreLabels net)
  labels_of_text (Ok top) = IfOk-labels_of_top net top few
  labels_of_text (Err refusal) = tt

  go : {r : Result Labels FormRefusal} → IfOk r (AreLabels net) → r ≡ Ok labels → AreLabels net labels
  go h e = rw e at h

pub kept : (net : NetValue) (text : List ℕ) (answer : Result Labels FormRefusal) → length net.communities ≤ 64 → Answers (labels_of net text) answer → IfOk answer (AreLabels net)
kept net text (Ok labels) few e = labels_are net text labels few e
kept net text (Err refusal) few e = tt
