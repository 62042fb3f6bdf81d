-- What the lines of lists and maps give is in range, and has its place in its list or map.
use Rattle.std.proofs.Common.{ℕ, ◌≡◌, ◌<◌, ◌≤◌, ◌^◌, ◌+◌, ◌*◌, ◌/◌, ◌&&◌, ◌==◌, Bool, true, false, List, [], ◌∷◌, codes, length, nat_le, Option, Some, None, Result, Ok, Err, IfSome, IfOk, All, option_map, option_and_then, if◌then◌else◌, is_some, refl, arith, lit<}
use Rattle.std.specs.List.{list_any}
use Rattle.std.proofs.lemmas.Bool.Decides.{nat_tests}
use Rattle.std.proofs.lemmas.List.Elements.{All-nil, All-cons}
use Rattle.net_types.specs.Cut.{parts}
use Rattle.net_types.specs.Numerals.{number_in, value}
use Rattle.net_types.specs.PrefixValue.{PrefixValue, IsPrefix}
use Rattle.net_types.specs.NetFacts.{IsPrefixEntry}
use Rattle.net_types.specs.ConfigFacts.{IsCommunityEntry, IsSetCommunity}
use Rattle.net_types.specs.Order.{same_text}
use Rattle.net_types.specs.declared.config.PrefixEntry.{PrefixEntry}
use Rattle.net_types.specs.declared.config.PrefixList.{PrefixList}
use Rattle.net_types.specs.declared.config.CommunityEntry.{CommunityEntry}
use Rattle.net_types.specs.declared.config.CommunityList.{CommunityList}
use Rattle.net_types.specs.declared.config.MapEntry.{MapEntry}
use Rattle.net_types.specs.declared.config.RouteMap.{RouteMap}
use Rattle.net_types.specs.declared.config.SetCommunity.TheVariants.{Add, Clear}
use Rattle.net_types.specs.Routes.{origin_of}
use Rattle.net_types.specs.Communities.{half_of, of_halves, community_of, community_of_parts}
use Rattle.frr_policy.specs.declared.refusals.LineRefusal.{LineRefusal}
use Rattle.frr_policy.specs.declared.refusals.LineRefusal.TheVariants.{BadValue, Repeated, OutOfLimit}
use Rattle.frr_policy.specs.declared.map_steps.MapStep.{MapStep}
use Rattle.frr_policy.specs.declared.map_steps.MapStep.TheVariants.{Begin, Change}
use Rattle.frr_policy.specs.Values.{name_of, action_of, positive_of, u32_of, map_number_of, masked_prefix_of}
use Rattle.frr_policy.specs.Grammar.{first, and_then, optional, if_alone, one, value_before, leading, some_alone}
use Rattle.frr_policy.specs.Answers.{or_bad_value, then_answer}
use Rattle.frr_policy.specs.Lists.{FrontValue, front_of, greatest, if_word, number_of, if_free, HasRoom, new_number}
use Rattle.frr_policy.specs.PrefixLines.{bounds_of, if_fitting, FitsPrefix, every_prefix, matched_by, matched_of, line_with, prefix_line, prefix_numbers, added_prefix_entry, prefix_list_row}
use Rattle.frr_policy.specs.CommunityLines.{list_name_of, communities_of, community_front, with_communities, community_line, community_numbers, added_community_entry, community_list_row}
use Rattle.frr_policy.specs.MapRows.{once, FitsEntry, match_community, match_prefix_list, set_preference, set_metric, set_weight, set_origin, is_only, replaced_or_added, set_community_of, is_community_set, set_community, if_delete, set_comm_list, if_few, asns_of, has_items, set_prepend}
use Rattle.frr_policy.specs.MapLines.{HeadingValue, heading_of, new_entry, map_numbers, added_map_entry, begins, changes, LineRow, map_table, behind, by_head, by_table, map_line, FitsStep, HasPlace}
use Rattle.frr_reader.proofs.RangeLemmas.{number_bounds, prefix_of_word}

-- readings of words

and_then_given : {A B : Type 0} (P : A → Type 0) (Q : B → Type 0) (o : Option (A × List (List ℕ))) (next : A → List (List ℕ) → Option B) → IfSome o (λ a. P a.0) → ((a : A) (more : List (List ℕ)) → P a → IfSome (next a more) Q) → IfSome (and_then o next) Q
and_then_given P Q None next h k = tt
and_then_given P Q (Some a) next h k = k a.0 a.1 h

any_reading : {A : Type 0} (o : Option (A × List (List ℕ))) → IfSome o (λ a. Unit {0})
any_reading None = tt
any_reading (Some a) = tt

first_given : {A : Type 0} (P : A → Type 0) (read : List ℕ → Option A) → ((word : List ℕ) → IfSome (read word) P) → (words : List (List ℕ)) → IfSome (first read words) (λ a. P a.0)
first_given P read h [] = tt
first_given {A} P read h (word ∷ more) = go (read word) (h word) where
  go : (o : Option A) → IfSome o P → IfSome (option_map {U = A × List (List ℕ)} (λ a. (a, more)) o) (λ a. P a.0)
  go None k = tt
  go (Some a) k = k

if_alone_given : {A : Type 0} (P : A → Type 0) (a : A) (words : List (List ℕ)) → P a → IfSome (if_alone a words) P
if_alone_given P a [] h = h
if_alone_given P a (_ ∷ _) h = tt

pub one_word : {A : Type 0} (P : A → Type 0) (read : List ℕ → Option A) → ((word : List ℕ) → IfSome (read word) P) → (words : List (List ℕ)) → IfSome (one read words) P
one_word P read h words = and_then_given P P (first read words) if_alone (first_given P read h words) (λ a more p. if_alone_given P a more p)

optional_given : {A : Type 0} (P : A → Type 0) (keyword : List ℕ) (read : List ℕ → Option A) → ((word : List ℕ) → IfSome (read word) P) → (words : List (List ℕ)) → IfSome (optional keyword read words) (λ a. IfSome a.0 P)
optional_given P keyword read h [] = tt
optional_given {A} P keyword read h (word ∷ more) = go (same_text keyword word) (first read more) (first_given P read h more) where
  go : (b : Bool) (o : Option (A × List (List ℕ))) → IfSome o (λ a. P a.0) → IfSome (if b then option_map {U = Option A × List (List ℕ)} (λ a. (Some a.0, a.1)) o else Some (None, word ∷ more)) (λ a. IfSome a.0 P)
  go true None k = tt
  go true (Some a) k = k
  go false o k = tt

or_bad_given : {A : Type 0} (P : A → Type 0) (o : Option A) → IfSome o P → IfOk (or_bad_value o) P
or_bad_given P None h = tt
or_bad_given P (Some a) h = h

answer_given : {A B : Type 0} (P : A → Type 0) (Q : B → Type 0) (r : Result A LineRefusal) (next : A → Result B LineRefusal) → IfOk r P → ((a : A) → P a → IfOk (next a) Q) → IfOk (then_answer r next) Q
answer_given P Q (Ok a) next h k = k a h
answer_given P Q (Err refusal) next h k = tt

-- numbers

-- a number of a list's entry
abbrev IsSeq : ℕ → Type 0
IsSeq n = n ≤ 4294967295

positive_seq : (word : List ℕ) → IfSome (positive_of word) IsSeq
positive_seq word = go (number_in 1 4294967295 word) (number_bounds 1 4294967295 word) where
  go : (o : Option ℕ) → IfSome o (λ n. (1 ≤ n) × (n ≤ 4294967295)) → IfSome o IsSeq
  go None h = tt
  go (Some n) h = h.1

u32_word : (word : List ℕ) → IfSome (u32_of word) (λ n. n < 2 ^ 32)
u32_word word = go (number_in 0 4294967295 word) (number_bounds 0 4294967295 word) where
  go : (o : Option ℕ) → IfSome o (λ n. (0 ≤ n) × (n ≤ 4294967295)) → IfSome o (λ n. n < 2 ^ 32)
  go None h = tt
  go (Some n) h = let k = h.1 in omega arith

map_number_word : (word : List ℕ) → IfSome (map_number_of word) (λ n. n < 2 ^ 16)
map_number_word word = go (number_in 1 65535 word) (number_bounds 1 65535 word) where
  go : (o : Option ℕ) → IfSome o (λ n. (1 ≤ n) × (n ≤ 65535)) → IfSome o (λ n. n < 2 ^ 16)
  go None h = tt
  go (Some n) h = let k = h.1 in omega arith

if_free_room : (taken : List ℕ) (number : ℕ) → IfOk (if_free taken number) (λ n. (n ≡ number) × HasRoom taken n)
if_free_room taken number = go (list_any (λ n. n == number) taken) refl (nat_le 64 (length taken)) refl where
  go : (a : Bool) → list_any (λ n. n == number) taken ≡ a → (b : Bool) → nat_le 64 (length taken) ≡ b → IfOk (if a then Err Repeated else (if b then Err OutOfLimit else Ok number)) (λ n. (n ≡ number) × HasRoom taken n)
  go true e b f = tt
  go false e true f = tt
  go false e false f = (refl, record { free = e; few = grind (arith, nat_tests) })

if_word_seq : (n : ℕ) → IfOk (if_word n) IsSeq
if_word_seq n = go (nat_le n 4294967295) refl where
  go : (b : Bool) → nat_le n 4294967295 ≡ b → IfOk (if b then Ok n else Err BadValue) IsSeq
  go true e = grind (arith, nat_tests)
  go false e = tt

number_seq : (written : Option ℕ) (taken : List ℕ) → IfSome written IsSeq → IfOk (number_of written taken) IsSeq
number_seq (Some n) taken h = h
number_seq None taken h = if_word_seq (greatest taken / 5 * 5 + 5)

-- the number of a new entry is a number, and there is room for it
record IsNew (taken : List ℕ) (n : ℕ) : Type 0 where
  seq : IsSeq n
  room : HasRoom taken n

new_number_new : (written : Option ℕ) (taken : List ℕ) → IfSome written IsSeq → IfOk (new_number written taken) (IsNew taken)
new_number_new written taken h = answer_given IsSeq (IsNew taken) (number_of written taken) (if_free taken) (number_seq written taken h) (λ n s. go n s (if_free taken n) (if_free_room taken n)) where
  go : (n : ℕ) → IsSeq n → (r : Result ℕ LineRefusal) → IfOk r (λ m. (m ≡ n) × HasRoom taken m) → IfOk r (IsNew taken)
  go n s (Ok m) k = record { seq = (let e = k.0 in omega arith); room = k.1 }
  go n s (Err refusal) k = tt

-- what stands in front of an entry

abbrev IsFront : FrontValue → Type 0
IsFront front = IfSome front.seq IsSeq

front_given : (name : List ℕ) (words : List (List ℕ)) → IfSome (front_of name words) (λ f. IsFront f.0)
front_given name words = and_then_given (λ seq. IfSome seq IsSeq) (λ f. IsFront f.0) (optional (codes "seq") positive_of words) _ (optional_given IsSeq (codes "seq") positive_of positive_seq words) (λ seq more h. and_then_given (λ _. Unit {0}) (λ f. IsFront f.0) (first action_of more) _ (any_reading (first action_of more)) (λ permit behind _. h))

-- prefix lists

fitting : (prefix : PrefixValue) → IsPrefix prefix → (l : _) → IfSome (if_fitting prefix.len l) (λ l. FitsPrefix (record { prefix = prefix; lengths = l }))
fitting prefix p l = go (nat_le prefix.len l.least) refl (nat_le l.least l.most) refl (nat_le l.most 32) refl where
  go : (a : Bool) → nat_le prefix.len l.least ≡ a → (b : Bool) → nat_le l.least l.most ≡ b → (c : Bool) → nat_le l.most 32 ≡ c → IfSome (if a && b && c then Some l else None) (λ l. FitsPrefix (record { prefix = prefix; lengths = l }))
  go true e true f true g = record { prefix = p; least = grind (arith, nat_tests); most = grind (arith, nat_tests); fits = grind (arith, nat_tests) }
  go true e true f false g = tt
  go true e false f c g = tt
  go false e b f c g = tt

matched_by_fits : (prefix : PrefixValue) → IsPrefix prefix → (words : List (List ℕ)) → IfSome (matched_by prefix words) FitsPrefix
matched_by_fits prefix p words = go (bounds_of prefix.len words) where
  inner : (o : Option _) → IfSome o (λ l. FitsPrefix (record { prefix = prefix; lengths = l })) → IfSome (option_map (λ l. record { prefix = prefix; lengths = l }) o) FitsPrefix
  inner None h = tt
  inner (Some l) h = h

  go : (o : Option _) → IfSome (option_map (λ l. record { prefix = prefix; lengths = l }) (option_and_then (if_fitting prefix.len) o)) FitsPrefix
  go None = tt
  go (Some l) = inner (if_fitting prefix.len l) (fitting prefix p l)

every_fits : FitsPrefix every_prefix
every_fits = record { prefix = record { len = omega arith; bits = lit< tt; cleared = refl }; least = omega arith; most = omega arith; fits = omega arith }

matched_fits : (words : List (List ℕ)) → IfSome (matched_of words) FitsPrefix
matched_fits [] = tt
matched_fits (word ∷ more) = go (same_text (codes "any") word) (masked_prefix_of word) (prefix_of_word word) where
  go : (b : Bool) (o : Option PrefixValue) → IfSome o IsPrefix → IfSome (if b then if_alone every_prefix more else option_and_then (λ prefix. matched_by prefix more) o) FitsPrefix
  go true o h = if_alone_given FitsPrefix every_prefix more every_fits
  go false None h = tt
  go false (Some prefix) h = matched_by_fits prefix h more

prefix_line_given : (words : List (List ℕ)) → IfSome (prefix_line words) (λ line. IsFront line.0 × FitsPrefix line.1)
unfolding prefix_line
prefix_line_given words = and_then_given (λ _. Unit {0}) (λ line. IsFront line.0 × FitsPrefix line.1) (first name_of words) _ (any_reading (first name_of words)) (λ name behind_name _. and_then_given IsFront (λ line. IsFront line.0 × FitsPrefix line.1) (front_of name behind_name) _ (front_given name behind_name) (λ front behind_front h. go front h (matched_of behind_front) (matched_fits behind_front))) where
  go : (front : FrontValue) → IsFront front → (o : Option _) → IfSome o FitsPrefix → IfSome (line_with front o) (λ line. IsFront line.0 × FitsPrefix line.1)
  go front h None k = tt
  go front h (Some m) k = (h, k)

-- an entry of a prefix list, and its place
pub record IsNewPrefix (lists : List PrefixList) (r : List ℕ × PrefixEntry) : Type 0 where
  pub entry : IsPrefixEntry r.1
  pub room : HasRoom (prefix_numbers r.0 lists) r.1.seq

added_prefix_given : (lists : List PrefixList) (line : FrontValue × _) → IsFront line.0 → FitsPrefix line.1 → IfOk (added_prefix_entry lists line) (IsNewPrefix lists)
unfolding added_prefix_entry
added_prefix_given lists line f h = answer_given (IsNew (prefix_numbers line.0.name lists)) (IsNewPrefix lists) (new_number line.0.seq (prefix_numbers line.0.name lists)) _ (new_number_new line.0.seq (prefix_numbers line.0.name lists) f) (λ n k. record { entry = record { seq = (let s = k.seq in omega arith); prefix = h.prefix; least = h.least; most = h.most; fits = h.fits }; room = k.room })

pub prefix_row_given : (rest : List (List ℕ)) (lists : List PrefixList) → IfOk (prefix_list_row rest lists) (IsNewPrefix lists)
unfolding prefix_list_row
prefix_row_given rest lists = answer_given (λ line. IsFront line.0 × FitsPrefix line.1) (IsNewPrefix lists) (or_bad_value (prefix_line rest)) (added_prefix_entry lists) (or_bad_given (λ line. IsFront line.0 × FitsPrefix line.1) (prefix_line rest) (prefix_line_given rest)) (λ line h. added_prefix_given lists line h.0 h.1)

-- community lists

halves_word : (a b : Option ℕ) → IfSome a (λ n. (0 ≤ n) × (n ≤ 65535)) → IfSome b (λ n. (0 ≤ n) × (n ≤ 65535)) → IfSome (of_halves a b) (λ n. n < 2 ^ 32)
halves_word (Some a) (Some b) h k = let i = h.1 in let j = k.1 in omega arith
halves_word None b h k = tt
halves_word (Some a) None h k = tt

parts_word : (ps : List (List ℕ)) → IfSome (community_of_parts ps) (λ n. n < 2 ^ 32)
parts_word [] = tt
parts_word (a ∷ []) = tt
parts_word (a ∷ b ∷ []) = halves_word (half_of a) (half_of b) (number_bounds 0 65535 a) (number_bounds 0 65535 b)
parts_word (a ∷ b ∷ c ∷ more) = tt

community_word : (word : List ℕ) → IfSome (community_of word) (λ n. n < 2 ^ 32)
community_word word = go (same_text (codes "no-export") word) (same_text (codes "no-advertise") word) (community_of_parts (parts 58 word)) (parts_word (parts 58 word)) where
  go : (a b : Bool) (o : Option ℕ) → IfSome o (λ n. n < 2 ^ 32) → IfSome (if a then Some 0xFFFFFF01 else (if b then Some 0xFFFFFF02 else o)) (λ n. n < 2 ^ 32)
  go true b o h = lit< tt
  go false true o h = lit< tt
  go false false o h = h

leading_all : (P : ℕ → Type 0) (read : List ℕ → Option ℕ) → ((word : List ℕ) → IfSome (read word) P) → (words : List (List ℕ)) → All P (leading read words).0
leading_all P read h [] = All-nil P
leading_all P read h (word ∷ more) = go (read word) (h word) (leading_all P read h more) where
  go : (o : Option ℕ) → IfSome o P → All P (leading read more).0 → All P (value_before (word ∷ more) o (leading read more)).0
  go None k i = All-nil P
  go (Some a) k i = All-cons P a (leading read more).0 k i

some_alone_all : (P : ℕ → Type 0) (p : List ℕ × List (List ℕ)) → All P p.0 → IfSome (some_alone p) (λ values. All P values)
some_alone_all P ([], _) h = tt
some_alone_all P (a ∷ more, []) h = h
some_alone_all P (a ∷ more, _ ∷ _) h = tt

abbrev IsWords : List ℕ → Type 0
IsWords values = All (λ c. c < 2 ^ 32) values

communities_all : (words : List (List ℕ)) → IfSome (communities_of words) IsWords
communities_all words = some_alone_all (λ c. c < 2 ^ 32) (leading community_of words) (leading_all (λ c. c < 2 ^ 32) community_of community_word words)

record IsCommunityLine (line : FrontValue × List ℕ) : Type 0 where
  front : IsFront line.0
  values : IsWords line.1

community_line_given : (words : List (List ℕ)) → IfSome (community_line words) IsCommunityLine
unfolding community_line
community_line_given words = and_then_given IsFront IsCommunityLine (community_front words) _ (and_then_given (λ _. Unit {0}) (λ f. IsFront f.0) (list_name_of words) _ (any_reading (list_name_of words)) (λ name more _. front_given name more)) (λ front more h. go front h (communities_of more) (communities_all more)) where
  go : (front : FrontValue) → IsFront front → (o : Option (List ℕ)) → IfSome o IsWords → IfSome (with_communities front o) IsCommunityLine
  go front h None k = tt
  go front h (Some values) k = record { front = h; values = k }

-- an entry of a community list, and its place
pub record IsNewCommunity (lists : List CommunityList) (r : List ℕ × CommunityEntry) : Type 0 where
  pub entry : IsCommunityEntry r.1
  pub room : HasRoom (community_numbers r.0 lists) r.1.seq

added_community_given : (lists : List CommunityList) (line : FrontValue × List ℕ) → IsCommunityLine line → IfOk (added_community_entry lists line) (IsNewCommunity lists)
unfolding added_community_entry
added_community_given lists line h = answer_given (IsNew (community_numbers line.0.name lists)) (IsNewCommunity lists) (new_number line.0.seq (community_numbers line.0.name lists)) _ (new_number_new line.0.seq (community_numbers line.0.name lists) h.front) (λ n k. record { entry = record { seq = (let s = k.seq in omega arith); values = h.values }; room = k.room })

pub community_row_given : (rest : List (List ℕ)) (lists : List CommunityList) → IfOk (community_list_row rest lists) (IsNewCommunity lists)
unfolding community_list_row
community_row_given rest lists = answer_given IsCommunityLine (IsNewCommunity lists) (or_bad_value (community_line rest)) (added_community_entry lists) (or_bad_given IsCommunityLine (community_line rest) (community_line_given rest)) (λ line h. added_community_given lists line h)

-- route maps

-- a changed entry is in its ranges, and keeps its number
record IsChanged (old new : MapEntry) : Type 0 where
  fits : FitsEntry new
  seq : new.seq ≡ old.seq

once_given : {A : Type 0} (P : A → Type 0) (old : MapEntry) (o : Option A) (is_set : Bool) (change : A → MapEntry) → IfSome o P → ((a : A) → P a → IsChanged old (change a)) → IfOk (once o is_set change) (IsChanged old)
once_given P old None is_set change h k = tt
once_given P old (Some a) true change h k = tt
once_given P old (Some a) false change h k = k a h

any_value : {A : Type 0} (o : Option A) → IfSome o (λ _. Unit {0})
any_value None = tt
any_value (Some a) = tt

-- what a row of the block makes of an entry
abbrev Keeps : (List (List ℕ) → MapEntry → Result MapEntry LineRefusal) → Type 0
Keeps change = (rest : List (List ℕ)) (e : MapEntry) → FitsEntry e → IfOk (change rest e) (IsChanged e)

keeps_prefix_list : Keeps match_prefix_list
unfolding match_prefix_list
keeps_prefix_list rest e h = once_given (λ _. Unit {0}) e (one name_of rest) (is_some e.prefixes) _ (any_value (one name_of rest)) (λ name _. record { fits = record { seq = h.seq; weight = h.weight; preference = h.preference; med = h.med; community = h.community; few = h.few }; seq = refl })

keeps_community : Keeps match_community
unfolding match_community
keeps_community rest e h = once_given (λ _. Unit {0}) e (one name_of rest) (is_some e.communities) _ (any_value (one name_of rest)) (λ name _. record { fits = record { seq = h.seq; weight = h.weight; preference = h.preference; med = h.med; community = h.community; few = h.few }; seq = refl })

keeps_preference : Keeps set_preference
unfolding set_preference
keeps_preference rest e h = once_given (λ n. n < 2 ^ 32) e (one u32_of rest) (is_some e.sets.preference) _ (one_word (λ n. n < 2 ^ 32) u32_of u32_word rest) (λ n k. record { fits = record { seq = h.seq; weight = h.weight; preference = k; med = h.med; community = h.community; few = h.few }; seq = refl })

keeps_metric : Keeps set_metric
unfolding set_metric
keeps_metric rest e h = once_given (λ n. n < 2 ^ 32) e (one u32_of rest) (is_some e.sets.med) _ (one_word (λ n. n < 2 ^ 32) u32_of u32_word rest) (λ n k. record { fits = record { seq = h.seq; weight = h.weight; preference = h.preference; med = k; community = h.community; few = h.few }; seq = refl })

keeps_weight : Keeps set_weight
unfolding set_weight
keeps_weight rest e h = once_given (λ n. n < 2 ^ 32) e (one u32_of rest) (is_some e.sets.weight) _ (one_word (λ n. n < 2 ^ 32) u32_of u32_word rest) (λ n k. record { fits = record { seq = h.seq; weight = k; preference = h.preference; med = h.med; community = h.community; few = h.few }; seq = refl })

keeps_origin : Keeps set_origin
unfolding set_origin
keeps_origin rest e h = once_given (λ _. Unit {0}) e (one origin_of rest) (is_some e.sets.origin) _ (any_value (one origin_of rest)) (λ origin _. record { fits = record { seq = h.seq; weight = h.weight; preference = h.preference; med = h.med; community = h.community; few = h.few }; seq = refl })

replaced_fits : (p : List ℕ × List (List ℕ)) → IsWords p.0 → IfSome (replaced_or_added p) IsSetCommunity
replaced_fits ([], _) h = tt
replaced_fits (value ∷ more, []) h = h
replaced_fits (value ∷ more, word ∷ words) h = go (is_only (codes "additive") (word ∷ words)) where
  go : (b : Bool) → IfSome (if b then Some (Add (value ∷ more)) else None) IsSetCommunity
  go true = h
  go false = tt

set_community_fits : (rest : List (List ℕ)) → IfSome (set_community_of rest) IsSetCommunity
set_community_fits rest = go (is_only (codes "none") rest) where
  go : (b : Bool) → IfSome (if b then Some Clear else replaced_or_added (leading community_of rest)) IsSetCommunity
  go true = tt
  go false = replaced_fits (leading community_of rest) (leading_all (λ c. c < 2 ^ 32) community_of community_word rest)

keeps_set_community : Keeps set_community
unfolding set_community
keeps_set_community rest e h = once_given IsSetCommunity e (set_community_of rest) (is_community_set e.sets.community) _ (set_community_fits rest) (λ c k. record { fits = record { seq = h.seq; weight = h.weight; preference = h.preference; med = h.med; community = k; few = h.few }; seq = refl })

keeps_comm_list : Keeps set_comm_list
unfolding set_comm_list
keeps_comm_list rest e h = once_given (λ _. Unit {0}) e (and_then (first name_of rest) if_delete) (is_some e.sets.delete) _ (any_value (and_then (first name_of rest) if_delete)) (λ name _. record { fits = record { seq = h.seq; weight = h.weight; preference = h.preference; med = h.med; community = h.community; few = h.few }; seq = refl })

asns_few : (rest : List (List ℕ)) → IfSome (asns_of rest) (λ values. length values ≤ 10)
asns_few rest = outer (some_alone (leading positive_of rest)) where
  go : (values : List ℕ) (b : Bool) → nat_le (length values) 10 ≡ b → IfSome (if b then Some values else None) (λ values. length values ≤ 10)
  go values true e = grind (arith, nat_tests)
  go values false e = tt

  outer : (o : Option (List ℕ)) → IfSome (option_and_then if_few o) (λ values. length values ≤ 10)
  outer None = tt
  outer (Some values) = go values (nat_le (length values) 10) refl

keeps_prepend : Keeps set_prepend
unfolding set_prepend
keeps_prepend rest e h = once_given (λ values. length values ≤ 10) e (asns_of rest) (has_items e.sets.prepend) _ (asns_few rest) (λ asns k. record { fits = record { seq = h.seq; weight = h.weight; preference = h.preference; med = h.med; community = h.community; few = k }; seq = refl })

-- an entry that begins is new
abbrev pub IsFresh : MapStep → Type 0
IsFresh (Begin name entry) = entry ≡ new_entry entry.permit entry.seq
IsFresh (Change entry) = Unit {0}

-- what a line of a map gives, where the entry that is open is in its ranges
pub record IsMapStep (maps : List RouteMap) (current : Option MapEntry) (step : MapStep) : Type 0 where
  pub fits : FitsStep step
  pub place : HasPlace maps current step
  pub fresh : IsFresh step

abbrev EffectKeeps : (List (List ℕ) → List RouteMap → Option MapEntry → Result MapStep LineRefusal) → Type 0
EffectKeeps effect = (rest : List (List ℕ)) (maps : List RouteMap) (current : Option MapEntry) → IfSome current FitsEntry → IfOk (effect rest maps current) (IsMapStep maps current)

changes_keep : (change : List (List ℕ) → MapEntry → Result MapEntry LineRefusal) → Keeps change → EffectKeeps (changes change)
changes_keep change k rest maps None h = tt
changes_keep change k rest maps (Some e) h = answer_given (IsChanged e) (IsMapStep maps (Some e)) (change rest e) _ (k rest e h) (λ new c. record { fits = c.fits; place = c.seq; fresh = tt })

heading_seq : (words : List (List ℕ)) → IfSome (heading_of words) (λ h. h.seq < 2 ^ 16)
heading_seq words = and_then_given (λ _. Unit {0}) (λ h. h.seq < 2 ^ 16) (first name_of words) _ (any_reading (first name_of words)) (λ name behind_name _. and_then_given (λ _. Unit {0}) (λ h. h.seq < 2 ^ 16) (first action_of behind_name) _ (any_reading (first action_of behind_name)) (λ permit behind_action _. and_then_given (λ n. n < 2 ^ 16) (λ h. h.seq < 2 ^ 16) (first map_number_of behind_action) _ (first_given (λ n. n < 2 ^ 16) map_number_of map_number_word behind_action) (λ seq more s. if_alone_given (λ (h : HeadingValue). h.seq < 2 ^ 16) (record { name = name; permit = permit; seq = seq }) more s)))

new_entry_fits : (permit : Bool) (seq : ℕ) → seq < 2 ^ 16 → FitsEntry (new_entry permit seq)
new_entry_fits permit seq h = record { seq = h; weight = tt; preference = tt; med = tt; community = tt; few = omega arith }

added_map_given : (maps : List RouteMap) (current : Option MapEntry) (h : HeadingValue) → h.seq < 2 ^ 16 → IfOk (added_map_entry maps h) (IsMapStep maps current)
unfolding added_map_entry
added_map_given maps current h s = answer_given (λ n. (n ≡ h.seq) × HasRoom (map_numbers h.name maps) n) (IsMapStep maps current) (if_free (map_numbers h.name maps) h.seq) _ (if_free_room (map_numbers h.name maps) h.seq) (λ n k. record { fits = new_entry_fits h.permit n (let e = k.0 in omega arith); place = k.1; fresh = refl })

begins_keeps : EffectKeeps begins
unfolding begins
begins_keeps rest maps current c = answer_given (λ (h : HeadingValue). h.seq < 2 ^ 16) (IsMapStep maps current) (or_bad_value (heading_of rest)) (added_map_entry maps) (or_bad_given (λ (h : HeadingValue). h.seq < 2 ^ 16) (heading_of rest) (heading_seq rest)) (λ h s. added_map_given maps current h s)

-- each row keeps what is promised
abbrev EachKeeps : List LineRow → Type 0
EachKeeps [] = Unit {0}
EachKeeps (r ∷ rows) = EffectKeeps r.effect × EachKeeps rows

by_table_given : (rows : List LineRow) → EachKeeps rows → (line : List (List ℕ)) (maps : List RouteMap) (current : Option MapEntry) → IfSome current FitsEntry → IfOk (by_table rows line maps current) (IsMapStep maps current)
by_table_given [] k line maps current h = tt
by_table_given (r ∷ rows) k line maps current h = go (behind r.head line) (by_table_given rows k.1 line maps current h) where
  go : (o : Option (List (List ℕ))) → IfOk (by_table rows line maps current) (IsMapStep maps current) → IfOk (by_head r o maps current (by_table rows line maps current)) (IsMapStep maps current)
  go (Some rest) i = k.0 rest maps current h
  go None i = i

table_keeps : EachKeeps map_table
table_keeps = (begins_keeps, (changes_keep match_community keeps_community, (changes_keep match_prefix_list keeps_prefix_list, (changes_keep set_preference keeps_preference, (changes_keep set_metric keeps_metric, (changes_keep set_weight keeps_weight, (changes_keep set_origin keeps_origin, (changes_keep set_community keeps_set_community, (changes_keep set_comm_list keeps_comm_list, (changes_keep set_prepend keeps_prepend, tt))))))))))

pub map_line_given : (line : List (List ℕ)) (maps : List RouteMap) (current : Option MapEntry) → IfSome current FitsEntry → IfOk (map_line line maps current) (IsMapStep maps current)
unfolding map_line
map_line_given line maps current h = by_table_given map_table table_keeps line maps current h
