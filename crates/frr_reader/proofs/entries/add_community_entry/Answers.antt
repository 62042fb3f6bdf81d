use Rattle.std.proofs.Common.{◌≡◌, ◌<◌, ◌∷◌, [], Bool, List, OnOk, length, set, subst, sym}
use Rattle.std.specs.List.{position_or_len}
use Rattle.net_types.specs.Order.{same_text}
use Rattle.net_types.specs.declared.config.CommunityList.{CommunityList}
use Rattle.net_types.specs.declared.config.CommunityEntry.{CommunityEntry}
use Rattle.frr_reader.specs.Entries.{put, on_first}
use Rattle.frr_reader.proofs.EntryLemmas.{added_new, added_old}
use Rattle.frr_reader.proofs.entries.add_community_entry.Goals as goal

pub returns-then-place-len : goal.returns-then-place-len
returns-then-place-len c =
    let test : CommunityList → Bool = λ l. same_text l.name c.args.name in
    let change : CommunityList → CommunityList = λ l. record l { entries = put (λ (e : CommunityEntry). e.seq) c.args.entry l.entries } in
    let new : CommunityList = record { name = c.args.name; entries = c.args.entry ∷ [] } in
    let at : c.place_of-place.result ≡ position_or_len test c.args.lists.now = rw c.as_str.ensures at c.place_of-place.ensures in
    added_new test change new c.args.lists.now c.push.new.self c.place_of-place.result c.len.result at c.len.ensures c.if-place-len.true (rw c.in_ok-entries.ensures at c.in_ok-push.ensures)

pub returns : goal.returns
returns c =
    let test : CommunityList → Bool = λ l. same_text l.name c.args.name in
    let change : CommunityList → CommunityList = λ l. record l { entries = put (λ (e : CommunityEntry). e.seq) c.args.entry l.entries } in
    let new : CommunityList = record { name = c.args.name; entries = c.args.entry ∷ [] } in
    let at : c.place_of-place.result ≡ position_or_len test c.args.lists.now = rw c.as_str.ensures at c.place_of-place.ensures in
    let xs : List CommunityList = c.lists.inside.items.items in
    let at-inside : c.place_of-place.result ≡ position_or_len test xs = subst (λ ys. c.place_of-place.result ≡ position_or_len test ys) (sym c.lists.view_is) at in
    let len-inside : c.len.result ≡ length xs = subst (λ ys. c.len.result ≡ length ys) (sym c.lists.view_is) c.len.ensures in
    subst (λ ys. OnOk c.put_in_community_list.result (set xs c.place_of-place.result c.put_in_community_list.new.list ≡ on_first test change new ys)) c.lists.view_is
    (added_old test change new xs c.place_of-place.result c.len.result c.index_mut.result.now c.put_in_community_list.new.list c.put_in_community_list.result at-inside len-inside c.if-place-len.false c.index_mut.ensures.value c.put_in_community_list.ensures.value)
