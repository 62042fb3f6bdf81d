-- Arcs that give nothing may as well not live.
use Rattle.std.proofs.Common.{◌≡◌, ◌<◌, ◌⊎◌, inl, inr, ◌&&◌, Bool, true, false, not, List, length, arith, ap, sym, subst, ◌∙◌, refl, if◌then◌else◌}
use Rattle.net_types.specs.declared.arcs.Arc.{Arc}
use Rattle.net_types.specs.Arcs.{is_session, is_up}
use Rattle.net_types.specs.FailSets.{holds}
use Rattle.net_types.specs.NetFacts.{IsNet}
use Rattle.net_types.specs.NetValue.{NetValue}
use Rattle.net_types.specs.PrefixValue.{PrefixValue}
use Rattle.abstract_route.specs.declared.rows.Row.{Row}
use Rattle.abstract_route.specs.Rows.{IsBelow, bottom, carried_row, inhabited, row_at}
use Rattle.abstract_route.proofs.HeightLemmas.{bottom_below}
use Rattle.abstract_route.proofs.RowLemmas.{below_refl, below_trans}
use Rattle.abstract_maps.specs.Transfer.{gives, opens}
use Rattle.abstract_maps.proofs.ArcLemmas.{closed_is_bottom, open_grows}
use Rattle.net_types.proofs.TestLemmas.{first}
use Rattle.possible_fixpoint.proofs.AliveLemmas.{possible_falls}
use Rattle.possible_fixpoint.proofs.FlowLemmas.{flow_is_lawful}
use Rattle.possible_fixpoint.proofs.LeastLemmas.{below_both, possible_is_least}
use Rattle.possible_fixpoint.specs.Flow.{Flow, Lawful, flow_of, is_alive}
use Rattle.possible_fixpoint.specs.Laws.{IdleArcsAddNothing, IdleLinksKeepPossible}
use Rattle.possible_fixpoint.specs.Possible.{AreBelow, Solves, possible}

fewer_is_lawful : (flow : Flow) (fewer : Arc → Bool) → Lawful flow → ((arc : Arc) → fewer arc ≡ true → flow.lives arc ≡ true) → Lawful (record flow { lives = fewer })
fewer_is_lawful flow fewer laws less = record {
  link = λ arc e. laws.link arc (less arc e);
  sender = λ arc e. laws.sender arc (less arc e);
  receiver = λ arc e. laws.receiver arc (less arc e);
  source = laws.source;
  gives = laws.gives;
  grows = laws.grows;
}

pub idle_arcs_add_nothing : IdleArcsAddNothing
idle_arcs_add_nothing flow fewer laws less idle =
    let a = possible_is_least flow laws in
    let b = possible_is_least (record flow { lives = fewer }) (fewer_is_lawful flow fewer laws less) in
    let rows : List Row = possible flow in
    let others : List Row = possible (record flow { lives = fewer }) in
    let low : AreBelow others rows = b.least rows a.words (record {
      long = a.solves.long;
      local = a.solves.local;
      learned = λ arc lives. a.solves.learned arc (less arc lives);
    }) in
    let back : Solves flow others = record {
      long = b.solves.long;
      local = b.solves.local;
      learned = λ arc lives. elim (idle arc lives) [
        | inl still ↦ b.solves.learned arc still
        | inr nothing ↦
            let from : flow.sender arc < length others = let e = laws.sender arc lives in let f = b.solves.long in omega arith in
            let to : flow.receiver arc < length others = let e = laws.receiver arc lives in let f = b.solves.long in omega arith in
            let within : flow.sender arc < length rows = let e = laws.sender arc lives in let f = a.solves.long in omega arith in
            below_trans (flow.gives arc (row_at others (flow.sender arc))) (flow.gives arc (row_at rows (flow.sender arc))) (row_at others (flow.receiver arc))
            (laws.grows arc (row_at others (flow.sender arc)) (row_at rows (flow.sender arc)) (b.words.each (flow.sender arc) from) (a.words.each (flow.sender arc) within) (low.each (flow.sender arc) from))
            (below_trans (flow.gives arc (row_at rows (flow.sender arc))) bottom (row_at others (flow.receiver arc)) nothing
            (bottom_below (row_at others (flow.receiver arc)) (b.words.each (flow.receiver arc) to)))
      ];
    } in
    below_both rows others (a.least others b.words back) low

-- ---- links that fail

up_still : (session failed more alive : Bool) → (failed ≡ true → more ≡ true) → ((session && not more) && alive) ≡ true → ((session && not failed) && alive) ≡ true
up_still false failed more alive f e = e
up_still true failed true alive f e = absurd (cc)
up_still true true false alive f e = absurd (let g = f refl in cc)
up_still true false false alive f e = e

up_or_failed : (session failed more alive : Bool) → ((session && not failed) && alive) ≡ true → (((session && not more) && alive) ≡ true) ⊎ (more ≡ true)
up_or_failed false failed more alive e = absurd (cc)
up_or_failed true true more alive e = absurd (cc)
up_or_failed true false true alive e = inr refl
up_or_failed true false false alive e = inl e

-- what grows to a closed arc is closed
closed_before : (p q : Bool) → (p ≡ true → q ≡ true) → q ≡ false → p ≡ false
closed_before true q f e = sym (f refl) ∙ e
closed_before false q f e = refl

closed_gives : (net : NetValue) (prefix : PrefixValue) (arc : Arc) (row : Row) → IsNet net → opens net prefix arc row ≡ false → IsBelow (gives net prefix arc row) bottom
closed_gives net prefix arc row valid closed =
    let is : gives net prefix arc row ≡ bottom = ap (λ (t : Row). if inhabited t then carried_row t else bottom) (closed_is_bottom net prefix arc row valid closed) in
    subst (λ (r : Row). IsBelow r bottom) (sym is) (below_refl bottom)

pub idle_links_keep_possible : IdleLinksKeepPossible
idle_links_keep_possible net prefix failed more distances alive early valid are are_more less kept closed =
    let laws = flow_is_lawful net prefix failed distances alive valid are in
    let flow : Flow = flow_of net prefix failed distances alive in
    let rows : List Row = possible (flow_of net prefix failed distances alive) in
    let wide : List Row = possible (flow_of net prefix failed distances early) in
    let low : AreBelow rows wide = possible_falls net prefix failed distances alive early valid are less in
    let long = (possible_is_least (flow_of net prefix failed distances alive) laws).solves.long in
    idle_arcs_add_nothing (flow_of net prefix failed distances alive) (λ arc. is_up net more arc && is_alive alive arc) laws
    (λ arc e. up_still (is_session net arc) (holds failed arc.link) (holds more arc.link) (is_alive alive arc) (kept arc.link) e)
    (λ arc e. elim (up_or_failed (is_session net arc) (holds failed arc.link) (holds more arc.link) (is_alive alive arc) e) [
      | inl up ↦ inl up
      | inr out ↦
          let inside : flow.sender arc < length rows = let f = laws.sender arc e in omega arith in
          inr (closed_gives net prefix arc (row_at rows (flow.sender arc)) valid
          (closed_before (opens net prefix arc (row_at rows (flow.sender arc))) (opens net prefix arc (row_at wide (flow.sender arc)))
          (open_grows net prefix arc (row_at rows (flow.sender arc)) (row_at wide (flow.sender arc)) valid (low.each (flow.sender arc) inside))
          (closed arc (first (is_up net failed arc) (is_alive alive arc) e) out)))
    ])
