-- With less alive, less is possible.
use Rattle.std.proofs.Common.{ℕ, ◌≡◌, ◌<◌, ◌&&◌, Bool, true, false, List, length, Option, refl, if◌then◌else◌}
use Rattle.net_types.specs.declared.arcs.Arc.{Arc}
use Rattle.net_types.specs.Arcs.{is_up}
use Rattle.net_types.specs.Distance.{AreDistances, distance_at}
use Rattle.net_types.specs.NetFacts.{IsNet}
use Rattle.net_types.specs.NetValue.{NetValue}
use Rattle.net_types.specs.PrefixValue.{PrefixValue}
use Rattle.net_types.specs.Sets.{has}
use Rattle.abstract_route.specs.declared.rows.Row.{Row}
use Rattle.abstract_route.specs.Rows.{IsBelow, IsRow, bottom, row_at}
use Rattle.abstract_route.proofs.HeightLemmas.{bottom_below}
use Rattle.abstract_route.proofs.RowLemmas.{below_refl, below_trans}
use Rattle.abstract_maps.specs.LocalRow.{local_row}
use Rattle.possible_fixpoint.proofs.FlowLemmas.{flow_is_lawful, local_is_word_row}
use Rattle.possible_fixpoint.proofs.LeastLemmas.{possible_is_least}
use Rattle.possible_fixpoint.specs.Flow.{flow_of, is_alive, living_links, living_row}
use Rattle.possible_fixpoint.specs.Held.{IsLessAlive}
use Rattle.possible_fixpoint.specs.Laws.{PossibleFalls}
use Rattle.possible_fixpoint.specs.Possible.{possible}
use Rattle.possible_fixpoint.specs.declared.alive.Alive.{Alive}

link_lives : (fewer more : Alive) → IsLessAlive fewer more → (down : Bool) (link : ℕ) → has (living_links down fewer) link ≡ true → has (living_links down more) link ≡ true
link_lives fewer more less false link h = less.up.members link h
link_lives fewer more less true link h = less.down.members link h

still : (up p q : Bool) → (p ≡ true → q ≡ true) → (up && p) ≡ true → (up && q) ≡ true
still true p q f e = f e
still false p q f e = e

lives_still : (net : NetValue) (failed : List ℕ) (fewer more : Alive) → IsLessAlive fewer more → (arc : Arc) → (is_up net failed arc && is_alive fewer arc) ≡ true → (is_up net failed arc && is_alive more arc) ≡ true
lives_still net failed fewer more less arc e = still (is_up net failed arc) (is_alive fewer arc) (is_alive more arc) (link_lives fewer more less arc.down arc.link) e

chosen_grows : (p q : Bool) (row : Row) → (p ≡ true → q ≡ true) → IsRow row → IsBelow (if p then row else bottom) (if q then row else bottom)
chosen_grows true true row f is = below_refl row
chosen_grows true false row f is = absurd (let e = f refl in cc)
chosen_grows false true row f is = bottom_below row is
chosen_grows false false row f is = below_refl bottom

living_grows : (net : NetValue) (prefix : PrefixValue) (failed : List ℕ) (distances : List (Option ℕ)) (fewer more : Alive) → IsLessAlive fewer more → (u : ℕ) → IsNet net → AreDistances net prefix failed distances → u < length net.routers → IsBelow (living_row net prefix distances fewer u) (living_row net prefix distances more u)
living_grows net prefix failed distances fewer more less u valid are low =
    chosen_grows (has fewer.locals u) (has more.locals u) (local_row net prefix u (distance_at distances u)) (less.locals.members u) (local_is_word_row net prefix failed distances u valid are low)

pub possible_falls : PossibleFalls
possible_falls net prefix failed distances fewer more valid are less =
    let a = possible_is_least (flow_of net prefix failed distances fewer) (flow_is_lawful net prefix failed distances fewer valid are) in
    let b = possible_is_least (flow_of net prefix failed distances more) (flow_is_lawful net prefix failed distances more valid are) in
    let rows = possible (flow_of net prefix failed distances more) in
    a.least rows b.words (record {
      long = b.solves.long;
      local = λ u low. below_trans (living_row net prefix distances fewer u) (living_row net prefix distances more u) (row_at rows u)
          (living_grows net prefix failed distances fewer more less u valid are low) (b.solves.local u low);
      learned = λ arc lives. b.solves.learned arc (lives_still net failed fewer more less arc lives);
    })
