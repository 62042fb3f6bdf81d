-- The flow of a network is lawful.
use Rattle.std.proofs.Common.{ℕ, ◌≡◌, ◌<◌, ◌^◌, Bool, true, false, List, length, Option, Some, None, IfSome, arith, refl, if◌then◌else◌}
use Rattle.net_types.specs.Arcs.{is_up}
use Rattle.net_types.specs.Distance.{AreDistances, distance_at}
use Rattle.net_types.specs.NetFacts.{IsNet}
use Rattle.net_types.specs.NetValue.{NetValue}
use Rattle.net_types.specs.PrefixValue.{PrefixValue}
use Rattle.net_types.specs.Sets.{has}
use Rattle.abstract_route.specs.declared.rows.Row.{Row}
use Rattle.abstract_route.specs.Rows.{IsRow, bottom}
use Rattle.abstract_route.proofs.HeightLemmas.{bottom_is_row}
use Rattle.ospf_paths.proofs.LawLemmas.{distances_are_small}
use Rattle.concrete_algebra.proofs.RoutingLemmas.{networks_route}
use Rattle.abstract_maps.specs.LocalRow.{local_row}
use Rattle.abstract_maps.proofs.ArcLemmas.{gives_is_row, gives_grows}
use Rattle.abstract_maps.proofs.LocalLemmas.{local_is_row}
use Rattle.net_types.proofs.TestLemmas.{first}
use Rattle.possible_fixpoint.specs.Flow.{is_alive, living_row}
use Rattle.possible_fixpoint.specs.Laws.{FlowIsLawful}
use Rattle.possible_fixpoint.specs.declared.alive.Alive.{Alive}

word : (o : Option ℕ) → ((d : ℕ) → o ≡ Some d → d < 2 ^ 32) → IfSome o (λ d. d < 2 ^ 64)
word None small = tt
word (Some d) small = let e = small d refl in omega arith

chosen : (b : Bool) (row : Row) → IsRow row → IsRow (if b then row else bottom)
chosen true row is = is
chosen false row is = bottom_is_row

pub local_is_word_row : (net : NetValue) (prefix : PrefixValue) (failed : List ℕ) (distances : List (Option ℕ)) (u : ℕ) → IsNet net → AreDistances net prefix failed distances → u < length net.routers → IsRow (local_row net prefix u (distance_at distances u))
local_is_word_row net prefix failed distances u valid are low =
    local_is_row net prefix u (distance_at distances u) valid low
    (word (distance_at distances u) (distances_are_small net prefix failed distances valid are u))

living_is_row : (net : NetValue) (prefix : PrefixValue) (failed : List ℕ) (distances : List (Option ℕ)) (alive : Alive) (u : ℕ) → IsNet net → AreDistances net prefix failed distances → u < length net.routers → IsRow (living_row net prefix distances alive u)
living_is_row net prefix failed distances alive u valid are low =
    chosen (has alive.locals u) (local_row net prefix u (distance_at distances u)) (local_is_word_row net prefix failed distances u valid are low)

pub flow_is_lawful : FlowIsLawful
flow_is_lawful net prefix failed distances alive valid are = record {
  link = λ arc e. (networks_route net prefix failed distances valid).link arc (first (is_up net failed arc) (is_alive alive arc) e);
  sender = λ arc e. (networks_route net prefix failed distances valid).sender arc (first (is_up net failed arc) (is_alive alive arc) e);
  receiver = λ arc e. (networks_route net prefix failed distances valid).receiver arc (first (is_up net failed arc) (is_alive alive arc) e);
  source = λ u low. living_is_row net prefix failed distances alive u valid are low;
  gives = λ arc row is. gives_is_row net prefix arc row valid is;
  grows = λ arc a b a_row b_row below. gives_grows net prefix arc a b valid b_row below;
}
