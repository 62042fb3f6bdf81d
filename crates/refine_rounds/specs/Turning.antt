-- What private functions promise each other of the rounds.
use Rattle.std.specs.Prelude.{ℕ, ◌≡◌, List, Option}
use Rattle.net_types.specs.NetValue.{NetValue}
use Rattle.net_types.specs.PrefixValue.{PrefixValue}
use Rattle.possible_fixpoint.specs.declared.alive.Alive.{Alive}
use Rattle.possible_fixpoint.specs.Flow.{flow_of}
use Rattle.possible_fixpoint.specs.Possible.{possible}
use Rattle.certain_fixpoint.specs.CertainSet.{certain_set}
use Rattle.refine_rounds.specs.declared.rounds.Asked.{Asked}
use Rattle.refine_rounds.specs.declared.rounds.Turn.{Turn}
use Rattle.refine_rounds.specs.Rounds.{round_of}
use Rattle.refine_rounds.specs.Steps.{alive_after, step}

-- one round, where this was alive
pub record IsTurn (net : NetValue) (prefix : PrefixValue) (failed : List ℕ) (distances : List (Option ℕ)) (alive : Alive) (turn : Turn) : Type 0 where
  pub rows : turn.rows ≡ possible (flow_of net prefix failed distances alive)
  pub certain : turn.certain ≡ certain_set (round_of net prefix failed distances alive)
  pub next : turn.next ≡ step (round_of net prefix failed distances alive) alive

-- one of the rounds: after some, this is alive
pub record IsReached (net : NetValue) (prefix : PrefixValue) (failed : List ℕ) (distances : List (Option ℕ)) (alive : Alive) (turn : Turn) : Type 0 where
  pub rounds : ℕ
  pub is : alive ≡ alive_after net prefix failed distances rounds
  pub now : IsTurn net prefix failed distances alive turn

-- of what is asked
abbrev pub TurnAsked : Asked → Alive → Turn → Type 0
TurnAsked asked = IsTurn asked.net.now asked.prefix asked.failed.now asked.distances.now

abbrev pub ReachedAsked : Asked → Alive → Turn → Type 0
ReachedAsked asked = IsReached asked.net.now asked.prefix asked.failed.now asked.distances.now
