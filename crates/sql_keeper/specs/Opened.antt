-- What is seen of a keeper over a connection: the name under which it is open, and its count of faults.
use Rattle.std.specs.Prelude.{ℕ, List, Option, None, Some}

pub record KeeperValue : Type 0 where
  pub name : Option (List ℕ)
  pub faults : ℕ

-- the name under which there is one that is open
abbrev pub opened_in : Option KeeperValue → Option (List ℕ)
opened_in None = None
opened_in (Some keeper) = keeper.name
