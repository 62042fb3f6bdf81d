-- The words that start the review desk. All of this is the project's own.
use Rattle.std.specs.Prelude.{ℕ, ◌≤◌, ◌&&◌, List as Seq, [], ◌∷◌, codes, Option, Some, None, if◌then◌else◌}
use Rattle.net_types.specs.Numerals.{number_in}
use Rattle.net_types.specs.Order.{same_text}
use Rattle.command_words.specs.Commands.{is_path, workers_of}

-- what they ask: a desk over this store, for so many conversations through this port, with the users of this file, and so
-- many workers for each case that is solved
pub record Serving : Type 0 where
  pub store : Seq ℕ
  pub port : ℕ
  pub count : ℕ
  pub users : Seq ℕ
  pub workers : ℕ

-- a port and a number of conversations, in decimal without a leading zero
abbrev pub port_of : Seq ℕ → Option ℕ
port_of word = number_in 1 65535 word

abbrev pub count_of : Seq ℕ → Option ℕ
count_of word = number_in 1 1000000 word

abbrev pub with_numbers : Seq ℕ → Seq ℕ → Option ℕ → Option ℕ → Option ℕ → Option Serving
with_numbers store users (Some port) (Some count) (Some workers) =
    Some (record { store = store; port = port; count = count; users = users; workers = workers })
with_numbers store users _ _ _ = None

-- `serve DB PORT COUNT USERS`, by so many workers
abbrev pub serve_of : Seq ℕ → Seq ℕ → Seq ℕ → Seq ℕ → Seq ℕ → Option ℕ → Option Serving
serve_of word store port count users workers =
    if same_text word (codes "serve") && (is_path store && is_path users)
    then with_numbers store users (port_of port) (count_of count) workers
    else None

-- what the words ask of the desk, or nothing; one worker where their number is left out
abbrev pub serving_of : Seq (Seq ℕ) → Option Serving
serving_of (word ∷ store ∷ port ∷ count ∷ users ∷ last ∷ []) = serve_of word store port count users (workers_of last)
serving_of (word ∷ store ∷ port ∷ count ∷ users ∷ []) = serve_of word store port count users (Some 1)
serving_of _ = None

-- it has a port, some conversations, and 1 to 8 workers
pub record CanServe (serving : Serving) : Type 0 where
  pub port : serving.port ≤ 65535
  pub any : 1 ≤ serving.count
  pub some : 1 ≤ serving.workers
  pub few : serving.workers ≤ 8
