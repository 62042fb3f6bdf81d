-- The paths of the desk.
use Rattle.std.specs.Prelude.{ℕ, List, [], ◌∷◌, codes, Option, Some, None, option_map, option_and_then, if◌then◌else◌}
use Rattle.std.specs.Str.{bytes_eq}
use Rattle.net_types.specs.Cut.{parts}
use Rattle.desk_requests.specs.Numbers.{number_of}
use Rattle.desk_requests.specs.declared.requests.Query.TheVariants.{Head, Review, Report}
use Rattle.desk_requests.specs.declared.requests.Form.TheVariants.{SetPolicy, Submit, Certify, Approve, Merge, Withdraw}
use Rattle.desk_requests.specs.declared.requests.Path.{Path}
use Rattle.desk_requests.specs.declared.requests.Path.TheVariants.{Get, Post}

-- `/policy`, `/head` and `/reviews`
unfoldable pub alone : List ℕ → Option Path
alone word =
    if bytes_eq word (codes "policy") then Some (Post SetPolicy)
    else if bytes_eq word (codes "reviews") then Some (Post Submit)
    else if bytes_eq word (codes "head") then Some (Get Head)
    else None

-- `/reviews/{id}`
abbrev pub of_review : ℕ → Path
of_review id = Get (Review id)

-- `/reviews/{id}/certify` and the other words
unfoldable pub with_word : List ℕ → ℕ → Option Path
with_word word id =
    if bytes_eq word (codes "certify") then Some (Post (Certify id))
    else if bytes_eq word (codes "approve") then Some (Post (Approve id))
    else if bytes_eq word (codes "merge") then Some (Post (Merge id))
    else if bytes_eq word (codes "withdraw") then Some (Post (Withdraw id))
    else if bytes_eq word (codes "report") then Some (Get (Report id))
    else None

-- behind `/reviews/`: the number, and what stands behind the slash after it
abbrev pub behind_id : List ℕ → List (List ℕ) → Option Path
behind_id id [] = option_map of_review (number_of id)
behind_id id (word ∷ []) = option_and_then (with_word word) (number_of id)
behind_id id (word ∷ next ∷ more) = None

abbrev pub in_review : List (List ℕ) → Option Path
in_review [] = None
in_review (id ∷ more) = behind_id id more

-- behind the first slash
abbrev pub behind_word : List ℕ → List (List ℕ) → Option Path
behind_word word [] = alone word
behind_word word (next ∷ more) = if bytes_eq word (codes "reviews") then in_review (next ∷ more) else None

abbrev pub behind_slash : List (List ℕ) → Option Path
behind_slash [] = None
behind_slash (word ∷ more) = behind_word word more

-- nothing stands before the first slash
abbrev pub behind_first : List ℕ → List (List ℕ) → Option Path
behind_first [] more = behind_slash more
behind_first (b ∷ first) more = None

abbrev pub in_parts : List (List ℕ) → Option Path
in_parts [] = None
in_parts (first ∷ more) = behind_first first more

-- the path that a target is, by its parts between the slashes; `%` and `?` stand for themselves
unfoldable pub path_of : List ℕ → Option Path
path_of target = in_parts (parts 47 target)
