-- Where the head of a conversation ends.
use Rattle.std.specs.Prelude.{ℕ, ◌+◌, ◌==◌, ◌&&◌, List, [], ◌∷◌, Option, None, Some, Result, Ok, Err, option_map, length, take, nat_lt, if◌then◌else◌, count_by}
use Rattle.desk_requests.specs.declared.refusals.HttpRefusal.{HttpRefusal}
use Rattle.desk_requests.specs.declared.refusals.HttpRefusal.TheVariants.{BadRequest, HeadTooLarge}

-- the length of an empty line at the front, if there is one: LF or CR LF
abbrev pub blank_len : List ℕ → Option ℕ
blank_len [] = None
blank_len (a ∷ []) = if a == 10 then Some 1 else None
blank_len (a ∷ b ∷ more) = if a == 10 then Some 1 else (if a == 13 && b == 10 then Some 2 else None)

-- an empty line behind this byte, which is then LF
abbrev pub blank_behind : ℕ → List ℕ → Option ℕ
blank_behind b more = if b == 10 then blank_len more else None

-- the first of the two, one byte further
abbrev pub or_later : Option ℕ → Option ℕ → Option ℕ
or_later (Some k) later = Some (1 + k)
or_later None later = option_map (λ n. 1 + n) later

-- the length of the head: up to the first LF that an empty line follows, with that line
abbrev pub head_len : List ℕ → Option ℕ
head_len [] = None
head_len (b ∷ more) = or_later (blank_behind b more) (head_len more)

-- the number of line feeds
abbrev pub feeds : List ℕ → ℕ
feeds bytes = count_by (λ b. b == 10) bytes

-- the most bytes of a head, and the most lines: the request line, 32 fields and the empty line
abbrev pub most_bytes : ℕ
most_bytes = 16384

abbrev pub most_feeds : ℕ
most_feeds = 34

abbrev pub end_of : List ℕ → Option ℕ
end_of input = head_len (take most_bytes input)

abbrev pub framed_at : List ℕ → Option ℕ → Result ℕ HttpRefusal
framed_at input None = if nat_lt (length input) most_bytes then Err BadRequest else Err HeadTooLarge
framed_at input (Some n) = if nat_lt most_feeds (feeds (take n input)) then Err HeadTooLarge else Ok n

-- the length of the head of a conversation, or why it has none
abbrev pub framed : List ℕ → Result ℕ HttpRefusal
framed input = framed_at input (end_of input)
