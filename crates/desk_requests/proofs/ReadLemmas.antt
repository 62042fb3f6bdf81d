-- What a reading of the head ends with.
use Rattle.std.proofs.Common.{◌≡◌, ℕ, ◌≤◌, List, take, length, Option, None, Some, Result, Ok, Err, ap, sym, refl, ◌∙◌, arith, min}
use Rattle.std.specs.Prelude.{IfSome, IfOk, nat_lt, if◌then◌else◌}
use Rattle.std.proofs.lemmas.Bool.Decides.{nat_tests}
use Rattle.std.proofs.lemmas.List.{length-take, take-take}
use Rattle.doors.specs.Door.{Told, left_of}
use Rattle.doors.specs.Reading.{IsRead}
use Rattle.doors.specs.declared.reading.Stop.{Stop}
use Rattle.desk_requests.specs.Head.{head_len, end_of, most_bytes, most_feeds, feeds, framed_at, framed}
use Rattle.desk_requests.specs.declared.refusals.HttpRefusal.{HttpRefusal}
use Rattle.desk_requests.specs.declared.refusals.HttpRefusal.TheVariants.{BadRequest, HeadTooLarge}
use Rattle.desk_requests.specs.HeadEnd.{EndsHead, Frames}
use Rattle.desk_requests.proofs.EndLemmas.{end_in, read_whole, read_most}

-- as much as may be was read
pub ends_full : (t : Told) (bytes : List ℕ) (now : Option Told) (o : Option ℕ) → IsRead t bytes now → length bytes ≡ most_bytes
    → o ≡ head_len bytes → IfSome o (λ n. n ≤ length bytes) → EndsHead {E = Stop} t (Ok o) bytes now
ends_full t bytes now (Some n) r size e w = (r, end_in (left_of t) bytes n r.same (omega (arith, size)) (sym e), w)
ends_full t bytes now None r size e w =
    let most = read_most (left_of t) bytes r.same size in
    (r, ap head_len (sym most) ∙ sym e, most)

-- the input has ended: what was read before is all, and has no end of a head
pub ends_input : (t : Told) (before bytes : List ℕ) (now : Option Told) → IsRead t bytes now → bytes ≡ left_of t → bytes ≡ before → length before ≤ most_bytes → None ≡ head_len before
    → EndsHead {E = Stop} t (Ok None) bytes now
ends_input t before bytes now r all same few e =
    let whole = read_whole (left_of t) bytes all (omega (arith, ap length same)) in
    (r, ap head_len (sym whole ∙ same) ∙ sym e, whole)

same_test : (l m k : ℕ) → k ≡ min m l → nat_lt k m ≡ nat_lt l m
same_test l m k e = grind (arith, nat_tests)

-- what the bytes that were read say is what the input says
pub framed_same : (c bytes : List ℕ) (end : Option ℕ) → end_of c ≡ end → bytes ≡ take (length bytes) c → IfSome end (λ n. n ≤ length bytes) → (end ≡ None → bytes ≡ take most_bytes c) → framed_at bytes end ≡ framed c
framed_same c bytes None at same w whole =
    let size : length bytes ≡ min most_bytes (length c) = ap length (whole refl) ∙ length-take most_bytes c in
    ap (λ b. if b then Err BadRequest else Err HeadTooLarge) (same_test (length c) most_bytes (length bytes) size) ∙ ap (framed_at c) (sym at)
framed_same c bytes (Some n) at same w whole =
    let front : take n bytes ≡ take n c = ap (take n) same ∙ take-take n (length bytes) c w in
    ap (λ xs. if nat_lt most_feeds (feeds xs) then Err HeadTooLarge else Ok n) front ∙ ap (framed_at c) (sym at)

frames_at : (t : Told) (bytes : List ℕ) (now : Option Told) (r : Result ℕ HttpRefusal) → IsRead t bytes now → framed (left_of t) ≡ r → IfOk r (λ k. k ≤ length bytes) → Frames {E = Stop} t (Ok r) bytes now
frames_at t bytes now (Ok k) read at w = (read, at, w)
frames_at t bytes now (Err f) read at w = (read, at)

pub frames : (t : Told) (bytes : List ℕ) (now : Option Told) (end : Option ℕ) (r : Result ℕ HttpRefusal) → EndsHead {E = Stop} t (Ok end) bytes now → r ≡ framed_at bytes end → IfOk r (λ k. k ≤ length bytes) → Frames {E = Stop} t (Ok r) bytes now
frames t bytes now (Some n) r x e w =
    frames_at t bytes now r x.0 (sym (framed_same (left_of t) bytes (Some n) x.1 x.0.same x.2 (λ none. cc)) ∙ sym e) w
frames t bytes now None r x e w =
    frames_at t bytes now r x.0 (sym (framed_same (left_of t) bytes None x.1 x.0.same tt (λ none. x.2)) ∙ sym e) w
