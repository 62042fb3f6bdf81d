-- A head has a line feed for each field, and two more.
use Rattle.std.proofs.Common.{◌≡◌, ℕ, ◌+◌, ◌≤◌, ◌==◌, List, [], ◌∷◌, ◌++◌, length, refl, ap, ◌∙◌, arith, cond}
use Rattle.std.specs.List.{flat_map}
use Rattle.std.proofs.lemmas.List.Sums.{sum_by-append}
use Rattle.httparse.specs.Grammar.{LineEnd, crlf, lf, print_end, print_version, print_blank, Field, print_field, print_section, RequestHead, print_request, ReadsRequest}
use Rattle.desk_requests.specs.Head.{feeds}

pub feeds-append : (xs ys : List ℕ) → feeds (xs ++ ys) ≡ feeds xs + feeds ys
feeds-append xs ys = sum_by-append (λ b. cond (b == 10) 1 0) xs ys

end_feeds : (e : LineEnd) → feeds (print_end e) ≡ 1
end_feeds crlf = refl
end_feeds lf = refl

field_feeds : (f : Field) → 1 ≤ feeds (print_field f)
field_feeds f = let e = feeds-append (f.name ++ 58 ∷ f.raw) (print_end f.end) in let one = end_feeds f.end in omega (arith, e, one)

fields_feeds : (fs : List Field) → length fs ≤ feeds (flat_map print_field fs)
fields_feeds [] = omega arith
fields_feeds (f ∷ fs) =
    let e = feeds-append (print_field f) (flat_map print_field fs) in let one = field_feeds f in let more = fields_feeds fs in
    omega (arith, e, one, more)

section_feeds : (fs : List Field) (last : LineEnd) → length fs + 1 ≤ feeds (print_section fs last)
section_feeds fs last = let e = feeds-append (flat_map print_field fs) (print_end last) in let one = end_feeds last in let more = fields_feeds fs in omega (arith, e, one, more)

request_feeds : (h : RequestHead) → length h.fields + 2 ≤ feeds (print_request h)
unfolding print_request
request_feeds h =
    let front : List ℕ = print_blank h.blank ++ h.method ++ 32 ∷ h.target ++ 32 ∷ print_version h.minor in
    let line = feeds-append front (print_end h.line_end) in
    let whole = feeds-append (front ++ print_end h.line_end) (print_section h.fields h.last) in
    let one = end_feeds h.line_end in
    let more = section_feeds h.fields h.last in
    omega (arith, line, whole, one, more)

-- with at most 34 line feeds there are at most 32 fields
pub few_fields : (buf rest : List ℕ) (h : RequestHead) → ReadsRequest buf h rest → feeds buf ≤ 34 → length h.fields ≤ 32
few_fields buf rest h reads few =
    let whole : feeds buf ≡ feeds (print_request h) + feeds rest = ap feeds reads.1 ∙ feeds-append (print_request h) rest in
    let more = request_feeds h in
    omega (arith, whole, more, few)
