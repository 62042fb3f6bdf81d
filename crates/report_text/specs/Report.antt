-- The report, byte by byte.
use Rattle.std.specs.Prelude.{ℕ, List as Seq, [], ◌∷◌, length, codes}
use Rattle.std.specs.Fmt.{decimal}
use Rattle.net_types.specs.declared.network.Notice.{Notice}
use Rattle.net_types.specs.NetValue.{NetValue}
use Rattle.net_types.specs.Then.{◌then◌}
use Rattle.net_types.specs.AddressTexts.{address_text}
use Rattle.net_types.specs.Numbering.{host_of}
use Rattle.property_book.specs.declared.property.Property.{Property}
use Rattle.property_book.specs.declared.verdict.Barred.{Barred}
use Rattle.property_book.specs.declared.verdict.Barred.TheVariants.{UnknownRouter, NotOwned, Overlaps}
use Rattle.property_book.specs.declared.verdict.Broken.{Broken}
use Rattle.property_book.specs.declared.verdict.Broken.TheVariants.{NoSureRoute, IsOwner, MayLearn, HasOspf, Bypass}
use Rattle.property_book.specs.declared.verdict.Verdict.{Verdict}
use Rattle.property_book.specs.declared.verdict.Verdict.TheVariants.{Certified, NotCertified, NotApplicable}
use Rattle.property_book.specs.declared.verdict.Outcome.{Outcome}

-- a failure set, its links in braces, joined by commas: what stands behind its first link, and the whole
abbrev pub more_links : Seq ℕ → Seq ℕ
more_links [] = codes "}"
more_links (link ∷ links) = codes "," then decimal link then more_links links

abbrev pub set_text : Seq ℕ → Seq ℕ
set_text [] = codes "{}"
set_text (link ∷ links) = codes "{" then decimal link then more_links links

abbrev pub broken_text : NetValue → Broken → Seq ℕ
broken_text net (NoSureRoute u) = codes "no sure route at " then host_of net u
broken_text net IsOwner = codes "is an owner"
broken_text net MayLearn = codes "may learn a route"
broken_text net HasOspf = codes "has an OSPF route"
broken_text net (Bypass u) = codes "reaches owner " then host_of net u then codes " around the waypoint"

abbrev pub barred_text : Barred → Seq ℕ
barred_text UnknownRouter = codes "unknown router"
barred_text NotOwned = codes "prefix not owned"
barred_text Overlaps = codes "prefix overlaps"

unfoldable pub verdict_text : NetValue → Verdict → Seq ℕ
verdict_text net Certified = codes "certified"
verdict_text net (NotCertified failed broken) = codes "not certified at " then set_text failed then codes " by " then broken_text net broken
verdict_text net (NotApplicable bar) = codes "not applicable by " then barred_text bar

-- the line of a side: how large its network is, and how many cases were solved
unfoldable pub side_line : Seq ℕ → NetValue → Outcome → Seq ℕ
side_line side net outcome =
    side then codes ": routers " then decimal (length net.routers) then codes ", links " then decimal (length net.links) then
    codes ", solved " then decimal outcome.solved then codes " of " then decimal outcome.total then codes "\n"

-- the line of a property: its verdict on each side
unfoldable pub property_line : NetValue → NetValue → Property → Verdict → Verdict → Seq ℕ
property_line base new property on_base on_new =
    property.name then codes ": base " then verdict_text base on_base then codes "; new " then verdict_text new on_new then codes "\n"

-- the lines of the properties, in the book's order
abbrev pub property_lines : NetValue → NetValue → Seq Property → Seq Verdict → Seq Verdict → Seq ℕ
property_lines base new (property ∷ book) (on_base ∷ bases) (on_new ∷ news) =
    property_line base new property on_base on_new then property_lines base new book bases news
property_lines base new _ _ _ = []

-- the line of a notice
unfoldable pub notice_line : Seq ℕ → NetValue → Notice → Seq ℕ
notice_line side net notice =
    codes "notice " then side then codes ": " then host_of net notice.router then codes " neighbor " then address_text notice.address then
    codes " has no matching end\n"

abbrev pub notice_lines : Seq ℕ → NetValue → Seq Notice → Seq ℕ
notice_lines side net [] = []
notice_lines side net (notice ∷ notices) = notice_line side net notice then notice_lines side net notices

-- the lines of both sides, and all notices: those of base, then those of new
abbrev pub side_lines : NetValue → Outcome → NetValue → Outcome → Seq ℕ
side_lines base on_base new on_new = side_line (codes "base") base on_base then side_line (codes "new") new on_new

abbrev pub all_notices : NetValue → NetValue → Seq ℕ
all_notices base new = notice_lines (codes "base") base base.notices then notice_lines (codes "new") new new.notices

-- the first line, what stands between, and the last line
unfoldable pub framed : Seq ℕ → Seq ℕ → Seq ℕ → Seq ℕ
framed sides lines notices =
    codes "route certificate report, version 1\n" then sides then lines then notices then
    codes "A certified property holds in every stable solution. That one exists is not claimed.\n"

-- the whole report of a book on two networks
unfoldable pub report_of : Seq Property → NetValue → Outcome → NetValue → Outcome → Seq ℕ
report_of book base on_base new on_new =
    framed (side_lines base on_base new on_new) (property_lines base new book on_base.verdicts on_new.verdicts) (all_notices base new)
