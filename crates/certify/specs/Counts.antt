-- How many cases a book has in a network, and how many of them are solved. This project's own.
use Rattle.std.specs.Prelude.{ℕ, List as Seq}
use Rattle.net_types.specs.NetValue.{NetValue}
use Rattle.property_book.specs.declared.property.Property.{Property}
use Rattle.case_walk.specs.Book as Walk
use Rattle.certify.specs.Results.{analysis_of}

-- for each prefix that a property which applies asks of, the sets of at most as many links as the most permitting of its
-- properties says
abbrev pub total_of : NetValue → Seq Property → ℕ
total_of net book = Walk.total_of net book

-- those of them that are their own representative: no link of theirs is idle where the others have failed
abbrev pub solved_of : NetValue → Seq Property → ℕ
solved_of net book = Walk.solved_of net (analysis_of net) book
