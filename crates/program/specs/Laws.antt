-- What is true of the desk with the judge of the program. All of this is the project's own.
use Rattle.std.specs.Prelude.{ℕ, ◌≡◌, List as Seq, [], ◌∷◌, Ok, All}
use Rattle.net_types.specs.NetValue.{NetValue}
use Rattle.bundle_reader.specs.Bundle as Bundle
use Rattle.property_book.specs.Book as Book
use Rattle.property_book.specs.Meaning.{Holds}
use Rattle.property_book.specs.declared.property.Property.{Property}
use Rattle.desk_tables.specs.Tables.{book_of}
use Rattle.desk_tables.specs.declared.rows.Rows.{Rows}
use Rattle.desk_tables.specs.declared.rows.User.{User}
use Rattle.review_rules.specs.State.{State}
use Rattle.review_rules.specs.Judging.{bundle_of, judged}
use Rattle.review_rules.specs.Laws.{IsAccepted}
use Rattle.review_rules.specs.declared.requests.Request.{Request}
use Rattle.review_rules.specs.declared.requests.Command.TheVariants.{Merge}
use Rattle.desk_judge.specs.Judged.{meant}
use Rattle.serving.specs.Turns.{Comes}

-- the tables of a desk that took no request yet
abbrev pub no_rows : Rows
no_rows = record { policies = []; reviews = []; files = []; approvals = []; certificates = []; kept = [] }

-- the files of the review are a network, the policy's present text is a book, and each of its properties holds in that
-- network
abbrev pub BookHolds : Rows → ℕ → Type 0
BookHolds t id =
    (net : NetValue) × (book : Seq Property) × (Bundle.bundle_of (bundle_of t id) ≡ Ok net) × (Book.book_of (book_of t) ≡ Ok book) × All (Holds net) book

-- desks of these users, one after the other, led from these tables to those: each began with the tables that the one before
-- it left, and accepted requests
abbrev pub Led : Rows → Seq (Seq User) → Rows → Type 0
Led t [] now = now ≡ t
Led t (users ∷ later) now = (left : State) × Comes meant (record { users = users; tables = t }) left × Led left.tables later now

-- what was merged holds: where desks led from empty tables to those of this one, and it accepts a merge, the book of the
-- policy that is current then holds in the network of the review's files
abbrev pub MergedReviewsHold : Type 0
MergedReviewsHold =
    (desks : Seq (Seq User)) (now : State) (r : Request) (id : ℕ) →
    Led no_rows desks now.tables →
    r.command ≡ Merge id → IsAccepted (judged meant now r) →
    BookHolds now.tables id
