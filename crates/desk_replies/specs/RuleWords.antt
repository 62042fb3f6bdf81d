-- The reply where a rule of the desk breaks: its code, its name, its number, and what goes with it.
use Rattle.std.specs.Prelude.{ℕ, ◌+◌, List as Seq, [], codes}
use Rattle.std.specs.Fmt.{decimal}
use Rattle.net_types.specs.Then.{◌then◌}
use Rattle.net_types.specs.declared.config.SourceFile.{SourceFile}
use Rattle.refusal_texts.specs.Texts.{bundle_text, form_text}
use Rattle.review_rules.specs.declared.requests.BundleSide.{BundleSide}
use Rattle.review_rules.specs.declared.requests.BundleSide.TheVariants.{Base, New}
use Rattle.review_rules.specs.declared.requests.Lack.{Lack}
use Rattle.review_rules.specs.declared.requests.Lack.TheVariants.{NotRun, Property}
use Rattle.review_rules.specs.declared.requests.PolicyFault.{PolicyFault}
use Rattle.review_rules.specs.declared.requests.PolicyFault.TheVariants.{Approvals, Book}
use Rattle.review_rules.specs.declared.requests.Rule.{Rule}
use Rattle.review_rules.specs.declared.requests.Rule.TheVariants.{UnknownUser, KeyReused, WrongRole, NoSuchReview, Closed, Stale, BundleRefused, CasesLimit, PolicyRefused, TooManyReviews, NotCertified, OwnReview, AlreadyApproved, TooFewApprovals, DeskFull}
use Rattle.desk_replies.specs.Replies.{refusal_body}

unfoldable pub rule_code : Rule → ℕ
rule_code UnknownUser = 401
rule_code KeyReused = 409
rule_code WrongRole = 403
rule_code NoSuchReview = 404
rule_code Closed = 409
rule_code (Stale head) = 409
rule_code (BundleRefused side refusal) = 422
rule_code (CasesLimit n) = 422
rule_code TooManyReviews = 409
rule_code (NotCertified lack) = 422
rule_code OwnReview = 403
rule_code AlreadyApproved = 409
rule_code (TooFewApprovals have need) = 409
rule_code (PolicyRefused fault) = 422
rule_code (DeskFull bytes) = 409

unfoldable pub rule_name : Rule → Seq ℕ
rule_name UnknownUser = codes "UnknownUser"
rule_name KeyReused = codes "KeyReused"
rule_name WrongRole = codes "WrongRole"
rule_name NoSuchReview = codes "NoSuchReview"
rule_name Closed = codes "Closed"
rule_name (Stale head) = codes "Stale"
rule_name (BundleRefused side refusal) = codes "BundleRefused"
rule_name (CasesLimit n) = codes "CasesLimit"
rule_name TooManyReviews = codes "TooManyReviews"
rule_name (NotCertified lack) = codes "NotCertified"
rule_name OwnReview = codes "OwnReview"
rule_name AlreadyApproved = codes "AlreadyApproved"
rule_name (TooFewApprovals have need) = codes "TooFewApprovals"
rule_name (PolicyRefused fault) = codes "PolicyRefused"
rule_name (DeskFull bytes) = codes "DeskFull"

unfoldable pub rule_number : Rule → ℕ
rule_number UnknownUser = 1
rule_number KeyReused = 2
rule_number WrongRole = 3
rule_number NoSuchReview = 4
rule_number Closed = 5
rule_number (Stale head) = 6
rule_number (BundleRefused side refusal) = 7
rule_number (CasesLimit n) = 8
rule_number TooManyReviews = 9
rule_number (NotCertified lack) = 10
rule_number OwnReview = 11
rule_number AlreadyApproved = 12
rule_number (TooFewApprovals have need) = 13
rule_number (PolicyRefused fault) = 14
rule_number (DeskFull bytes) = 15

-- which bundle is refused, and why, by the files of that side
abbrev pub side_word : BundleSide → Seq ℕ
side_word Base = codes "base"
side_word New = codes "new"

-- properties are counted from 1
abbrev pub lack_text : Lack → Seq ℕ
lack_text NotRun = codes "not run"
lack_text (Property at) = codes "property " then decimal (at + 1)

abbrev pub fault_text : PolicyFault → Seq ℕ
fault_text Approvals = codes "approvals"
fault_text (Book refusal) = form_text refusal

-- what goes with the rule; the files are those of the side that is refused, if one is
unfoldable pub rule_value : Seq SourceFile → Rule → Seq ℕ
rule_value files UnknownUser = []
rule_value files KeyReused = []
rule_value files WrongRole = []
rule_value files NoSuchReview = []
rule_value files Closed = []
rule_value files (Stale head) = decimal head
rule_value files (BundleRefused side refusal) = side_word side then codes ": " then bundle_text files refusal
rule_value files (CasesLimit n) = decimal n
rule_value files TooManyReviews = codes "10000"
rule_value files (NotCertified lack) = lack_text lack
rule_value files OwnReview = []
rule_value files AlreadyApproved = []
rule_value files (TooFewApprovals have need) = decimal have then codes " of " then decimal need
rule_value files (PolicyRefused fault) = fault_text fault
rule_value files (DeskFull bytes) = decimal bytes

abbrev pub rule_body : Seq SourceFile → Rule → Seq ℕ
rule_body files rule = refusal_body (rule_name rule) (rule_number rule) (rule_value files rule)
