-- The line of a refusal.
use Rattle.std.specs.Prelude.{ℕ, List as Seq, codes}
use Rattle.std.specs.Fmt.{decimal}
use Rattle.net_types.specs.declared.refusals.BundleSide.{BundleSide}
use Rattle.net_types.specs.declared.refusals.BundleSide.TheVariants.{Base, New}
use Rattle.net_types.specs.Then.{◌then◌}
use Rattle.refusal_texts.specs.Texts.{bundle_text, form_text}
use Rattle.commands.specs.declared.refusals.Bundle.{Bundle}
use Rattle.commands.specs.declared.refusals.Bundle.TheVariants.{Of, Only}
use Rattle.commands.specs.declared.refusals.Form.{Form}
use Rattle.commands.specs.declared.refusals.Form.TheVariants.{Properties, Labels, Users}
use Rattle.commands.specs.declared.refusals.Refusal.{Refusal}
use Rattle.commands.specs.declared.refusals.Refusal.TheVariants as Cause

-- what a refused input is called
abbrev pub side_word : BundleSide → Seq ℕ
side_word Base = codes "base"
side_word New = codes "new"

abbrev pub bundle_word : Bundle → Seq ℕ
bundle_word (Of side) = side_word side
bundle_word Only = codes "bundle"

abbrev pub form_word : Form → Seq ℕ
form_word Properties = codes "properties"
form_word Labels = codes "labels"
form_word Users = codes "users"

-- the line of a refused input: which one, and why
abbrev pub refused_line : Seq ℕ → Seq ℕ → Seq ℕ
refused_line what cause = codes "refused: " then what then codes ": " then cause then codes "\n"

-- the line of a refusal
unfoldable pub line_of : Refusal → Seq ℕ
line_of (Cause.NoPath path) = codes "refused: no such path " then path then codes "\n"
line_of (Cause.Bundle bundle files refusal) = refused_line (bundle_word bundle) (bundle_text files refusal)
line_of (Cause.CasesLimit side cases) = refused_line (side_word side) (codes "CasesLimit " then decimal cases)
line_of (Cause.Form form refusal) = refused_line (form_word form) (form_text refusal)
line_of (Cause.BadRow table row) = refused_line (codes "store") (codes "BadRow " then decimal table then codes " " then decimal row)
