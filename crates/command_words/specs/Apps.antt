-- The commands as `clap` is told of them: words by their places, and no flags (private).
use Rattle.std.specs.Prelude.{codes, true}
use Rattle.clap.specs.Words.{App, Rule, Text, new_app, new_rule, with_rule}
use Rattle.clap.specs.Simple.{on_top}

-- a word that has to be there
abbrev pub needed : Text → Rule
needed name = record (new_rule name) { required = true }

-- a command without words
abbrev pub bare : Text → App
bare name = on_top (λ s. record s { disable_help_flag = true }) (new_app name)

abbrev pub check_app : App
check_app = with_rule (with_rule (with_rule (with_rule (bare (codes "check")) (needed (codes "BASE"))) (needed (codes "NEW"))) (needed (codes "PROPS"))) (new_rule (codes "WORKERS"))

abbrev pub stable_app : App
stable_app = with_rule (with_rule (bare (codes "stable")) (needed (codes "BUNDLE"))) (needed (codes "LABELS"))

abbrev pub gen_app : App
gen_app = with_rule (with_rule (bare (codes "gen")) (needed (codes "N"))) (new_rule (codes "WORKERS"))

abbrev pub serve_app : App
serve_app = with_rule (with_rule (with_rule (with_rule (with_rule (bare (codes "serve")) (needed (codes "DB"))) (needed (codes "PORT"))) (needed (codes "COUNT"))) (needed (codes "USERS"))) (new_rule (codes "WORKERS"))
