-- What `clap` does with the line of each command, whose words follow `--`.
use Rattle.std.proofs.Common.{◌≡◌, ◌∙◌, ap, refl, codes, true, List, [], ◌∷◌, Option, Some, None}
use Rattle.clap.specs.Words.{App, Text, first_of, found_of, matches_of, rows_of, takes}
use Rattle.clap.specs.declared.parser.matches.ArgMatches.{ArgMatches}
use Rattle.clap.proofs.OnLiterals.{clap_on_literals}
use Rattle.clap.proofs.WalkLemmas.{first_value-rows}
use Rattle.command_words.specs.Apps.{check_app, gen_app, serve_app, stable_app}
use Rattle.command_words.specs.Given.{IsCheck, IsGen, IsNamed, IsServe, IsStable, last_of}

-- what is found under a name is the word there
named : (m : ArgMatches) (app : App) (line : List Text) (name : Text) (word : Option Text) → rows_of (found_of m) ≡ matches_of app line → first_of name (matches_of app line) ≡ word → IsNamed name word m
named m app line name word rows is = first_value-rows (found_of m) name ∙ ap (first_of name) rows ∙ is

-- `check`
abbrev pub check_line : Text → Text → Text → Text → Option Text → List Text
check_line word a b c last = word ∷ codes "--" ∷ a ∷ b ∷ c ∷ last_of last

pub check_taken : (word a b c : Text) (last : Option Text) → takes check_app (check_line word a b c last) ≡ true
unfolding clap_on_literals
check_taken word a b c None = refl
check_taken word a b c (Some last) = refl

check_base : (word a b c : Text) (last : Option Text) → first_of (codes "BASE") (matches_of check_app (check_line word a b c last)) ≡ Some a
unfolding clap_on_literals
check_base word a b c None = refl
check_base word a b c (Some last) = refl

check_new : (word a b c : Text) (last : Option Text) → first_of (codes "NEW") (matches_of check_app (check_line word a b c last)) ≡ Some b
unfolding clap_on_literals
check_new word a b c None = refl
check_new word a b c (Some last) = refl

check_props : (word a b c : Text) (last : Option Text) → first_of (codes "PROPS") (matches_of check_app (check_line word a b c last)) ≡ Some c
unfolding clap_on_literals
check_props word a b c None = refl
check_props word a b c (Some last) = refl

check_workers : (word a b c : Text) (last : Option Text) → first_of (codes "WORKERS") (matches_of check_app (check_line word a b c last)) ≡ last
unfolding clap_on_literals
check_workers word a b c None = refl
check_workers word a b c (Some last) = refl

pub check_found : (m : ArgMatches) (word a b c : Text) (last : Option Text) → rows_of (found_of m) ≡ matches_of check_app (check_line word a b c last) → IsCheck a b c last m
check_found m word a b c last rows =
    let line = check_line word a b c last in (
      named m check_app line (codes "BASE") (Some a) rows (check_base word a b c last),
      named m check_app line (codes "NEW") (Some b) rows (check_new word a b c last),
      named m check_app line (codes "PROPS") (Some c) rows (check_props word a b c last),
      named m check_app line (codes "WORKERS") last rows (check_workers word a b c last),
    )

-- `stable`
abbrev pub stable_line : Text → Text → Text → List Text
stable_line word a b = word ∷ codes "--" ∷ a ∷ b ∷ []

pub stable_taken : (word a b : Text) → takes stable_app (stable_line word a b) ≡ true
unfolding clap_on_literals
stable_taken word a b = refl

stable_bundle : (word a b : Text) → first_of (codes "BUNDLE") (matches_of stable_app (stable_line word a b)) ≡ Some a
unfolding clap_on_literals
stable_bundle word a b = refl

stable_labels : (word a b : Text) → first_of (codes "LABELS") (matches_of stable_app (stable_line word a b)) ≡ Some b
unfolding clap_on_literals
stable_labels word a b = refl

pub stable_found : (m : ArgMatches) (word a b : Text) → rows_of (found_of m) ≡ matches_of stable_app (stable_line word a b) → IsStable a b m
stable_found m word a b rows =
    let line = stable_line word a b in (
      named m stable_app line (codes "BUNDLE") (Some a) rows (stable_bundle word a b),
      named m stable_app line (codes "LABELS") (Some b) rows (stable_labels word a b),
    )

-- `gen`
abbrev pub gen_line : Text → Text → Option Text → List Text
gen_line word a last = word ∷ codes "--" ∷ a ∷ last_of last

pub gen_taken : (word a : Text) (last : Option Text) → takes gen_app (gen_line word a last) ≡ true
unfolding clap_on_literals
gen_taken word a None = refl
gen_taken word a (Some last) = refl

gen_number : (word a : Text) (last : Option Text) → first_of (codes "N") (matches_of gen_app (gen_line word a last)) ≡ Some a
unfolding clap_on_literals
gen_number word a None = refl
gen_number word a (Some last) = refl

gen_workers : (word a : Text) (last : Option Text) → first_of (codes "WORKERS") (matches_of gen_app (gen_line word a last)) ≡ last
unfolding clap_on_literals
gen_workers word a None = refl
gen_workers word a (Some last) = refl

pub gen_found : (m : ArgMatches) (word a : Text) (last : Option Text) → rows_of (found_of m) ≡ matches_of gen_app (gen_line word a last) → IsGen a last m
gen_found m word a last rows =
    let line = gen_line word a last in (
      named m gen_app line (codes "N") (Some a) rows (gen_number word a last),
      named m gen_app line (codes "WORKERS") last rows (gen_workers word a last),
    )

-- `serve`
abbrev pub serve_line : Text → Text → Text → Text → Text → Option Text → List Text
serve_line word a b c d last = word ∷ codes "--" ∷ a ∷ b ∷ c ∷ d ∷ last_of last

pub serve_taken : (word a b c d : Text) (last : Option Text) → takes serve_app (serve_line word a b c d last) ≡ true
unfolding clap_on_literals
serve_taken word a b c d None = refl
serve_taken word a b c d (Some last) = refl

serve_store : (word a b c d : Text) (last : Option Text) → first_of (codes "DB") (matches_of serve_app (serve_line word a b c d last)) ≡ Some a
unfolding clap_on_literals
serve_store word a b c d None = refl
serve_store word a b c d (Some last) = refl

serve_port : (word a b c d : Text) (last : Option Text) → first_of (codes "PORT") (matches_of serve_app (serve_line word a b c d last)) ≡ Some b
unfolding clap_on_literals
serve_port word a b c d None = refl
serve_port word a b c d (Some last) = refl

serve_count : (word a b c d : Text) (last : Option Text) → first_of (codes "COUNT") (matches_of serve_app (serve_line word a b c d last)) ≡ Some c
unfolding clap_on_literals
serve_count word a b c d None = refl
serve_count word a b c d (Some last) = refl

serve_users : (word a b c d : Text) (last : Option Text) → first_of (codes "USERS") (matches_of serve_app (serve_line word a b c d last)) ≡ Some d
unfolding clap_on_literals
serve_users word a b c d None = refl
serve_users word a b c d (Some last) = refl

serve_workers : (word a b c d : Text) (last : Option Text) → first_of (codes "WORKERS") (matches_of serve_app (serve_line word a b c d last)) ≡ last
unfolding clap_on_literals
serve_workers word a b c d None = refl
serve_workers word a b c d (Some last) = refl

pub serve_found : (m : ArgMatches) (word a b c d : Text) (last : Option Text) → rows_of (found_of m) ≡ matches_of serve_app (serve_line word a b c d last) → IsServe a b c d last m
serve_found m word a b c d last rows =
    let line = serve_line word a b c d last in (
      named m serve_app line (codes "DB") (Some a) rows (serve_store word a b c d last),
      named m serve_app line (codes "PORT") (Some b) rows (serve_port word a b c d last),
      named m serve_app line (codes "COUNT") (Some c) rows (serve_count word a b c d last),
      named m serve_app line (codes "USERS") (Some d) rows (serve_users word a b c d last),
      named m serve_app line (codes "WORKERS") last rows (serve_workers word a b c d last),
    )
