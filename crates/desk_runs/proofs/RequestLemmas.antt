-- Files whose names ascend, and that have each the name of a host.
use Rattle.std.proofs.Common.{◌≡◌, true, List, [], ◌∷◌}
use Rattle.std.specs.List.{All, list_all}
use Rattle.std.proofs.lemmas.List.Elements.{All-cons, All-nil}
use Rattle.net_types.specs.Names.{is_host}
use Rattle.net_types.specs.declared.config.SourceFile.{SourceFile}
use Rattle.desk_tables.specs.Order.{after, text_cmp}
use Rattle.review_rules.specs.Judging.{HasHostName, NamesAscend}

pub no_names : (files : List SourceFile) → files ≡ [] → NamesAscend files
no_names files none = rw none tt

pub names_cons : (file : SourceFile) (rest files : List SourceFile) → files ≡ file ∷ rest → list_all (after text_cmp (λ (f : SourceFile). f.name) file.name) rest ≡ true → NamesAscend rest → NamesAscend files
names_cons file rest files is behind names = rw is (behind, names)

pub no_hosts : (files : List SourceFile) → files ≡ [] → All HasHostName files
no_hosts files none = rw none (All-nil HasHostName)

pub hosts_cons : (file : SourceFile) (rest files : List SourceFile) → files ≡ file ∷ rest → is_host file.name ≡ true → All HasHostName rest → All HasHostName files
hosts_cons file rest files is host hosts = rw is (All-cons HasHostName file rest host hosts)
