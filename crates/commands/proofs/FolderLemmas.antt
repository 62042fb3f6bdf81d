-- What a folder gives, from its listing.
use Rattle.std.proofs.Common.{ℕ, ◌≡◌, Bool, true, false, List, refl, ap, sym, ◌∙◌, IsTrue, if◌then◌else◌}
use Rattle.std.proofs.lemmas.Bool.{false≢true}
use Rattle.outside.specs.Content.{Content, IsListing, is_folder, names_in}
use Rattle.commands.specs.declared.refusals.Bundle.{Bundle}
use Rattle.commands.specs.Folder.{config_names, few_files_of, folder_of}
use Rattle.commands.proofs.NameLemmas.{config_names-IsPermutation}

if_true : {A : Type 0} (b : Bool) (x y : A) → IsTrue b → (if b then x else y) ≡ x
if_true true x y h = refl
if_true false x y h = absurd (false≢true h)

pub folder_of-listed : (content : Content) (bundle : Bundle) (folder : List ℕ) (names : List (List ℕ)) → IsListing content folder names → folder_of content bundle folder ≡ few_files_of content bundle folder (config_names names)
unfolding folder_of
folder_of-listed content bundle folder names listing =
    if_true (is_folder content folder) _ _ listing.there ∙
    ap (λ configs. few_files_of content bundle folder configs) (sym (config_names-IsPermutation (names_in content folder) names listing.same))
