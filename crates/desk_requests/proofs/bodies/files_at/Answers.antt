use Rattle.std.proofs.Common.{◌∙◌, ap, option_map}
use Rattle.std.proofs.lemmas.Result.{IfOk-weaker}
use Rattle.serde_json.specs.View.{view, members_view}
use Rattle.serde_json.proofs.Views.{view-lookup, view_of_ref}
use Rattle.desk_requests.proofs.FileLemmas.{files_found, files_no_object, files_none}
use Rattle.desk_requests.proofs.bodies.files_at.Goals as goal

pub returns-in_default-clause-files : goal.returns-in_default-clause-files
returns-in_default-clause-files c =
    let found = view_of_ref c.get.result ∙ ap (option_map view) c.get.ensures.value ∙ view-lookup c.args.key.now c.args.map.now.entries in
    files_none c.args.key.now (members_view c.args.map.now.entries) (rw c.in_default.is at found)

pub returns-in-Some-as_object-clause-files : goal.returns-in-Some-as_object-clause-files
returns-in-Some-as_object-clause-files c =
    let found = view_of_ref c.get.result ∙ ap (option_map view) c.get.ensures.value ∙ view-lookup c.args.key.now c.args.map.now.entries in
    let at = rw c.in-Some.is at found in
    let object = rw c.in-Some-as_object.is at c.as_object.ensures in
    let same = files_found c.args.key.now (members_view c.args.map.now.entries) (view c.in-Some.value.now) (members_view c.in-Some-as_object.files.now.entries) at object in
    IfOk-weaker c.files_in.result _ _ (λ o e. e ∙ same) c.files_in.ensures.files

pub returns-in-None-clause-files : goal.returns-in-None-clause-files
returns-in-None-clause-files c =
    let found = view_of_ref c.get.result ∙ ap (option_map view) c.get.ensures.value ∙ view-lookup c.args.key.now c.args.map.now.entries in
    let at = rw c.in-Some.is at found in
    let object = rw c.in-None.is at c.as_object.ensures in
    files_no_object c.args.key.now (members_view c.args.map.now.entries) (view c.in-Some.value.now) at object
