use Rattle.std.proofs.Common.{◌≡◌, ◌∙◌, ap, sym, subst, rules, Some, string_bytes}
use Rattle.serde_json.specs.Find.{as_str}
use Rattle.serde_json.specs.View.{view, members_view}
use Rattle.desk_requests.specs.Bodies.{AreFiles, file_with, files_in, behind}
use Rattle.desk_requests.proofs.FileLemmas.{files_more, files_sound}
use Rattle.desk_requests.proofs.bodies.files_in.Goals as goal

pub loop-name-preserved : goal.loop-name-preserved
loop-name-preserved c =
    let step = c.in-Some.ensures.steps in
    let found = sym c.in-Some-2.is ∙ c.in_ok-file.ensures ∙ ap (λ k. file_with k (as_str (view c.in-Some.value.now))) c.as_str.ensures.value in
    let before = ap (λ es. behind c.loop-name.all (files_in (members_view es))) (sym step) ∙ c.loop-name.invariant.same in
    let after = files_more c.loop-name.all c.in-Some-2.file (string_bytes c.in-Some.name.now) (view c.in-Some.value.now) (members_view c.next.new.self) _ found before in
    record {
      can = tt;
      ends = tt;
      same = ap (λ xs. behind xs (files_in (members_view c.next.new.self))) c.in_ok-push-in-Some-2.ensures.ok ∙ after;
    }

pub returns-clause-sound : goal.returns-clause-sound
returns-clause-sound c =
    let all : Some c.loop-name.all ≡ files_in (members_view c.args.map.now.entries) = search rules in
    subst AreFiles (sym all) (files_sound c.args.map.now.entries c.iter-name-items.ensures.ordered)
