use Rattle.std.proofs.Common.{◌∙◌, ap, subst, sym}
use Rattle.std.specs.Prelude.{Result}
use Rattle.std.specs.Option.{option_copied}
use Rattle.frr_policy.specs.declared.refusals.LineRefusal.{LineRefusal}
use Rattle.frr_policy.specs.declared.map_steps.MapStep.{MapStep}
use Rattle.frr_policy.specs.Answers.{Answers}
use Rattle.frr_policy.specs.MapPlaces.{by_found}
use Rattle.frr_policy.proofs.MapLemmas.{map_line_found}
use Rattle.frr_policy.proofs.map_lines.read_map_line.Goals as goal

pub returns-in-Some-clause-step : goal.returns-in-Some-clause-step
returns-in-Some-clause-step g c =
    let current = option_copied c.args.current in
    let maps = g.M.RouteMaps.maps c.args.so_far.now in
    let e = map_line_found c.args.words maps current ∙ ap (λ f. by_found f maps current) c.in-Some.ensures in
    let P : Result MapStep LineRefusal → Type 0 = λ meant. Answers meant c.take_step.result in
    subst P (sym e) c.take_step.ensures.step

pub returns-in-None-clause-step : goal.returns-in-None-clause-step
returns-in-None-clause-step g c =
    let current = option_copied c.args.current in
    let maps = g.M.RouteMaps.maps c.args.so_far.now in
    map_line_found c.args.words maps current ∙ ap (λ f. by_found f maps current) c.in-None.ensures
