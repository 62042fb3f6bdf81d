use Rattle.abstract_route.proofs.FitLemmas.{fits_below, fits_inhabited}
use Rattle.abstract_route.proofs.laws.law_of_fitting.Goals as goal

pub returns-clause-up : goal.returns-clause-up
returns-clause-up c = fits_below

pub returns-clause-inhabited : goal.returns-clause-inhabited
returns-clause-inhabited c = fits_inhabited
