use Rattle.program.proofs.MergeLemmas.{merged_reviews_hold}
use Rattle.program.proofs.laws.law_of_merged_reviews.Goals as goal

pub returns : goal.returns
returns c = merged_reviews_hold
