use Rattle.concrete_algebra.proofs.OriginLemmas.{no_origin_is_stable, no_origin_no_labels, nothing_originated}
use Rattle.concrete_algebra.proofs.laws.law_of_origins.Goals as goal

pub returns : goal.returns
returns c = record { labels = no_origin_no_labels; stable = no_origin_is_stable; nothing = nothing_originated }
