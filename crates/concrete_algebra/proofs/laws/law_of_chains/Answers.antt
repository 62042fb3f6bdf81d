use Rattle.concrete_algebra.proofs.ChainLemmas.{candidate_paths_are_short, chains_are_short, label_paths_are_short, labels_have_chains, paths_are_chains, paths_are_held}
use Rattle.concrete_algebra.proofs.laws.law_of_chains.Goals as goal

pub returns : goal.returns
returns c = record {
  chains = labels_have_chains;
  short = chains_are_short;
  paths = paths_are_chains;
  held = paths_are_held;
  labels = label_paths_are_short;
  candidates = candidate_paths_are_short;
}
