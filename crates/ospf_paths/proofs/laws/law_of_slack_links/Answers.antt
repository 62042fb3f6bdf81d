use Rattle.ospf_paths.proofs.SlackLinks.{slack_links_keep_distances, slack_links_keep_tight_arcs}
use Rattle.ospf_paths.proofs.laws.law_of_slack_links.Goals as goal

pub returns-clause-distances : goal.returns-clause-distances
returns-clause-distances c = slack_links_keep_distances

pub returns-clause-arcs : goal.returns-clause-arcs
returns-clause-arcs c = slack_links_keep_tight_arcs
