use Rattle.std.proofs.Common.{length}
use Rattle.desk_runs.proofs.requests.+are_hosts.Given as goal

abbrev pub decreases-are_hosts : goal.decreases-are_hosts
decreases-are_hosts l = length l.files.now
