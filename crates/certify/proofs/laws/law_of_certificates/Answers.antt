use Rattle.certify.proofs.VerdictLemmas.{certificates_hold}
use Rattle.certify.proofs.laws.law_of_certificates.Goals as goal

pub returns : goal.returns
returns c = certificates_hold
