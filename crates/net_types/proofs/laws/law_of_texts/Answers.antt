use Rattle.net_types.proofs.TextLemmas.{addresses_read_back, addresses_have_one_text, prefixes_read_back, prefixes_have_one_text}
use Rattle.net_types.proofs.laws.law_of_texts.Goals as goal

pub returns-clause-addresses : goal.returns-clause-addresses
returns-clause-addresses c = addresses_read_back

pub returns-clause-one_address : goal.returns-clause-one_address
returns-clause-one_address c = addresses_have_one_text

pub returns-clause-prefixes : goal.returns-clause-prefixes
returns-clause-prefixes c = prefixes_read_back

pub returns-clause-one_prefix : goal.returns-clause-one_prefix
returns-clause-one_prefix c = prefixes_have_one_text
