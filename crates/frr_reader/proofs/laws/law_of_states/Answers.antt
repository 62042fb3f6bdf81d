use Rattle.frr_reader.proofs.StateLemmas.{opens_the_named_interface, changes_the_open_interface, loses_no_entry, opens_what_it_begins, changes_the_open_entry}
use Rattle.frr_reader.proofs.laws.law_of_states.Goals as goal

pub returns-clause-interface : goal.returns-clause-interface
returns-clause-interface c = opens_the_named_interface

pub returns-clause-interfaces : goal.returns-clause-interfaces
returns-clause-interfaces c = changes_the_open_interface

pub returns-clause-entries : goal.returns-clause-entries
returns-clause-entries c = loses_no_entry

pub returns-clause-opened : goal.returns-clause-opened
returns-clause-opened c = opens_what_it_begins

pub returns-clause-changed : goal.returns-clause-changed
returns-clause-changed c = changes_the_open_entry
