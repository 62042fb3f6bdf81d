-- The names, entry by entry, are a listing.
use Rattle.outside.proofs.ListingLemmas.{listing_of-answer, names_of-answer}
use Rattle.outside.proofs.entries.listing.Goals as goal

pub returns-clause-names : goal.returns-clause-names
returns-clause-names c = names_of-answer c.entry_names.result c.args.entries.now c.args.folder.now c.entry_names.ensures

pub returns-clause-listing : goal.returns-clause-listing
returns-clause-listing c = listing_of-answer c.entry_names.result c.args.entries.now c.args.folder.now c.requires.distinct c.requires.there c.entry_names.ensures
