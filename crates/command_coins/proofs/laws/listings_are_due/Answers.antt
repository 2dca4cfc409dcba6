use Rattle.command_coins.proofs.ListingLaws.{listing_due, refused_due}
use Rattle.command_coins.proofs.laws.listings_are_due.Goals as goal

pub returns-clause-refused : goal.returns-clause-refused
returns-clause-refused c = refused_due

pub returns-clause-listed : goal.returns-clause-listed
returns-clause-listed c = listing_due
