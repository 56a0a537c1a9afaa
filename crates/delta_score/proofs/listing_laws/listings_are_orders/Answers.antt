use Rattle.delta_score.proofs.ListingOrders.{listings_are_orders}
use Rattle.delta_score.proofs.listing_laws.listings_are_orders.Goals as goal

pub returns : goal.returns
returns c = listings_are_orders
