use Rattle.run_laws.proofs.Tickets.{tickets_of_parts}
use Rattle.run_laws.proofs.tickets_are_of_parts.Goals as goal

pub returns : goal.returns
returns c = tickets_of_parts
