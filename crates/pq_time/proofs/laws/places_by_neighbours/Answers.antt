use Rattle.pq_time.proofs.PlaceLaws.{tells_places}
use Rattle.pq_time.proofs.laws.places_by_neighbours.Goals as goal

pub returns : goal.returns
returns c = tells_places
