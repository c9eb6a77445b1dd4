-- A token that can begin a term passes the figure, any other cannot stand.
use Rattle.std.proofs.Common.{◌+◌}
use Rattle.meaning.specs.Items.{begins_term}
use Rattle.load_tokens.specs.Fronts.{tokens_in}
use Rattle.load_openings.specs.Reading.{piece}
use Rattle.load_openings.proofs.Passing.{piece_stops, piece_goes}
use Rattle.load_elements.proofs.Bodies.{body_many, body_cannot}
use Rattle.load_elements.proofs.elements.ninth.Goals as goal

pub returns-in-Ok : goal.returns-in-Ok
returns-in-Ok c = λ from counted es.
    let ts = tokens_in from c.args.rest.now c.args.at in
    body_many es counted (piece ts) (piece_goes begins_term ts (c.in-Ok.ensures from))

pub returns-in-Err : goal.returns-in-Err
returns-in-Err c =
    let stops = c.in-Err.ensures in
    rw c.from.ensures (
      stops.0,
      λ from counted es.
          let ts = tokens_in from c.args.rest.now c.args.at in
          body_cannot es (from + c.in-Err.other.0) counted (piece ts) (piece_stops begins_term (from + c.in-Err.other.0) ts (stops.1 from)),
    )
