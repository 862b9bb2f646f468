use Rattle.raw_view.specs.Document.{bytes_of}
use Rattle.json_round_trip.proofs.Law.{closes_circle}
use Rattle.json_round_trip.proofs.laws.attest_round_trip.Goals as goal

pub returns : goal.returns
returns c = closes_circle (bytes_of c.args.document) c.args.document.envelope
