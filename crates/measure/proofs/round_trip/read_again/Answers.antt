use Rattle.std.proofs.Common.{◌≡◌, Some, rules}
use Rattle.measure.specs.Shown.{shown, read_from}
use Rattle.measure.proofs.RoundTripHolds.{round_trip}
use Rattle.measure.proofs.round_trip.read_again.Goals as goal

pub returns-in_err-row-clause-law : goal.returns-in_err-row-clause-law
returns-in_err-row-clause-law g c = round_trip g.M.Measure.model g.met.M.Measure.lawful

pub returns-clause-same : goal.returns-clause-same
returns-clause-same g c few =
    let M = g.M.Measure.model in
    let v = c.args.value in
    let row = c.in_ok-row.row in
    let fits : shown M v ≡ Some row = search rules in
    let back : read_from M row ≡ v = ((round_trip M g.met.M.Measure.lawful few).of_each_value v (search rules) row fits).reads_back in
    search rules

pub returns-clause-law : goal.returns-clause-law
returns-clause-law g c = round_trip g.M.Measure.model g.met.M.Measure.lawful
