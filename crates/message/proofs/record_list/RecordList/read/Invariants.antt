use Rattle.std.proofs.Common.{◌≡◌, ◌-◌, length}
use Rattle.message.specs.Reading.{reading, records_of}
use Rattle.message.proofs.Readings.{onward}
use Rattle.message.proofs.Listings.{prefixed}
use Rattle.message.proofs.record_list.RecordList.read.Given as goal

abbrev pub invariant-loop-record : goal.invariant-loop-record
invariant-loop-record l =
    (l.reader.seen ≡ length l.records.items)
    × (l.reader.bytes.now ≡ l.message)
    × (prefixed l.records.items (records_of (onward l.message l.reader.at (length l.records.items))) ≡ records_of (reading l.message))

abbrev pub decreases-loop-record : goal.decreases-loop-record
decreases-loop-record l = length l.message - l.reader.at
